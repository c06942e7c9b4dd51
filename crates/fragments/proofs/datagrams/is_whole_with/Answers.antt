use Rattle.std.proofs.Common.{◌==◌, ◌+◌, List, ℕ, length, ap₂, sym, ◌∙◌}
use Rattle.fragments.proofs.Adding.{counts-with, not-whole-with}
use Rattle.fragments.proofs.datagrams.is_whole_with.Goals as goal

pub returns-then-not-has_last_with : goal.returns-then-not-has_last_with
returns-then-not-has_last_with c = sym (not-whole-with c.args.there.now c.args.new.now.frame.now (sym c.has_last_with.ensures ∙ c.if-not-has_last_with.true))

pub returns : goal.returns
returns c =
    ap₂ (λ (a b : ℕ). a == b)
    (ap₂ (λ (a : ℕ) (bytes : List ℕ). a + length bytes) c.carried_by.ensures.value c.carried.ensures.bytes) c.end_with.ensures.value
    ∙ sym (counts-with c.args.there.now c.args.new.now.frame.now (sym c.has_last_with.ensures ∙ c.if-not-has_last_with.false))
