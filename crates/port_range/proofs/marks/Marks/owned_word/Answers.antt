use Rattle.std.proofs.Common.{ℕ, ◌<◌, length, sym, ap, ◌∙◌, arith}
use Rattle.std.proofs.lemmas.List.{get_or_read}
use Rattle.port_range.specs.Words.{is_set}
use Rattle.port_range.proofs.Bits.{has_bit-in}
use Rattle.port_range.proofs.marks.Marks.owned_word.Goals as goal

pub returns : goal.returns
returns c =
    let words = c.self.inside.owned.items in
    let within : c.args.index < length words = omega (arith, c.self.invariant.owned_size) in
    rw (← c.self.view_is) (λ i low. ap (λ (w : ℕ). is_set w i) (get_or_read words _ _ within c.index.ensures 0) ∙ sym (has_bit-in words c.args.index i low))
