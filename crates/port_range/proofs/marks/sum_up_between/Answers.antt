use Rattle.std.proofs.Common.{ℕ, Bool, ◌==◌, nat_lt, ◌∙◌, arith}
use Rattle.std.proofs.lemmas.Bool.{cond-true, cond-false, eq-eqb, ne_eqb}
use Rattle.std.proofs.Common.{refl, ◌≡◌}
use Rattle.port_range.specs.Words.{has_bit}
use Rattle.port_range.specs.Marks.{open_word}
use Rattle.port_range.proofs.Writing.{written-none, written-more, written-all}
use Rattle.port_range.proofs.marks.sum_up_between.Goals as goal

pub loop-index-init : goal.loop-index-init
loop-index-init c = record {
  size = c.requires.summary;
  bits = written-none (λ n b. b ≡ nat_lt 0 (open_word c.args.parity c.args.free.now c.args.owned.now n)) (has_bit c.args.summary.now) c.args.first c.args.last;
}

pub loop-index-preserved : goal.loop-index-preserved
loop-index-preserved c =
    let index = c.loop-index.index in
    let word : ℕ → Bool = λ n. nat_lt 0 (open_word c.args.parity c.args.free.now c.args.owned.now n) in
    record {
      size = c.sum_up.ensures.size ∙ c.loop-index.invariant.size;
      bits = written-more (λ n b. b ≡ nat_lt 0 (open_word c.args.parity c.args.free.now c.args.owned.now n)) (has_bit c.args.summary.now) (has_bit c.loop-index.summary) (has_bit c.sum_up.new.summary) c.args.first c.args.last index
          (omega arith) (omega arith)
          (c.sum_up.ensures.bits index ∙ cond-true (index == index) (word index) (has_bit c.loop-index.summary index) (eq-eqb index index refl))
          (λ at apart. c.sum_up.ensures.bits at ∙ cond-false (at == index) (word index) (has_bit c.loop-index.summary at) (ne_eqb at index apart))
          c.loop-index.invariant.bits;
    }

pub returns-clause-bits : goal.returns-clause-bits
returns-clause-bits c =
    written-all (λ n. nat_lt 0 (open_word c.args.parity c.args.free.now c.args.owned.now n)) (has_bit c.args.summary.now) (has_bit c.loop-index.summary) c.args.first c.args.last c.loop-index.index
    (omega arith) c.loop-index.invariant.bits
