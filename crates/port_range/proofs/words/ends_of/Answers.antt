use Rattle.std.proofs.Common.{◌≡◌, ℕ, ◌+◌, ◌*◌, ◌^◌, ◌<◌, get_or, set, count_ones, inl, inr, refl, ap, ◌∙◌, sym, arith, rules}
use Rattle.std.proofs.lemmas.Bool.{cases_eq}
use Rattle.std.proofs.lemmas.List.{length-set, get_or-set_same, get_or-set_other}
use Rattle.std.proofs.lemmas.Nat.{ones-le}
use Rattle.port_range.specs.Words.{has_bit}
use Rattle.port_range.specs.Counts.{count_below}
use Rattle.port_range.proofs.Counting.{count-le}
use Rattle.port_range.proofs.Picking.{bits-more}
use Rattle.port_range.proofs.words.ends_of.Goals as goal

pub overflow_add-count : goal.overflow_add-count
overflow_add-count c =
    let index = c.loop-index.index in
    let word = get_or c.args.words.now index 0 in
    let fits : word < 2 ^ 64 = search rules in
    omega (arith, c.requires, c.loop-index-test.true, c.loop-index.invariant.counted, count-le (has_bit c.args.words.now) 0 (64 * index), ones-le 64 word fits)

pub loop-index-preserved : goal.loop-index-preserved
loop-index-preserved c =
    let index = c.loop-index.index in
    let ends = c.loop-index.ends in
    let words = c.args.words.now in
    let word = get_or words index 0 in
    let count = c.loop-index.count + count_ones word in
    let fits : word < 2 ^ 64 = search rules in
    let counted : count ≡ count_below (has_bit words) (64 * (index + 1)) = omega (arith, c.loop-index.invariant.counted, bits-more words index word refl fits) in
    record {
      size = length-set ends index count ∙ c.loop-index.invariant.size;
      counted = counted;
      each = λ i low. elim (cases_eq i index) [
        | inl same ↦ (ap (λ (n : ℕ). get_or (set ends index count) n 0) same
            ∙ get_or-set_same ends index count 0 (omega (arith, c.requires, c.loop-index-test.true, c.loop-index.invariant.size))
            ∙ counted ∙ ap (λ (n : ℕ). count_below (has_bit words) (64 * (n + 1))) (sym same))
        | inr other ↦ get_or-set_other ends index i count 0 other ∙ c.loop-index.invariant.each i (omega (arith, low, other))
      ];
    }
