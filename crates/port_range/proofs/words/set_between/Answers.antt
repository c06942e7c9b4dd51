use Rattle.std.proofs.Common.{ℕ, ◌/◌, ◌||◌, bit_or, set, get_or, refl, ap, ◌∙◌, arith}
use Rattle.std.proofs.lemmas.List.{length-set, get_or-set_same, get_or-set_other}
use Rattle.port_range.specs.Words.{is_set}
use Rattle.port_range.proofs.Bits.{is_set-or_word}
use Rattle.port_range.proofs.Writing.{IsSetIn, word_in, written-none, written-more, set-bits, set-others}
use Rattle.port_range.proofs.words.set_between.Goals as goal

pub loop-index-init : goal.loop-index-init
loop-index-init c = record {
  size = refl;
  bits = written-none (IsSetIn c.args.words.now c.args.lowest c.args.highest) (word_in c.args.words.now) (c.args.lowest / 64) (c.args.highest / 64);
}

pub loop-index-preserved : goal.loop-index-preserved
loop-index-preserved c =
    let index = c.loop-index.index in
    let words = c.loop-index.words in
    let old = get_or words index 0 in
    let more = c.word_between.result in
    let word = bit_or old more in
    let same = c.loop-index.invariant.bits.rest index (λ low. omega arith) in
    record {
      size = length-set words index word ∙ c.loop-index.invariant.size;
      bits = written-more (IsSetIn c.args.words.now c.args.lowest c.args.highest) (word_in c.args.words.now) (word_in words) (word_in (set words index word)) (c.args.lowest / 64) (c.args.highest / 64) index
          (omega arith) (omega arith)
          (λ i low. ap (λ (w : ℕ). is_set w i) (get_or-set_same words index word 0 (omega arith)) ∙ is_set-or_word old more i
          ∙ ap (λ (w : ℕ). is_set w i || is_set more i) same
          ∙ ap (λ b. is_set (get_or c.args.words.now index 0) i || b) (c.word_between.ensures i low))
          (λ at apart. get_or-set_other words index at word 0 apart)
          c.loop-index.invariant.bits;
    }

pub returns-clause-bits : goal.returns-clause-bits
returns-clause-bits c = set-bits c.args.words.now c.loop-index.words c.args.lowest c.args.highest c.loop-index.index (omega arith) c.loop-index.invariant.bits

pub returns-clause-others : goal.returns-clause-others
returns-clause-others c = set-others c.args.words.now c.loop-index.words c.args.lowest c.args.highest c.loop-index.index c.loop-index.invariant.bits
