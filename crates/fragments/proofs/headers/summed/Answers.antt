use Rattle.std.proofs.Common.{◌≡◌, ◌++◌, List, ℕ, ap, refl, ◌∙◌, sym}
use Rattle.sums.specs.Sum.{ones_sum, word_sum}
use Rattle.sums.proofs.Offered.{word_sum-append}
use Rattle.fragments.specs.Header.{fixed_summed, fixed_with}
use Rattle.fragments.proofs.headers.summed.Goals as goal

-- src/headers.rt:90:1
pub returns : goal.returns
unfolding fixed_summed
returns c =
    let fixed = fixed_with 0 c.args.fields c.args.packet.now in
    let options = c.args.options.now in
    let one : c.sum.result ≡ ones_sum (word_sum fixed) = c.sum.ensures ∙ ap (λ (xs : List ℕ). ones_sum (word_sum xs)) c.unsummed-bytes.ensures in
    let all : c.add-checksum.result ≡ ones_sum (word_sum (fixed ++ options)) =
    c.add-checksum.ensures.parts (word_sum fixed) (word_sum options) one c.sum-2.ensures
    ∙ ap ones_sum (sym (word_sum-append fixed options 10 refl)) in
    rw (c.write_u16.ensures, c.unsummed-bytes.ensures, all) refl
