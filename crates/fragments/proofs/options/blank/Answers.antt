use Rattle.std.proofs.Common.{◌≡◌, ◌+◌, ◌-◌, ◌<◌, ◌≤◌, ℕ, length, take, drop, ap, ◌∙◌, sym, arith}
use borrow.Rule.Slice.PartMut.{put_mid}
use Rattle.std.proofs.lemmas.List.{length-take-le, take_rest}
use Rattle.ipv4.specs.Options.{option_size}
use Rattle.fragments.specs.Options.{option_later}
use Rattle.fragments.proofs.Later.{blanking-ends, blanking-goes, blanking-past}
use Rattle.fragments.proofs.options.blank.Goals as goal

-- src/options.rt:70:5
pub loop-at-preserved : goal.loop-at-preserved
loop-at-preserved c =
    let now = c.loop-at.options in
    let at = c.loop-at.at in
    let size = c.option_size-size.result in
    let less : at + size - at ≡ size = omega arith in
    let ahead : take (length now - at) (drop at now) ≡ drop at now = take_rest now at in
    let is_size : size ≡ option_size (drop at now) = c.option_size-size.ensures.value ∙ ap option_size ahead in
    let some : 0 < size = omega arith in
    let fits : size ≤ length (drop at now) = omega (arith, c.option_size-size.ensures.within, ap length ahead) in
    let cut : length (take size (drop at now)) ≡ size = length-take-le size (drop at now) fits in
    let is_part : c.blank_option.new.option ≡ option_later size (take size (drop at now)) =
    c.blank_option.ensures
    ∙ ap (λ (n : ℕ). option_later (length (take n (drop at now))) (take n (drop at now))) less
    ∙ ap (λ (n : ℕ). option_later n (take size (drop at now))) cut in
    blanking-goes _ now c.blank_option.new.option _ at size c.loop-at.invariant is_size some is_part
    (ap (λ (n : ℕ). put_mid at n now c.blank_option.new.option) less)

-- src/options.rt:66:1
pub shape_of-options-after-loop-at : goal.shape_of-options-after-loop-at
shape_of-options-after-loop-at c = c.loop-at.invariant.long

-- src/options.rt:66:1
pub returns-after-loop-at : goal.returns-after-loop-at
returns-after-loop-at c = blanking-past _ c.loop-at.options c.loop-at.at c.loop-at.invariant (omega arith)

-- src/options.rt:66:1
pub returns-then-size-eq0 : goal.returns-then-size-eq0
returns-then-size-eq0 c =
    let ahead : take (length c.loop-at.options - c.loop-at.at) (drop c.loop-at.at c.loop-at.options) ≡ drop c.loop-at.at c.loop-at.options = take_rest c.loop-at.options c.loop-at.at in
    blanking-ends _ c.loop-at.options c.loop-at.at c.loop-at.invariant
    (ap option_size (sym ahead) ∙ (sym c.option_size-size.ensures.value ∙ c.if-size-eq0.true))
