use Rattle.std.proofs.Common.{◌≡◌, ◌≤◌, ◌+◌, ◌-◌, ◌++◌, ℕ, List, IfSome, length, take, drop, slice_index, slice_index_or, sym, refl, ap, subst, ◌∙◌, arith, length-append}
use Rattle.std.proofs.lemmas.List.{length-take-le, length-drop}
use Rattle.output.specs.Piles.{cut}
use Rattle.output.proofs.Places.{string_is, string-changes}
use Rattle.output.proofs.piles.change_string.Goals as goal

pub change_part-requires-clause-ready : goal.change_part-requires-clause-ready
change_part-requires-clause-ready g c =
    let bytes : List ℕ = c.args.bytes.now in
    let can = g.C.ChangeBytes.can_change c.args.change.now in
    let size : c.start_of-start.result + slice_index_or c.args.sizes.now c.args.k 0 - c.start_of-start.result ≡ slice_index c.args.sizes.now c.args.k = omega arith in
    let at = subst (λ o. IfSome o can) (string_is c.args.sizes.now bytes c.args.k c.requires.there) c.requires.ready in
    subst (λ n. can (take n (drop c.start_of-start.result bytes))) (sym size)
    (subst (λ m. can (take (slice_index c.args.sizes.now c.args.k) (drop m bytes))) (sym c.start_of-start.ensures.start) at)

pub returns : goal.returns
returns g c =
    let bytes : List ℕ = c.args.bytes.now in
    let sizes : List ℕ = c.args.sizes.now in
    let start : ℕ = c.start_of-start.result in
    let end : ℕ = start + slice_index_or sizes c.args.k 0 in
    let change = g.C.ChangeBytes.changed c.args.change.now in
    let new : List ℕ = change (take (end - start) (drop start bytes)) in
    let count : end - start ≡ slice_index sizes c.args.k = omega arith in
    let within : end ≤ length bytes = omega (arith, c.start_of-start.ensures.end, c.requires.fills) in
    let size : length new ≡ slice_index sizes c.args.k =
    omega (
      arith,
      count,
      within,
      ap length c.change_part.ensures,
      c.change_part.auto.bytes,
      length-append (take start bytes ++ new) (drop end bytes),
      length-append (take start bytes) new,
      length-take-le start bytes (omega (arith, within)),
      length-drop end bytes,
    ) in
    ap (cut sizes) c.change_part.ensures
    ∙ string-changes change sizes bytes new c.args.k start end c.requires.there c.start_of-start.ensures.start refl within size
    (ap (λ n. change (take n (drop start bytes))) count)
