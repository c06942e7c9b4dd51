use Rattle.std.proofs.Common.{◌≡◌, ◌∙◌, ◌++◌, ◌∷◌, [], ◌-◌, ◌/◌, ◌%◌, ℕ, List, ap, refl, rules, sym, length, take, drop, take-append-drop, drop_of_length-le, slice_index}
use Rattle.std.proofs.lemmas.List.{take_rest}
use Rattle.hex.specs.Hex.{encode_lower, encode_with, lower_digits}
use Rattle.simulation.proofs.Parts.{part_more, part_none, part_whole}
use Rattle.simulation.proofs.step_output.write_hex.Goals as goal

encode_append : (t xs ys : List ℕ) → encode_with t (xs ++ ys) ≡ encode_with t xs ++ encode_with t ys
unfolding encode_with
encode_append t [] ys = refl
encode_append t (x ∷ xs) ys = ap (λ l. slice_index t (x / 16) ∷ slice_index t (x % 16) ∷ l) (encode_append t xs ys)

-- so many bytes, and the others
parts : (rest : List ℕ) (n : ℕ) → encode_lower rest ≡ encode_lower (take n rest) ++ encode_lower (take (length rest - n) (drop n rest))
parts rest n =
    ap encode_lower (sym (take-append-drop n rest) ∙ ap (λ l. take n rest ++ l) (sym (take_rest rest n)))
    ∙ encode_append lower_digits (take n rest) (take (length rest - n) (drop n rest))

none : (xs : List ℕ) → xs ≡ [] → encode_lower xs ≡ []
unfolding encode_with
none xs is = rw is refl

pub loop-rest-init : goal.loop-rest-init
loop-rest-init g c = part_none (g.W.Write.contents c.args.output.now) _

pub loop-rest-preserved : goal.loop-rest-preserved
loop-rest-preserved g c =
    part_more _ _ _ _ _ _ _ c.loop-rest.invariant (parts c.loop-rest.rest.now c.min-count.result) c.in_ok-write_few.ensures

pub returns : goal.returns
returns g c =
    let rest = c.loop-rest.rest.now in
    let empty : rest ≡ [] = drop_of_length-le rest {i = 0} (search rules) in
    part_whole _ _ _ _ c.loop-rest.invariant (none rest empty)
