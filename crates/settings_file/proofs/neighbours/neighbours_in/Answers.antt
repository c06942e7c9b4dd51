use Rattle.std.proofs.Common.{◌∙◌, ◌+◌, ◌++◌, ◌∷◌, [], List, Option, Some, ap, append-nil, arith, drop, map, refl, sym}
use Rattle.std.proofs.lemmas.List.{drop_all, drop_more, map-append}
use Rattle.toml.specs.View.{view}
use Rattle.toml.specs.declared.value.Value.{Value}
use Rattle.settings_file.specs.declared.keys.Key.{Key}
use Rattle.settings_file.specs.Faults.{earlier}
use Rattle.settings_file.specs.Neighbours.{bad_in, neighbour_in}
use Rattle.settings_file.proofs.Loops.{found_item}
use Rattle.settings_file.proofs.neighbours.neighbours_in.Goals as goal

pub loop-table-preserved : goal.loop-table-preserved
loop-table-preserved c =
    let l = c.loop-table in
    let i = l.table-index in
    let tables = c.args.tables.now in
    let table = c.table-item.result in
    let rest = drop (i + 1) tables in
    let within = c.loop-table-test.true in
    let bad : List Value → Option Key = λ vs. bad_in (Some (c.args.inside.address.0, c.args.inside.length)) (Some (c.args.outside.address.0, c.args.outside.length)) (map view vs) in
    let longer = c.in_ok-push.ensures.len in
    let counted = l.invariant.len in
    record {
      len = omega (arith, longer, counted);
      left = sym (ap bad (drop_more tables i table within) ∙ ap (λ v. bad (v ∷ rest)) (sym c.table-item.is) ∙ ap (λ k. earlier k (bad rest)) c.in_ok-neighbour.ensures.bad) ∙ l.invariant.left;
      found = found_item (λ vs. map neighbour_in (map view vs)) [] (map (λ n. Some n) l.neighbours.items) _ (Some c.in_ok-neighbour.neighbour ∷ []) tables i table c.table-item.is within
          (rw (c.in_ok-push.ensures.items, map-append) refl) (ap (λ o. o ∷ map neighbour_in (map view rest)) c.in_ok-neighbour.ensures.ok) l.invariant.found;
    }

pub returns-clause-ok : goal.returns-clause-ok
returns-clause-ok c =
    let l = c.loop-table in
    let found = map (λ n. Some n) l.neighbours.items in
    let none = drop_all l.table-index c.args.tables.now c.loop-table-test.false in
    sym (append-nil found) ∙ ap (λ (vs : List Value). found ++ map neighbour_in (map view vs)) (sym none) ∙ l.invariant.found

pub returns-clause-bad : goal.returns-clause-bad
returns-clause-bad c =
    let l = c.loop-table in
    let bad : List Value → Option Key = λ vs. bad_in (Some (c.args.inside.address.0, c.args.inside.length)) (Some (c.args.outside.address.0, c.args.outside.length)) (map view vs) in
    sym l.invariant.left ∙ ap bad (drop_all l.table-index c.args.tables.now c.loop-table-test.false)
