-- The free places of the link.
use Rattle.std.proofs.Common.{◌≡◌, ◌≤◌, ◌+◌, ◌∷◌, [], Bool, true, false, cond, min, Option, Some, None, refl, arith, length-append}
use Rattle.nat_types.specs.declared.records.Record.{Record}
use Rattle.link.specs.Link.{Link, free_places, needs_answer, with_pushed}
use Rattle.spec_binding.specs.declared.changes.Transition.{Transition}
use Rattle.spec_binding.specs.Books.{Book, is_synced}
use Rattle.spec_binding.specs.Rows.{answered, behind, quiet, row_of, taken_answer, taken_behind}
use Rattle.forwarder.proofs.Offered.{ahead-leaves}
use Rattle.gateway.specs.Rooms.{answers_to}

-- a record takes one place
free-pushed : (e : Link) (r : Record) → free_places e ≤ free_places (with_pushed e r) + 1
free-pushed e r = let longer = length-append e.waiting (r ∷ []) in omega (arith, longer)

free-by : (e : Link) (a : Option Record) (r : Record) (needs : Bool) → needs_answer r ≡ needs → (needs ≡ false → a ≡ None) → free_places e ≤ free_places (answered e a) + answers_to r
free-by e None r needs is mute = omega arith
free-by e (Some x) r true is mute = rw is (free-pushed e x)
free-by e (Some x) r false is mute = let never = mute refl in absurd (cc)

-- an answer takes no more places than its record needs
pub free-answered : (e : Link) (a : Option Record) (r : Record) → (needs_answer r ≡ false → a ≡ None) → free_places e ≤ free_places (answered e a) + answers_to r
free-answered e a r mute = free-by e a r (needs_answer r) refl mute

-- what is asked for behind a record leaves 64 places free, where so many were behind the answer
pub taken-leaves : (b : Book) (e : Link) (rests : Bool) (r : Record) → let l = answered e (taken_answer b rests r) in
    min 64 (free_places l) ≤ free_places (answered l (taken_behind b e rests r).answer)
taken-leaves b e rests r = at (is_synced b.stage)
  where
    at : (t : Bool) → (let row = row_of b rests r in
        let o : Option Record = cond t row.answer None in
        let more : Transition = cond t (behind b e row) quiet in
        min 64 (free_places (answered e o)) ≤ free_places (answered (answered e o) more.answer))
    at true = let row = row_of b rests r in ahead-leaves b (answered e row.answer) row.change
    at false = omega arith
