use Rattle.std.proofs.Common.{ℕ, List, drop, length, subst, ap, is_some, arith, ◌≡◌, true, false}
use Rattle.std.specs.List.Sorted.{IsPermutation}
use Rattle.std.proofs.lemmas.List.Sums.{count_by-le-length}
use Rattle.timers.specs.Due.{due_slots}
use Rattle.slots.proofs.Due.{are-due, few-due}
use Rattle.slots.proofs.dues.list_due.Goals as goal

pub returns-clause-found : goal.returns-clause-found
returns-clause-found c =
    let dues = c.args.timers.now in
    let P : List ℕ → Type 0 = λ list. IsPermutation (due_slots c.args.now dues) (drop (length list) c.due.new.out.items) in
    are-due c.args.now dues c.due.new.out.items (subst P c.requires.empty c.in-Ok.ensures.found)

pub returns-clause-few : goal.returns-clause-few
returns-clause-few c =
    let dues = c.args.timers.now in
    let P : List ℕ → Type 0 = λ list. IsPermutation (due_slots c.args.now dues) (drop (length list) c.due.new.out.items) in
    few-due c.args.now dues c.due.new.out.items (subst P c.requires.empty c.in-Ok.ensures.found)

never : false ≡ true → ⊥
never h = cc

pub unreachable-requires : goal.unreachable-requires
unreachable-requires c =
    let few = count_by-le-length is_some c.args.timers.now in
    let empty = ap length c.requires.empty in
    let room = c.requires.room in
    never (c.in-Err.ensures.room (omega (arith, few, empty, room)))
