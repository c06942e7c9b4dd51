use Rattle.std.proofs.Common.{ℕ, List, drop, length, subst}
use Rattle.std.specs.List.Sorted.{IsPermutation}
use Rattle.timers.specs.Due.{due_slots}
use Rattle.timers.specs.Chains.{moments}
use Rattle.timers.proofs.Turning.{all_found, all_cleared}
use Rattle.timers.proofs.wheel.Wheel.due.Goals as goal

pub returns-clause-found : goal.returns-clause-found
returns-clause-found g c =
    let e = c.pass_chains.ensures in
    let new = c.pass_chains.new.out.items in
    let before = moments (g.S.Slots.all c.args.slots.now) in
    let P : List ℕ → Type 0 = λ list. IsPermutation (due_slots c.args.now before) (drop (length list) new) in
    subst P c.in_ok-reserve_exact.ensures.items (all_found c.args.now (g.S.Slots.all c.args.slots.now) (g.S.Slots.all c.pass_chains.new.slots) c.reserve_exact.new.list.items new e.taken e.passed)

pub returns-clause-cleared : goal.returns-clause-cleared
returns-clause-cleared g c =
    let e = c.pass_chains.ensures in
    all_cleared c.args.now (g.S.Slots.all c.args.slots.now) (g.S.Slots.all c.pass_chains.new.slots) c.reserve_exact.new.list.items c.pass_chains.new.out.items e.taken e.passed
