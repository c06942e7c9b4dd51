use Rattle.std.proofs.Common.{◌≡◌, ◌+◌, ◌≤◌, length, vec_len, vec_capacity}
use Rattle.timers.specs.Chains.{moments}
use Rattle.timers.specs.Steps.{AreTaken}
use Rattle.timers.proofs.Walking.{IsPassing, walk}
use Rattle.timers.proofs.wheel.Wheel.pass_chain.Given as goal

-- the slots of the chain so far aren't due
abbrev pub invariant-loop-at : goal.invariant-loop-at
invariant-loop-at g l = record {
  passing : IsPassing l.now l.chain l.self (g.S.Slots.all l.slots) l.at;
  turns : l.self.turns ≡ l.fn.self.turns;
  taken : AreTaken l.now (moments (g.S.Slots.all l.fn.slots)) (moments (g.S.Slots.all l.slots)) l.fn.out.items l.out.items;
  room : vec_len l.out + l.self.count ≤ vec_capacity l.out;
  capacity : vec_capacity l.out ≡ vec_capacity l.fn.out;
  rest : g.S.Slots.rest l.slots ≡ g.S.Slots.rest l.fn.slots;
}

-- the number of slots of the chain that are left
abbrev pub decreases-loop-at : goal.decreases-loop-at
decreases-loop-at g l = length (walk (length (g.S.Slots.all l.slots)) (g.S.Slots.all l.slots) l.at)
