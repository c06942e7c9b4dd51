use Rattle.std.proofs.Common.{◌≡◌, ℕ, ◌+◌, ◌%◌, ◌<◌, ◌≤◌, vec_len, vec_capacity}
use Rattle.timers.specs.Chains.{moments}
use Rattle.timers.specs.Linked.{IsLinked}
use Rattle.timers.specs.Steps.{AreTaken, HasNoneDue}
use Rattle.timers.proofs.wheel.Wheel.pass_chains.Given as goal

-- the chains so far have no due slots
abbrev pub invariant-loop-passed : goal.invariant-loop-passed
invariant-loop-passed g l = record {
  linked : IsLinked l.self (g.S.Slots.all l.slots);
  turns : l.self.turns ≡ l.fn.self.turns;
  none : (k : ℕ) → k < l.passed → HasNoneDue l.fn.self.turns ((l.fn.self.turns % 1024 + k) % 1024) l.now (g.S.Slots.all l.slots);
  taken : AreTaken l.now (moments (g.S.Slots.all l.fn.slots)) (moments (g.S.Slots.all l.slots)) l.fn.out.items l.out.items;
  room : vec_len l.out + l.self.count ≤ vec_capacity l.out;
  capacity : vec_capacity l.out ≡ vec_capacity l.fn.out;
  rest : g.S.Slots.rest l.slots ≡ g.S.Slots.rest l.fn.slots;
}
