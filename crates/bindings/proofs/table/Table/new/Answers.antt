use Rattle.std.proofs.Common.{rules, ◌≡◌, ◌+◌, ◌*◌, ℕ, inr, refl, subst, arith}
use Rattle.bindings.specs.Memory.{LacksStore}
use Rattle.bindings.specs.Ports.{key_count}
use Rattle.bindings.proofs.Holding.{stored-none}
use Rattle.bindings.proofs.table.Table.new.Goals as goal

pub invariant_of-result : goal.invariant_of-result
invariant_of-result c = (
  stored-none c.in-Ok.store.entries c.in-Ok.store.lives c.in_ok-ports.ports c.args.zero c.args.one c.lowest_port.result.0 c.highest_port.result.0
      (3 * (c.port_count.result + c.port_count-2.result)) c.in-Ok.store.room c.in-Ok.ensures.entries c.in-Ok.ensures.lives c.lowest_port.ensures c.highest_port.ensures (rw (c.port_count.ensures, c.port_count-2.ensures) refl)
      c.in-Ok.ensures.room c.in_ok-ports.ensures.alike c.in_ok-ports.ensures.free c.in_ok-ports.ensures.owned,
  omega arith,
)

pub returns-in_default-clause-refused : goal.returns-in_default-clause-refused
returns-in_default-clause-refused c =
    let capacity : ℕ = 3 * (c.port_count.result + c.port_count-2.result) in
    let same : capacity ≡ key_count c.args.zero c.args.one = rw (c.port_count.ensures, c.port_count-2.ensures) refl in
    let refused : LacksStore capacity = search rules in
    inr (subst (λ (n : ℕ). LacksStore n) same refused)
