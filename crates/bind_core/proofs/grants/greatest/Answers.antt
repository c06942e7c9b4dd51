use Rattle.std.proofs.Common.{◌≡◌, ◌-◌, ◌+◌, ◌∷◌, [], List, length, ap, arith}
use Rattle.std.proofs.lemmas.List.{length-append}
use Rattle.addresses.specs.declared.transport.Port.{Port}
use Rattle.nat_types.specs.Granted.{Granted}
use Rattle.bind_core.proofs.Granting.{chosen-next, chosen-all, chosen-enough}
use Rattle.bind_core.proofs.grants.greatest.Goals as goal

pub loop-taken-preserved : goal.loop-taken-preserved
loop-taken-preserved c =
    let t = c.args.table.now in
    let first = c.in-Some.ensures.first in
    let more = length-append c.loop-taken.granted.ports (c.in-Some.port ∷ []) in
    let longer = ap length c.push.ensures in
    let few = c.loop-taken.invariant.few in
    record {
      end = omega arith;
      few = omega (arith, more, longer, few);
      chosen = rw c.from-below.ensures (chosen-next (c.args.most - c.loop-taken._taken) (c.args.most - (c.loop-taken._taken + 1)) c.in-Some.port _ c.loop-taken.granted.ports c.push.new.self.ports _ _ (omega arith) first c.push.ensures c.loop-taken.invariant.chosen);
    }

pub returns-in-None : goal.returns-in-None
returns-in-None c =
    let none = c.in-None.ensures.none in
    ap (λ (ps : List Port). let g : Granted = record { ports = ps } in g) (chosen-all _ _ c.loop-taken.granted.ports _ none c.loop-taken.invariant.chosen)

pub returns : goal.returns
returns c =
    let over : c.args.most - c.loop-taken._taken ≡ 0 = omega arith in
    ap (λ (ps : List Port). let g : Granted = record { ports = ps } in g) (chosen-enough _ _ c.loop-taken.granted.ports _ over c.loop-taken.invariant.chosen)
