use Rattle.std.proofs.Common.{◌≡◌, ◌++◌, ◌∷◌, List, ap, refl}
use Rattle.std.proofs.KnownBytes.{Appends-nil}
use Rattle.std.proofs.lemmas.List.{drop_all, drop_more}
use Rattle.addresses.specs.declared.transport.Port.{Port}
use Rattle.nat_types.specs.declared.gateways.GatewayId.{GatewayId}
use Rattle.simulation.specs.Lines.{begins, ended, owned_from}
use Rattle.simulation.proofs.Splits.{owned_first, owned_none}
use Rattle.simulation.proofs.Parts.{part_more, part_none, part_rest}
use Rattle.simulation.proofs.tables.print_owned.Goals as goal

one : (i : GatewayId) (first last p : Port) (ps qs : List Port) → ps ≡ p ∷ qs
    → owned_from i first last ps ≡ ended i first last p ++ owned_from i (begins first last p) p qs
one i first last p ps qs is = rw is refl

pub returns-in_default : goal.returns-in_default
returns-in_default g c = rw (owned_none c.args.id c.args.ports.now c.in_default.ensures.cases) (Appends-nil (g.W.Write.contents c.args.output.now))

pub loop-port-init : goal.loop-port-init
loop-port-init g c =
    rw (owned_first c.args.id c.args.ports.now _ _ c.in-Some.ensures.cases.0) (part_none (g.W.Write.contents c.args.output.now) _)

pub loop-port-preserved : goal.loop-port-preserved
loop-port-preserved g c =
    let l = c.loop-port in
    let next = one c.args.id l.first l.last _ _ _ (drop_more _ l.port-index _ c.loop-port-test.true) in
    rw c.begins-first.ensures (part_more _ _ _ _ _ _ _ l.invariant next c.in_ok-print_ended.ensures)

pub returns : goal.returns
returns g c =
    let l = c.loop-port in
    let over = ap (owned_from c.args.id l.first l.last) (drop_all c.loop-port.port-index _ c.loop-port-test.false) in
    part_rest c.print_range.result _ _ _ _ _ (rw over at l.invariant) c.print_range.ensures
