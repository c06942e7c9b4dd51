use Rattle.std.proofs.Common.{◌<◌, ◌∷◌, Option, List, sym, ap, subst, ◌∙◌, arith}
use Rattle.addresses.specs.declared.transport.Port.{Port}
use Rattle.bindings.specs.declared.entries.PortBounds.{PortBounds}
use Rattle.resync.specs.Cursor.{runs_from, ports_ahead}
use Rattle.resync.proofs.Ahead.{next-run, run-formed, ahead, ahead-less, owned-small}
use Rattle.resync.proofs.cursor.next_run.Goals as goal

pub returns-in-Some-first_run-clause-formed : goal.returns-in-Some-first_run-clause-formed
returns-in-Some-first_run-clause-formed c =
    let next = next-run c.in-Some.port.0 c.args.table.now.owned c.in-Some-first_run.run' c.recall.ensures.rising (sym c.first_run.ensures ∙ c.in-Some-first_run.is) in
    run-formed c.args.table.now c.in-Some.port.0 c.in-Some-first_run.run' c.recall.ensures c.requires next

pub returns-in-Some-first_run-clause-some : goal.returns-in-Some-first_run-clause-some
returns-in-Some-first_run-clause-some c =
    let next = next-run c.in-Some.port.0 c.args.table.now.owned c.in-Some-first_run.run' c.recall.ensures.rising (sym c.first_run.ensures ∙ c.in-Some-first_run.is) in
    ap (λ (f : Option Port). runs_from f c.args.table.now.owned) c.in-Some.is ∙ next.is
    ∙ ap (λ (rs : List PortBounds). c.in-Some-first_run.run' ∷ rs)
    (sym (ahead c.args.table.now c.in-Some-first_run.run'.highest c.port_above.result c.recall.ensures c.requires c.port_above.ensures.some c.port_above.ensures.none))

pub returns-in-Some-first_run-clause-further : goal.returns-in-Some-first_run-clause-further
returns-in-Some-first_run-clause-further c =
    let next = next-run c.in-Some.port.0 c.args.table.now.owned c.in-Some-first_run.run' c.recall.ensures.rising (sym c.first_run.ensures ∙ c.in-Some-first_run.is) in
    let small = owned-small c.args.table.now c.in-Some-first_run.run'.highest.0 c.recall.ensures c.requires next.last in
    subst (λ (f : Option Port). ports_ahead c.port_above.result < ports_ahead f) (sym c.in-Some.is)
    (ahead-less c.in-Some.port c.in-Some-first_run.run'.highest c.port_above.result (let low = next.low in let order = next.order in omega (arith, low, order)) small.1 c.port_above.ensures.some c.port_above.ensures.none)
