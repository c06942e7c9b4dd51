use Rattle.std.proofs.Common.{◌≤◌, sym, subst, arith}
use Rattle.link.specs.Link.{Link, free_places}
use Rattle.spec_binding.specs.Ledgers.{rests_for}
use Rattle.spec_binding.specs.Rows.{taken_answer}
use Rattle.forwarder.specs.Forwarder.{shown_of}
use Rattle.gateway.proofs.Places.{free-answered, taken-leaves}
use Rattle.gateway.proofs.records.take_alone.Goals as goal

pub returns-clause-places : goal.returns-clause-places
returns-clause-places c = λ more few room.
    let g = shown_of c.args.forwarder.now in
    let b = g.ledger.book in
    let r = c.args.entry in
    let rests = rests_for g.moment g.ledger r in
    let first = free-answered g.link (taken_answer b rests r) r (c.rows_leave.ensures.answer b rests r) in
    let second = taken-leaves b g.link rests r in
    subst (λ (l : Link). more ≤ free_places l) (sym c.take-ended.ensures.link) (omega (arith, few, room, first, second))
