use Rattle.std.proofs.Common.{◌<◌, ap, ◌∙◌, arith}
use Rattle.std.proofs.lemmas.List.{length-take}
use Rattle.activity.specs.Sessions.{stepped}
use Rattle.activity.proofs.Packing.{known_followed, passed_followed, free_followed, nowhere_followed, nowhere_seen}
use Rattle.activity.proofs.places.follow.Goals as goal

pub returns-in-Known-clause-sessions : goal.returns-in-Known-clause-sessions
returns-in-Known-clause-sessions c =
    let few = length-take c.args.count.now c.args.places.now in
    let within = rw c.from-kept.ensures at c.in-Known.ensures.within in
    let low : c.in-Known.i < c.args.count.now = omega (arith, few, within) in
    known_followed c.args.packet c.args.count.now c.in-Known.i c.args.places.now _ _ c.stepped.result low
    (rw c.from-kept.ensures at c.in-Known.ensures.place)
    (c.stepped.ensures ∙ ap (λ x. stepped x c.args.packet) c.session-session.ensures)
    (c.put.ensures.kept c.args.count.now low)

pub returns-in-Known-clause-nowhere : goal.returns-in-Known-clause-nowhere
returns-in-Known-clause-nowhere c = nowhere_seen c.args.packet c.args.count.now c.args.places.now _ (rw c.from-kept.ensures at c.in-Known.ensures.place)

pub returns-in-Free-clause-sessions : goal.returns-in-Free-clause-sessions
returns-in-Free-clause-sessions c =
    free_followed c.args.packet c.args.count.now c.args.places.now _ c.begun.result
    (rw c.from-kept.ensures at c.in-Free.ensures.place) c.begun.ensures
    (rw c.from-kept.ensures at c.put-in-Free.ensures.more)

pub returns-in-Free-clause-nowhere : goal.returns-in-Free-clause-nowhere
returns-in-Free-clause-nowhere c = nowhere_seen c.args.packet c.args.count.now c.args.places.now _ (rw c.from-kept.ensures at c.in-Free.ensures.place)

pub returns-in-Passed-clause-sessions : goal.returns-in-Passed-clause-sessions
returns-in-Passed-clause-sessions c =
    let few = length-take c.args.count.now c.args.places.now in
    let within = rw c.from-kept.ensures at c.in-Passed.ensures.within in
    let low : c.in-Passed.i < c.args.count.now = omega (arith, few, within) in
    passed_followed c.args.packet c.args.count.now c.in-Passed.i c.args.places.now _ c.begun-in-Passed.result c.begun-in-Passed.result
    (rw c.from-kept.ensures at c.in-Passed.ensures.place) c.begun-in-Passed.ensures
    (c.put-in-Passed.ensures.kept c.args.count.now low)

pub returns-in-Passed-clause-nowhere : goal.returns-in-Passed-clause-nowhere
returns-in-Passed-clause-nowhere c = nowhere_seen c.args.packet c.args.count.now c.args.places.now _ (rw c.from-kept.ensures at c.in-Passed.ensures.place)

pub returns-in-Nowhere-clause-sessions : goal.returns-in-Nowhere-clause-sessions
returns-in-Nowhere-clause-sessions c = nowhere_followed c.args.packet c.args.count.now c.args.places.now (rw c.from-kept.ensures at c.in-Nowhere.ensures.place)

pub returns-in-Nowhere-clause-nowhere : goal.returns-in-Nowhere-clause-nowhere
returns-in-Nowhere-clause-nowhere c = nowhere_seen c.args.packet c.args.count.now c.args.places.now _ (rw c.from-kept.ensures at c.in-Nowhere.ensures.place)
