use Rattle.std.proofs.Common.{◌≡◌, ◌<◌, None, Some, length, get_or, ap, ◌∙◌, sym, arith}
use Rattle.std.proofs.lemmas.List.{length-map}
use Rattle.timers.specs.Chains.{moments}
use Rattle.timers.proofs.Counting.{moment_of}
use Rattle.timers.proofs.Taking.{taken_one}
use Rattle.timers.proofs.wheel.Wheel.pass_slot.Goals as goal

pub returns-then-due-now-clause-taken : goal.returns-then-due-now-clause-taken
returns-then-due-now-clause-taken g c =
    let links = g.S.Slots.all c.args.slots.now in
    let s = c.args.slot in
    let sized : s < length (moments links) = omega (arith, length-map links (λ x. x.due), c.requires.within) in
    let moment : get_or (moments links) s None ≡ Some c.in-Some.due = moment_of links s ∙ ap (λ l. l.due) (sym c.links-links.ensures.links) ∙ c.in-Some.is in
    taken_one c.args.now (moments links) (moments (g.S.Slots.all c.unlink.new.slots)) c.args.out.now.items c.push_reserved.new.self.items s c.in-Some.due sized moment c.if-due-now.true c.unlink.ensures.moments c.push_reserved.ensures.items
