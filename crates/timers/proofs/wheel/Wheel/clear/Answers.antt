use Rattle.std.proofs.Common.{◌≡◌, None, get_or, slice_set, ap, ◌∙◌, sym}
use Rattle.std.proofs.lemmas.List.{set-get_or}
use Rattle.timers.specs.Chains.{moments}
use Rattle.timers.proofs.Counting.{moment_of}
use Rattle.timers.proofs.wheel.Wheel.clear.Goals as goal

pub returns-in_default-clause-moments : goal.returns-in_default-clause-moments
returns-in_default-clause-moments g c =
    let links = g.S.Slots.all c.args.slots.now in
    let unset : get_or (moments links) c.args.slot None ≡ None = moment_of links c.args.slot ∙ ap (λ l. l.due) (sym c.links-links.ensures.links) ∙ c.in_default.is in
    sym (set-get_or (moments links) c.args.slot None) ∙ ap (λ o. slice_set (moments links) c.args.slot o) unset
