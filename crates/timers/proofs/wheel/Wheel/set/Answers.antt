use Rattle.std.proofs.Common.{◌<◌, None, Some, length, get_or, slice_set, ap, ◌∙◌, sym, arith}
use Rattle.std.proofs.lemmas.List.{set-set, get_or-set_same, length-map}
use Rattle.timers.specs.Chains.{moments}
use Rattle.timers.proofs.Counting.{moment_of}
use Rattle.timers.proofs.wheel.Wheel.set.Goals as goal

pub link-requires-clause-unset : goal.link-requires-clause-unset
link-requires-clause-unset g c =
    let links = g.S.Slots.all c.args.slots.now in
    let sized : c.args.slot < length (moments links) = omega (arith, length-map links (λ x. x.due), c.requires.within) in
    sym (moment_of (g.S.Slots.all c.clear.new.slots) c.args.slot) ∙ ap (λ ms. get_or ms c.args.slot None) c.clear.ensures.moments ∙ get_or-set_same (moments links) c.args.slot None None sized

pub returns-clause-moments : goal.returns-clause-moments
returns-clause-moments g c =
    c.link.ensures.moments ∙ ap (λ ms. slice_set ms c.args.slot (Some c.args.due)) c.clear.ensures.moments ∙ set-set (moments (g.S.Slots.all c.args.slots.now)) c.args.slot None (Some c.args.due)
