use Rattle.std.proofs.Common.{None, length, ap, ◌∙◌, refl, arith}
use Rattle.std.proofs.lemmas.List.{get_or_read}
use Rattle.timers.specs.Chains.{moments}
use Rattle.timers.proofs.Taking.{taken_none, taken_more}
use Rattle.timers.proofs.Walking.{passing_none, passing_within, passing_more, steps_left}
use Rattle.timers.proofs.wheel.Wheel.pass_chain.Goals as goal

pub loop-at-init : goal.loop-at-init
loop-at-init g c =
    let l = c.requires.linked in
    let links = g.S.Slots.all c.args.slots.now in
    let first = get_or_read c.args.self.now.heads.items c.args.chain c.index-at.result.now (omega (arith, l.heads, c.requires.within)) c.index-at.ensures None in
    record {
      passing = passing_none c.args.now c.args.chain c.args.self.now links c.index-at.result.now l first;
      turns = refl;
      taken = taken_none c.args.now (moments links) c.args.out.now.items;
      room = c.requires.room;
      capacity = refl;
      rest = refl;
    }

pub pass_slot-at-requires-clause-within : goal.pass_slot-at-requires-clause-within
pass_slot-at-requires-clause-within g c =
    passing_within c.args.now c.args.chain c.loop-at.self (g.S.Slots.all c.loop-at.slots) c.loop-at.at c.in-Some.slot c.loop-at.invariant.passing c.in-Some.is

pub loop-at-preserved : goal.loop-at-preserved
loop-at-preserved g c =
    let e = c.pass_slot-at.ensures in
    let i = c.loop-at.invariant in
    let links = g.S.Slots.all c.loop-at.slots in
    let after = g.S.Slots.all c.pass_slot-at.new.slots in
    record {
      passing = (passing_more c.args.now c.args.chain c.loop-at.self c.pass_slot-at.new.self links after c.loop-at.out.items c.pass_slot-at.new.out.items c.in-Some.slot c.loop-at.at c.pass_slot-at.result i.passing c.in-Some.is e.next e.linked e.chains e.taken).0;
      turns = e.turns ∙ i.turns;
      taken = taken_more c.args.now (moments (g.S.Slots.all c.args.slots.now)) (moments links) (moments after) c.args.out.now.items c.loop-at.out.items c.pass_slot-at.new.out.items i.taken e.taken;
      room = e.room;
      capacity = e.capacity ∙ i.capacity;
      rest = e.rest ∙ i.rest;
    }

pub loop-at-smaller : goal.loop-at-smaller
loop-at-smaller g c =
    let e = c.pass_slot-at.ensures in
    let i = c.loop-at.invariant in
    let links = g.S.Slots.all c.loop-at.slots in
    let after = g.S.Slots.all c.pass_slot-at.new.slots in
    let more = passing_more c.args.now c.args.chain c.loop-at.self c.pass_slot-at.new.self links after c.loop-at.out.items c.pass_slot-at.new.out.items c.in-Some.slot c.loop-at.at c.pass_slot-at.result i.passing c.in-Some.is e.next e.linked e.chains e.taken in
    let old_left = ap length (steps_left c.args.now c.args.chain c.loop-at.self links c.loop-at.at i.passing) in
    let new_left = ap length (steps_left c.args.now c.args.chain c.pass_slot-at.new.self after c.pass_slot-at.result more.0) in
    omega (arith, old_left, new_left, more.1)
