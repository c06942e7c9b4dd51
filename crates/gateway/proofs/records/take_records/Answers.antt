use Rattle.std.proofs.Common.{◌+◌, length, drop, refl, sym, ap, ◌∙◌, arith}
use Rattle.nat_types.specs.declared.records.Record.{Record}
use Rattle.link.specs.Link.{answers_count}
use Rattle.spec_step.specs.Parts.{records_done}
use Rattle.spec_step.specs.Shown.{GatewayAndOutput}
use Rattle.forwarder.specs.Forwarder.{scene_on}
use Rattle.gateway.proofs.Taking.{count-more, count-most, first-place, next-at}
use Rattle.gateway.proofs.records.take_records.Goals as goal

pub loop-entry-init : goal.loop-entry-init
loop-entry-init c = record {
  scene = refl;
  moment = refl;
  formed = c.requires.formed;
  few = c.requires.few;
  ready = c.requires.room.pairs;
  places = c.requires.places;
  frames = c.requires.room.frames;
  octets = omega (arith, c.requires.room.octets);
  notes = c.requires.room.notes;
  datagrams = refl;
}

pub take_record-requires-clause-formed : goal.take_record-requires-clause-formed
take_record-requires-clause-formed c =
    let e = next-at c.args.records.now c.loop-entry.entry-index c.entry-item.result c.loop-entry-test.true c.entry-item.is in
    let formed = rw e at c.loop-entry.invariant.formed in
    formed.0

pub take_record-requires-clause-moment : goal.take_record-requires-clause-moment
take_record-requires-clause-moment c = rw c.loop-entry.invariant.moment c.requires.moment

pub take_record-requires-clause-places : goal.take_record-requires-clause-places
take_record-requires-clause-places c =
    let rest = drop (c.loop-entry.entry-index + 1) c.args.records.now in
    let e = next-at c.args.records.now c.loop-entry.entry-index c.entry-item.result c.loop-entry-test.true c.entry-item.is in
    let places = rw e at c.loop-entry.invariant.places in
    λ needs. first-place c.entry-item.result rest _ places needs

pub take_record-requires-clause-room : goal.take_record-requires-clause-room
take_record-requires-clause-room c =
    let e = ap (length {A = Record}) (next-at c.args.records.now c.loop-entry.entry-index c.entry-item.result c.loop-entry-test.true c.entry-item.is) in
    let frames = c.loop-entry.invariant.frames in
    let notes = c.loop-entry.invariant.notes in
    let ready = c.loop-entry.invariant.ready in
    record {
      frames = omega (arith, e, frames);
      octets = omega (arith, c.loop-entry.invariant.octets);
      notes = omega (arith, e, notes);
      pairs = omega (arith, e, ready);
    }

pub loop-entry-preserved : goal.loop-entry-preserved
loop-entry-preserved c =
    let i = c.loop-entry.entry-index in
    let entry = c.entry-item.result in
    let rest = drop (i + 1) c.args.records.now in
    let e = next-at c.args.records.now i entry c.loop-entry-test.true c.entry-item.is in
    let size = ap (length {A = Record}) e in
    let inv = c.loop-entry.invariant in
    let made = c.take_record.ensures in
    let formed = rw e at inv.formed in
    let few = inv.few in
    let ready = inv.ready in
    let places = inv.places in
    let frames = inv.frames in
    let notes = inv.notes in
    let ready2 = made.spends.pairs in
    let frames2 = made.spends.frames in
    let notes2 = made.spends.notes in
    let more = count-more entry rest in
    let most = count-most rest in
    let counted = ap answers_count e in
    record {
      scene = ap (λ (s : GatewayAndOutput). records_done s rest) made.scene ∙ (sym (ap (records_done (scene_on c.loop-entry.forwarder c.loop-entry.page)) e) ∙ inv.scene);
      moment = made.moment ∙ inv.moment;
      formed = formed.1;
      few = omega (arith, size, few);
      ready = omega (arith, size, ready, ready2);
      places = made.places (answers_count rest) (omega (arith, most, size, few)) (omega (arith, counted, more, places));
      frames = omega (arith, size, frames, frames2);
      octets = omega (arith, inv.octets, made.spends.octets);
      notes = omega (arith, size, notes, notes2);
      datagrams = made.spends.datagrams ∙ inv.datagrams;
    }
