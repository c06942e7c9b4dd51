use Rattle.std.proofs.Common.{rules, sym, ap, ◌∙◌, arith}
use Rattle.bindings.specs.Lives.{idle_keys_in}
use Rattle.spec_binding.specs.Books.{is_lone}
use Rattle.spec_binding.specs.Ledgers.{release_all, sought_keys}
use Rattle.spec_step.specs.Shown.{is_apart, scene, with_notes}
use Rattle.output.specs.declared.pages.Room.{Room}
use Rattle.output.specs.Output.{Paged}
use Rattle.forwarder.specs.Forwarder.{scene_on}
use Rattle.gateway.proofs.ticks.release_and_go_on.Goals as goal

pub mark_or_tell-requires-clause-marks : goal.mark_or_tell-requires-clause-marks
mark_or_tell-requires-clause-marks c = λ apart.
    let few = c.tick.ensures.few (sym c.tick.ensures.apart ∙ apart) in
    let room = c.requires.room.notes in
    let reserved = c.take_notes-notes.ensures.room in
    omega (arith, few, room, reserved, c.tick.ensures.capacity)

pub returns-clause-scene : goal.returns-clause-scene
returns-clause-scene c =
    let s = scene_on c.args.forwarder.now c.args.page.now in
    let l = s.shown.ledger in
    let keys = idle_keys_in (is_lone l.book.stage) s.shown.moment l.book.entries l.lives in
    let gone = release_all s.shown.moment keys l s.shown.link in
    let s1 = scene (record s.shown { ledger = gone.ledger; link = gone.link }) (with_notes s.told gone.notes) in
    let apart = is_apart s1.shown in
    rw (c.idle_at_once.ensures s keys, c.sought_at_once.ensures s1 apart (sought_keys apart s1.shown.ledger.book.entries)) (search rules)

pub returns-clause-spends : goal.returns-clause-spends
returns-clause-spends c = λ apart.
    let few = c.tick.ensures.few apart in
    let room = c.requires.room.notes in
    let reserved = c.take_notes-notes.ensures.room in
    let put = ap (λ (r : Room). r.notes) c.put_notes.ensures.room in
    let frames = ap (λ (r : Room). r.frames) c.put_notes.ensures.room in
    let taken = ap (λ (p : Paged). p.room.frames) c.take_notes-notes.ensures.rest in
    let octets = ap (λ (r : Room). r.octets) c.put_notes.ensures.room in
    let octets_taken = ap (λ (p : Paged). p.room.octets) c.take_notes-notes.ensures.rest in
    record {
      frames = omega (arith, frames, taken);
      octets = omega (arith, octets, octets_taken);
      datagrams = search rules;
      notes = omega (arith, put, few, room, reserved, c.tick.ensures.capacity, c.mark_or_tell.ensures.len, c.mark_or_tell.ensures.capacity);
      pairs = omega (arith, c.tick.ensures.ready, c.mark_or_tell.ensures.ready);
    }
