use Rattle.std.proofs.Common.{◌≤◌, ℕ, List, length, ◌∙◌, ap, subst, arith}
use Rattle.std.specs.List.{filter}
use Rattle.bind_core.specs.Cores.{Core, ledger_of}
use Rattle.link.specs.Link.{Link}
use Rattle.forwarder.specs.declared.forwarders.Forwarder.{Forwarder}
use Rattle.forwarder.specs.Forwarder.{scene_on}
use Rattle.spec_binding.specs.Books.{is_apart as is_book_apart}
use Rattle.waiting.specs.Packets.{HeldPacket, is_young}
use Rattle.gateway.proofs.Apart.{filter-short}
use Rattle.gateway.proofs.ticks.take_tick.Goals as goal

pub returns-clause-ticks : goal.returns-clause-ticks
returns-clause-ticks c = (
  scene_on c.take_turn.new.forwarder c.take_turn.new.page,
  scene_on c.cue_both.new.forwarder c.cue_both.new.page,
  rw (← c.clock_after-forwarder.ensures) c.take_turn.ensures.turn,
  c.cue_both.ensures.act,
  rw (← c.drop_old.ensures.young) c.release_and_go_on.ensures.scene,
)

pub returns-clause-kept : goal.returns-clause-kept
returns-clause-kept c =
    let before = c.cue_both.new.forwarder in
    let same = ap (λ (f : Forwarder). f.kept) c.cue_both.ensures.rest ∙ ap (λ (f : Forwarder). f.kept) c.take_turn.ensures.rest in
    let short = filter-short (is_young before.moment) before.kept in
    rw (c.release_and_go_on.ensures.kept, c.drop_old.ensures.young)
    (subst (λ (ws : List HeldPacket). length (filter (is_young before.moment) before.kept) ≤ length ws) same short)

pub returns-clause-spends : goal.returns-clause-spends
returns-clause-spends c = λ apart.
    let before = c.cue_both.new.forwarder in
    let turn = c.take_turn.ensures.spends in
    let both = c.cue_both.ensures.spends in
    let core = ap (λ (f : Forwarder). f.core) c.cue_both.ensures.rest ∙ ap (λ (f : Forwarder). f.core) c.take_turn.ensures.rest in
    let link = ap (λ (f : Forwarder). f.link) c.cue_both.ensures.rest ∙ ap (λ (f : Forwarder). f.link) c.take_turn.ensures.rest in
    let moment = ap (λ (f : Forwarder). f.moment) c.cue_both.ensures.rest ∙ ap (λ (f : Forwarder). f.moment) c.take_turn.ensures.rest ∙ c.clock_after-forwarder.ensures in
    let still = ap (λ (x : Core). is_book_apart (ledger_of x).book before.link before.moment) core
    ∙ ap (λ (x : Link). is_book_apart (ledger_of c.args.forwarder.now.core).book x before.moment) link
    ∙ ap (λ (x : ℕ). is_book_apart (ledger_of c.args.forwarder.now.core).book c.args.forwarder.now.link x) moment in
    let idle = c.release_and_go_on.ensures.spends (still ∙ apart) in
    let size = ap (λ (x : Core). length x.table.entries) core in
    record {
      frames = omega (arith, turn.frames, both.frames, idle.frames);
      octets = omega (arith, turn.octets, both.octets, c.drop_old.ensures.octets, idle.octets);
      datagrams = idle.datagrams ∙ both.datagrams ∙ turn.datagrams;
      notes = omega (arith, turn.notes, both.notes, idle.notes, size);
      pairs = omega (arith, turn.pairs, both.pairs, idle.pairs);
    }
