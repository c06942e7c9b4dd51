use Rattle.std.proofs.Common.{length, ap, ◌∙◌}
use Rattle.packet_rules.specs.Networks.{exit_of}
use Rattle.forwarder.specs.declared.forwarders.Forwarder.{Forwarder}
use Rattle.forwarder.proofs.Taking.{kept-places, sent-as, sent-spends}
use Rattle.forwarder.proofs.forwarders.Forwarder.send.Goals as goal

pub returns-clause-scene : goal.returns-clause-scene
returns-clause-scene c = λ side.
    sent-as c.args.self.now c.wish_for.new.self c.carry_all.new.self c.ask_behind.new.self c.args.page.now c.wish_for.new.page c.send_frame.new.page c.carry_all.new.page c.ask_behind.new.page side c.args.bytes.now c.args.packet c.args.by c.args.next c.exit.result c.next_hop-hop.result
    c.requires.read c.wish_for.ensures.scene c.wish_for.ensures.rest c.send_frame.ensures.scene c.carry_all.ensures.scene c.carry_all.ensures.rest (c.exit.ensures ∙ ap exit_of c.direction.ensures) c.next_hop-hop.ensures c.ask_behind.ensures.scene

pub returns-clause-spends : goal.returns-clause-spends
returns-clause-spends c =
    sent-spends (length c.args.bytes.now) c.args.self.now c.wish_for.new.self c.carry_all.new.self c.ask_behind.new.self c.args.page.now c.wish_for.new.page c.send_frame.new.page c.carry_all.new.page c.ask_behind.new.page
    c.wish_for.ensures.spends c.send_frame.ensures.room c.send_frame.ensures.octets c.carry_all.ensures.spends c.ask_behind.ensures.spends

pub returns-clause-places : goal.returns-clause-places
returns-clause-places c = kept-places c.args.self.now c.wish_for.new.self c.ask_behind.new.self (c.ask_behind.ensures.link ∙ ap (λ (f : Forwarder). f.link) c.carry_all.ensures.rest) c.wish_for.ensures.places
