use Rattle.std.proofs.Common.{ℕ, List, length, sym, ap, ◌∙◌}
use Rattle.nat_types.specs.declared.gateways.Side.{Side}
use Rattle.spec_step.specs.Parts.{refused}
use Rattle.forwarder.specs.Forwarder.{scene_on}
use Rattle.forwarder.proofs.Taking.{carries-as, error-spends, frames-spend, reading-made, retaken-as, same-places}
use Rattle.forwarder.proofs.forwarders.Forwarder.take_again.Goals as goal

pub take_flow_again-requires-clause-forwardable : goal.take_flow_again-requires-clause-forwardable
take_flow_again-requires-clause-forwardable c =
    let carried = carries-as c.side_of.result (c.in-Ok-Packet.ensures.carries) c.in-Ok-Packet.field-0-is c.bytes_of.ensures in
    carried.0

pub take_flow_again-requires-clause-read : goal.take_flow_again-requires-clause-read
take_flow_again-requires-clause-read c =
    let carried = carries-as c.side_of.result (c.in-Ok-Packet.ensures.carries) c.in-Ok-Packet.field-0-is c.bytes_of.ensures in
    carried.1.0

pub returns-in-Ok-Packet-clause-scene : goal.returns-in-Ok-Packet-clause-scene
returns-in-Ok-Packet-clause-scene c =
    c.take_flow_again.ensures.scene ∙ retaken-as (scene_on c.args.self.now c.args.page.now) c.args.packet c.side_of.ensures c.bytes_of.ensures (reading-made c.in-Ok-Packet.is c.in-Ok-Packet.field-0-is c.read_whole.ensures.reading)

pub take_error_again-requires-clause-passable : goal.take_error_again-requires-clause-passable
take_error_again-requires-clause-passable c =
    let carried = carries-as c.side_of.result (c.in-Ok-Error.ensures.carries) c.in-Ok-Error.field-0-is c.bytes_of.ensures in
    carried.0

pub take_error_again-requires-clause-read : goal.take_error_again-requires-clause-read
take_error_again-requires-clause-read c =
    let carried = carries-as c.side_of.result (c.in-Ok-Error.ensures.carries) c.in-Ok-Error.field-0-is c.bytes_of.ensures in
    carried.1

pub returns-in-Ok-Error-clause-scene : goal.returns-in-Ok-Error-clause-scene
returns-in-Ok-Error-clause-scene c =
    c.take_error_again.ensures.scene ∙ retaken-as (scene_on c.args.self.now c.args.page.now) c.args.packet c.side_of.ensures c.bytes_of.ensures (reading-made c.in-Ok-Error.is c.in-Ok-Error.field-0-is c.read_whole.ensures.reading)

pub take_echo_again-requires-clause-askable : goal.take_echo_again-requires-clause-askable
take_echo_again-requires-clause-askable c =
    let carried = carries-as c.side_of.result (c.in-Ok-Asked.ensures.carries) c.in-Ok-Asked.field-0-is c.bytes_of.ensures in
    carried.0

pub take_echo_again-requires-clause-read : goal.take_echo_again-requires-clause-read
take_echo_again-requires-clause-read c =
    let carried = carries-as c.side_of.result (c.in-Ok-Asked.ensures.carries) c.in-Ok-Asked.field-0-is c.bytes_of.ensures in
    carried.1

pub returns-in-Ok-Asked-clause-scene : goal.returns-in-Ok-Asked-clause-scene
returns-in-Ok-Asked-clause-scene c =
    c.take_echo_again.ensures.scene ∙ retaken-as (scene_on c.args.self.now c.args.page.now) c.args.packet c.side_of.ensures c.bytes_of.ensures (reading-made c.in-Ok-Asked.is c.in-Ok-Asked.field-0-is c.read_whole.ensures.reading)

pub returns-in-Err-clause-scene : goal.returns-in-Err-clause-scene
returns-in-Err-clause-scene c =
    let s = scene_on c.args.self.now c.args.page.now in
    c.refuse_unread.ensures.scene
    ∙ ap (λ (x : Side). refused s x x c.bytes_of-in-Err.result.now c.in-Err.reason) c.side_of-in-Err.ensures
    ∙ ap (λ (bs : List ℕ). refused s c.args.packet.side c.args.packet.side bs c.in-Err.reason) c.bytes_of-in-Err.ensures
    ∙ retaken-as s c.args.packet c.side_of.ensures c.bytes_of.ensures (sym c.read_whole.ensures.reading ∙ c.in-Err.is)

-- ---- what it takes

pub returns-in-Ok-Packet-clause-spends : goal.returns-in-Ok-Packet-clause-spends
returns-in-Ok-Packet-clause-spends c = c.take_flow_again.ensures.spends

pub returns-in-Ok-Packet-clause-places : goal.returns-in-Ok-Packet-clause-places
returns-in-Ok-Packet-clause-places c = c.take_flow_again.ensures.places

pub returns-in-Ok-Error-clause-spends : goal.returns-in-Ok-Error-clause-spends
returns-in-Ok-Error-clause-spends c = error-spends (length c.args.packet.bytes) c.args.self.now c.take_error_again.new.self c.args.page.now c.take_error_again.new.page c.take_error_again.ensures.spends

pub returns-in-Ok-Error-clause-places : goal.returns-in-Ok-Error-clause-places
returns-in-Ok-Error-clause-places c = same-places c.args.self.now c.take_error_again.new.self c.take_error_again.ensures.link

pub returns-in-Ok-Asked-clause-spends : goal.returns-in-Ok-Asked-clause-spends
returns-in-Ok-Asked-clause-spends c = error-spends (length c.args.packet.bytes) c.args.self.now c.take_echo_again.new.self c.args.page.now c.take_echo_again.new.page c.take_echo_again.ensures.spends

pub returns-in-Ok-Asked-clause-places : goal.returns-in-Ok-Asked-clause-places
returns-in-Ok-Asked-clause-places c = same-places c.args.self.now c.take_echo_again.new.self c.take_echo_again.ensures.link

pub returns-in-Err-clause-spends : goal.returns-in-Err-clause-spends
returns-in-Err-clause-spends c = frames-spend (length c.args.packet.bytes) c.args.self.now c.refuse_unread.new.self c.args.page.now c.refuse_unread.new.page c.refuse_unread.ensures.spends

pub returns-in-Err-clause-places : goal.returns-in-Err-clause-places
returns-in-Err-clause-places c = same-places c.args.self.now c.refuse_unread.new.self c.refuse_unread.ensures.link
