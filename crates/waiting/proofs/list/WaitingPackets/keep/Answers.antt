use Rattle.std.proofs.Common.{◌≡◌, true, length, ap, arith}
use Rattle.waiting.specs.Packets.{HeldPacket, has_place, with_room}
use Rattle.waiting.proofs.Octets.{kept-octets}
use Rattle.waiting.proofs.Places.{place-room, kept-push}
use Rattle.waiting.proofs.list.WaitingPackets.keep.Goals as goal

pub push_reserved-requires : goal.push_reserved-requires
push_reserved-requires c =
    let all = c.self.inside.packets.items in
    let place : has_place all c.args.packet.wait ≡ true = rw c.self.view_is c.requires in
    let same : c.packet.inside.wait ≡ c.args.packet.wait = ap (λ (w : HeldPacket). w.wait) c.packet.view_is in
    let left : length c.make_room.new.packets.items ≡ length (with_room c.args.packet.wait all) = rw (c.make_room.ensures.items, same) in
    omega (arith, place-room all c.args.packet.wait c.self.invariant.0 place, left, c.make_room.ensures.capacity, c.self.invariant.1, c.make_room.new.packets.ok)

pub invariant_of-self : goal.invariant_of-self
invariant_of-self c =
    let place : has_place c.self.inside.packets.items c.args.packet.wait ≡ true = rw c.self.view_is c.requires in
    let same : c.packet.inside.wait ≡ c.args.packet.wait = ap (λ (w : HeldPacket). w.wait) c.packet.view_is in
    (rw (c.push_reserved.ensures.items, c.make_room.ensures.items, same) (kept-push c.self.inside.packets.items c.args.packet c.self.invariant.0 place), omega (arith, c.self.invariant.1, c.make_room.ensures.capacity, c.push_reserved.ensures.capacity))

pub returns-clause-octets : goal.returns-clause-octets
returns-clause-octets c =
    let same : c.packet.inside.wait ≡ c.args.packet.wait = ap (λ (w : HeldPacket). w.wait) c.packet.view_is in
    rw (c.push_reserved.ensures.items, c.make_room.ensures.items, same, ← c.self.view_is) (kept-octets c.self.inside.packets.items c.args.packet c.args.packet.wait)
