use Rattle.arp.proofs.Spelling.{spelled}
use Rattle.arp.proofs.packets.body_of.Goals as goal

pub returns : goal.returns
returns c =
    spelled c.args.packet.now c.number-o.result c.octets_of-s.result c.to_be_bytes.result c.octets_of-t.result c.to_be_bytes-2.result
    c.octets_of-s.ensures.six c.octets_of-t.ensures.six c.number-o.ensures c.octets_of-s.ensures.same c.to_be_bytes.ensures c.octets_of-t.ensures.same c.to_be_bytes-2.ensures
