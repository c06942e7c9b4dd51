use Rattle.std.proofs.Common.{subst, sym}
use Rattle.ipv4.specs.Header.{IsIpv4}
use Rattle.fragments.proofs.Longs.{long-is}
use Rattle.fragments.proofs.cutters.long_count.Goals as goal

pub invariant_of-body : goal.invariant_of-body
invariant_of-body c =
    let is = long-is c.args.mtu c.args.frame.now c.requires.long in
    record { whole = is.packet.whole }

pub piece_count-requires-clause-packet : goal.piece_count-requires-clause-packet
piece_count-requires-clause-packet c =
    let is = long-is c.args.mtu c.args.frame.now c.requires.long in
    subst IsIpv4 (sym c.body.ensures) is.packet.packet
