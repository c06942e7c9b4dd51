-- Which ICMP queries pass at which side: outward goes an Echo, inward a Reply.
use Rattle.nat_types.specs.declared.gateways.Side.{Side}
use Rattle.nat_types.specs.declared.gateways.Side.TheVariants.{Inside, Outside}
use Rattle.icmp.specs.declared.kinds.Kind.{Kind}
use Rattle.icmp.specs.declared.kinds.Kind.TheVariants.{Echo, Reply}

-- the kind of query that is taken at a side
abbrev pub kind_entering : Side → Kind
kind_entering Inside = Echo
kind_entering Outside = Reply

-- the kind of query that leaves at a side
abbrev pub kind_leaving : Side → Kind
kind_leaving Inside = Reply
kind_leaving Outside = Echo
