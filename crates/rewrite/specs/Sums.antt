-- Sums of the words that a translation replaces.
use Rattle.std.specs.Prelude.{ℕ, ◌+◌, ◌/◌, ◌%◌, ◌==◌, if◌then◌else◌}
use Rattle.addresses.specs.declared.transport.Protocol.{Protocol}
use Rattle.addresses.specs.declared.transport.Protocol.TheVariants.{Icmp, Udp, Tcp}
use Rattle.ipv4.specs.declared.flows.Flow.{Flow}

-- the sum of the two words of an address
abbrev pub address_sum : ℕ → ℕ
address_sum address = address / 65536 + address % 65536

-- the sum of the words of addresses and ports
abbrev pub flow_sum : Flow → ℕ
flow_sum flow =
    address_sum flow.source.0 + address_sum flow.destination.0
    + flow.source_port.0 + flow.destination_port.0

-- the identifier of a query whose flow was `old` and becomes `new`: the identifier is both ports, so the port that
-- changed is the new one
abbrev pub new_identifier : Flow → Flow → ℕ
new_identifier old new =
    (if new.source_port.0 == old.source_port.0 then new.destination_port.0 else new.source_port.0)

-- the fewest bytes of a segment or query
abbrev pub shortest : Protocol → ℕ
shortest Icmp = 8
shortest Udp = 8
shortest Tcp = 20
