use Rattle.std.proofs.Common.{min, take, ap, ◌∙◌, ℕ}
use Rattle.ipv4.specs.Header.{header_of}
use Rattle.icmp.proofs.Quoting.{cut-twice}
use Rattle.icmp.proofs.own.quoted.Goals as goal

pub returns-clause-bytes : goal.returns-clause-bytes
returns-clause-bytes c =
    let packet = c.args.packet.now.bytes.now in
    ap (λ (k : ℕ). take k packet) (c.min.ensures ∙ ap (λ (k : ℕ). min k 548) c.total_length.ensures.value)
    ∙ cut-twice (header_of packet).total_length 548 packet
