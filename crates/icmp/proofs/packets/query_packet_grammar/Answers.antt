use Rattle.std.proofs.Common.{◌==◌}
use Rattle.ipv4.specs.Header.{header_of, payload_of}
use Rattle.icmp.specs.Query.{begins_with, has_no_identifier}
use Rattle.icmp.specs.declared.faults.IcmpFault.TheVariants.{NotQuery, BadQuery}
use Rattle.icmp.proofs.Told.{all-clear, clear-all, query-told, told-begins, told-identified, same-number, number-same}
use Rattle.icmp.proofs.packets.query_packet_grammar.Goals as goal

pub returns : goal.returns
returns c = λ kind packet.
    let number = (header_of packet).protocol in
    let message = payload_of packet in (
      λ e.
          let p = all-clear NotQuery BadQuery (number == 1) (begins_with kind message) (has_no_identifier message) e in
          record { protocol = same-number number 1 p.0; query = query-told kind message p.1.0 p.1.1 },
      λ g. clear-all NotQuery BadQuery (number == 1) (begins_with kind message) (has_no_identifier message) (number-same number 1 g.protocol) (told-begins kind message g.query) (told-identified kind message g.query),
    )
