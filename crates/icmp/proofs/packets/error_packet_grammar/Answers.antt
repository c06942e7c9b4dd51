use Rattle.std.proofs.Common.{◌==◌}
use Rattle.ipv4.specs.Header.{header_of, payload_of}
use Rattle.icmp.specs.Error.{has_error_kind, has_no_error}
use Rattle.icmp.specs.declared.faults.IcmpFault.TheVariants.{NotError, BadError}
use Rattle.icmp.proofs.Told.{all-clear, clear-all, error-told, told-error, same-number, number-same}
use Rattle.icmp.proofs.packets.error_packet_grammar.Goals as goal

pub returns : goal.returns
returns c = λ packet.
    let number = (header_of packet).protocol in
    let message = payload_of packet in (
      λ e.
          let p = all-clear NotError BadError (number == 1) (has_error_kind message) (has_no_error message) e in
          record { protocol = same-number number 1 p.0; error = error-told message p.1.0 p.1.1 },
      λ g. clear-all NotError BadError (number == 1) (has_error_kind message) (has_no_error message) (number-same number 1 g.protocol) g.error.kind (told-error message g.error),
    )
