use Rattle.std.proofs.Common.{◌∙◌, sym}
use Rattle.icmp.proofs.Told.{quoted-told}
use Rattle.icmp.proofs.quoted.QuotedView.parse.Goals as goal

pub invariant_of-result : goal.invariant_of-result
invariant_of-result c = record { right = quoted-told c.args.bytes.now (sym c.no_packet.ensures ∙ c.if-no_packet.false) }
