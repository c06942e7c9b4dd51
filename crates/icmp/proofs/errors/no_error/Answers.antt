use Rattle.std.proofs.Common.{rules, ◌≡◌, false, nat_lt, length, ap, ◌∙◌}
use Rattle.ipv4.specs.Header.{has_wrong_sum}
use Rattle.icmp.specs.Error.{inside_of}
use Rattle.icmp.specs.Quoted.{has_no_packet}
use Rattle.icmp.proofs.Grammar.{not_wrong, third_decides}
use Rattle.icmp.proofs.Told.{take-rest}
use Rattle.icmp.proofs.errors.no_error.Goals as goal

pub returns-else-not-is_right : goal.returns-else-not-is_right
returns-else-not-is_right c =
    let message = c.args.message.now in
    let long : nat_lt (length message) 8 ≡ false = search rules in
    let right = not_wrong message c.is_right.result c.is_right.ensures c.if-not-is_right.false in
    let inside : c.no_packet.result ≡ has_no_packet (inside_of message) = c.no_packet.ensures ∙ ap has_no_packet (take-rest 8 message) in
    third_decides (nat_lt (length message) 8) (has_wrong_sum message) c.no_packet.result (has_no_packet (inside_of message)) long right inside
