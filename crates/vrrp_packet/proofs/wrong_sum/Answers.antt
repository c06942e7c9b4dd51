use Rattle.std.proofs.Common.{rules, ◌≡◌, ◌++◌, ◌∙◌, List, ℕ, ap, refl, length}
use Rattle.sums.specs.Sum.{word_sum, ones_sum}
use Rattle.ipv4.specs.Header.{header_of}
use Rattle.vrrp_packet.specs.Message.{pseudo_header}
use Rattle.vrrp_packet.proofs.Grammar.{wrong_where_not, wrong_in_parts, other_decides}
use Rattle.vrrp_packet.proofs.wrong_sum.Goals as goal

pub returns-then-not-is_right : goal.returns-then-not-is_right
returns-then-not-is_right c =
    let message = c.args.message.now in
    let header = header_of c.args.packet.now.bytes.now in
    let pseudo = pseudo_header header.source header.destination (length message) in
    let same : c.pseudo_header-pseudo.result ≡ pseudo = search rules in
    let first = c.sum.ensures ∙ ap (λ (p : List ℕ). ones_sum (word_sum p)) same in
    let whole = c.add.ensures.parts (word_sum pseudo) (word_sum message) first c.sum-then-not-is_right.ensures in
    other_decides message (pseudo ++ message) _
    (wrong_where_not message c.is_right.result c.is_right.ensures c.if-not-is_right.true)
    (wrong_in_parts pseudo message 6 c.add.result refl whole)
