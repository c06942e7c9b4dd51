use Rattle.std.proofs.Common.{◌≡◌, List, ℕ, ap, arith, rules, subst, ◌∙◌}
use Rattle.byteorder.specs.Endian.{big_bytes}
use Rattle.frames.specs.Bytes.{Puts}
use Rattle.ipv4.specs.Header.{word_at}
use Rattle.rewrite.specs.Translated.{tcp_with}
use Rattle.rewrite.proofs.Moved.{InRange, tcp-rewritten}
use Rattle.rewrite.proofs.segments.rewrite_tcp.Goals as goal

pub returns : goal.returns
returns c =
    let old_fits : InRange c.args.old = record { source = omega arith; destination = omega arith; source_port = omega arith; destination_port = omega arith } in
    let new_fits : InRange c.args.new = record { source = omega arith; destination = omega arith; source_port = omega arith; destination_port = omega arith } in
    let viewed = c.new-view.ensures.bytes in
    let was = c.checksum.ensures ∙ ap (word_at 16) viewed in
    let source = subst (λ (b : List ℕ). Puts 0 (big_bytes 2 c.args.new.source_port.0) b c.set_source_port.new.self.bytes.now) viewed c.set_source_port.ensures.written in
    let put : c.set_checksum.new.self.bytes.now ≡ tcp_with c.args.old c.args.new c.args.segment.now =
    tcp-rewritten c.args.old c.args.new c.args.segment.now c.set_source_port.new.self.bytes.now c.set_destination_port.new.self.bytes.now c.set_checksum.new.self.bytes.now c.checksum.result c.tcp_field-checksum.result old_fits new_fits c.requires.long c.requires.source_port c.requires.destination_port was c.tcp_field-checksum.ensures source c.set_destination_port.ensures.written c.set_checksum.ensures.written in
    search (rules, put)
