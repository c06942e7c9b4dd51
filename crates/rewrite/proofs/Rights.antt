-- An error that was passed on has right checksums: of the header inside, and of the message.
use Rattle.std.proofs.Common.{◌≡◌, ℕ, zero, suc, true, false, ◌≤◌, ◌<◌, IsTrue, List, ◌∷◌, ◌++◌, length, take, drop, slice_index, arith, refl, sym, subst}
use Rattle.sums.specs.Sum.{checksum_of, IsRight}
use Rattle.ipv4.specs.Header.{IsIpv4, payload_of}
use Rattle.ipv4.specs.declared.flows.Flow.{Flow}
use Rattle.icmp.specs.Error.{IsError, is_error}
use Rattle.icmp.specs.Packet.{IsErrorPacket, error_flow}
use Rattle.icmp.specs.declared.packets.ErrorFlow.{ErrorFlow}
use Rattle.rewrite.specs.Translated.{with_word}
use Rattle.rewrite.specs.PassedOn.{with_long, inside_header, checksummed, inside_with, message_with, passed_on}
use Rattle.rewrite.proofs.Moved.{filled-right, positive-first}
use Rattle.rewrite.proofs.Shows.{passed-message}

pub inside-right : (new : Flow) (header : List ℕ) → 20 ≤ length header → 0 < slice_index header 0 → IsRight (inside_header new header)
inside-right new (b0 ∷ b1 ∷ b2 ∷ b3 ∷ b4 ∷ b5 ∷ b6 ∷ b7 ∷ b8 ∷ b9 ∷ b10 ∷ b11 ∷ b12 ∷ b13 ∷ b14 ∷ b15 ∷ b16 ∷ b17 ∷ b18 ∷ b19 ∷ options) long version =
    let u = with_word 10 0 (with_long 16 new.destination.0 (with_long 12 new.source.0 (b0 ∷ b1 ∷ b2 ∷ b3 ∷ b4 ∷ b5 ∷ b6 ∷ b7 ∷ b8 ∷ b9 ∷ b10 ∷ b11 ∷ b12 ∷ b13 ∷ b14 ∷ b15 ∷ b16 ∷ b17 ∷ b18 ∷ b19 ∷ options))) in
    filled-right 5 u (checksum_of u) refl (omega arith) refl (positive-first b0 b1 _ version)
inside-right new _ long version = absurd (omega arith)

-- an error's type isn't 0
type-some : (kind : ℕ) → IsTrue (is_error kind) → 0 < kind
type-some zero is = let bad : false ≡ true = is in absurd (cc)
type-some (suc kind) is = omega arith

-- a message whose checksum is the complement of the whole sum is right
summed-right : (message packet : List ℕ) → 8 ≤ length message → 0 < slice_index message 0 → IsRight (checksummed 2 (take 8 message ++ packet))
summed-right (m0 ∷ m1 ∷ m2 ∷ m3 ∷ m4 ∷ m5 ∷ m6 ∷ m7 ∷ rest) packet long some =
    let u = m0 ∷ m1 ∷ 0 ∷ 0 ∷ m4 ∷ m5 ∷ m6 ∷ m7 ∷ packet in
    filled-right 1 u (checksum_of u) refl (omega arith) refl (positive-first m0 m1 _ some)
summed-right _ packet long some = absurd (omega arith)

message-right : (old new : Flow) (message : List ℕ) → IsError message → IsRight (message_with old new message)
message-right old new message e = summed-right message (inside_with old new (drop 8 message)) e.long (type-some (slice_index message 0) e.kind)

pub passed-right : (new : ErrorFlow) (packet : List ℕ) → IsIpv4 packet → IsErrorPacket packet → IsRight (payload_of (passed_on new packet))
passed-right new packet ip e = subst IsRight (sym (passed-message new packet ip e)) (message-right (error_flow packet).inside new.inside (payload_of packet) e.error)
