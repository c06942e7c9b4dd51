-- The beginning of a packet whose header was rewritten: its lengths stay, and so does the first byte after the header,
-- which is the type of a query or an error.
use Rattle.std.proofs.Common.{◌≡◌, ℕ, ◌+◌, ◌-◌, ◌*◌, ◌%◌, ◌<◌, ◌≤◌, List, [], ◌∷◌, ◌++◌, length, take, drop, slice_index, arith, refl, ap, sym, ◌∙◌, append_assoc, length-drop}
use Rattle.std.proofs.lemmas.List.{get_or-drop, get_or-take, length-take-le}
use Rattle.std.proofs.Math.Seq.{drop-append_seam}
use Rattle.addresses.specs.declared.transport.Protocol.{Protocol}
use Rattle.addresses.specs.declared.transport.Protocol.TheVariants.{Icmp, Udp, Tcp}
use Rattle.ipv4.specs.Flow.{flow_of, protocol_of}
use Rattle.ipv4.specs.Header.{IsIpv4, header_of, payload_of}
use Rattle.ipv4.specs.declared.flows.Flow.{Flow}
use Rattle.icmp.specs.Error.{inside_of}
use Rattle.icmp.specs.Packet.{IsErrorPacket, error_flow}
use Rattle.icmp.specs.declared.packets.ErrorFlow.{ErrorFlow}
use Rattle.rewrite.specs.Translated.{header_with, length_in, query_with, rest_of, segment_with, translated}
use Rattle.rewrite.specs.PassedOn.{inside_with, message_with, own_flow, passed_on}
use Rattle.rewrite.proofs.Parts.{by-number, word_at-take}
use Rattle.rewrite.proofs.Shows.{message-first, message-size, own-length, own-size, own-total}

-- the lengths and the first byte after the header are those of a packet
pub record Begins (bytes packet : List ℕ) : Type 0 where
  pub header_length : (header_of bytes).header_length ≡ (header_of packet).header_length
  pub total_length : (header_of bytes).total_length ≡ (header_of packet).total_length
  pub first : slice_index bytes (header_of packet).header_length ≡ slice_index packet (header_of packet).header_length

first-byte : (bytes more : List ℕ) → 1 ≤ length bytes → slice_index (bytes ++ more) 0 ≡ slice_index bytes 0
first-byte [] more some = absurd (omega (arith, some))
first-byte (x ∷ bytes) more some = refl

-- the byte after the first of three parts is the first byte of the middle
seam : (first middle last : List ℕ) (h : ℕ) → length first ≡ h → 1 ≤ length middle → slice_index ((first ++ middle) ++ last) h ≡ slice_index middle 0
seam first middle last h is_h some =
    let whole = (first ++ middle) ++ last in
    let place : h ≡ length first + 0 = omega (arith, is_h) in
    ap (λ (k : ℕ). slice_index whole k) place
    ∙ (sym (get_or-drop (length first) whole 0 0)
    ∙ (ap (λ (xs : List ℕ). slice_index (drop (length first) xs) 0) (append_assoc first middle last)
    ∙ (ap (λ (xs : List ℕ). slice_index xs 0) (drop-append_seam first (middle ++ last))
    ∙ first-byte middle last some)))

-- the first byte after the header is the first of the payload
pub payload-first : (packet : List ℕ) → (header_of packet).header_length < (header_of packet).total_length → slice_index (payload_of packet) 0 ≡ slice_index packet (header_of packet).header_length
payload-first packet some =
    let h = (header_of packet).header_length in
    let place : h + 0 ≡ h = omega arith in
    get_or-take ((header_of packet).total_length - h) (drop h packet) 0 0 (omega (arith, some))
    ∙ (get_or-drop h packet 0 0 ∙ ap (λ (k : ℕ). slice_index packet k) place)

-- a packet whose header was rewritten begins as before, where the first byte after the header is the same
pub rewritten-begins : (f : Flow) (middle last packet : List ℕ) → IsIpv4 packet → 1 ≤ length middle → slice_index middle 0 ≡ slice_index packet (header_of packet).header_length
    → Begins ((header_with f (take (header_of packet).header_length packet) ++ middle) ++ last) packet
rewritten-begins f middle last packet ip some same =
    let h = (header_of packet).header_length in
    let front = take h packet in
    let size : length front ≡ h = length-take-le h packet (omega (arith, ip.there, ip.holds_header)) in
    let long : 20 ≤ length front = omega (arith, size, ip.holds_fields) in
    let byte : slice_index front 0 ≡ slice_index packet 0 = get_or-take h packet 0 0 (omega (arith, ip.holds_fields)) in
    record {
      header_length = own-length f front middle last long ∙ ap (λ (b : ℕ). 4 * (b % 16)) byte;
      total_length = own-total f front middle last long ∙ word_at-take 2 h packet (omega (arith, ip.holds_fields));
      first = seam (header_with f front) middle last h (own-size f front long ∙ size) some ∙ same;
    }

-- an error that was passed on begins as before
pub passed-begins : (new : ErrorFlow) (packet : List ℕ) → IsIpv4 packet → IsErrorPacket packet → Begins (passed_on new packet) packet
passed-begins new packet ip e =
    let h = (header_of packet).header_length in
    let n = (header_of packet).total_length - h in
    let message = payload_of packet in
    let whole : length message ≡ n = length-take-le n (drop h packet) (omega (arith, length-drop h packet, ip.there)) in
    let some : h < (header_of packet).total_length = omega (arith, whole, e.error.long) in
    let inside = inside_with (error_flow packet).inside new.inside (inside_of message) in
    let size : length (message_with (error_flow packet).inside new.inside message) ≡ 8 + length inside = message-size message inside e.error.long in
    rewritten-begins (own_flow new) (message_with (error_flow packet).inside new.inside message) (drop n (rest_of packet)) packet ip (omega (arith, size)) (message-first message inside e.error.long ∙ payload-first packet some)

-- a query that was translated begins with the same type
query-first : (old new : Flow) (message : List ℕ) → 8 ≤ length message → (slice_index (query_with old new message) 0 ≡ slice_index message 0) × (1 ≤ length (query_with old new message))
query-first old new (a ∷ b ∷ c ∷ d ∷ e ∷ f ∷ g ∷ h ∷ rest) long = (refl, omega arith)
query-first old new _ long = absurd (omega arith)

segment-first : (p : Protocol) (old new : Flow) (payload rest : List ℕ) → p ≡ Icmp → 8 ≤ length payload → length payload ≤ length rest
    → (slice_index (segment_with p old new (take (length_in p payload) rest)) 0 ≡ slice_index rest 0) × (1 ≤ length (segment_with p old new (take (length_in p payload) rest)))
segment-first Icmp old new payload rest is long within =
    let n = length payload in
    let size : length (take n rest) ≡ n = length-take-le n rest within in
    let q = query-first old new (take n rest) (omega (arith, size, long)) in
    (q.0 ∙ get_or-take n rest 0 0 (omega (arith, long)), q.1)
segment-first Udp old new payload rest is long within = absurd (cc)
segment-first Tcp old new payload rest is long within = absurd (cc)

pub query-begins : (new : Flow) (packet : List ℕ) → IsIpv4 packet → (header_of packet).protocol ≡ 1 → 8 ≤ length (payload_of packet) → Begins (translated new packet) packet
query-begins new packet ip protocol long =
    let h = (header_of packet).header_length in
    let t = (header_of packet).total_length in
    let rest = drop h packet in
    let behind : length rest ≡ length packet - h = length-drop h packet in
    let whole : length (payload_of packet) ≡ t - h = length-take-le (t - h) rest (omega (arith, behind, ip.there)) in
    let p = protocol_of packet in
    let q = segment-first p (flow_of packet) new (payload_of packet) rest (ap by-number protocol) long (omega (arith, whole, behind, ip.there)) in
    let place : h + 0 ≡ h = omega arith in
    rewritten-begins new (segment_with p (flow_of packet) new (take (length_in p (payload_of packet)) rest)) (drop (length_in p (payload_of packet)) rest) packet ip q.1 (q.0 ∙ (get_or-drop h packet 0 0 ∙ ap (λ (k : ℕ). slice_index packet k) place))
