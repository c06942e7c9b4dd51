-- The addresses that an error shows after it was passed on are those of its new flow, in its own header and in that of
-- the packet inside.
use Rattle.std.proofs.Common.{◌≡◌, ℕ, ◌+◌, ◌-◌, ◌*◌, ◌/◌, ◌%◌, ◌<◌, ◌≤◌, Bool, true, false, List, [], ◌∷◌, ◌++◌, length, take, drop, slice_index, nat_le, if◌then◌else◌, arith, refl, ap, sym, ◌∙◌, append_assoc, length-append, length-drop}
use Rattle.std.proofs.lemmas.Bool.Decides.{nat_tests}
use Rattle.std.proofs.lemmas.List.{get_or-take, length-take-le}
use Rattle.std.proofs.Math.Seq.{drop-append_seam, take-append_seam}
use Rattle.addresses.specs.declared.transport.Protocol.{Protocol}
use Rattle.addresses.specs.declared.transport.Protocol.TheVariants.{Icmp, Udp, Tcp}
use Rattle.ipv4.specs.Header.{IsIpv4, header_of, payload_of}
use Rattle.ipv4.specs.declared.flows.Flow.{Flow}
use Rattle.icmp.specs.Error.{inside_of}
use Rattle.icmp.specs.Packet.{IsErrorPacket, error_flow}
use Rattle.icmp.specs.Quoted.{IsQuoted, behind}
use Rattle.icmp.specs.declared.packets.ErrorFlow.{ErrorFlow}
use Rattle.rewrite.specs.Translated.{with_word, header_with, query_moved, rest_of}
use Rattle.rewrite.specs.PassedOn.{checksummed, inside_header, ports_inside, udp_inside, behind_with, inside_with, message_with, own_flow, passed_on}
use Rattle.rewrite.proofs.Parts.{word_at-take}

-- a 32-bit number is what its four bytes spell
number-written : (x : ℕ) → x < 4294967296 → x / 16777216 % 256 * 16777216 + (x / 65536 % 256 * 65536 + (x / 256 % 256 * 256 + (x % 256 * 1 + 0))) ≡ x
number-written x h = omega arith

-- an error's own header: its addresses are the new ones, and its lengths stay
pub own-source : (f : Flow) (header rest more : List ℕ) → 20 ≤ length header → f.source.0 < 4294967296 → (header_of ((header_with f header ++ rest) ++ more)).source ≡ f.source.0
own-source f (b0 ∷ b1 ∷ b2 ∷ b3 ∷ b4 ∷ b5 ∷ b6 ∷ b7 ∷ b8 ∷ b9 ∷ b10 ∷ b11 ∷ b12 ∷ b13 ∷ b14 ∷ b15 ∷ b16 ∷ b17 ∷ b18 ∷ b19 ∷ options) rest more long fits = number-written f.source.0 fits
own-source f _ rest more long fits = absurd (omega arith)

pub own-length : (f : Flow) (header rest more : List ℕ) → 20 ≤ length header → (header_of ((header_with f header ++ rest) ++ more)).header_length ≡ (header_of header).header_length
own-length f (b0 ∷ b1 ∷ b2 ∷ b3 ∷ b4 ∷ b5 ∷ b6 ∷ b7 ∷ b8 ∷ b9 ∷ b10 ∷ b11 ∷ b12 ∷ b13 ∷ b14 ∷ b15 ∷ b16 ∷ b17 ∷ b18 ∷ b19 ∷ options) rest more long = refl
own-length f _ rest more long = absurd (omega arith)

pub own-total : (f : Flow) (header rest more : List ℕ) → 20 ≤ length header → (header_of ((header_with f header ++ rest) ++ more)).total_length ≡ (header_of header).total_length
own-total f (b0 ∷ b1 ∷ b2 ∷ b3 ∷ b4 ∷ b5 ∷ b6 ∷ b7 ∷ b8 ∷ b9 ∷ b10 ∷ b11 ∷ b12 ∷ b13 ∷ b14 ∷ b15 ∷ b16 ∷ b17 ∷ b18 ∷ b19 ∷ options) rest more long = refl
own-total f _ rest more long = absurd (omega arith)

pub own-size : (f : Flow) (header : List ℕ) → 20 ≤ length header → length (header_with f header) ≡ length header
own-size f (b0 ∷ b1 ∷ b2 ∷ b3 ∷ b4 ∷ b5 ∷ b6 ∷ b7 ∷ b8 ∷ b9 ∷ b10 ∷ b11 ∷ b12 ∷ b13 ∷ b14 ∷ b15 ∷ b16 ∷ b17 ∷ b18 ∷ b19 ∷ options) long = refl
own-size f _ long = absurd (omega arith)

-- the header of the packet inside: its destination is the new one, and its length stays
inside-destination : (f : Flow) (header rest : List ℕ) → 20 ≤ length header → f.destination.0 < 4294967296 → (header_of (inside_header f header ++ rest)).destination ≡ f.destination.0
inside-destination f (b0 ∷ b1 ∷ b2 ∷ b3 ∷ b4 ∷ b5 ∷ b6 ∷ b7 ∷ b8 ∷ b9 ∷ b10 ∷ b11 ∷ b12 ∷ b13 ∷ b14 ∷ b15 ∷ b16 ∷ b17 ∷ b18 ∷ b19 ∷ options) rest long fits = number-written f.destination.0 fits
inside-destination f _ rest long fits = absurd (omega arith)

inside-size : (f : Flow) (header : List ℕ) → 20 ≤ length header → length (inside_header f header) ≡ length header
inside-size f (b0 ∷ b1 ∷ b2 ∷ b3 ∷ b4 ∷ b5 ∷ b6 ∷ b7 ∷ b8 ∷ b9 ∷ b10 ∷ b11 ∷ b12 ∷ b13 ∷ b14 ∷ b15 ∷ b16 ∷ b17 ∷ b18 ∷ b19 ∷ options) long = refl
inside-size f _ long = absurd (omega arith)

-- the bytes after the header inside keep their length
udp-size : (old new : Flow) (bytes : List ℕ) → 8 ≤ length bytes → length (udp_inside old new bytes) ≡ length bytes
udp-size old new (b0 ∷ b1 ∷ b2 ∷ b3 ∷ b4 ∷ b5 ∷ b6 ∷ b7 ∷ rest) long = refl
udp-size old new _ long = absurd (omega arith)

query-size : (old new : Flow) (bytes : List ℕ) → 8 ≤ length bytes → length (query_moved old new bytes) ≡ length bytes
query-size old new (b0 ∷ b1 ∷ b2 ∷ b3 ∷ b4 ∷ b5 ∷ b6 ∷ b7 ∷ rest) long = refl
query-size old new _ long = absurd (omega arith)

ports-size : (new : Flow) (bytes : List ℕ) → 8 ≤ length bytes → length (ports_inside new bytes) ≡ length bytes
ports-size new (b0 ∷ b1 ∷ b2 ∷ b3 ∷ b4 ∷ b5 ∷ b6 ∷ b7 ∷ rest) long = refl
ports-size new _ long = absurd (omega arith)

word-size : (at value : ℕ) (bytes : List ℕ) → at + 2 ≤ length bytes → length (with_word at value bytes) ≡ length bytes
word-size at value bytes fits =
    let front : length (take at bytes) ≡ at = length-take-le at bytes (omega arith) in
    let two = length-append (take at bytes) (value / 256 % 256 ∷ value % 256 ∷ []) in
    let whole = length-append (take at bytes ++ (value / 256 % 256 ∷ value % 256 ∷ [])) (drop (at + 2) bytes) in
    omega (arith, front, two, whole, length-drop (at + 2) bytes)

tcp-size-by : (old new : Flow) (bytes : List ℕ) (there : Bool) (field : ℕ) → (there ≡ true → 18 ≤ length bytes) → 8 ≤ length bytes → length (if there then with_word 16 field (ports_inside new bytes) else ports_inside new bytes) ≡ length bytes
tcp-size-by old new bytes true field whole long =
    let same = ports-size new bytes long in
    let fits : 16 + 2 ≤ length (ports_inside new bytes) = omega (arith, same, whole refl) in
    word-size 16 field (ports_inside new bytes) fits ∙ same
tcp-size-by old new bytes false field whole long = ports-size new bytes long

le-told : (m n : ℕ) → nat_le m n ≡ true → m ≤ n
le-told m n e = grind (arith, nat_tests)

behind-size : (p : Protocol) (old new : Flow) (bytes : List ℕ) → 8 ≤ length bytes → length (behind_with p old new bytes) ≡ length bytes
behind-size Icmp old new bytes long = query-size old new bytes long
behind-size Udp old new bytes long = udp-size old new bytes long
behind-size Tcp old new bytes long = tcp-size-by old new bytes (nat_le 18 (length bytes)) _ (λ e. le-told 18 (length bytes) e) long

-- the packet inside keeps its length
packet-size : (old new : Flow) (packet : List ℕ) → IsQuoted packet → length (inside_with old new packet) ≡ length packet
packet-size old new packet q =
    let h = (header_of packet).header_length in
    let front : length (take h packet) ≡ h = length-take-le h packet (omega (arith, q.there)) in
    let tail : length (behind packet) ≡ length packet - h = length-drop h packet in
    let a : length (inside_header new (take h packet)) ≡ length (take h packet) = inside-size new (take h packet) (omega (arith, front, q.holds_fields)) in
    let b : length (behind_with old.protocol old new (behind packet)) ≡ length (behind packet) = behind-size old.protocol old new (behind packet) (omega (arith, tail, q.there)) in
    omega (arith, length-append (inside_header new (take h packet)) (behind_with old.protocol old new (behind packet)), a, b, front, tail, q.there)

-- after the first 8 bytes of a message whose packet inside was rewritten comes that packet
message-inside : (message packet : List ℕ) → 8 ≤ length message → drop 8 (checksummed 2 (take 8 message ++ packet)) ≡ packet
message-inside (m0 ∷ m1 ∷ m2 ∷ m3 ∷ m4 ∷ m5 ∷ m6 ∷ m7 ∷ rest) packet long = refl
message-inside _ packet long = absurd (omega arith)

pub message-size : (message packet : List ℕ) → 8 ≤ length message → length (checksummed 2 (take 8 message ++ packet)) ≡ 8 + length packet
message-size (m0 ∷ m1 ∷ m2 ∷ m3 ∷ m4 ∷ m5 ∷ m6 ∷ m7 ∷ rest) packet long = omega arith
message-size _ packet long = absurd (omega arith)

-- the middle of three parts is found by the lengths of the first and of the middle
between : (first middle last : List ℕ) (h n : ℕ) → length first ≡ h → length middle ≡ n → take n (drop h ((first ++ middle) ++ last)) ≡ middle
between first middle last h n is_h is_n =
    ap (λ (k : ℕ). take n (drop k ((first ++ middle) ++ last))) (sym is_h)
    ∙ (ap (λ (xs : List ℕ). take n (drop (length first) xs)) (append_assoc first middle last)
    ∙ (ap (take n) (drop-append_seam first (middle ++ last))
    ∙ (ap (λ (k : ℕ). take k (middle ++ last)) (sym is_n) ∙ take-append_seam middle last)))

-- the payload of an error that was passed on is the rewritten message
pub passed-message : (new : ErrorFlow) (packet : List ℕ) → IsIpv4 packet → IsErrorPacket packet → payload_of (passed_on new packet) ≡ message_with (error_flow packet).inside new.inside (payload_of packet)
passed-message new packet ip e =
    let h = (header_of packet).header_length in
    let n = (header_of packet).total_length - h in
    let front = take h packet in
    let size : length front ≡ h = length-take-le h packet (omega (arith, ip.there, ip.holds_header)) in
    let long : 20 ≤ length front = omega (arith, size, ip.holds_fields) in
    let first = header_with (own_flow new) front in
    let message = payload_of packet in
    let whole : length message ≡ n = length-take-le n (drop h packet) (omega (arith, length-drop h packet, ip.there)) in
    let middle = message_with (error_flow packet).inside new.inside message in
    let last = drop n (rest_of packet) in
    let byte : slice_index front 0 ≡ slice_index packet 0 = get_or-take h packet 0 0 (omega (arith, ip.holds_fields)) in
    let is_h : (header_of ((first ++ middle) ++ last)).header_length ≡ h = own-length (own_flow new) front middle last long ∙ ap (λ (b : ℕ). 4 * (b % 16)) byte in
    let is_t : (header_of ((first ++ middle) ++ last)).total_length ≡ (header_of packet).total_length = own-total (own_flow new) front middle last long ∙ word_at-take 2 h packet (omega (arith, ip.holds_fields)) in
    let first_size : length first ≡ h = own-size (own_flow new) front long ∙ size in
    let inside_size = packet-size (error_flow packet).inside new.inside (inside_of message) e.error.inside in
    let middle_size : length middle ≡ n = omega (arith, message-size message (inside_with (error_flow packet).inside new.inside (inside_of message)) e.error.long, inside_size, length-drop 8 message, whole, e.error.long) in
    ap (λ (k : ℕ). take ((header_of ((first ++ middle) ++ last)).total_length - k) (drop k ((first ++ middle) ++ last))) is_h
    ∙ (ap (λ (t : ℕ). take (t - h) (drop h ((first ++ middle) ++ last))) is_t
    ∙ between first middle last h n first_size middle_size)

-- the source of an error that was passed on is that of its new flow
pub passed-source : (new : ErrorFlow) (packet : List ℕ) → IsIpv4 packet → new.source.0 < 4294967296 → (header_of (passed_on new packet)).source ≡ new.source.0
passed-source new packet ip fits =
    let h = (header_of packet).header_length in
    let size : length (take h packet) ≡ h = length-take-le h packet (omega (arith, ip.there, ip.holds_header)) in
    own-source (own_flow new) (take h packet) _ _ (omega (arith, size, ip.holds_fields)) fits

-- the destination of the packet inside an error that was passed on is that of its new flow
pub passed-destination : (new : ErrorFlow) (packet : List ℕ) → IsIpv4 packet → IsErrorPacket packet → new.inside.destination.0 < 4294967296 → (header_of (inside_of (payload_of (passed_on new packet)))).destination ≡ new.inside.destination.0
passed-destination new packet ip e fits =
    let message = payload_of packet in
    let q = inside_of message in
    let h = (header_of q).header_length in
    let old = (error_flow packet).inside in
    let size : length (take h q) ≡ h = length-take-le h q (omega (arith, e.error.inside.there)) in
    let inside : inside_of (payload_of (passed_on new packet)) ≡ inside_with old new.inside q = ap (drop 8) (passed-message new packet ip e) ∙ message-inside message (inside_with old new.inside q) e.error.long in
    ap (λ (bytes : List ℕ). (header_of bytes).destination) inside
    ∙ inside-destination new.inside (take h q) (behind_with old.protocol old new.inside (behind q)) (omega (arith, size, e.error.inside.holds_fields)) fits

-- the first byte of the message stays
pub message-first : (message packet : List ℕ) → 8 ≤ length message → slice_index (checksummed 2 (take 8 message ++ packet)) 0 ≡ slice_index message 0
message-first (m0 ∷ m1 ∷ m2 ∷ m3 ∷ m4 ∷ m5 ∷ m6 ∷ m7 ∷ rest) packet long = refl
message-first _ packet long = absurd (omega arith)
