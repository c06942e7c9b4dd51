-- Words in the parts of a packet, and a packet made of its parts.
use Rattle.std.proofs.Common.{◌≡◌, inl, inr, if◌then◌else◌, ◌==◌, subst, ℕ, ◌+◌, ◌-◌, ◌*◌, ◌<◌, ◌≤◌, List, ◌++◌, length, take, drop, slice_index, arith, ap, ap₂, sym, ◌∙◌, append_assoc}
use Rattle.std.proofs.lemmas.List.{drop-drop, get_or-take, get_or-drop, length-take}
use Rattle.byteorder.specs.Endian.{big_number}
use Rattle.sums.specs.Sum.{IsRight}
use Rattle.ipv4.specs.Header.{IsIpv4, word_at, header_of, payload_of}
use Rattle.ipv4.specs.declared.flows.Flow.{Flow}
use Rattle.addresses.specs.declared.transport.Protocol.{Protocol}
use Rattle.addresses.specs.declared.transport.Protocol.TheVariants.{Icmp, Udp, Tcp}
use Rattle.ipv4.specs.Datagram.{IsDatagram}
use Rattle.ipv4.specs.Flow.{destination_place, flow_of, protocol_of, source_place}
use Rattle.icmp.specs.Query.{IsTranslatable}
use Rattle.rewrite.specs.Sums.{shortest}
use Rattle.rewrite.specs.Translated.{header_with, segment_with, length_in, translated}

-- a word in the first n bytes is the same in all bytes
pub word_at-take : (place n : ℕ) (bytes : List ℕ) → place + 2 ≤ n → word_at place (take n bytes) ≡ word_at place bytes
word_at-take place n bytes within =
    let high : slice_index (drop place (take n bytes)) 0 ≡ slice_index (drop place bytes) 0 = get_or-drop place (take n bytes) 0 0 ∙ (get_or-take n bytes (place + 0) 0 (omega arith) ∙ sym (get_or-drop place bytes 0 0)) in
    let low : slice_index (drop place (take n bytes)) 1 ≡ slice_index (drop place bytes) 1 = get_or-drop place (take n bytes) 1 0 ∙ (get_or-take n bytes (place + 1) 0 (omega arith) ∙ sym (get_or-drop place bytes 1 0)) in
    ap₂ (λ (a b : ℕ). a * 256 + (b * 1 + 0)) high low

-- a word after the first n bytes is a later word of all bytes
pub word_at-drop : (place n : ℕ) (bytes : List ℕ) → word_at place (drop n bytes) ≡ word_at (n + place) bytes
word_at-drop place n bytes = ap (big_number 2) (drop-drop place n bytes)

-- a word of the payload is one of the bytes after the header
pub word_at-payload : (place : ℕ) (packet : List ℕ) → place + 2 ≤ length (payload_of packet) → word_at place (payload_of packet) ≡ word_at place (drop (header_of packet).header_length packet)
word_at-payload place packet within =
    let h = (header_of packet).header_length in
    let n = (header_of packet).total_length - h in
    word_at-take place n (drop h packet) (omega (arith, length-take n (drop h packet)))

-- a header, a segment and the rest, rewritten, make the translated packet
pub translated-parts : (new : Flow) (packet : List ℕ) (h n : ℕ) → h ≡ (header_of packet).header_length → n ≡ length_in (protocol_of packet) (payload_of packet) → header_with new (take h packet) ++ (segment_with (protocol_of packet) (flow_of packet) new (take n (drop h packet)) ++ drop n (drop h packet)) ≡ translated new packet
translated-parts new packet h n is_h is_n =
    let segment = segment_with (protocol_of packet) (flow_of packet) new in
    let parts : header_with new (take h packet) ++ segment (take n (drop h packet)) ++ drop n (drop h packet) ≡ translated new packet =
    ap₂ (λ (a b : ℕ). header_with new (take a packet) ++ segment (take b (drop a packet)) ++ drop b (drop a packet)) is_h is_n in
    sym (append_assoc (header_with new (take h packet)) (segment (take n (drop h packet))) (drop n (drop h packet))) ∙ parts

-- the shortest segment or query has 8 bytes
pub shortest-ports : (p : Protocol) (n : ℕ) → shortest p ≤ n → 8 ≤ n
shortest-ports Icmp n h = h
shortest-ports Udp n h = h
shortest-ports Tcp n h = omega arith

-- the ports lie in the first 8 bytes of a segment or query
pub places-fit : (p : Protocol) → (source_place p + 2 ≤ 8) × (destination_place p + 2 ≤ 8)
places-fit Icmp = (omega arith, omega arith)
places-fit Udp = (omega arith, omega arith)
places-fit Tcp = (omega arith, omega arith)

-- a word of the payload is the same word of the segment
pub word_at-segment : (place n : ℕ) (packet rest : List ℕ) → rest ≡ drop (header_of packet).header_length packet → place + 2 ≤ length (payload_of packet) → place + 2 ≤ n → word_at place (payload_of packet) ≡ word_at place (take n rest)
word_at-segment place n packet rest is_rest in_payload in_segment =
    word_at-payload place packet in_payload ∙ (ap (word_at place) (sym is_rest) ∙ sym (word_at-take place n rest in_segment))

-- what is known of the payload of a translated packet, by its protocol
pub record IsOfSome (packet : List ℕ) (p : Protocol) : Type 0 where
  pub shortest_fits : shortest p ≤ length (payload_of packet)
  pub datagram : p ≡ Udp → IsDatagram (payload_of packet)

abbrev pub by-number : (number : ℕ) → Protocol
by-number number = (if number == 1 then Icmp else if number == 6 then Tcp else Udp)

pub some-protocol : (packet : List ℕ) → IsTranslatable packet → IsOfSome packet (protocol_of packet)
some-protocol packet (inl (inl udp)) =
    let is : Udp ≡ protocol_of packet = sym (ap by-number udp.protocol) in
    subst (IsOfSome packet) is (record { shortest_fits = udp.datagram.long; datagram = λ e. udp.datagram })
some-protocol packet (inl (inr tcp)) =
    let is : Tcp ≡ protocol_of packet = sym (ap by-number tcp.protocol) in
    subst (IsOfSome packet) is (record { shortest_fits = tcp.segment.long; datagram = λ e. absurd (cc) })
some-protocol packet (inr (inl echo)) =
    let is : Icmp ≡ protocol_of packet = sym (ap by-number echo.protocol) in
    subst (IsOfSome packet) is (record { shortest_fits = echo.query.long; datagram = λ e. absurd (cc) })
some-protocol packet (inr (inr reply)) =
    let is : Icmp ≡ protocol_of packet = sym (ap by-number reply.protocol) in
    subst (IsOfSome packet) is (record { shortest_fits = reply.query.long; datagram = λ e. absurd (cc) })

-- the header of a packet can be rewritten
pub record IsReady (header : List ℕ) : Type 0 where
  pub long : 20 ≤ length header
  pub right : IsRight header
  pub version : 0 < slice_index header 0
  pub ttl : 0 < slice_index header 8

pub header-ready : (packet front : List ℕ) (h : ℕ) → IsIpv4 packet → 2 ≤ (header_of packet).ttl → h ≡ (header_of packet).header_length → front ≡ take h packet → IsReady front
header-ready packet front h ip hops is_h is_front =
    let n = (header_of packet).header_length in
    let fields = ip.holds_fields in
    let first = get_or-take n packet 0 0 (omega (arith, fields)) in
    let eighth = get_or-take n packet 8 0 (omega (arith, fields)) in
    let is : take n packet ≡ front = ap (λ (k : ℕ). take k packet) (sym is_h) ∙ sym is_front in
    subst IsReady is (record {
      long = omega (arith, length-take n packet, fields, ip.holds_header, ip.there);
      right = ip.sum;
      version = omega (arith, first, ip.version);
      ttl = omega (arith, eighth, hops);
    })

-- two parts rewritten, each by a function of what it was, and the rest make the whole
pub joined-parts : (H : List ℕ → List ℕ) (M : Flow → List ℕ → List ℕ) (a b : List ℕ) (f f' : Flow) (packet rest front : List ℕ) (h h' n n' : ℕ) → h ≡ h' → n ≡ n' → f ≡ f' → front ≡ take h packet → rest ≡ drop h packet → a ≡ H front → b ≡ M f (take n rest) → a ++ (b ++ drop n rest) ≡ H (take h' packet) ++ M f' (take n' (drop h' packet)) ++ drop n' (drop h' packet)
joined-parts H M a b f f' packet rest front h h' n n' is_h is_n is_f is_front is_rest is_a is_b =
    let header : a ≡ H (take h' packet) = is_a ∙ ap H (is_front ∙ ap (λ (k : ℕ). take k packet) is_h) in
    let behind : rest ≡ drop h' packet = is_rest ∙ ap (λ (k : ℕ). drop k packet) is_h in
    let by_flow : M f (take n rest) ≡ M f' (take n rest) = ap (λ (x : Flow). M x (take n rest)) is_f in
    let by_rest : M f' (take n rest) ≡ M f' (take n (drop h' packet)) = ap (λ (r : List ℕ). M f' (take n r)) behind in
    let by_length : M f' (take n (drop h' packet)) ≡ M f' (take n' (drop h' packet)) = ap (λ (k : ℕ). M f' (take k (drop h' packet))) is_n in
    let message : b ≡ M f' (take n' (drop h' packet)) = is_b ∙ (by_flow ∙ (by_rest ∙ by_length)) in
    let left : drop n rest ≡ drop n' (drop h' packet) = ap (drop n) behind ∙ ap (λ (k : ℕ). drop k (drop h' packet)) is_n in
    let both : a ++ b ≡ H (take h' packet) ++ M f' (take n' (drop h' packet)) = ap₂ (λ (x y : List ℕ). x ++ y) header message in
    sym (append_assoc a b (drop n rest)) ∙ ap₂ (λ (x y : List ℕ). x ++ y) both left
