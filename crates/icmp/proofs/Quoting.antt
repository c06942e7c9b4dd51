-- A packet as an error holds it, cut after 548 bytes, has the flow of the whole packet.
use Rattle.std.proofs.Common.{◌≡◌, ◌⊎◌, inl, inr, ℕ, ◌+◌, ◌-◌, ◌*◌, ◌%◌, ◌<◌, ◌≤◌, Bool, true, false, IsTrue, not, ◌&&◌, ◌==◌, nat_lt, if◌then◌else◌, List, ◌∷◌, ◌++◌, length, take, drop, min, refl, sym, ap, subst, ◌∙◌, arith, length-drop, take-append-drop}
use Rattle.std.proofs.lemmas.Bool.{cases_lt}
use Rattle.std.proofs.lemmas.Bool.Decides.{nat_tests}
use Rattle.std.proofs.lemmas.List.{drop-take, length-take, length-take-le, take_all, take-take}
use Rattle.addresses.specs.declared.transport.Protocol.{Protocol}
use Rattle.addresses.specs.declared.transport.Protocol.TheVariants.{Icmp, Tcp, Udp}
use Rattle.sums.specs.Sum.{IsRight}
use Rattle.ipv4.specs.Datagram.{IsDatagram}
use Rattle.ipv4.specs.Flow.{source_place, destination_place, flow_of}
use Rattle.ipv4.specs.Header.{Header, IsIpv4, header_of, payload_of, word_at}
use Rattle.ipv4.specs.Segment.{IsSegment}
use Rattle.ipv4.specs.declared.flows.Flow.{Flow}
use Rattle.icmp.specs.Own.{quoted}
use Rattle.icmp.specs.Query.{IsQuery, IsTranslatable, begins_with, kind_number}
use Rattle.icmp.specs.Quoted.{IsQuoted, behind, is_translated, quoted_flow}
use Rattle.icmp.specs.declared.kinds.Kind.{Kind}
use Rattle.icmp.specs.declared.kinds.Kind.TheVariants.{Echo, Reply}
use Rattle.icmp.proofs.Told.{told-begins}

-- ---- bytes that are cut

-- the first 20 bytes spell the header
header-front : (xs ys : List ℕ) → 20 ≤ length xs → header_of (xs ++ ys) ≡ header_of xs
header-front (b0 ∷ b1 ∷ b2 ∷ b3 ∷ b4 ∷ b5 ∷ b6 ∷ b7 ∷ b8 ∷ b9 ∷ b10 ∷ b11 ∷ b12 ∷ b13 ∷ b14 ∷ b15 ∷ b16 ∷ b17 ∷ b18 ∷ b19 ∷ xs) ys long = refl
header-front _ ys long = absurd (omega arith)

header-take : (n : ℕ) (xs : List ℕ) → 20 ≤ n → 20 ≤ length xs → header_of (take n xs) ≡ header_of xs
header-take n xs far long = at (cases_lt n (length xs))
  where
    at : (n < length xs) ⊎ (length xs ≤ n) → header_of (take n xs) ≡ header_of xs
    at (inl within) =
        let size : length (take n xs) ≡ n = length-take-le n xs (omega (arith, within)) in
        sym (ap header_of (sym (take-append-drop n xs)) ∙ header-front (take n xs) (drop n xs) (omega (arith, size, far)))
    at (inr few) = ap header_of (take_all n xs few)

-- a list that has at least k items still has them where it is cut there or later
still-long : (k n : ℕ) (xs : List ℕ) → k ≤ n → k ≤ length xs → k ≤ length (take n xs)
still-long k n xs far long = at (cases_lt n (length xs))
  where
    at : (n < length xs) ⊎ (length xs ≤ n) → k ≤ length (take n xs)
    at (inl within) = let size : length (take n xs) ≡ n = length-take-le n xs (omega (arith, within)) in omega (arith, size, far)
    at (inr few) = let same : length (take n xs) ≡ length xs = ap length (take_all n xs few) in omega (arith, same, long)

-- a list cut at t and then at n is a list cut at the lesser of both
pub cut-twice : (t n : ℕ) (xs : List ℕ) → take (min t n) xs ≡ take n (take t xs)
cut-twice t n xs = at (cases_lt t n)
  where
    at : (t < n) ⊎ (n ≤ t) → take (min t n) xs ≡ take n (take t xs)
    at (inl below) =
        let same : min t n ≡ t = omega (arith, below) in
        let few : length (take t xs) ≤ n = omega (arith, length-take t xs, below) in
        ap (λ (k : ℕ). take k xs) same ∙ sym (take_all n (take t xs) few)
    at (inr above) =
        let same : min t n ≡ n = omega (arith, above) in
        ap (λ (k : ℕ). take k xs) same ∙ sym (take-take n t xs above)

-- what is dropped before a cut shortens the cut by as much
drop-cut : (h n : ℕ) (xs : List ℕ) → h ≤ n → drop h (take n xs) ≡ take (n - h) (drop h xs)
drop-cut h n xs low =
    let whole : h + (n - h) ≡ n = omega (arith, low) in
    ap (λ (k : ℕ). drop h (take k xs)) (sym whole) ∙ drop-take h (n - h) xs

-- ---- the bytes after a header, of which the first eight count

-- the translated protocol of a number
abbrev numbered : ℕ → Protocol
numbered n = (if n == 1 then Icmp else if n == 6 then Tcp else Udp)

-- a flow by its protocol, its header and the bytes after the header
abbrev flow_by : Protocol → Header → List ℕ → Flow
flow_by protocol header bytes = record {
  protocol = protocol;
  source = record { 0 = header.source };
  source_port = record { 0 = word_at (source_place protocol) bytes };
  destination = record { 0 = header.destination };
  destination_port = record { 0 = word_at (destination_place protocol) bytes };
}

flow-front : (protocol : Protocol) (header : Header) (xs ys : List ℕ) → 8 ≤ length xs → flow_by protocol header (xs ++ ys) ≡ flow_by protocol header xs
flow-front Icmp header (b0 ∷ b1 ∷ b2 ∷ b3 ∷ b4 ∷ b5 ∷ b6 ∷ b7 ∷ xs) ys long = refl
flow-front Tcp header (b0 ∷ b1 ∷ b2 ∷ b3 ∷ b4 ∷ b5 ∷ b6 ∷ b7 ∷ xs) ys long = refl
flow-front Udp header (b0 ∷ b1 ∷ b2 ∷ b3 ∷ b4 ∷ b5 ∷ b6 ∷ b7 ∷ xs) ys long = refl
flow-front _ header _ ys long = absurd (omega arith)

some-byte : (n : ℕ) → 0 < n → nat_lt 0 n ≡ true
some-byte n h = grind (arith, nat_tests)

begins-front : (kind : Kind) (xs ys : List ℕ) → 8 ≤ length xs → begins_with kind (xs ++ ys) ≡ begins_with kind xs
begins-front kind (b0 ∷ b1 ∷ b2 ∷ b3 ∷ b4 ∷ b5 ∷ b6 ∷ b7 ∷ xs) ys long =
    let one = some-byte (length ((b0 ∷ b1 ∷ b2 ∷ b3 ∷ b4 ∷ b5 ∷ b6 ∷ b7 ∷ xs) ++ ys)) (omega arith) in
    let other = some-byte (length (b0 ∷ b1 ∷ b2 ∷ b3 ∷ b4 ∷ b5 ∷ b6 ∷ b7 ∷ xs)) (omega arith) in
    ap (λ (t : Bool). t && (b0 == kind_number kind) && (b1 == 0)) (one ∙ sym other)
begins-front kind _ ys long = absurd (omega arith)

flow-cut : (protocol : Protocol) (header : Header) (m : ℕ) (bytes : List ℕ) → 8 ≤ length (take m bytes) → flow_by protocol header (take m bytes) ≡ flow_by protocol header bytes
flow-cut protocol header m bytes long =
    sym (ap (flow_by protocol header) (sym (take-append-drop m bytes)) ∙ flow-front protocol header (take m bytes) (drop m bytes) long)

begins-cut : (kind : Kind) (m : ℕ) (bytes : List ℕ) → 8 ≤ length (take m bytes) → begins_with kind (take m bytes) ≡ begins_with kind bytes
begins-cut kind m bytes long =
    sym (ap (begins_with kind) (sym (take-append-drop m bytes)) ∙ begins-front kind (take m bytes) (drop m bytes) long)

-- ---- what is translated

-- the bytes after a header are an ICMP message that is no query
abbrev other_message : ℕ → List ℕ → Bool
other_message n bytes = (n == 1) && not (begins_with Echo bytes) && not (begins_with Reply bytes)

-- the flow can be read from a protocol's number and the bytes after a header
record Tells (n : ℕ) (bytes : List ℕ) : Type 0 where
  long : 8 ≤ length bytes
  translated : IsTrue (is_translated n)
  query : other_message n bytes ≡ false
  from : 0 < word_at (source_place (numbered n)) bytes
  to : 0 < word_at (destination_place (numbered n)) bytes

tells-udp : (n : ℕ) (bytes : List ℕ) → n ≡ 17 → IsDatagram bytes → Tells n bytes
tells-udp n bytes e g =
    let P : ℕ → Type 0 = λ k. Tells k bytes in
    subst P (sym e) (record { long = g.long; translated = refl; query = refl; from = g.from; to = g.to })

tells-tcp : (n : ℕ) (bytes : List ℕ) → n ≡ 6 → IsSegment bytes → Tells n bytes
tells-tcp n bytes e g =
    let P : ℕ → Type 0 = λ k. Tells k bytes in
    subst P (sym e) (record { long = omega (arith, g.long); translated = refl; query = refl; from = g.from; to = g.to })

one-begins : (a b : Bool) → (a ≡ true) ⊎ (b ≡ true) → (true && not a && not b) ≡ false
one-begins true b e = refl
one-begins false true e = refl
one-begins false false (inl e) = cc
one-begins false false (inr e) = cc

tells-query : (kind : Kind) (n : ℕ) (bytes : List ℕ) → n ≡ 1 → IsQuery kind bytes → (begins_with Echo bytes ≡ true) ⊎ (begins_with Reply bytes ≡ true) → Tells n bytes
tells-query kind n bytes e g begins =
    let P : ℕ → Type 0 = λ k. Tells k bytes in
    subst P (sym e) (record {
      long = g.long;
      translated = refl;
      query = one-begins (begins_with Echo bytes) (begins_with Reply bytes) begins;
      from = g.identifier;
      to = g.identifier;
    })

tells : (packet : List ℕ) → IsTranslatable packet → Tells (header_of packet).protocol (payload_of packet)
tells packet (inl (inl udp)) = tells-udp (header_of packet).protocol (payload_of packet) udp.protocol udp.datagram
tells packet (inl (inr tcp)) = tells-tcp (header_of packet).protocol (payload_of packet) tcp.protocol tcp.segment
tells packet (inr (inl q)) = tells-query Echo (header_of packet).protocol (payload_of packet) q.protocol q.query (inl (told-begins Echo (payload_of packet) q.query))
tells packet (inr (inr q)) = tells-query Reply (header_of packet).protocol (payload_of packet) q.protocol q.query (inr (told-begins Reply (payload_of packet) q.query))

-- where the flow can be read from the bytes after a header, it can be read from these bytes cut off
tells-cut : (n m : ℕ) (bytes : List ℕ) → 8 ≤ length (take m bytes) → (header : Header) → Tells n bytes → Tells n (take m bytes)
tells-cut n m bytes long header t =
    let flow = flow-cut (numbered n) header m bytes long in
    let from : word_at (source_place (numbered n)) (take m bytes) ≡ word_at (source_place (numbered n)) bytes = ap (λ (f : Flow). f.source_port.0) flow in
    let to : word_at (destination_place (numbered n)) (take m bytes) ≡ word_at (destination_place (numbered n)) bytes = ap (λ (f : Flow). f.destination_port.0) flow in
    record {
      long = long;
      translated = t.translated;
      query = ap (λ (a : Bool). (n == 1) && not a && not (begins_with Reply (take m bytes))) (begins-cut Echo m bytes long)
          ∙ (ap (λ (b : Bool). (n == 1) && not (begins_with Echo bytes) && not b) (begins-cut Reply m bytes long) ∙ t.query);
      from = omega (arith, from, t.from);
      to = omega (arith, to, t.to);
    }

-- ---- the packet inside

-- a packet with such a header and such bytes after it is one that an error holds
quoted-of : (q : List ℕ) → 20 ≤ length q → (header_of q).version ≡ 4 → 20 ≤ (header_of q).header_length → (header_of q).header_length + 8 ≤ length q
    → IsRight (take (header_of q).header_length q) → (header_of q).fragment_offset ≡ 0 → Tells (header_of q).protocol (behind q) → IsQuoted q
quoted-of q long version holds there sum first t = record {
  long = long;
  version = version;
  holds_fields = holds;
  there = there;
  sum = sum;
  first = first;
  protocol = t.translated;
  query = t.query;
  from = t.from;
  to = t.to;
}

-- a header has 60 bytes at most
most : (b : ℕ) → 4 * (b % 16) ≤ 60
most b = omega arith

-- a packet that is cut has the same header, and the bytes after it are cut
pub record IsCutOff (packet q : List ℕ) (m : ℕ) : Type 0 where
  pub header : header_of q ≡ header_of packet
  pub behind_is : behind q ≡ take m (payload_of packet)
  pub long : 20 ≤ length q
  pub front : take (header_of packet).header_length q ≡ take (header_of packet).header_length packet
  pub there : (header_of packet).header_length + 8 ≤ length q
  pub eight : 8 ≤ length (take m (payload_of packet))

cut-off : (packet : List ℕ) → IsIpv4 packet → 8 ≤ length (payload_of packet) → IsCutOff packet (quoted packet) (548 - (header_of packet).header_length)
cut-off packet ip eight =
    let h = (header_of packet).header_length in
    let t = (header_of packet).total_length in
    let low : h ≤ 60 = most _ in
    let short = take t packet in
    let size : length short ≡ t = length-take-le t packet ip.there in
    let rest : length (payload_of packet) ≡ t - h = length-take-le (t - h) (drop h packet) (omega (arith, length-drop h packet, ip.there)) in
    let behind_there : h + 8 ≤ t = omega (arith, rest, eight, ip.holds_header) in
    let header : header_of (quoted packet) ≡ header_of packet =
    header-take 548 short (omega arith) (omega (arith, size, ip.holds_fields, ip.holds_header)) ∙ header-take t packet (omega (arith, ip.holds_fields, ip.holds_header)) ip.long in
    let same : (header_of (quoted packet)).header_length ≡ h = ap (λ (a : Header). a.header_length) header in
    let inner : drop h short ≡ payload_of packet = drop-cut h t packet ip.holds_header in
    record {
      header = header;
      behind_is = ap (λ (k : ℕ). drop k (quoted packet)) same ∙ (drop-cut h 548 short (omega (arith, low)) ∙ ap (take (548 - h)) inner);
      long = still-long 20 548 short (omega arith) (omega (arith, size, ip.holds_fields, ip.holds_header));
      front = take-take h 548 short (omega (arith, low)) ∙ take-take h t packet ip.holds_header;
      there = still-long (h + 8) 548 short (omega (arith, low)) (omega (arith, size, behind_there));
      eight = still-long 8 (548 - h) (payload_of packet) (omega (arith, low)) eight;
    }

pub quoted-told : (packet : List ℕ) → IsIpv4 packet → IsTranslatable packet → IsQuoted (quoted packet)
quoted-told packet ip translatable =
    let q = quoted packet in
    let h = (header_of packet).header_length in
    let m = 548 - h in
    let t = tells packet translatable in
    let c = cut-off packet ip t.long in
    let same : (header_of q).header_length ≡ h = ap (λ (a : Header). a.header_length) c.header in
    let number : (header_of q).protocol ≡ (header_of packet).protocol = ap (λ (a : Header). a.protocol) c.header in
    let R : List ℕ → Type 0 = λ bytes. IsRight bytes in
    let N : ℕ → Type 0 = λ n. Tells n (take m (payload_of packet)) in
    let B : List ℕ → Type 0 = λ bytes. Tells (header_of q).protocol bytes in
    quoted-of q c.long
    (ap (λ (a : Header). a.version) c.header ∙ ip.version)
    (omega (arith, same, ip.holds_fields))
    (omega (arith, same, c.there))
    (subst R (sym (ap (λ (k : ℕ). take k q) same ∙ c.front)) ip.sum)
    (ap (λ (a : Header). a.fragment_offset) c.header ∙ ip.first)
    (subst B (sym c.behind_is) (subst N (sym number) (tells-cut (header_of packet).protocol m (payload_of packet) c.eight (header_of packet) t)))

-- the packet inside has the flow of the whole packet
pub quoted-flows : (packet : List ℕ) → IsIpv4 packet → IsTranslatable packet → quoted_flow (quoted packet) ≡ flow_of packet
quoted-flows packet ip translatable =
    let t = tells packet translatable in
    let c = cut-off packet ip t.long in
    let m = 548 - (header_of packet).header_length in
    ap (λ (a : Header). flow_by (numbered a.protocol) a (behind (quoted packet))) c.header
    ∙ (ap (flow_by (numbered (header_of packet).protocol) (header_of packet)) c.behind_is
    ∙ flow-cut (numbered (header_of packet).protocol) (header_of packet) m (payload_of packet) c.eight)
