-- How whole sums change with addresses and ports.
use Rattle.std.proofs.lemmas.List.{get_or-drop}
use Rattle.std.proofs.Common.{◌≡◌, Bool, true, false, if◌then◌else◌, ◌==◌, ℕ, ◌+◌, ◌-◌, ◌*◌, ◌/◌, ◌%◌, ◌<◌, ◌≤◌, List, [], ◌∷◌, ◌++◌, length, take, drop, append_assoc, slice_index, arith, refl, ap, ◌∙◌}
use Rattle.byteorder.specs.Endian.{big_number, big_bytes}
use Rattle.frames.specs.Bytes.{Puts}
use Rattle.sums.specs.Sum.{word_sum, ones_sum, checksum_of, IsRight, IsUpdate}
use Rattle.sums.proofs.Offered.{word_sum-replace}
use Rattle.ipv4.specs.declared.flows.Flow.{Flow}
use Rattle.rewrite.specs.Sums.{address_sum, flow_sum, new_identifier}
use Rattle.rewrite.specs.Translated.{header_unsummed, header_with, tcp_sum, segment_with_ports, moved_sum, with_word, query_identified, query_moved, query_sum, query_with, tcp_checksum, tcp_with, udp_sum, udp_field, udp_checksum, udp_with}
use Rattle.ipv4.specs.Header.{word_at}

-- the two words of an address add up to those of the four bytes that it is written in
address_sum-written : (a : ℕ) → a < 4294967296 → address_sum a ≡ 256 * (a / 16777216 % 256) + a / 65536 % 256 + (256 * (a / 256 % 256) + a % 256)
address_sum-written a h = omega arith

-- the addresses and ports of a flow are in the ranges of their types
pub record InRange (flow : Flow) : Type 0 where
  pub source : flow.source.0 < 4294967296
  pub destination : flow.destination.0 < 4294967296
  pub source_port : flow.source_port.0 < 65536
  pub destination_port : flow.destination_port.0 < 65536

-- the whole sum of a TCP segment changes by the difference of the flows
pub tcp_sum-moved : (old new : Flow) (segment : List ℕ) → InRange old → InRange new → 20 ≤ length segment → old.source_port.0 ≡ big_number 2 segment → old.destination_port.0 ≡ big_number 2 (drop 2 segment) → tcp_sum new (segment_with_ports new segment) + flow_sum old ≡ tcp_sum old segment + flow_sum new
tcp_sum-moved old new (a ∷ b ∷ c ∷ d ∷ e ∷ f ∷ g ∷ h ∷ i ∷ j ∷ k ∷ l ∷ m ∷ n ∷ o ∷ p ∷ q ∷ r ∷ rest) old_fits new_fits long is_source is_destination =
    let w1 = address_sum-written old.source.0 old_fits.source in
    let w2 = address_sum-written old.destination.0 old_fits.destination in
    let w3 = address_sum-written new.source.0 new_fits.source in
    let w4 = address_sum-written new.destination.0 new_fits.destination in
    omega (arith, w1, w2, w3, w4)
tcp_sum-moved old new _ old_fits new_fits long is_source is_destination = absurd (omega arith)

-- an update by the flows is the checksum that the whole sums require
pub moved_sum-update : (t old new s s2 u : ℕ) → s2 + old ≡ s + new → IsUpdate t old new u → u ≡ moved_sum t s s2
moved_sum-update t old new s s2 u same is_update = omega arith

-- after ports and checksum are written one after the other, the TCP segment has them
tcp-put : (new : Flow) (s s1 s2 s3 : List ℕ) (field : ℕ) → 20 ≤ length s → Puts 0 (big_bytes 2 new.source_port.0) s s1 → Puts 2 (big_bytes 2 new.destination_port.0) s1 s2 → Puts 16 (big_bytes 2 field) s2 s3 → s3 ≡ with_word 16 field (segment_with_ports new s)
tcp-put new (a ∷ b ∷ c ∷ d ∷ e ∷ f ∷ g ∷ h ∷ i ∷ j ∷ k ∷ l ∷ m ∷ n ∷ o ∷ p ∷ q ∷ r ∷ rest) s1 s2 s3 field long p1 p2 p3 =
    p3 ∙ ap (λ (x : List ℕ). take 16 x ++ big_bytes 2 field ++ drop 18 x) (p2 ∙ ap (λ (x : List ℕ). take 2 x ++ big_bytes 2 new.destination_port.0 ++ drop 4 x) p1)
tcp-put new _ s1 s2 s3 field long p1 p2 p3 = absurd (omega arith)

-- what a rewrite of a TCP segment writes is what the definition says
pub tcp-rewritten : (old new : Flow) (s s1 s2 s3 : List ℕ) (t sum : ℕ) → InRange old → InRange new → 20 ≤ length s → old.source_port.0 ≡ big_number 2 s → old.destination_port.0 ≡ big_number 2 (drop 2 s) → t ≡ word_at 16 s → IsUpdate t (flow_sum old) (flow_sum new) sum → Puts 0 (big_bytes 2 new.source_port.0) s s1 → Puts 2 (big_bytes 2 new.destination_port.0) s1 s2 → Puts 16 (big_bytes 2 sum) s2 s3 → s3 ≡ tcp_with old new s
tcp-rewritten old new s s1 s2 s3 t sum old_fits new_fits long is_source is_destination is_t is_update p1 p2 p3 =
    let before = tcp_sum old s in
    let after = tcp_sum new (segment_with_ports new s) in
    let is_sum : sum ≡ moved_sum t before after = moved_sum-update t (flow_sum old) (flow_sum new) before after sum (tcp_sum-moved old new s old_fits new_fits long is_source is_destination) is_update in
    let is_field : sum ≡ tcp_checksum old new s = is_sum ∙ ap (λ x. moved_sum x before after) is_t in
    tcp-put new s s1 s2 s3 sum long p1 p2 p3 ∙ ap (λ x. with_word 16 x (segment_with_ports new s)) is_field

-- the whole sum of a UDP segment changes by the difference of the flows
udp_sum-moved : (old new : Flow) (segment : List ℕ) → InRange old → InRange new → 8 ≤ length segment → old.source_port.0 ≡ big_number 2 segment → old.destination_port.0 ≡ big_number 2 (drop 2 segment) → udp_sum new (segment_with_ports new segment) + flow_sum old ≡ udp_sum old segment + flow_sum new
udp_sum-moved old new (a ∷ b ∷ c ∷ d ∷ e ∷ f ∷ g ∷ h ∷ rest) old_fits new_fits long is_source is_destination =
    let w1 = address_sum-written old.source.0 old_fits.source in
    let w2 = address_sum-written old.destination.0 old_fits.destination in
    let w3 = address_sum-written new.source.0 new_fits.source in
    let w4 = address_sum-written new.destination.0 new_fits.destination in
    omega (arith, w1, w2, w3, w4)
udp_sum-moved old new _ old_fits new_fits long is_source is_destination = absurd (omega arith)

-- after ports and checksum are written one after the other, the UDP segment has them
udp-put : (new : Flow) (s s1 s2 s3 : List ℕ) (field : ℕ) → 8 ≤ length s → Puts 0 (big_bytes 2 new.source_port.0) s s1 → Puts 2 (big_bytes 2 new.destination_port.0) s1 s2 → Puts 6 (big_bytes 2 field) s2 s3 → s3 ≡ with_word 6 field (segment_with_ports new s)
udp-put new (a ∷ b ∷ c ∷ d ∷ e ∷ f ∷ g ∷ h ∷ rest) s1 s2 s3 field long p1 p2 p3 =
    p3 ∙ ap (λ (x : List ℕ). take 6 x ++ big_bytes 2 field ++ drop 8 x) (p2 ∙ ap (λ (x : List ℕ). take 2 x ++ big_bytes 2 new.destination_port.0 ++ drop 4 x) p1)
udp-put new _ s1 s2 s3 field long p1 p2 p3 = absurd (omega arith)

-- what a rewrite of a UDP segment writes is what the definition says
pub udp-rewritten : (old new : Flow) (s s1 s2 s3 : List ℕ) (t sum field : ℕ) → InRange old → InRange new → 8 ≤ length s → old.source_port.0 ≡ big_number 2 s → old.destination_port.0 ≡ big_number 2 (drop 2 s) → t ≡ word_at 6 s → IsUpdate t (flow_sum old) (flow_sum new) sum → field ≡ udp_field t sum → Puts 0 (big_bytes 2 new.source_port.0) s s1 → Puts 2 (big_bytes 2 new.destination_port.0) s1 s2 → Puts 6 (big_bytes 2 field) s2 s3 → s3 ≡ udp_with old new s
udp-rewritten old new s s1 s2 s3 t sum field old_fits new_fits long is_source is_destination is_t is_update is_field p1 p2 p3 =
    let before = udp_sum old s in
    let after = udp_sum new (segment_with_ports new s) in
    let is_sum : sum ≡ moved_sum t before after = moved_sum-update t (flow_sum old) (flow_sum new) before after sum (udp_sum-moved old new s old_fits new_fits long is_source is_destination) is_update in
    let is_checksum : field ≡ udp_checksum old new s = is_field ∙ ap (udp_field t) is_sum ∙ ap (λ x. udp_field x (moved_sum x before after)) is_t in
    udp-put new s s1 s2 s3 field long p1 p2 p3 ∙ ap (λ x. with_word 6 x (segment_with_ports new s)) is_checksum

-- after identifier and checksum are written one after the other, the query has them
pub query-put : (s s1 s2 : List ℕ) (identifier field : ℕ) → Puts 4 (big_bytes 2 identifier) s s1 → Puts 2 (big_bytes 2 field) s1 s2 → s2 ≡ with_word 2 field (with_word 4 identifier s)
query-put s s1 s2 identifier field p1 p2 = p2 ∙ ap (λ (x : List ℕ). take 2 x ++ big_bytes 2 field ++ drop 4 x) p1

-- an update by the identifier is the moved checksum of the definition
pub moved-by : (t old new u : ℕ) → IsUpdate t old new u → u ≡ moved_sum t old new
moved-by t old new u is = moved_sum-update t old new old new u (omega arith) is

-- a checksum that is moved by the same difference is the same
moved-same : (t old new s s2 : ℕ) → s2 + old ≡ s + new → moved_sum t old new ≡ moved_sum t s s2
moved-same t old new s s2 same = moved_sum-update t old new s s2 (moved_sum t old new) same (omega arith, omega arith)

-- the whole sum of a query changes by the difference of the identifiers
query_sum-moved : (new : ℕ) (message : List ℕ) → new < 65536 → 8 ≤ length message → query_sum (with_word 4 new message) + word_at 4 message ≡ query_sum message + new
query_sum-moved new (a ∷ b ∷ c ∷ d ∷ e ∷ f ∷ g ∷ h ∷ rest) fits long = omega arith
query_sum-moved new _ fits long = absurd (omega arith)

if-fits : (b : Bool) (x y : ℕ) → x < 65536 → y < 65536 → (if b then x else y) < 65536
if-fits true x y x_fits y_fits = x_fits
if-fits false x y x_fits y_fits = y_fits

-- a query whose checksum is moved by its identifier is the one of the whole sums
pub query-moved : (old new : Flow) (message : List ℕ) → InRange new → 8 ≤ length message → old.source_port.0 ≡ big_number 2 (drop 4 message) → query_moved old new message ≡ query_with old new message
query-moved old new message fits long is_identifier =
    let id = new_identifier old new in
    let t = word_at 2 message in
    let small : id < 65536 = if-fits (new.source_port.0 == old.source_port.0) new.destination_port.0 new.source_port.0 fits.destination_port fits.source_port in
    let before = query_sum message in
    let after = query_sum (query_identified old new message) in
    let same : after + old.source_port.0 ≡ before + id = ap (λ (x : ℕ). after + x) is_identifier ∙ query_sum-moved id message small long in
    ap (λ (x : ℕ). with_word 2 x (query_identified old new message)) (moved-same t old.source_port.0 id before after same)

-- after TTL, checksum and addresses are written one after the other, the header is the definition's
pub header-put : (new : Flow) (h h1 h2 h3 h4 : List ℕ) (ttl field : ℕ) → 20 ≤ length h → ttl ≡ slice_index h 8 - 1 → Puts 8 (ttl ∷ []) h h1 → Puts 10 (big_bytes 2 field) h1 h2 → Puts 12 (big_bytes 4 new.source.0) h2 h3 → Puts 16 (big_bytes 4 new.destination.0) h3 h4 → h4 ≡ with_word 10 field (header_unsummed new h)
header-put new (b0 ∷ b1 ∷ b2 ∷ b3 ∷ b4 ∷ b5 ∷ b6 ∷ b7 ∷ b8 ∷ b9 ∷ b10 ∷ b11 ∷ b12 ∷ b13 ∷ b14 ∷ b15 ∷ b16 ∷ b17 ∷ b18 ∷ b19 ∷ options) h1 h2 h3 h4 ttl field long is_ttl p1 p2 p3 p4 =
    let h = b0 ∷ b1 ∷ b2 ∷ b3 ∷ b4 ∷ b5 ∷ b6 ∷ b7 ∷ b8 ∷ b9 ∷ b10 ∷ b11 ∷ b12 ∷ b13 ∷ b14 ∷ b15 ∷ b16 ∷ b17 ∷ b18 ∷ b19 ∷ options in
    let q1 : h1 ≡ take 8 h ++ ((b8 - 1) ∷ []) ++ drop 9 h = p1 ∙ ap (λ (x : ℕ). take 8 h ++ (x ∷ []) ++ drop 9 h) is_ttl in
    p4 ∙ ap (λ (x : List ℕ). take 16 x ++ big_bytes 4 new.destination.0 ++ drop 20 x)
    (p3 ∙ ap (λ (x : List ℕ). take 12 x ++ big_bytes 4 new.source.0 ++ drop 16 x)
    (p2 ∙ ap (λ (x : List ℕ). take 10 x ++ big_bytes 2 field ++ drop 12 x) q1))
header-put new _ h1 h2 h3 h4 ttl field long is_ttl p1 p2 p3 p4 = absurd (omega arith)

-- an update that counts only the hop is also one that counts the whole word of TTL and protocol
pub hop-counted : (c hops a b c' d u : ℕ) → 256 ≤ hops → IsUpdate c (a + b + 256) (c' + d) u → IsUpdate c (hops + a + b) ((hops - 256) + c' + d) u
hop-counted c hops a b c' d u hop is = (is.0, omega (arith, is))

-- an update by some numbers is one by numbers equal to them
pub update-of : (t a b v w t' a' b' v' w' u : ℕ) → t' ≡ t → a' ≡ a → b' ≡ b → v' ≡ v → w' ≡ w → IsUpdate t' (a' + b' + 256) (v' + w') u → IsUpdate t (a + b + 256) (v + w) u
update-of t a b v w t' a' b' v' w' u is_t is_a is_b is_v is_w is = (is.0, omega (arith, is))

-- the two words of an address that is read from four bytes add up to the words of these bytes
address_sum-bytes : (a b c d : ℕ) → a < 256 → b < 256 → c < 256 → d < 256 → address_sum (a * 16777216 + (b * 65536 + (c * 256 + (d * 1 + 0)))) ≡ 256 * a + b + (256 * c + d)
address_sum-bytes a b c d a_fits b_fits c_fits d_fits = omega arith

-- the sum of the words of a header that a translation replaces
abbrev pub old_words : List ℕ → ℕ
old_words header = word_at 8 header + address_sum (big_number 4 (drop 12 header)) + address_sum (big_number 4 (drop 16 header))

-- the sum of the words of a header that a translation writes
abbrev pub new_words : Flow → List ℕ → ℕ
new_words new header = (word_at 8 header - 256) + address_sum new.source.0 + address_sum new.destination.0

-- the bytes of TTL and protocol are the word at 8
pub hops-word : (h : List ℕ) → 256 * slice_index h 8 + slice_index h 9 ≡ word_at 8 h
hops-word h = omega (arith, get_or-drop 8 h 0 0, get_or-drop 8 h 1 0)

-- two equal sums stay equal with one word more on both sides
sum-same : (w x y p q : ℕ) → x + p ≡ y + q → w + x + p ≡ w + y + q
sum-same w x y p q h = omega arith

-- two equal sums stay equal with the words v and w more on both sides
sum-other : (v w x y p q : ℕ) → x + p ≡ y + q → v + x + (w + p) ≡ w + y + (v + q)
sum-other v w x y p q h = omega arith

-- the words that are replaced, and those that are written, add up in the order of the definitions
regroup_old : (hops check a b c d : ℕ) → hops + (check + (a + (b + (c + (d + 0))))) ≡ check + (hops + (a + b) + (c + d))
regroup_old hops check a b c d = omega arith

regroup_new : (ttl protocol a b c d : ℕ) → 0 < ttl → 256 * (ttl - 1) + protocol + (0 + (a + (b + (c + (d + 0))))) ≡ 256 * ttl + protocol - 256 + (a + b) + (c + d)
regroup_new ttl protocol a b c d h = omega arith

word-bytes : (a b : ℕ) → a * 256 + (b * 1 + 0) ≡ 256 * a + b
word-bytes a b = omega arith

pub positive-first : (a b rest : ℕ) → 0 < a → 0 < 256 * a + b + rest
positive-first a b rest h = omega arith

-- the whole sum of a header changes by the difference of its words, and isn't 0
pub header_sum-moved : (new : Flow) (header : List ℕ) → InRange new → ((i : ℕ) → slice_index header i < 256) → 20 ≤ length header → 0 < slice_index header 0 → 0 < slice_index header 8 → (word_sum (header_unsummed new header) + (word_at 10 header + old_words header) ≡ word_sum header + new_words new header) × (0 < word_sum (header_unsummed new header))
header_sum-moved new (b0 ∷ b1 ∷ b2 ∷ b3 ∷ b4 ∷ b5 ∷ b6 ∷ b7 ∷ b8 ∷ b9 ∷ b10 ∷ b11 ∷ b12 ∷ b13 ∷ b14 ∷ b15 ∷ b16 ∷ b17 ∷ b18 ∷ b19 ∷ options) fits small long version ttl =
    let tail = sum-other (256 * (new.source.0 / 16777216 % 256) + (new.source.0 / 65536 % 256)) (256 * b12 + b13) _ _ _ _ (sum-other (256 * (new.source.0 / 256 % 256) + (new.source.0 % 256)) (256 * b14 + b15) _ _ _ _ (sum-other (256 * (new.destination.0 / 16777216 % 256) + (new.destination.0 / 65536 % 256)) (256 * b16 + b17) _ _ _ _ (sum-other (256 * (new.destination.0 / 256 % 256) + (new.destination.0 % 256)) (256 * b18 + b19) (word_sum options) (word_sum options) 0 0 refl))) in
    let all = sum-same (256 * b0 + b1) _ _ _ _ (sum-same (256 * b2 + b3) _ _ _ _ (sum-same (256 * b4 + b5) _ _ _ _ (sum-same (256 * b6 + b7) _ _ _ _ (sum-other (256 * (b8 - 1) + b9) (256 * b8 + b9) _ _ _ _ (sum-other 0 (256 * b10 + b11) _ _ _ _ tail))))) in
    let olds = regroup_old (256 * b8 + b9) (256 * b10 + b11) (256 * b12 + b13) (256 * b14 + b15) (256 * b16 + b17) (256 * b18 + b19) in
    let news = regroup_new b8 b9 (256 * (new.source.0 / 16777216 % 256) + (new.source.0 / 65536 % 256)) (256 * (new.source.0 / 256 % 256) + (new.source.0 % 256)) (256 * (new.destination.0 / 16777216 % 256) + (new.destination.0 / 65536 % 256)) (256 * (new.destination.0 / 256 % 256) + (new.destination.0 % 256)) ttl in
    let from = address_sum-bytes b12 b13 b14 b15 (small 12) (small 13) (small 14) (small 15) in
    let to = address_sum-bytes b16 b17 b18 b19 (small 16) (small 17) (small 18) (small 19) in
    let from' = address_sum-written new.source.0 fits.source in
    let to' = address_sum-written new.destination.0 fits.destination in
    (rw (from, to, from', to', word-bytes b10 b11, word-bytes b8 b9, ← olds, ← news) all, positive-first b0 b1 _ version)
header_sum-moved new _ fits small long version ttl = absurd (omega arith)

-- an update of a right checksum by the words is the complement of the whole sum
pub checksum-update : (t old new sum whole c : ℕ) → sum + (t + old) ≡ whole + new → 0 < sum → whole % 65535 ≡ 0 → IsUpdate t old new c → c ≡ 65535 - ones_sum sum
checksum-update t old new sum whole c same some right is_update = omega (arith, is_update)

-- a word from 0 to 65535 is what its two bytes spell
word-written : (v : ℕ) → v < 65536 → 256 * (v / 256 % 256) + v % 256 ≡ v
word-written v h = omega arith

-- a field that is the complement of the other words' sum makes the whole sum right
complement-right : (whole sum field : ℕ) → 0 < sum → whole ≡ sum + field → field ≡ 65535 - ones_sum sum → (whole % 65535 ≡ 0) × (0 < whole)
complement-right whole sum field some is_whole is_field = (omega arith, omega arith)

-- bytes whose field at the word h is 0 are right once the field is the complement of their sum
pub filled-right : (h : ℕ) (u : List ℕ) (v : ℕ) → v ≡ checksum_of u → 2 * h + 2 ≤ length u → word_sum (take 2 (drop (2 * h) u)) ≡ 0 → 0 < word_sum u → IsRight (with_word (2 * h) v u)
filled-right h u v is_v long empty some =
    let replaced : word_sum (take (2 * h) u ++ (v / 256 % 256 ∷ v % 256 ∷ [] ++ drop (2 * h + 2) u)) + word_sum (take 2 (drop (2 * h) u)) ≡ word_sum u + (256 * (v / 256 % 256) + v % 256) = word_sum-replace h u (v / 256 % 256) (v % 256) long in
    let small : v < 65536 = omega (arith, is_v) in
    let written : 256 * (v / 256 % 256) + v % 256 ≡ v = word-written v small in
    let whole : word_sum (take (2 * h) u ++ (v / 256 % 256 ∷ v % 256 ∷ [] ++ drop (2 * h + 2) u)) ≡ word_sum u + v = omega (arith, replaced, written, empty) in
    let joined : word_sum (with_word (2 * h) v u) ≡ word_sum u + v = ap word_sum (append_assoc (take (2 * h) u) (v / 256 % 256 ∷ v % 256 ∷ []) (drop (2 * h + 2) u)) ∙ whole in
    complement-right (word_sum (with_word (2 * h) v u)) (word_sum u) v some joined is_v

-- a header whose checksum is the complement of the whole sum is right
pub header_with-right : (flow : Flow) (header : List ℕ) → 20 ≤ length header → 0 < slice_index header 0 → IsRight (header_with flow header)
header_with-right flow (b0 ∷ b1 ∷ b2 ∷ b3 ∷ b4 ∷ b5 ∷ b6 ∷ b7 ∷ b8 ∷ b9 ∷ b10 ∷ b11 ∷ b12 ∷ b13 ∷ b14 ∷ b15 ∷ b16 ∷ b17 ∷ b18 ∷ b19 ∷ options) long version =
    let u = header_unsummed flow (b0 ∷ b1 ∷ b2 ∷ b3 ∷ b4 ∷ b5 ∷ b6 ∷ b7 ∷ b8 ∷ b9 ∷ b10 ∷ b11 ∷ b12 ∷ b13 ∷ b14 ∷ b15 ∷ b16 ∷ b17 ∷ b18 ∷ b19 ∷ options) in
    filled-right 5 u (checksum_of u) refl (omega arith) refl (positive-first b0 b1 _ version)
header_with-right flow _ long version = absurd (omega arith)
