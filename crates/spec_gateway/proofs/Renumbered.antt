-- A long frame that was given another identification is as long, and its pieces have that identification.
use Rattle.std.proofs.Common.{◌≡◌, ◌≤◌, ◌<◌, ◌↔◌, ◌+◌, ◌-◌, ◌*◌, ◌/◌, ◌%◌, ℕ, Bool, true, cond, ◌&&◌, ◌==◌, nat_le, nat_lt, is_none, Option, None, List, [], ◌∷◌, ◌++◌, length, map, take, drop, refl, ap, ap₂, ◌∙◌, sym, subst, arith, length-drop}
use Rattle.std.specs.List.{range_with_len}
use Rattle.std.proofs.lemmas.Bool.Decides.{nat_tests}
use Rattle.std.proofs.lemmas.List.{drop-take, get_or-drop, length-take-le}
use Rattle.byteorder.specs.Endian.{big_number}
use Rattle.byteorder.specs.Numbers.{big_from-lt}
use Rattle.frames.specs.Frame.{frame_of}
use Rattle.ipv4.specs.Header.{IsIpv4, header_of, ipv4_refusal, options_of, payload_of}
use Rattle.fragments.specs.Bytes.{AreBytes}
use Rattle.fragments.specs.Cut.{cut, identified, is_cuttable, is_last_piece, is_long, numbered_fields, piece, piece_count, piece_fields, piece_options, piece_payload, pieces, step_of}
use Rattle.fragments.specs.Fragment.{ipv4_in}
use Rattle.fragments.specs.Header.{header_with}
use Rattle.fragments.specs.Options.{later_options}
use Rattle.fragments.proofs.Offered.{IsLong, SameHeader, Spelled, Writes, behind-parts, ethernet-parts, header-same, length-header, length-options, length-parts, long-is, long-pieces, spelled, word-fits}

bytes-behind : (n : ℕ) (bytes : List ℕ) → AreBytes bytes → AreBytes (drop n bytes)
bytes-behind n bytes are i = subst (λ (x : ℕ). x < 256) (sym (get_or-drop n bytes i 0)) (are (n + i))

payload-size : (p : List ℕ) (h t : ℕ) → h ≤ t → t ≤ length p → h + length (take (t - h) (drop h p)) ≡ t
payload-size p h t holds there = omega (arith, length-take-le (t - h) (drop h p) (omega (arith, length-drop h p, holds, there)), holds)

-- what is read of the packet with the other identification
pub record Alike (n : ℕ) (p q : List ℕ) : Type 0 where
  pub identification : (header_of q).identification ≡ n
  pub service : (header_of q).type_of_service ≡ (header_of p).type_of_service
  pub flags : (header_of q).flags_word ≡ (header_of p).flags_word
  pub header : (header_of q).header_length ≡ (header_of p).header_length
  pub total : (header_of q).total_length ≡ (header_of p).total_length
  pub same : SameHeader q p
  pub options_are : options_of q ≡ options_of p
  pub payload_is : payload_of q ≡ payload_of p
  pub right : IsIpv4 q

module _ (mtu n : ℕ) (frame : List ℕ) (bytes : AreBytes frame) (fits : n < 65536) (is : IsLong mtu frame) where
  abbrev p : List ℕ
  p = ipv4_in frame

  abbrev made : List ℕ
  made = identified n frame

  abbrev q : List ℕ
  q = ipv4_in made

  abbrev right : IsIpv4 p
  right = is.packet.packet

  size : (header_of p).header_length + length (payload_of p) ≡ (header_of p).total_length
  size = payload-size p (header_of p).header_length (header_of p).total_length right.holds_header right.there

  options : 20 + length (options_of p) ≡ (header_of p).header_length
  options = length-options p right.holds_fields (omega (arith, right.holds_header, right.there))

  writes : Writes (numbered_fields n p) p (options_of p) (payload_of p)
  writes = record {
    version = right.version;
    header = sym options;
    total = sym size;
    fits = word-fits 2 p (bytes-behind 14 frame bytes);
    identification = fits;
    flags = word-fits 6 p (bytes-behind 14 frame bytes);
    source = big_from-lt 0 4 (drop 12 p) (bytes-behind 12 p (bytes-behind 14 frame bytes));
    destination = big_from-lt 0 4 (drop 16 p) (bytes-behind 16 p (bytes-behind 14 frame bytes));
    no_source_route = right.no_source_route;
  }

  packet-is : q ≡ header_with (numbered_fields n p) p (options_of p) ++ payload_of p
  unfolding identified
  packet-is = behind-parts frame (header_with (numbered_fields n p) p (options_of p)) (payload_of p) is.packet.whole

  ethernet-is : take 14 made ≡ take 14 frame
  unfolding identified
  ethernet-is = ethernet-parts frame (header_with (numbered_fields n p) p (options_of p)) (payload_of p) is.packet.whole

  length-is : length made ≡ length frame
  unfolding identified
  length-is =
      omega (arith, length-parts frame (header_with (numbered_fields n p) p (options_of p)) (payload_of p) (header_of p).header_length (length (payload_of p)) is.packet.whole (omega (arith, length-header (numbered_fields n p) p (options_of p), options)) refl, size, is.unpadded)

  read : Spelled (numbered_fields n p) p (options_of p) (payload_of p) q
  read = subst (λ (x : List ℕ). Spelled (numbered_fields n p) p (options_of p) (payload_of p) x) (sym packet-is) (spelled (numbered_fields n p) p (options_of p) (payload_of p) writes)

  total-is : (header_of q).total_length ≡ (header_of p).total_length
  total-is =
      omega (arith, payload-size q (header_of q).header_length (header_of q).total_length read.right.holds_header read.right.there, ap length read.payload_is, read.header, size)

  pub alike : Alike n p q
  alike = record {
    identification = read.identification;
    service = read.service;
    flags = read.flags;
    header = read.header;
    total = total-is;
    same = record { first_byte = read.first_byte; ttl = read.ttl; protocol = read.protocol; source = read.source; destination = read.destination };
    options_are = read.options_are;
    payload_is = read.payload_is;
    right = record {
      long = read.right.long;
      version = read.right.version;
      holds_fields = read.right.holds_fields;
      holds_header = read.right.holds_header;
      there = read.right.there;
      sum = read.right.sum;
      no_source_route = read.right.no_source_route;
      last = ap (λ (word : ℕ). word / 8192 % 2) read.flags ∙ right.last;
      first = ap (λ (word : ℕ). word % 8192) read.flags ∙ right.first;
    };
  }

-- ---- it is as long
kind-of : (bytes : List ℕ) → big_number 2 (take 2 bytes) ≡ big_number 2 bytes
kind-of [] = refl
kind-of (a ∷ []) = refl
kind-of (a ∷ b ∷ rest) = refl

kind-is : (bytes : List ℕ) → (frame_of bytes).ethertype ≡ big_number 2 (drop 12 (take 14 bytes))
kind-is bytes = sym (kind-of (drop 12 bytes)) ∙ ap (λ (xs : List ℕ). big_number 2 xs) (sym (drop-take 12 2 bytes))

-- the tests of a long frame, on numbers
passed : (mtu long kind total flag : ℕ) (packet : Bool) → 14 + mtu < long → kind ≡ 2048 → packet ≡ true → long ≡ 14 + total → flag ≡ 0
    → (nat_lt (14 + mtu) long && (nat_le 14 long && (kind == 2048) && packet && (long == 14 + total) && (flag == 0))) ≡ true
passed mtu long kind total flag packet over type_is packet_is size may = grind (arith, nat_tests)

type-of : (mtu long kind total flag : ℕ) (packet : Bool) → (nat_lt (14 + mtu) long && (nat_le 14 long && (kind == 2048) && packet && (long == 14 + total) && (flag == 0))) ≡ true → kind ≡ 2048
type-of mtu long kind total flag packet e = grind (arith, nat_tests)

no-refusal : {X : Type 0} (o : Option X) → o ≡ None → is_none o ≡ true
no-refusal o none = ap is_none none

abbrev pub Whole : Type 0
Whole = (packet : List ℕ) → (ipv4_refusal packet ≡ None) ↔ IsIpv4 packet

pub stays-long : Whole → (mtu n : ℕ) (frame : List ℕ) → AreBytes frame → n < 65536 → is_long mtu frame ≡ true → is_long mtu (identified n frame) ≡ true
unfolding is_long is_cuttable
stays-long grammar mtu n frame bytes fits long =
    let is = long-is mtu frame long in
    let other = alike mtu n frame bytes fits is in
    let kind : (frame_of frame).ethertype ≡ 2048 = type-of mtu (length frame) (frame_of frame).ethertype (header_of (ipv4_in frame)).total_length ((header_of (ipv4_in frame)).flags_word / 0x4000 % 2) (is_none (ipv4_refusal (ipv4_in frame))) long in
    let kept : (frame_of (identified n frame)).ethertype ≡ (frame_of frame).ethertype =
    kind-is (identified n frame) ∙ ap (λ (xs : List ℕ). big_number 2 (drop 12 xs)) (ethernet-is mtu n frame bytes fits is) ∙ sym (kind-is frame) in
    passed mtu (length (identified n frame)) (frame_of (identified n frame)).ethertype (header_of (ipv4_in (identified n frame))).total_length ((header_of (ipv4_in (identified n frame))).flags_word / 0x4000 % 2) (is_none (ipv4_refusal (ipv4_in (identified n frame))))
    (omega (arith, is.over, length-is mtu n frame bytes fits is))
    (kept ∙ kind)
    (no-refusal (ipv4_refusal (ipv4_in (identified n frame))) ((grammar (ipv4_in (identified n frame))).1 other.right))
    (omega (arith, is.unpadded, length-is mtu n frame bytes fits is, other.total))
    (ap (λ (word : ℕ). word / 0x4000 % 2) other.flags ∙ is.may_be_cut)

-- ---- its pieces
step-alike : (mtu n : ℕ) (p q : List ℕ) → Alike n p q → step_of mtu q ≡ step_of mtu p
unfolding step_of
step-alike mtu n p q is = ap (λ (h : ℕ). (mtu - h) / 8 * 8) is.header

count-alike : (mtu n : ℕ) (p q : List ℕ) → Alike n p q → piece_count mtu q ≡ piece_count mtu p
unfolding piece_count
count-alike mtu n p q is = ap₂ (λ (t step : ℕ). (t - mtu + (step - 1)) / step + 1) is.total (step-alike mtu n p q is)

last-alike : (mtu n : ℕ) (p q : List ℕ) (k : ℕ) → Alike n p q → is_last_piece mtu q k ≡ is_last_piece mtu p k
unfolding is_last_piece
last-alike mtu n p q k is = ap₂ (λ (t step : ℕ). nat_le (t - k * step) mtu) is.total (step-alike mtu n p q is)

payload-alike : (mtu n : ℕ) (p q : List ℕ) (k : ℕ) → Alike n p q → piece_payload mtu q k ≡ piece_payload mtu p k
unfolding piece_payload
payload-alike mtu n p q k is =
    ap₂ (λ (step : ℕ) (bytes : List ℕ). let left : List ℕ = drop (k * step) bytes in cond (is_last_piece mtu q k) left (take step left)) (step-alike mtu n p q is) is.payload_is
    ∙ ap (λ (b : Bool). let left : List ℕ = drop (k * step_of mtu p) (payload_of p) in cond b left (take (step_of mtu p) left)) (last-alike mtu n p q k is)

options-alike : (n : ℕ) (p q : List ℕ) (k : ℕ) → Alike n p q → piece_options q k ≡ piece_options p k
unfolding piece_options
options-alike n p q k is = ap (λ (options : List ℕ). cond (k == 0) options (later_options options)) is.options_are

fields-alike : (mtu n : ℕ) (p q : List ℕ) (k : ℕ) → Alike n p q → piece_fields mtu n q k ≡ piece_fields mtu n p k
unfolding piece_fields
fields-alike mtu n p q k is =
    let service = is.service in
    let total = ap₂ (λ (h : ℕ) (bytes : List ℕ). h + length bytes) is.header (payload-alike mtu n p q k is) in
    let flags = ap₂ (λ (x y : ℕ). x + y) (ap₂ (λ (word : ℕ) (b : Bool). word + cond b 0 0x2000) is.flags (last-alike mtu n p q k is)) (ap (λ (step : ℕ). k * step / 8) (step-alike mtu n p q is)) in
    cc

piece-alike : (mtu n : ℕ) (frame : List ℕ) (bytes : AreBytes frame) (fits : n < 65536) (is : IsLong mtu frame) (k : ℕ) → piece mtu n (identified n frame) k ≡ piece mtu n frame k
unfolding piece
piece-alike mtu n frame bytes fits is k =
    let other = alike mtu n frame bytes fits is in
    let p : List ℕ = ipv4_in frame in
    let q : List ℕ = ipv4_in (identified n frame) in
    ap (λ (e : List ℕ). e ++ header_with (piece_fields mtu n q k) q (piece_options q k) ++ piece_payload mtu q k) (ethernet-is mtu n frame bytes fits is)
    ∙ ap₂ (λ (header payload : List ℕ). take 14 frame ++ header ++ payload)
    (header-same (piece_fields mtu n q k) (piece_fields mtu n p k) q p (piece_options q k) (piece_options p k) (fields-alike mtu n p q k other) other.same (options-alike n p q k other))
    (payload-alike mtu n p q k other)

map-same : (f g : ℕ → List ℕ) (xs : List ℕ) → ((k : ℕ) → f k ≡ g k) → map f xs ≡ map g xs
map-same f g [] same = refl
map-same f g (x ∷ xs) same = ap₂ (λ (y : List ℕ) (ys : List (List ℕ)). y ∷ ys) (same x) (map-same f g xs same)

pub numbered-pieces : Whole → (mtu n : ℕ) (frame : List ℕ) → AreBytes frame → n < 65536 → is_long mtu frame ≡ true → pieces mtu (identified n frame) ≡ cut mtu n frame
numbered-pieces grammar mtu n frame bytes fits long =
    let is = long-is mtu frame long in
    let other = alike mtu n frame bytes fits is in
    long-pieces mtu (identified n frame) (stays-long grammar mtu n frame bytes fits long)
    ∙ ap (λ (m : ℕ). cut mtu m (identified n frame)) other.identification
    ∙ ap (λ (c : ℕ). map (piece mtu n (identified n frame)) (range_with_len 0 c)) (count-alike mtu n (ipv4_in frame) (ipv4_in (identified n frame)) other)
    ∙ map-same (piece mtu n (identified n frame)) (piece mtu n frame) (range_with_len 0 (piece_count mtu (ipv4_in frame))) (λ k. piece-alike mtu n frame bytes fits is k)
