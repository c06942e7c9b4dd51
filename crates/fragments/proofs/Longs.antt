-- Frames that have to be cut, and the pieces in which frames go out.
use Rattle.std.proofs.Common.{◌≡◌, ◌≤◌, ◌<◌, ◌+◌, ◌/◌, ◌%◌, ℕ, zero, suc, Bool, true, false, cond, not, ◌&&◌, ◌||◌, ◌==◌, nat_le, nat_lt, is_none, List, [], ◌∷◌, length, map, take, drop, ap, ◌∙◌, sym, subst, arith, Option}
use Rattle.std.specs.List.{AllByRecursion, range_with_len}
use Rattle.std.proofs.lemmas.Bool.Decides.{nat_tests}
use Rattle.std.proofs.lemmas.List.{drop_more, get_or-drop}
use Rattle.std.proofs.lemmas.List.FromFn.{get_or-map-range_with_len, length-map-range_with_len}
use Rattle.sums.specs.Sum.{word_sum}
use Rattle.frames.specs.Frame.{frame_of}
use Rattle.ipv4.specs.Order.{first_fault}
use Rattle.ipv4.specs.Header.{IsIpv4, has_wrong_sum, header_of, ipv4_refusal, is_unbroken, options_of}
use Rattle.ipv4.specs.Options.{has_source_route}
use Rattle.ipv4.specs.declared.faults.Ipv4Fault.{Ipv4Fault}
use Rattle.ipv4.specs.declared.faults.Ipv4Fault.TheVariants.{TooShort, BadVersion, BadLength, BadHeaderSum, SourceRoute, Fragment}
use Rattle.fragments.specs.Bytes.{AreBytes}
use Rattle.fragments.specs.Cut.{IsCut, IsMtu, IsIpv4Frame, MayBeCut, cut, identified, is_cuttable, is_long, piece, piece_count, pieces}
use Rattle.fragments.specs.Fragment.{ipv4_in}
use Rattle.fragments.specs.Whole.{IsComplete, reassembled}
use Rattle.fragments.proofs.Cutting.{again, complete-cut, few-pieces, piece-is}
use Rattle.fragments.proofs.Orders.{AreSame}
use Rattle.fragments.proofs.Sizes.{word-fits}

-- ---- a whole packet, by its tests on numbers in the place of bytes
abbrev refusal : (long version size total more offset : ℕ) → (wrong routed : Bool) → Option Ipv4Fault
refusal long version size total more offset wrong routed =
    first_fault (
    (nat_lt long 20, TooShort)
    ∷ (not (version == 4) || nat_lt size 20, BadVersion)
    ∷ (nat_lt total size || nat_lt long total, BadLength)
    ∷ (wrong, BadHeaderSum)
    ∷ (routed, SourceRoute)
    ∷ (not (more == 0) || not (offset == 0), Fragment)
    ∷ [])

record IsWhole (long version size total more offset : ℕ) (wrong routed : Bool) : Type 0 where
  pub fixed : 20 ≤ long
  pub version_four : version ≡ 4
  pub fields : 20 ≤ size
  pub header : size ≤ total
  pub there : total ≤ long
  pub sum : wrong ≡ false
  pub no_source_route : routed ≡ false
  pub last : more ≡ 0
  pub first : offset ≡ 0

whole : (long version size total more offset : ℕ) (wrong routed : Bool) → is_none (refusal long version size total more offset wrong routed) ≡ true → IsWhole long version size total more offset wrong routed
whole long version size total more offset wrong routed e =
    let a : 20 ≤ long = grind (arith, nat_tests) in
    let b : version ≡ 4 = grind (arith, nat_tests) in
    let c : 20 ≤ size = grind (arith, nat_tests) in
    let d : size ≤ total = grind (arith, nat_tests) in
    let f : total ≤ long = grind (arith, nat_tests) in
    let g : wrong ≡ false = grind (arith, nat_tests) in
    let h : routed ≡ false = grind (arith, nat_tests) in
    let i : more ≡ 0 = grind (arith, nat_tests) in
    let j : offset ≡ 0 = grind (arith, nat_tests) in
    record { fixed = a; version_four = b; fields = c; header = d; there = f; sum = g; no_source_route = h; last = i; first = j }

right : (n : ℕ) → (not (n % 65535 == 0) || (n == 0)) ≡ false → (n % 65535 ≡ 0) × (0 < n)
right n e = grind (arith, nat_tests)

pub whole-packet : (packet : List ℕ) → is_none (ipv4_refusal packet) ≡ true → IsIpv4 packet
whole-packet packet e =
    let size : ℕ = (header_of packet).header_length in
    let p = whole (length packet) (header_of packet).version size (header_of packet).total_length (header_of packet).more_fragments (header_of packet).fragment_offset (has_wrong_sum (take size packet)) (has_source_route (options_of packet)) e in
    record {
      long = p.fixed;
      version = p.version_four;
      holds_fields = p.fields;
      holds_header = p.header;
      there = p.there;
      sum = right (word_sum (take size packet)) p.sum;
      no_source_route = p.no_source_route;
      last = p.last;
      first = p.first;
    }

-- ---- a frame that has to be cut
record Passes (mtu long kind total flag : ℕ) (packet : Bool) : Type 0 where
  pub over : 14 + mtu < long
  pub framed : 14 ≤ long
  pub packet_is : packet ≡ true
  pub size : long ≡ 14 + total
  pub may : flag ≡ 0

passes : (mtu long kind total flag : ℕ) (packet : Bool) → (nat_lt (14 + mtu) long && (nat_le 14 long && (kind == 2048) && packet && (long == 14 + total) && (flag == 0))) ≡ true → Passes mtu long kind total flag packet
passes mtu long kind total flag packet e =
    let a : 14 + mtu < long = grind (arith, nat_tests) in
    let b : 14 ≤ long = grind (arith, nat_tests) in
    let c : packet ≡ true = grind (arith, nat_tests) in
    let d : long ≡ 14 + total = grind (arith, nat_tests) in
    let f : flag ≡ 0 = grind (arith, nat_tests) in
    record { over = a; framed = b; packet_is = c; size = d; may = f }

pub record IsLong (mtu : ℕ) (frame : List ℕ) : Type 0 where
  pub over : 14 + mtu < length frame
  pub packet : IsIpv4Frame frame
  pub unpadded : length frame ≡ 14 + (header_of (ipv4_in frame)).total_length
  pub may_be_cut : MayBeCut frame

pub long-is : (mtu : ℕ) (frame : List ℕ) → is_long mtu frame ≡ true → IsLong mtu frame
unfolding is_long is_cuttable
long-is mtu frame e =
    let p = passes mtu (length frame) (frame_of frame).ethertype (header_of (ipv4_in frame)).total_length ((header_of (ipv4_in frame)).flags_word / 0x4000 % 2) (is_none (ipv4_refusal (ipv4_in frame))) e in
    record {
      over = p.over;
      packet = record { whole = p.framed; packet = whole-packet (ipv4_in frame) p.packet_is };
      unpadded = p.size;
      may_be_cut = p.may;
    }

abbrev identification_of : List ℕ → ℕ
identification_of frame = (header_of (ipv4_in frame)).identification

pub long-cut : (mtu : ℕ) (frame : List ℕ) → IsMtu mtu → AreBytes frame → is_long mtu frame ≡ true → IsCut mtu (identification_of frame) frame
long-cut mtu frame limits bytes e =
    let is = long-is mtu frame e in
    record {
      packet = is.packet;
      bytes = bytes;
      may_be_cut = is.may_be_cut;
      limits = limits;
      fits = word-fits 4 (ipv4_in frame) (behind 14 frame bytes);
    }
  where
    behind : (n : ℕ) (xs : List ℕ) → AreBytes xs → AreBytes (drop n xs)
    behind n xs are i = subst (λ (x : ℕ). x < 256) (sym (get_or-drop n xs i 0)) (are (n + i))

-- the last test of such a frame, on numbers
pub last-test : (long kind total word : ℕ) (packet : Bool) → 14 ≤ long → kind ≡ 2048 → packet ≡ true → long ≡ 14 + total
    → not (word % 2 == 1) ≡ (nat_le 14 long && (kind == 2048) && packet && (long == 14 + total) && (word % 2 == 0))
last-test long kind total word packet framed type_is packet_is size = grind (arith, nat_tests)

pub cuttable-is : (frame : List ℕ) → 14 ≤ length frame → (frame_of frame).ethertype ≡ 2048 → is_none (ipv4_refusal (ipv4_in frame)) ≡ true → length frame ≡ 14 + (header_of (ipv4_in frame)).total_length
    → not (is_unbroken (ipv4_in frame)) ≡ is_cuttable frame
unfolding is_cuttable is_unbroken
cuttable-is frame framed type_is packet_is size =
    last-test (length frame) (frame_of frame).ethertype (header_of (ipv4_in frame)).total_length ((header_of (ipv4_in frame)).flags_word / 0x4000) (is_none (ipv4_refusal (ipv4_in frame))) framed type_is packet_is size

-- ---- its pieces
pub long-pieces : (mtu : ℕ) (frame : List ℕ) → is_long mtu frame ≡ true → pieces mtu frame ≡ cut mtu (identification_of frame) frame
long-pieces mtu frame e = ap (λ (b : Bool). cond b (cut mtu (identification_of frame) frame) (frame ∷ [])) e

pub short-pieces : (mtu : ℕ) (frame : List ℕ) → is_long mtu frame ≡ false → pieces mtu frame ≡ frame ∷ []
short-pieces mtu frame e = ap (λ (b : Bool). cond b (cut mtu (identification_of frame) frame) (frame ∷ [])) e

pub count-cut : (mtu identification : ℕ) (frame : List ℕ) → length (cut mtu identification frame) ≡ piece_count mtu (ipv4_in frame)
count-cut mtu identification frame = length-map-range_with_len (piece mtu identification frame) 0 (piece_count mtu (ipv4_in frame))

pub count-pieces : (mtu : ℕ) (frame : List ℕ) → is_long mtu frame ≡ true → length (pieces mtu frame) ≡ piece_count mtu (ipv4_in frame)
count-pieces mtu frame e = ap length (long-pieces mtu frame e) ∙ count-cut mtu (identification_of frame) frame

pub some-pieces : (mtu : ℕ) (frame : List ℕ) → 1 ≤ piece_count mtu (ipv4_in frame)
unfolding piece_count
some-pieces mtu frame = omega arith

pub next-cut : (mtu identification : ℕ) (frame : List ℕ) (k : ℕ) → k < piece_count mtu (ipv4_in frame)
    → drop k (cut mtu identification frame) ≡ piece mtu identification frame k ∷ drop (k + 1) (cut mtu identification frame)
next-cut mtu identification frame k there =
    drop_more (cut mtu identification frame) k [] (omega (arith, count-cut mtu identification frame, there))
    ∙ ap (λ (x : List ℕ). x ∷ drop (k + 1) (cut mtu identification frame))
    (get_or-map-range_with_len (piece mtu identification frame) 0 (piece_count mtu (ipv4_in frame)) k k [] there (omega arith))

pub next-long : (mtu : ℕ) (frame : List ℕ) (k : ℕ) → is_long mtu frame ≡ true → k < length (pieces mtu frame)
    → drop k (pieces mtu frame) ≡ piece mtu (identification_of frame) frame k ∷ drop (k + 1) (pieces mtu frame)
next-long mtu frame k e there =
    let are = long-pieces mtu frame e in
    ap (λ (all : List (List ℕ)). drop k all) are
    ∙ next-cut mtu (identification_of frame) frame k (omega (arith, there, count-pieces mtu frame e))
    ∙ ap (λ (all : List (List ℕ)). piece mtu (identification_of frame) frame k ∷ drop (k + 1) all) (sym are)

pub next-short : (mtu : ℕ) (frame : List ℕ) (k : ℕ) → is_long mtu frame ≡ false → k < length (pieces mtu frame)
    → drop k (pieces mtu frame) ≡ frame ∷ drop (k + 1) (pieces mtu frame)
next-short mtu frame k e there =
    let are = short-pieces mtu frame e in
    let none : k ≡ 0 = omega (arith, there, ap length are) in
    ap (λ (all : List (List ℕ)). drop k all) are
    ∙ ap (λ (n : ℕ). drop n (frame ∷ [])) none
    ∙ ap (λ (n : ℕ). frame ∷ drop (n + 1) (frame ∷ [])) (sym none)
    ∙ ap (λ (all : List (List ℕ)). frame ∷ drop (k + 1) all) (sym are)

-- ---- what they are
pub long-complete : (mtu : ℕ) (frame : List ℕ) → IsMtu mtu → AreBytes frame → is_long mtu frame ≡ true → IsComplete (pieces mtu frame)
long-complete mtu frame limits bytes e =
    subst IsComplete (sym (long-pieces mtu frame e)) (complete-cut mtu (identification_of frame) frame (long-cut mtu frame limits bytes e))

pub long-again : (mtu : ℕ) (frame : List ℕ) (others : List (List ℕ)) → IsMtu mtu → AreBytes frame → is_long mtu frame ≡ true → AreSame (pieces mtu frame) others
    → reassembled others ≡ identified (identification_of frame) frame
long-again mtu frame others limits bytes e same =
    again mtu (identification_of frame) frame others (long-cut mtu frame limits bytes e)
    (subst (λ (all : List (List ℕ)). AreSame all others) (long-pieces mtu frame e) same)

pub long-few : (mtu : ℕ) (frame : List ℕ) → IsMtu mtu → AreBytes frame → is_long mtu frame ≡ true → length (pieces mtu frame) ≤ 128
long-few mtu frame limits bytes e =
    omega (arith, count-pieces mtu frame e, few-pieces mtu (identification_of frame) frame (long-cut mtu frame limits bytes e))

all-items : (P : List ℕ → Type 0) (f : ℕ → List ℕ) (a n : ℕ) → ((k : ℕ) → k < a + n → P (f k)) → AllByRecursion P (map f (range_with_len a n))
all-items P f a zero each = tt
all-items P f a (suc n) each = (each a (omega arith), all-items P f (a + 1) n (λ k below. each k (omega (arith, below))))

pub long-short : (mtu : ℕ) (frame : List ℕ) → IsMtu mtu → AreBytes frame → is_long mtu frame ≡ true → AllByRecursion (λ f. length f ≤ 14 + mtu) (pieces mtu frame)
long-short mtu frame limits bytes e =
    let is = long-cut mtu frame limits bytes e in
    subst (λ (all : List (List ℕ)). AllByRecursion (λ f. length f ≤ 14 + mtu) all) (sym (long-pieces mtu frame e))
    (all-items (λ f. length f ≤ 14 + mtu) (piece mtu (identification_of frame) frame) 0 (piece_count mtu (ipv4_in frame))
    (λ k there. (piece-is mtu (identification_of frame) frame k is (omega (arith, there))).short))
