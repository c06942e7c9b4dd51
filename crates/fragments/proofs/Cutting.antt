-- What a packet is cut into: each fragment as it is read, and all of them put together again.
use Rattle.std.proofs.Common.{◌≡◌, ◌⊎◌, inl, inr, ℕ, zero, suc, ◌+◌, ◌-◌, ◌*◌, ◌/◌, ◌%◌, ◌<◌, ◌≤◌, Bool, true, false, not, cond, ◌&&◌, ◌||◌, ◌==◌, nat_le, nat_lt, Option, unwrap_or, List, [], ◌++◌, length, map, take, drop, get_or, slice_index, refl, ap, ap₂, ◌∙◌, sym, subst, arith}
use Rattle.std.specs.List.{count_by, find, list_any, range_with_len}
use Rattle.std.proofs.lemmas.Bool.{cases_lt, eq-eqb, eqb-true, le-leb, lt-leb, ne_eqb, or_left, or_right, not_from_false}
use Rattle.std.proofs.lemmas.List.{get_or-drop, get_or-take, length-drop, length-take-le}
use Rattle.std.proofs.lemmas.List.FromFn.{fill_by_all}
use Rattle.byteorder.specs.Numbers.{big_from-lt}
use Rattle.ipv4.specs.Header.{IsIpv4, header_of, options_of, payload_of}
use Rattle.ipv4.specs.Options.{has_source_route}
use Rattle.fragments.specs.Bytes.{AreBytes}
use Rattle.fragments.specs.Cut.{IsCut, IsPiece, cut, identified, is_last_piece, piece, piece_count, piece_fields, piece_options, piece_payload, step_of}
use Rattle.fragments.specs.Fragment.{carried, carries, end_of, first_of, ipv4_in, is_last, more_of, starts}
use Rattle.fragments.specs.Header.{header_with}
use Rattle.fragments.specs.Options.{later_options}
use Rattle.fragments.specs.Whole.{IsComplete, byte_at, first_header_length, is_marked, payload_again, payload_end, reassembled, whole_fields, whole_service}
use Rattle.fragments.proofs.Later.{same_room}
use Rattle.fragments.proofs.Routed.{later-route}
use Rattle.fragments.proofs.Orders.{AreSame, byte_of, byte-found, same-whole}
use Rattle.fragments.proofs.Ranges.{PassesOnce, any-one, counts-none, counts-one}
use Rattle.fragments.proofs.Shares.{FlagsAre, Holds, before, beyond-ends, flag-alone, flags-are, holder, within-ends}
use Rattle.fragments.proofs.Sizes.{Sizes, count, counted, few, last-fits, more-left, payload-size, place-eighths, place-within, sizes, step-fits, step-least, step-left, word-fits}
use Rattle.fragments.proofs.Spelling.{SameHeader, Spelled, Writes, behind-parts, ethernet-parts, header-same, length-header, length-options, length-parts, spelled}
use Rattle.fragments.specs.declared.headers.Fields.{Fields}

-- the bytes of a packet's header and of its payload, of each fragment but the last, and how many fragments there are
abbrev header_size : List ℕ → ℕ
header_size frame = (header_of (ipv4_in frame)).header_length

abbrev bytes_in : List ℕ → List ℕ
bytes_in frame = payload_of (ipv4_in frame)

abbrev step : ℕ → List ℕ → ℕ
step mtu frame = step_of mtu (ipv4_in frame)

abbrev pieces_of : ℕ → List ℕ → ℕ
pieces_of mtu frame = piece_count mtu (ipv4_in frame)

pub record Laid (mtu : ℕ) (frame : List ℕ) : Type 0 where
  pub sized : Sizes mtu (header_size frame) (length (bytes_in frame)) (step mtu frame)
  pub total : header_size frame + length (bytes_in frame) ≡ (header_of (ipv4_in frame)).total_length
  pub counted_is : pieces_of mtu frame ≡ count mtu (header_size frame) (length (bytes_in frame)) (step mtu frame)
  pub short : header_size frame + length (bytes_in frame) < 65536
  pub some : 512 ≤ step mtu frame

bytes-behind : (n : ℕ) (bytes : List ℕ) → AreBytes bytes → AreBytes (drop n bytes)
bytes-behind n bytes are i = subst (λ (x : ℕ). x < 256) (sym (get_or-drop n bytes i 0)) (are (n + i))

pub laid : (mtu identification : ℕ) (frame : List ℕ) → IsCut mtu identification frame → Laid mtu frame
laid mtu identification frame is =
    let right : IsIpv4 (ipv4_in frame) = is.packet.packet in
    let sized = sizes mtu (ipv4_in frame) is.limits right in
    let total = payload-size (ipv4_in frame) right.holds_header right.there in
    let fits = word-fits 2 (ipv4_in frame) (bytes-behind 14 frame is.bytes) in
    record {
      sized = sized;
      total = total;
      counted_is = counted mtu (ipv4_in frame) right;
      short = omega (arith, total, fits);
      some = step-least mtu (header_size frame) (length (bytes_in frame)) (step mtu frame) sized;
    }

-- ---- what the k-th carries
last-is : (mtu : ℕ) (frame : List ℕ) (k : ℕ) → Laid mtu frame → k + 1 ≡ pieces_of mtu frame → is_last_piece mtu (ipv4_in frame) k ≡ true
unfolding is_last_piece
last-is mtu frame k is last =
    let fits = last-fits mtu (header_size frame) (length (bytes_in frame)) (step mtu frame) k is.sized (omega (arith, last, is.counted_is)) in
    le-leb ((header_of (ipv4_in frame)).total_length - k * step mtu frame) mtu (omega (arith, fits, is.total))

more-is : (mtu : ℕ) (frame : List ℕ) (k : ℕ) → Laid mtu frame → k + 1 < pieces_of mtu frame → is_last_piece mtu (ipv4_in frame) k ≡ false
unfolding is_last_piece
more-is mtu frame k is more =
    let long = more-left mtu (header_size frame) (length (bytes_in frame)) (step mtu frame) k is.sized (omega (arith, more, is.counted_is)) in
    lt-leb ((header_of (ipv4_in frame)).total_length - k * step mtu frame) mtu (omega (arith, long, is.total))

last-bytes : (mtu : ℕ) (frame : List ℕ) (k : ℕ) → Laid mtu frame → k + 1 ≡ pieces_of mtu frame → piece_payload mtu (ipv4_in frame) k ≡ drop (k * step mtu frame) (bytes_in frame)
unfolding piece_payload
last-bytes mtu frame k is last =
    let left : List ℕ = drop (k * step mtu frame) (bytes_in frame) in
    ap (λ (b : Bool). cond b left (take (step mtu frame) left)) (last-is mtu frame k is last)

more-bytes : (mtu : ℕ) (frame : List ℕ) (k : ℕ) → Laid mtu frame → k + 1 < pieces_of mtu frame → piece_payload mtu (ipv4_in frame) k ≡ take (step mtu frame) (drop (k * step mtu frame) (bytes_in frame))
unfolding piece_payload
more-bytes mtu frame k is more =
    let left : List ℕ = drop (k * step mtu frame) (bytes_in frame) in
    ap (λ (b : Bool). cond b left (take (step mtu frame) left)) (more-is mtu frame k is more)

-- its bytes lie within the payload, and fit
pub record Share (mtu : ℕ) (frame : List ℕ) (k size : ℕ) : Type 0 where
  pub more : k + 1 < pieces_of mtu frame → (size ≡ step mtu frame) × (k * step mtu frame + step mtu frame < length (bytes_in frame))
  pub last : k + 1 ≡ pieces_of mtu frame → k * step mtu frame + size ≡ length (bytes_in frame)
  pub within : k * step mtu frame ≤ length (bytes_in frame)
  pub fits : header_size frame + size ≤ mtu

share : (mtu : ℕ) (frame : List ℕ) (k : ℕ) → Laid mtu frame → k < pieces_of mtu frame → Share mtu frame k (length (piece_payload mtu (ipv4_in frame) k))
share mtu frame k is there = record {
  more = on;
  last = end;
  within = within;
  fits = fit (cases_lt (k + 1) (pieces_of mtu frame));
}
  where
    within : k * step mtu frame ≤ length (bytes_in frame)
    within = place-within mtu (header_size frame) (length (bytes_in frame)) (step mtu frame) k is.sized (omega (arith, there, is.counted_is))

    left : length (drop (k * step mtu frame) (bytes_in frame)) ≡ length (bytes_in frame) - k * step mtu frame
    left = length-drop (k * step mtu frame) (bytes_in frame)

    on : k + 1 < pieces_of mtu frame → (length (piece_payload mtu (ipv4_in frame) k) ≡ step mtu frame) × (k * step mtu frame + step mtu frame < length (bytes_in frame))
    on more =
        let long = more-left mtu (header_size frame) (length (bytes_in frame)) (step mtu frame) k is.sized (omega (arith, more, is.counted_is)) in
        let reach = step-left mtu (header_size frame) (length (bytes_in frame)) (step mtu frame) k is.sized long in
        (ap length (more-bytes mtu frame k is more) ∙ length-take-le (step mtu frame) (drop (k * step mtu frame) (bytes_in frame)) (omega (arith, reach, left)), reach)

    end : k + 1 ≡ pieces_of mtu frame → k * step mtu frame + length (piece_payload mtu (ipv4_in frame) k) ≡ length (bytes_in frame)
    end last = omega (arith, ap length (last-bytes mtu frame k is last), left, within)

    fit : (k + 1 < pieces_of mtu frame) ⊎ (pieces_of mtu frame ≤ k + 1) → header_size frame + length (piece_payload mtu (ipv4_in frame) k) ≤ mtu
    fit (inl more) = omega (arith, (on more).0, step-fits mtu (header_size frame) (length (bytes_in frame)) (step mtu frame) is.sized)
    fit (inr none) =
        let last : k + 1 ≡ pieces_of mtu frame = omega (arith, none, there) in
        omega (arith, end last, last-fits mtu (header_size frame) (length (bytes_in frame)) (step mtu frame) k is.sized (omega (arith, last, is.counted_is)))

-- ---- the k-th as it is written and read
options-size : (packet : List ℕ) (k : ℕ) → length (piece_options packet k) ≡ length (options_of packet)
unfolding piece_options
options-size packet k = by (k == 0)
  where
    by : (b : Bool) → length (cond b (options_of packet) (later_options (options_of packet))) ≡ length (options_of packet)
    by true = refl
    by false = same_room (options_of packet)

options-route : (packet : List ℕ) (k : ℕ) → has_source_route (piece_options packet k) ≡ has_source_route (options_of packet)
unfolding piece_options
options-route packet k = by (k == 0)
  where
    by : (b : Bool) → has_source_route (cond b (options_of packet) (later_options (options_of packet))) ≡ has_source_route (options_of packet)
    by true = refl
    by false = later-route (options_of packet)

flag-bits : (b : Bool) → (let x : ℕ = cond b 0 0x2000 in x) ≡ 8192 * cond b 0 1
flag-bits true = refl
flag-bits false = refl

flag-small : (b : Bool) → cond b 0 1 ≤ 1
flag-small true = omega arith
flag-small false = omega arith

-- the flags of the k-th, where the packet's flags are `word`
flags-of : (word place : ℕ) (last : Bool) → word < 65536 → word / 8192 % 2 ≡ 0 → word % 8192 ≡ 0 → word / 16384 % 2 ≡ 0 → place < 8192 → FlagsAre word (cond last 0 0x2000) (cond last 0 1) place
flags-of word place last fits more offset allowed small =
    let alone = flag-alone word fits more offset allowed in
    let are : FlagsAre (32768 * (word / 32768)) (8192 * cond last 0 1) (cond last 0 1) place = flags-are (word / 32768) (cond last 0 1) place (omega (arith, fits)) (flag-small last) small in
    subst (λ (w : ℕ). FlagsAre w (cond last 0 0x2000) (cond last 0 1) place) (sym alone)
    (subst (λ (m : ℕ). FlagsAre (32768 * (word / 32768)) m (cond last 0 1) place) (sym (flag-bits last)) are)

piece-flags : (mtu identification : ℕ) (frame : List ℕ) (k : ℕ) → IsCut mtu identification frame → k < pieces_of mtu frame
    → FlagsAre (header_of (ipv4_in frame)).flags_word (cond (is_last_piece mtu (ipv4_in frame) k) 0 0x2000) (cond (is_last_piece mtu (ipv4_in frame) k) 0 1) (k * step mtu frame / 8)
piece-flags mtu identification frame k is there =
    let lay = laid mtu identification frame is in
    let part = share mtu frame k lay there in
    let right : IsIpv4 (ipv4_in frame) = is.packet.packet in
    flags-of (header_of (ipv4_in frame)).flags_word (k * step mtu frame / 8) (is_last_piece mtu (ipv4_in frame) k)
    (word-fits 6 (ipv4_in frame) (bytes-behind 14 frame is.bytes)) right.last right.first is.may_be_cut
    (omega (arith, part.within, lay.short, lay.sized.low))

writes : (mtu identification : ℕ) (frame : List ℕ) (k : ℕ) → IsCut mtu identification frame → k < pieces_of mtu frame
    → Writes (piece_fields mtu identification (ipv4_in frame) k) (ipv4_in frame) (piece_options (ipv4_in frame) k) (piece_payload mtu (ipv4_in frame) k)
unfolding piece_fields
writes mtu identification frame k is there =
    let lay = laid mtu identification frame is in
    let part = share mtu frame k lay there in
    let right : IsIpv4 (ipv4_in frame) = is.packet.packet in
    let options = length-options (ipv4_in frame) right.holds_fields (omega (arith, right.holds_header, right.there)) in
    record {
      version = right.version;
      header = omega (arith, options, options-size (ipv4_in frame) k);
      total = refl;
      fits = omega (arith, part.fits, lay.sized.most);
      identification = is.fits;
      flags = (piece-flags mtu identification frame k is there).fits;
      source = big_from-lt 0 4 (drop 12 (ipv4_in frame)) (bytes-behind 12 (ipv4_in frame) (bytes-behind 14 frame is.bytes));
      destination = big_from-lt 0 4 (drop 16 (ipv4_in frame)) (bytes-behind 16 (ipv4_in frame) (bytes-behind 14 frame is.bytes));
      no_source_route = options-route (ipv4_in frame) k ∙ right.no_source_route;
    }

-- what stands in the k-th behind its Ethernet header
piece-packet : (mtu identification : ℕ) (frame : List ℕ) (k : ℕ) → 14 ≤ length frame
    → ipv4_in (piece mtu identification frame k) ≡ header_with (piece_fields mtu identification (ipv4_in frame) k) (ipv4_in frame) (piece_options (ipv4_in frame) k) ++ piece_payload mtu (ipv4_in frame) k
unfolding piece
piece-packet mtu identification frame k whole =
    behind-parts frame (header_with (piece_fields mtu identification (ipv4_in frame) k) (ipv4_in frame) (piece_options (ipv4_in frame) k)) (piece_payload mtu (ipv4_in frame) k) whole

piece-ethernet : (mtu identification : ℕ) (frame : List ℕ) (k : ℕ) → 14 ≤ length frame → take 14 (piece mtu identification frame k) ≡ take 14 frame
unfolding piece
piece-ethernet mtu identification frame k whole =
    ethernet-parts frame (header_with (piece_fields mtu identification (ipv4_in frame) k) (ipv4_in frame) (piece_options (ipv4_in frame) k)) (piece_payload mtu (ipv4_in frame) k) whole

piece-length : (mtu identification : ℕ) (frame : List ℕ) (k : ℕ) → IsCut mtu identification frame → length (piece mtu identification frame k) ≡ 14 + (header_size frame + length (piece_payload mtu (ipv4_in frame) k))
unfolding piece
piece-length mtu identification frame k is =
    let right : IsIpv4 (ipv4_in frame) = is.packet.packet in
    let options = length-options (ipv4_in frame) right.holds_fields (omega (arith, right.holds_header, right.there)) in
    let written = length-header (piece_fields mtu identification (ipv4_in frame) k) (ipv4_in frame) (piece_options (ipv4_in frame) k) in
    length-parts frame (header_with (piece_fields mtu identification (ipv4_in frame) k) (ipv4_in frame) (piece_options (ipv4_in frame) k)) (piece_payload mtu (ipv4_in frame) k) (header_size frame) (length (piece_payload mtu (ipv4_in frame) k)) is.packet.whole (omega (arith, written, options, options-size (ipv4_in frame) k)) refl

piece-spelled : (mtu identification : ℕ) (frame : List ℕ) (k : ℕ) → IsCut mtu identification frame → k < pieces_of mtu frame
    → Spelled (piece_fields mtu identification (ipv4_in frame) k) (ipv4_in frame) (piece_options (ipv4_in frame) k) (piece_payload mtu (ipv4_in frame) k) (ipv4_in (piece mtu identification frame k))
piece-spelled mtu identification frame k is there =
    subst (λ (bytes : List ℕ). Spelled (piece_fields mtu identification (ipv4_in frame) k) (ipv4_in frame) (piece_options (ipv4_in frame) k) (piece_payload mtu (ipv4_in frame) k) bytes)
    (sym (piece-packet mtu identification frame k is.packet.whole))
    (spelled (piece_fields mtu identification (ipv4_in frame) k) (ipv4_in frame) (piece_options (ipv4_in frame) k) (piece_payload mtu (ipv4_in frame) k) (writes mtu identification frame k is there))

pub record Reads (mtu identification : ℕ) (frame : List ℕ) (k : ℕ) : Type 0 where
  pub first : first_of (piece mtu identification frame k) ≡ k * step mtu frame
  pub more : more_of (piece mtu identification frame k) ≡ cond (is_last_piece mtu (ipv4_in frame) k) 0 1
  pub bytes : carried (piece mtu identification frame k) ≡ piece_payload mtu (ipv4_in frame) k
  pub service : (header_of (ipv4_in (piece mtu identification frame k))).type_of_service ≡ (header_of (ipv4_in frame)).type_of_service
  pub reserved : (header_of (ipv4_in (piece mtu identification frame k))).flags_word / 32768 * 32768 ≡ (header_of (ipv4_in frame)).flags_word

reads : (mtu identification : ℕ) (frame : List ℕ) (k : ℕ) → IsCut mtu identification frame → k < pieces_of mtu frame → Reads mtu identification frame k
unfolding first_of more_of carried piece_fields
reads mtu identification frame k is there =
    let lay = laid mtu identification frame is in
    let is_read = piece-spelled mtu identification frame k is there in
    let flags = piece-flags mtu identification frame k is there in
    let eighths = place-eighths mtu (header_size frame) (length (bytes_in frame)) (step mtu frame) k lay.sized in
    record {
      first = ap (λ (word : ℕ). 8 * (word % 8192)) is_read.flags ∙ (ap (λ (offset : ℕ). 8 * offset) flags.offset ∙ eighths);
      more = ap (λ (word : ℕ). word / 8192 % 2) is_read.flags ∙ flags.more_is;
      bytes = is_read.payload_is;
      service = is_read.service;
      reserved = ap (λ (word : ℕ). word / 32768 * 32768) is_read.flags ∙ flags.reserved;
    }

-- ---- all of them
carries-is : (place first size : ℕ) (f : List ℕ) → first_of f ≡ first → length (carried f) ≡ size → carries place f ≡ (nat_le first place && nat_lt place (first + size))
unfolding carries
carries-is place first size f one two = ap₂ (λ (a b : ℕ). nat_le a place && nat_lt place (a + b)) one two

module _ (mtu identification : ℕ) (frame : List ℕ) (is : IsCut mtu identification frame) where
  lay : Laid mtu frame
  lay = laid mtu identification frame is

  abbrev the : ℕ → List ℕ
  the k = piece mtu identification frame k

  some-pieces : 0 < pieces_of mtu frame
  some-pieces = omega (arith, lay.counted_is)

  size-is : (k : ℕ) → k < pieces_of mtu frame → Share mtu frame k (length (carried (the k)))
  size-is k there = subst (λ (bytes : List ℕ). Share mtu frame k (length bytes)) (sym (reads mtu identification frame k is there).bytes) (share mtu frame k lay there)

  starts-once : PassesOnce starts the (cut mtu identification frame) 0
  starts-once = counts-one starts the 0 (pieces_of mtu frame) 0 (omega arith) (omega (arith, some-pieces))
      (eq-eqb (first_of (the 0)) 0 (omega (arith, (reads mtu identification frame 0 is some-pieces).first)))
      (λ k low high differs. ne_eqb (first_of (the k)) 0 (λ same. later k high differs same))
    where
      later : (k : ℕ) → k < 0 + pieces_of mtu frame → (k ≡ 0 → ⊥) → first_of (the k) ≡ 0 → ⊥
      later k high differs same =
          omega (arith, (reads mtu identification frame k is (omega (arith, high))).first, same, before 0 k (step mtu frame) (omega (arith, differs)), lay.some)

  ends-once : PassesOnce is_last the (cut mtu identification frame) (pieces_of mtu frame - 1)
  ends-once = counts-one is_last the 0 (pieces_of mtu frame) (pieces_of mtu frame - 1) (omega arith) (omega (arith, some-pieces))
      (eq-eqb (more_of (the (pieces_of mtu frame - 1))) 0
      ((reads mtu identification frame (pieces_of mtu frame - 1) is (omega (arith, some-pieces))).more
      ∙ ap (λ (b : Bool). cond b 0 1) (last-is mtu frame (pieces_of mtu frame - 1) lay (omega (arith, some-pieces)))))
      (λ k low high differs. ne_eqb (more_of (the k)) 0 (λ same. earlier k high differs same))
    where
      earlier : (k : ℕ) → k < 0 + pieces_of mtu frame → (k ≡ pieces_of mtu frame - 1 → ⊥) → more_of (the k) ≡ 0 → ⊥
      earlier k high differs same =
          let one : more_of (the k) ≡ 1 = (reads mtu identification frame k is (omega (arith, high))).more ∙ ap (λ (b : Bool). cond b 0 1) (more-is mtu frame k lay (omega (arith, high, differs))) in
          omega (arith, one, same)

  end-is : payload_end (cut mtu identification frame) ≡ length (bytes_in frame)
  unfolding payload_end
  end-is =
      let read = reads mtu identification frame (pieces_of mtu frame - 1) is (omega (arith, some-pieces)) in
      ap (λ (o : Option (List ℕ)). end_of (unwrap_or o [])) ends-once.found
      ∙ omega (arith, read.first, (size-is (pieces_of mtu frame - 1) (omega (arith, some-pieces))).last (omega (arith, some-pieces)))

  -- the byte at a place is carried by one of them
  carries-once : (x : ℕ) → x < length (bytes_in frame) → (j : ℕ) × Holds (pieces_of mtu frame) (step mtu frame) x j × PassesOnce (carries x) the (cut mtu identification frame) j
  carries-once x below = at (subst (λ (m : ℕ). (j : ℕ) × Holds m (step mtu frame) x j) (let e : pieces_of mtu frame - 1 + 1 ≡ pieces_of mtu frame = omega (arith, some-pieces) in e) (holder (pieces_of mtu frame - 1) (step mtu frame) x (omega (arith, lay.some))))
    where
      sized : (k : ℕ) → k < pieces_of mtu frame → (b : Bool) → (nat_le (k * step mtu frame) x && nat_lt x (k * step mtu frame + length (carried (the k)))) ≡ b → carries x (the k) ≡ b
      sized k there b same = carries-is x (k * step mtu frame) (length (carried (the k))) (the k) (reads mtu identification frame k is there).first refl ∙ same

      in-piece : (j : ℕ) → Holds (pieces_of mtu frame) (step mtu frame) x j → (j + 1 < pieces_of mtu frame) ⊎ (pieces_of mtu frame ≤ j + 1) → x < j * step mtu frame + length (carried (the j))
      in-piece j holds (inl more) = omega (arith, ((size-is j holds.there).more more).0, holds.high more)
      in-piece j holds (inr none) = omega (arith, (size-is j holds.there).last (omega (arith, none, holds.there)), below)

      not-in : (j k : ℕ) → Holds (pieces_of mtu frame) (step mtu frame) x j → k < pieces_of mtu frame → (k ≡ j → ⊥) → (k + 1 < pieces_of mtu frame) ⊎ (pieces_of mtu frame ≤ k + 1) → (x < k * step mtu frame) ⊎ (k * step mtu frame + length (carried (the k)) ≤ x)
      not-in j k holds there differs (inl more) =
          elim ((holds.others k there differs).0 more) [
            | inl ahead ↦ inl ahead
            | inr behind ↦ inr (omega (arith, ((size-is k there).more more).0, behind))
          ]
      not-in j k holds there differs (inr none) = inl ((holds.others k there differs).1 (omega (arith, none, there)))

      at : (j : ℕ) × Holds (pieces_of mtu frame) (step mtu frame) x j → (j : ℕ) × Holds (pieces_of mtu frame) (step mtu frame) x j × PassesOnce (carries x) the (cut mtu identification frame) j
      at found =
          let j : ℕ = found.0 in
          let holds : Holds (pieces_of mtu frame) (step mtu frame) x j = found.1 in (
            j,
            holds,
            counts-one (carries x) the 0 (pieces_of mtu frame) j (omega arith) (omega (arith, holds.there))
                (sized j holds.there true (within-ends x (j * step mtu frame) (length (carried (the j))) holds.low (in-piece j holds (cases_lt (j + 1) (pieces_of mtu frame)))))
                (λ k low high differs.
                let there : k < pieces_of mtu frame = omega (arith, high) in
                sized k there false (beyond-ends x (k * step mtu frame) (length (carried (the k))) (not-in j k holds there differs (cases_lt (k + 1) (pieces_of mtu frame))))),
          )

  carried-none : (x : ℕ) → length (bytes_in frame) ≤ x → count_by (carries x) (cut mtu identification frame) ≡ 0
  carried-none x behind = counts-none (carries x) the 0 (pieces_of mtu frame) (λ k low high. beyond k (omega (arith, high)))
    where
      ends : (k : ℕ) → k < pieces_of mtu frame → (k + 1 < pieces_of mtu frame) ⊎ (pieces_of mtu frame ≤ k + 1) → k * step mtu frame + length (carried (the k)) ≤ x
      ends k there (inl more) = omega (arith, ((size-is k there).more more).0, ((size-is k there).more more).1, behind)
      ends k there (inr none) = omega (arith, (size-is k there).last (omega (arith, none, there)), behind)

      beyond : (k : ℕ) → k < pieces_of mtu frame → carries x (the k) ≡ false
      beyond k there =
          carries-is x (k * step mtu frame) (length (carried (the k))) (the k) (reads mtu identification frame k is there).first refl
          ∙ beyond-ends x (k * step mtu frame) (length (carried (the k))) (inr (ends k there (cases_lt (k + 1) (pieces_of mtu frame))))

  complete : IsComplete (cut mtu identification frame)
  complete = record {
    first = starts-once.counted;
    last = ends-once.counted;
    each = λ x below. (carries-once x (omega (arith, below, end-is))).2.counted;
    behind = λ x past. carried-none x (omega (arith, past, end-is));
  }

  -- the byte at a place, as the one has it that carries it
  byte-again : (x : ℕ) → x < length (bytes_in frame) → byte_at (cut mtu identification frame) x ≡ get_or (bytes_in frame) x 0
  unfolding byte_of
  byte-again x below = at (carries-once x below)
    where
      from : (j : ℕ) → Holds (pieces_of mtu frame) (step mtu frame) x j → (j + 1 < pieces_of mtu frame) ⊎ (pieces_of mtu frame ≤ j + 1) → get_or (piece_payload mtu (ipv4_in frame) j) (x - j * step mtu frame) 0 ≡ get_or (bytes_in frame) x 0
      from j holds (inl more) =
          ap (λ (bytes : List ℕ). get_or bytes (x - j * step mtu frame) 0) (more-bytes mtu frame j lay more)
          ∙ get_or-take (step mtu frame) (drop (j * step mtu frame) (bytes_in frame)) (x - j * step mtu frame) 0 (omega (arith, holds.low, holds.high more))
          ∙ get_or-drop (j * step mtu frame) (bytes_in frame) (x - j * step mtu frame) 0
          ∙ ap (λ (i : ℕ). get_or (bytes_in frame) i 0) (let e : j * step mtu frame + (x - j * step mtu frame) ≡ x = omega (arith, holds.low) in e)
      from j holds (inr none) =
          ap (λ (bytes : List ℕ). get_or bytes (x - j * step mtu frame) 0) (last-bytes mtu frame j lay (omega (arith, none, holds.there)))
          ∙ get_or-drop (j * step mtu frame) (bytes_in frame) (x - j * step mtu frame) 0
          ∙ ap (λ (i : ℕ). get_or (bytes_in frame) i 0) (let e : j * step mtu frame + (x - j * step mtu frame) ≡ x = omega (arith, holds.low) in e)

      at : (j : ℕ) × Holds (pieces_of mtu frame) (step mtu frame) x j × PassesOnce (carries x) the (cut mtu identification frame) j → byte_at (cut mtu identification frame) x ≡ get_or (bytes_in frame) x 0
      at found =
          let j : ℕ = found.0 in
          let holds : Holds (pieces_of mtu frame) (step mtu frame) x j = found.1 in
          let read = reads mtu identification frame j is holds.there in
          byte-found (cut mtu identification frame) x
          ∙ ap (byte_of x) found.2.found
          ∙ ap₂ (λ (bytes : List ℕ) (first : ℕ). slice_index bytes (x - first)) read.bytes read.first
          ∙ from j holds (cases_lt (j + 1) (pieces_of mtu frame))

  payload-is : payload_again (cut mtu identification frame) ≡ bytes_in frame
  payload-is =
      ap (λ (n : ℕ). map (byte_at (cut mtu identification frame)) (range_with_len 0 n)) end-is
      ∙ sym (fill_by_all (byte_at (cut mtu identification frame)) (bytes_in frame) (length (bytes_in frame)) 0 refl (λ k below. sym (byte-again k below)))

  -- a mark of congestion is in all of them or in none
  marked-service : (service : ℕ) → service % 4 ≡ 3 → service / 4 * 4 + 3 ≡ service
  marked-service service is_marked = omega (arith, is_marked)

  service-is : whole_service (cut mtu identification frame) ≡ (header_of (ipv4_in frame)).type_of_service
  unfolding whole_service is_marked
  service-is =
      ap (λ (o : Option (List ℕ)). (let s : ℕ = (header_of (ipv4_in (unwrap_or o []))).type_of_service in cond (list_any is_marked (cut mtu identification frame)) (s / 4 * 4 + 3) s)) starts-once.found
      ∙ by (list_any is_marked (cut mtu identification frame)) refl
    where
      first_service : (header_of (ipv4_in (the 0))).type_of_service ≡ (header_of (ipv4_in frame)).type_of_service
      first_service = (reads mtu identification frame 0 is some-pieces).service

      by : (b : Bool) → list_any is_marked (cut mtu identification frame) ≡ b
          → (let s : ℕ = (header_of (ipv4_in (the 0))).type_of_service in cond b (s / 4 * 4 + 3) s) ≡ (header_of (ipv4_in frame)).type_of_service
      by true any =
          let one = any-one is_marked the 0 (pieces_of mtu frame) any in
          let read = reads mtu identification frame one.0 is (omega (arith, one.2)) in
          let three : (header_of (ipv4_in (the one.0))).type_of_service % 4 ≡ 3 = eqb-true ((header_of (ipv4_in (the one.0))).type_of_service % 4) 3 one.3 in
          let service : (header_of (ipv4_in frame)).type_of_service % 4 ≡ 3 = ap (λ (s : ℕ). s % 4) (sym read.service) ∙ three in
          ap (λ (s : ℕ). s / 4 * 4 + 3) first_service ∙ marked-service (header_of (ipv4_in frame)).type_of_service service
      by false none = first_service

  -- the header, and all
  fields-is : whole_fields (cut mtu identification frame) ≡ record {
    service = (header_of (ipv4_in frame)).type_of_service;
    total = (header_of (ipv4_in frame)).total_length;
    identification = identification;
    flags = (header_of (ipv4_in frame)).flags_word;
  }
  unfolding whole_fields first_header_length piece_fields
  fields-is =
      let read = piece-spelled mtu identification frame 0 is some-pieces in
      let first : unwrap_or (find starts (cut mtu identification frame)) [] ≡ the 0 = ap (λ (o : Option (List ℕ)). unwrap_or o []) starts-once.found in
      let size : (header_of (ipv4_in (unwrap_or (find starts (cut mtu identification frame)) []))).header_length ≡ header_size frame = ap (λ (f : List ℕ). (header_of (ipv4_in f)).header_length) first ∙ read.header in
      let number : (header_of (ipv4_in (unwrap_or (find starts (cut mtu identification frame)) []))).identification ≡ identification = ap (λ (f : List ℕ). (header_of (ipv4_in f)).identification) first ∙ read.identification in
      let word : (header_of (ipv4_in (unwrap_or (find starts (cut mtu identification frame)) []))).flags_word / 0x8000 * 0x8000 ≡ (header_of (ipv4_in frame)).flags_word =
      ap (λ (f : List ℕ). (header_of (ipv4_in f)).flags_word / 0x8000 * 0x8000) first ∙ (reads mtu identification frame 0 is some-pieces).reserved in
      made service-is (ap₂ ◌+◌ size end-is ∙ lay.total) number word
    where
      made : {a b c d a2 b2 c2 d2 : ℕ} → a ≡ a2 → b ≡ b2 → c ≡ c2 → d ≡ d2
          → (let x : Fields = record { service = a; total = b; identification = c; flags = d } in x) ≡ record { service = a2; total = b2; identification = c2; flags = d2 }
      made p q r s = cc

  first-options : options_of (ipv4_in (the 0)) ≡ options_of (ipv4_in frame)
  unfolding piece_options
  first-options = (piece-spelled mtu identification frame 0 is some-pieces).options_are

  whole : reassembled (cut mtu identification frame) ≡ identified identification frame
  unfolding reassembled identified
  whole =
      let first : unwrap_or (find starts (cut mtu identification frame)) [] ≡ the 0 = ap (λ (o : Option (List ℕ)). unwrap_or o []) starts-once.found in
      let read = piece-spelled mtu identification frame 0 is some-pieces in
      let same : SameHeader (ipv4_in (the 0)) (ipv4_in frame) = record { first_byte = read.first_byte; ttl = read.ttl; protocol = read.protocol; source = read.source; destination = read.destination } in
      ap (λ (f : List ℕ). take 14 f ++ header_with (whole_fields (cut mtu identification frame)) (ipv4_in f) (options_of (ipv4_in f)) ++ payload_again (cut mtu identification frame)) first
      ∙ ap (λ (e : List ℕ). e ++ header_with (whole_fields (cut mtu identification frame)) (ipv4_in (the 0)) (options_of (ipv4_in (the 0))) ++ payload_again (cut mtu identification frame)) (piece-ethernet mtu identification frame 0 is.packet.whole)
      ∙ ap₂ (λ (header bytes : List ℕ). take 14 frame ++ header ++ bytes) (header-same _ _ _ _ _ _ fields-is same first-options) payload-is

-- what is cut makes the packet again, in whatever order it comes
pub again : (mtu identification : ℕ) (frame : List ℕ) (others : List (List ℕ)) → IsCut mtu identification frame → AreSame (cut mtu identification frame) others → reassembled others ≡ identified identification frame
again mtu identification frame others is same = same-whole (cut mtu identification frame) others same (complete mtu identification frame is) ∙ whole mtu identification frame is

pub complete-cut : (mtu identification : ℕ) (frame : List ℕ) → IsCut mtu identification frame → IsComplete (cut mtu identification frame)
complete-cut = complete

pub few-pieces : (mtu identification : ℕ) (frame : List ℕ) → IsCut mtu identification frame → piece_count mtu (ipv4_in frame) ≤ 128
few-pieces mtu identification frame is =
    let lay = laid mtu identification frame is in
    omega (arith, lay.counted_is, few mtu (header_size frame) (length (bytes_in frame)) (step mtu frame) lay.sized lay.short)

part-of : (more offset : ℕ) → (more ≡ 1) ⊎ (0 < offset) → (not (more == 0) || not (offset == 0)) ≡ true
part-of more offset (inl one) = or_left _ _ (not_from_false (more == 0) (ne_eqb more 0 (λ none. omega (arith, one, none))))
part-of more offset (inr some) = or_right _ _ (not_from_false (offset == 0) (ne_eqb offset 0 (λ none. omega (arith, some, none))))

pub piece-is : (mtu identification : ℕ) (frame : List ℕ) (k : ℕ) → IsCut mtu identification frame → k < piece_count mtu (ipv4_in frame) → IsPiece mtu identification frame k
unfolding first_of more_of
piece-is mtu identification frame k is there =
    let lay = laid mtu identification frame is in
    let part = share mtu frame k lay there in
    let read = reads mtu identification frame k is there in
    let header = (piece-spelled mtu identification frame k is there).right in
    let size = piece-length mtu identification frame k is in
    record {
      header = header;
      short = omega (arith, size, part.fits);
      part = λ several. record { whole = omega (arith, size); header = header; part = part-of _ _ (either lay read several k there refl) };
      full = λ more. omega (arith, size, (part.more more).0, lay.sized.step, lay.sized.high, lay.sized.least);
      eighths = λ more. omega (arith, (part.more more).0, lay.sized.step);
    }
  where
    either : Laid mtu frame → Reads mtu identification frame k → 1 < piece_count mtu (ipv4_in frame) → (n : ℕ) → n < piece_count mtu (ipv4_in frame) → k ≡ n
        → ((header_of (ipv4_in (piece mtu identification frame k))).more_fragments ≡ 1) ⊎ (0 < (header_of (ipv4_in (piece mtu identification frame k))).fragment_offset)
    either lay read several zero below same = inl (read.more ∙ ap (λ (b : Bool). cond b 0 1) (more-is mtu frame k lay (omega (arith, same, several))))
    either lay read several (suc n) below same = inr (omega (arith, read.first, before 0 k (step mtu frame) (omega (arith, same)), lay.some))
