-- What is kept of frames that are bytes is bytes, and so is a whole frame that is made of them.
use Rattle.std.proofs.Common.{◌≡◌, ◌⊎◌, inl, inr, ℕ, zero, suc, ◌+◌, ◌-◌, ◌*◌, ◌/◌, ◌<◌, ◌≤◌, Bool, true, false, cond, Option, Some, None, unwrap_or, List, [], ◌∷◌, ◌++◌, length, map, take, drop, slice_index, refl, sym, subst, arith}
use Rattle.std.specs.Option.{IfSome}
use Rattle.std.specs.List.{AllByRecursion, find, list_any, range_with_len}
use Rattle.std.proofs.lemmas.Bool.{cases_lt}
use Rattle.std.proofs.lemmas.List.{get_or-append_right, get_or-drop, get_or-take, get_or_append_left, get_or_past, length-take}
use Rattle.byteorder.specs.Endian.{big_bytes}
use Rattle.nat_types.specs.declared.gateways.Side.{Side}
use Rattle.nat_types.specs.declared.gateways.Side.TheVariants.{Inside, Outside}
use Rattle.sums.specs.Sum.{checksum_of}
use Rattle.ipv4.specs.Header.{header_of, options_of}
use Rattle.fragments.specs.Bytes.{AreBytes, HaveBytes, KeepsBytes}
use Rattle.fragments.specs.Fragment.{carried, carries, first_of, ipv4_in, is_broken, starts, trimmed}
use Rattle.fragments.specs.Gathered.{Datagram, Gathered, Taking, after, after_end, after_join, arrived, effect_of, ended, is_named, is_young, joined, left_by, none_there, of_side, refused, taken, with_place, without_first, without_old}
use Rattle.fragments.specs.Header.{fixed_summed, fixed_with, header_with}
use Rattle.fragments.specs.Name.{name_of}
use Rattle.fragments.specs.Whole.{byte_at, is_marked, payload_end, reassembled, whole_fields, whole_service}
use Rattle.fragments.proofs.Counting.{found-all}
use Rattle.fragments.proofs.Keeping.{all-filter, all-placed, all-push, all-with, all-without}
use Rattle.fragments.specs.declared.headers.Fields.{Fields}
use Rattle.fragments.specs.declared.datagrams.Effect.{Effect}
use Rattle.fragments.specs.declared.datagrams.Effect.TheVariants.{Repeats, Contradicts, Waits, TooLong, Completes}

-- ---- lists that are bytes
nil-bytes : AreBytes []
nil-bytes i = omega arith

cons-bytes : (x : ℕ) (xs : List ℕ) → x < 256 → AreBytes xs → AreBytes (x ∷ xs)
cons-bytes x xs fits are zero = fits
cons-bytes x xs fits are (suc i) = are i

take-bytes : (n : ℕ) (bytes : List ℕ) → AreBytes bytes → AreBytes (take n bytes)
take-bytes n bytes are i = at (cases_lt i n)
  where
    at : (i < n) ⊎ (n ≤ i) → slice_index (take n bytes) i < 256
    at (inl below) = subst (λ (x : ℕ). x < 256) (sym (get_or-take n bytes i 0 below)) (are i)
    at (inr past) = subst (λ (x : ℕ). x < 256) (sym (get_or_past (take n bytes) i 0 (omega (arith, length-take n bytes, past)))) (omega arith)

drop-bytes : (n : ℕ) (bytes : List ℕ) → AreBytes bytes → AreBytes (drop n bytes)
drop-bytes n bytes are i = subst (λ (x : ℕ). x < 256) (sym (get_or-drop n bytes i 0)) (are (n + i))

append-bytes : (xs ys : List ℕ) → AreBytes xs → AreBytes ys → AreBytes (xs ++ ys)
append-bytes xs ys one two i = at (cases_lt i (length xs))
  where
    at : (i < length xs) ⊎ (length xs ≤ i) → slice_index (xs ++ ys) i < 256
    at (inl below) = subst (λ (x : ℕ). x < 256) (sym (get_or_append_left xs ys 0 i below)) (one i)
    at (inr past) = subst (λ (x : ℕ). x < 256) (sym (get_or-append_right xs ys (length xs) i 0 refl past)) (two (i - length xs))

map-bytes : (f : ℕ → ℕ) → ((k : ℕ) → f k < 256) → (a n : ℕ) → AreBytes (map f (range_with_len a n))
map-bytes f fits a zero = nil-bytes
map-bytes f fits a (suc n) = cons-bytes (f a) (map f (range_with_len (a + 1) n)) (fits a) (map-bytes f fits (a + 1) n)

two-bytes : (x : ℕ) → AreBytes (big_bytes 2 x)
two-bytes x zero = omega arith
two-bytes x (suc zero) = omega arith
two-bytes x (suc (suc i)) = omega arith

four-bytes : (x : ℕ) → AreBytes (big_bytes 4 x)
four-bytes x zero = omega arith
four-bytes x (suc zero) = omega arith
four-bytes x (suc (suc zero)) = omega arith
four-bytes x (suc (suc (suc zero))) = omega arith
four-bytes x (suc (suc (suc (suc i)))) = omega arith

pair-bytes : (x y : ℕ) → x < 256 → y < 256 → AreBytes (x ∷ y ∷ [])
pair-bytes x y one two = cons-bytes x (y ∷ []) one (cons-bytes y [] two nil-bytes)

-- ---- a header and a whole frame
fixed-bytes : (sum : ℕ) (fields : Fields) (packet : List ℕ) → AreBytes packet → fields.service < 256 → AreBytes (fixed_with sum fields packet)
fixed-bytes sum fields packet are fits =
    let header = header_of packet in
    let a : List ℕ = slice_index packet 0 ∷ fields.service ∷ [] in
    let b : List ℕ = a ++ big_bytes 2 fields.total in
    let c : List ℕ = b ++ big_bytes 2 fields.identification in
    let d : List ℕ = c ++ big_bytes 2 fields.flags in
    let e : List ℕ = d ++ header.ttl ∷ header.protocol ∷ [] in
    let f : List ℕ = e ++ big_bytes 2 sum in
    let g : List ℕ = f ++ big_bytes 4 header.source in
    let in_a : AreBytes a = pair-bytes (slice_index packet 0) fields.service (are 0) fits in
    let in_b : AreBytes b = append-bytes a (big_bytes 2 fields.total) in_a (two-bytes fields.total) in
    let in_c : AreBytes c = append-bytes b (big_bytes 2 fields.identification) in_b (two-bytes fields.identification) in
    let in_d : AreBytes d = append-bytes c (big_bytes 2 fields.flags) in_c (two-bytes fields.flags) in
    let in_e : AreBytes e = append-bytes d (header.ttl ∷ header.protocol ∷ []) in_d (pair-bytes header.ttl header.protocol (are 8) (are 9)) in
    let in_f : AreBytes f = append-bytes e (big_bytes 2 sum) in_e (two-bytes sum) in
    let in_g : AreBytes g = append-bytes f (big_bytes 4 header.source) in_f (four-bytes header.source) in
    append-bytes g (big_bytes 4 header.destination) in_g (four-bytes header.destination)

header-bytes : (fields : Fields) (packet options : List ℕ) → AreBytes packet → AreBytes options → fields.service < 256 → AreBytes (header_with fields packet options)
unfolding header_with fixed_summed
header-bytes fields packet options are more fits =
    let sum : ℕ = checksum_of (fixed_with 0 fields packet ++ options) in
    append-bytes (fixed_with sum fields packet) options (fixed-bytes sum fields packet are fits) more

carried-bytes : (f : List ℕ) → AreBytes f → AreBytes (carried f)
unfolding carried
carried-bytes f are =
    let packet : List ℕ = ipv4_in f in
    let size : ℕ = (header_of packet).header_length in
    take-bytes ((header_of packet).total_length - size) (drop size packet) (drop-bytes size packet (drop-bytes 14 f are))

byte-fits : (fs : List (List ℕ)) → AllByRecursion AreBytes fs → (k : ℕ) → byte_at fs k < 256
byte-fits [] all k = omega arith
byte-fits (f ∷ fs) all k = by (carries k f) (byte-fits fs all.1 k)
  where
    by : (b : Bool) → byte_at fs k < 256 → cond b (slice_index (carried f) (k - first_of f)) (byte_at fs k) < 256
    by true rest = carried-bytes f all.0 (k - first_of f)
    by false rest = rest

found-bytes : (p : List ℕ → Bool) (fs : List (List ℕ)) → AllByRecursion AreBytes fs → (o : Option (List ℕ)) → find p fs ≡ o → AreBytes (unwrap_or o [])
found-bytes p fs all None found = nil-bytes
found-bytes p fs all (Some f) found = found-all AreBytes p fs f all found

service-fits : (fs : List (List ℕ)) → AllByRecursion AreBytes fs → (whole_fields fs).service < 256
unfolding whole_fields whole_service
service-fits fs all = by (list_any is_marked fs)
  where
    first : List ℕ
    first = unwrap_or (find starts fs) []

    small : (header_of (ipv4_in first)).type_of_service < 256
    small = drop-bytes 14 first (found-bytes starts fs all (find starts fs) refl) 1

    by : (b : Bool) → (let s : ℕ = (header_of (ipv4_in first)).type_of_service in cond b (s / 4 * 4 + 3) s) < 256
    by true = omega (arith, small)
    by false = small

pub reassembled-bytes : (fs : List (List ℕ)) → AllByRecursion AreBytes fs → AreBytes (reassembled fs)
unfolding reassembled
reassembled-bytes fs all =
    let first : List ℕ = unwrap_or (find starts fs) [] in
    let are : AreBytes (unwrap_or (find starts fs) []) = found-bytes starts fs all (find starts fs) refl in
    let packet : AreBytes (ipv4_in (unwrap_or (find starts fs) [])) = drop-bytes 14 first are in
    let options : AreBytes (options_of (ipv4_in (unwrap_or (find starts fs) []))) = take-bytes ((header_of (ipv4_in first)).header_length - 20) (drop 20 (ipv4_in first)) (drop-bytes 20 (ipv4_in first) packet) in
    append-bytes (take 14 first ++ header_with (whole_fields fs) (ipv4_in first) (options_of (ipv4_in first))) (map (byte_at fs) (range_with_len 0 (payload_end fs)))
    (append-bytes (take 14 first) (header_with (whole_fields fs) (ipv4_in first) (options_of (ipv4_in first))) (take-bytes 14 first are) (header-bytes (whole_fields fs) (ipv4_in first) (options_of (ipv4_in first)) packet options (service-fits fs all)))
    (map-bytes (byte_at fs) (byte-fits fs all) 0 (payload_end fs))

-- ---- what is kept
trimmed-bytes : (frame : List ℕ) → AreBytes frame → AreBytes (trimmed frame)
unfolding trimmed
trimmed-bytes frame are = take-bytes (14 + (header_of (ipv4_in frame)).total_length) frame are

-- what there is of a taking is bytes
pub record TakesBytes (taking : Taking) : Type 0 where
  pub left : HaveBytes taking.left
  pub made : IfSome taking.made AreBytes

arrived-bytes : (now : ℕ) (f : List ℕ) (ds : List Datagram) → AreBytes f → HaveBytes ds → (o : Option Datagram) → find (is_named (name_of f)) ds ≡ o → TakesBytes (arrived now f o ds)
arrived-bytes now f ds are all None found =
    let P : Datagram → Type 0 = λ (d : Datagram). AllByRecursion AreBytes d.fragments in
    record {
      left = all-push P (with_place (name_of f).source.0 ds) (record { name = name_of f; since = now; fragments = f ∷ [] }) (all-placed P (name_of f).source.0 ds all) (are, tt);
      made = tt;
    }
arrived-bytes now f ds are all (Some d) found = on (effect_of d.fragments f)
  where
    more : AllByRecursion AreBytes (d.fragments ++ f ∷ [])
    more = all-push AreBytes d.fragments f (found-all (λ (d : Datagram). AllByRecursion AreBytes d.fragments) (is_named (name_of f)) ds d all found) are

    less : HaveBytes (without_first (is_named (name_of f)) ds)
    less = all-without (λ (d : Datagram). AllByRecursion AreBytes d.fragments) (is_named (name_of f)) ds all

    on : (e : Effect) → TakesBytes (joined e (name_of f) (d.fragments ++ f ∷ []) ds)
    on Repeats = record { left = all; made = tt }
    on Contradicts = record { left = less; made = tt }
    on TooLong = record { left = less; made = tt }
    on Waits = record {
      left = all-with (λ (d : Datagram). AllByRecursion AreBytes d.fragments) (is_named (name_of f)) (λ (e : Datagram). record e { fragments = d.fragments ++ f ∷ [] }) ds d found all more;
      made = tt;
    }
    on Completes = record { left = less; made = reassembled-bytes (d.fragments ++ f ∷ []) more }

pub taken-bytes : (now : ℕ) (frame : List ℕ) (ds : List Datagram) → AreBytes frame → HaveBytes ds → TakesBytes (taken now frame ds)
unfolding taken
taken-bytes now frame ds are all = by (is_broken (trimmed frame))
  where
    f : List ℕ
    f = trimmed frame

    by : (b : Bool) → TakesBytes (cond b (refused None ds) (arrived now f (find (is_named (name_of f)) ds) ds))
    by true = record { left = all; made = tt }
    by false = arrived-bytes now f ds (trimmed-bytes frame are) all (find (is_named (name_of f)) ds) refl

either : (P : List ℕ → Type 0) (o : Option (List ℕ)) (w : List ℕ) → IfSome o P → P w → P (unwrap_or o w)
either P None w some was = was
either P (Some v) w some was = some

first-bytes : (o : Option (List ℕ)) (left ds : List Datagram) → HaveBytes left → HaveBytes ds → HaveBytes (left_by o left ds)
first-bytes None left ds one two = one
first-bytes (Some w) left ds one two = two

-- after a fragment at a side, before its datagram ends, and when it ends
pub after-bytes : (side : Side) (now : ℕ) (frame : List ℕ) (g : Gathered) → AreBytes frame → KeepsBytes g → KeepsBytes (after side (taken now frame (of_side side g)) g)
after-bytes Inside now frame g are keeps =
    let known = taken-bytes now frame g.inside are keeps.inside in
    record { inside = known.left; outside = keeps.outside; whole = either AreBytes (taken now frame g.inside).made g.whole known.made keeps.whole }
after-bytes Outside now frame g are keeps =
    let known = taken-bytes now frame g.outside are keeps.outside in
    record { inside = keeps.inside; outside = known.left; whole = either AreBytes (taken now frame g.outside).made g.whole known.made keeps.whole }

pub join-bytes : (side : Side) (now : ℕ) (frame : List ℕ) (g : Gathered) → AreBytes frame → KeepsBytes g → KeepsBytes (after_join side (taken now frame (of_side side g)) g)
join-bytes Inside now frame g are keeps =
    let known = taken-bytes now frame g.inside are keeps.inside in
    record { inside = first-bytes (taken now frame g.inside).made (taken now frame g.inside).left g.inside known.left keeps.inside; outside = keeps.outside; whole = either AreBytes (taken now frame g.inside).made g.whole known.made keeps.whole }
join-bytes Outside now frame g are keeps =
    let known = taken-bytes now frame g.outside are keeps.outside in
    record { inside = keeps.inside; outside = first-bytes (taken now frame g.outside).made (taken now frame g.outside).left g.outside known.left keeps.outside; whole = either AreBytes (taken now frame g.outside).made g.whole known.made keeps.whole }

pub end-bytes : (side : Side) (frame : List ℕ) (g : Gathered) → KeepsBytes g → KeepsBytes (after_end side frame g)
unfolding ended
end-bytes Inside frame g keeps = record { inside = all-without (λ (d : Datagram). AllByRecursion AreBytes d.fragments) (is_named (name_of (trimmed frame))) g.inside keeps.inside; outside = keeps.outside; whole = keeps.whole }
end-bytes Outside frame g keeps = record { inside = keeps.inside; outside = all-without (λ (d : Datagram). AllByRecursion AreBytes d.fragments) (is_named (name_of (trimmed frame))) g.outside keeps.outside; whole = keeps.whole }

-- after a tick
pub without_old-bytes : (now : ℕ) (g : Gathered) → KeepsBytes g → KeepsBytes (without_old now g)
without_old-bytes now g keeps = record {
  inside = all-filter (λ (d : Datagram). AllByRecursion AreBytes d.fragments) (is_young now) g.inside keeps.inside;
  outside = all-filter (λ (d : Datagram). AllByRecursion AreBytes d.fragments) (is_young now) g.outside keeps.outside;
  whole = keeps.whole;
}

pub none_there-bytes : KeepsBytes none_there
none_there-bytes = record { inside = tt; outside = tt; whole = nil-bytes }
