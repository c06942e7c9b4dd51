-- What is made whole is made of the fragments of a datagram that is there and the one that completes them.
use Rattle.std.proofs.Common.{◌≡◌, ◌≤◌, ℕ, ◌+◌, Bool, true, false, cond, Option, Some, None, unwrap_or, List, [], ◌∷◌, ◌++◌, length, map, refl, ap, ◌∙◌, sym, subst, arith}
use Rattle.std.specs.Option.{IfSome}
use Rattle.std.specs.List.{AllByRecursion, IsDistinct, find, range_with_len}
use Rattle.std.proofs.lemmas.List.FromFn.{length-map-range_with_len}
use Rattle.nat_types.specs.declared.gateways.Side.{Side}
use Rattle.nat_types.specs.declared.gateways.Side.TheVariants.{Inside, Outside}
use Rattle.ipv4.specs.Header.{header_of, options_of}
use Rattle.ipv4.specs.Options.{has_source_route}
use Rattle.fragments.specs.Fragment.{IsFragment, ipv4_in, is_broken, starts, trimmed}
use Rattle.fragments.specs.Gathered.{AreApart, AreKept, Datagram, Gathered, IsKept, IsOf, IsPartial, MakesWhole, after, after_end, after_join, arrived, effect_of, ended, is_named, joined, left_by, left_first, none_there, of_side, refused, taken, without_first, without_old}
use Rattle.fragments.specs.Header.{header_with}
use Rattle.fragments.specs.Name.{name_of}
use Rattle.fragments.specs.Whole.{IsReady, byte_at, first_fragment, first_header_length, payload_end, reassembled, whole_fields, whole_length}
use Rattle.fragments.proofs.Counting.{all-of, found-all, found-of, found-passes, whole-complete, whole-within}
use Rattle.fragments.proofs.Keeping.{apart-more, completes, each-more, kept-none, kept-without, kept-young, same-name, taken-kept, unbroken-each}
use Rattle.fragments.proofs.Spelling.{behind-parts, length-header, length-options, length-parts, options-written}
use Rattle.fragments.proofs.Trimming.{trimmed-fragment}
use Rattle.fragments.specs.declared.names.Name.{Name}
use Rattle.fragments.specs.declared.datagrams.Effect.{Effect}
use Rattle.fragments.specs.declared.datagrams.Effect.TheVariants.{Repeats, Contradicts, Waits, TooLong, Completes}
use Rattle.fragments.specs.declared.gatherings.Came.TheVariants.{Whole}

-- the fragments that are there and one that completes them
pub ready-more : (name : Name) (there : List (List ℕ)) (f : List ℕ) → AllByRecursion (IsOf name) there → AreApart there → IsOf name f → effect_of there f ≡ Completes → IsReady (there ++ f ∷ []) × AreApart (there ++ f ∷ []) × AllByRecursion (IsOf name) (there ++ f ∷ [])
ready-more name there f each apart new effect =
    let known = completes there f effect in
    let all = each-more name there f each new in
    let beside = apart-more there f apart known.0 in (
      record {
        complete = whole-complete (there ++ f ∷ []) beside (unbroken-each name (there ++ f ∷ []) all) known.1;
        within = whole-within (there ++ f ∷ []) beside known.1;
        short = known.2;
      },
      beside,
      all,
    )

-- the datagram of this name, as a datagram that is kept, and what completes it
pub ready-there : (f : List ℕ) (ds : List Datagram) (d : Datagram) → IsFragment f → is_broken f ≡ false → AreKept ds → find (is_named (name_of f)) ds ≡ Some d → effect_of d.fragments f ≡ Completes
    → IsReady (d.fragments ++ f ∷ []) × AllByRecursion (IsOf (name_of f)) (d.fragments ++ f ∷ [])
ready-there f ds d is fine kept found effect =
    let was : IsPartial d = found-all IsPartial (is_named (name_of f)) ds d kept.each found in
    let named : name_of f ≡ d.name = same-name (name_of f) d.name (found-passes (is_named (name_of f)) ds d found) in
    let all : AllByRecursion (IsOf (name_of f)) d.fragments = subst (λ (n : Name). AllByRecursion (IsOf n) d.fragments) (sym named) was.each in
    let made = ready-more (name_of f) d.fragments f all was.apart (record { fragment_is = is; unbroken = fine; named = refl }) effect in
    (made.0, made.2)

-- no two are of one name: without the first of a name there is none
other-name : (name : Name) (x y : Datagram) → is_named name x ≡ true → is_named y.name x ≡ false → is_named name y ≡ false
other-name name x y here differs = by (is_named name y) refl
  where
    by : (b : Bool) → is_named name y ≡ b → is_named name y ≡ false
    by false isnt = isnt
    by true too =
        let same : name ≡ y.name = same-name name y.name too in
        let bad : is_named y.name x ≡ true = ap (λ (n : Name). is_named n x) (sym same) ∙ here in
        let no : true ≡ false = sym bad ∙ differs in
        absurd (cc)

none-named : (name : Name) (ds : List Datagram) → IsDistinct (λ (a b : Datagram). is_named b.name a) ds → AllByRecursion (λ (d : Datagram). is_named name d ≡ false) (without_first (is_named name) ds)
unfolding IsDistinct
none-named name [] distinct = tt
none-named name (x ∷ ds) distinct = by (is_named name x) refl (none-named name ds distinct.1)
  where
    by : (b : Bool) → is_named name x ≡ b → AllByRecursion (λ (d : Datagram). is_named name d ≡ false) (without_first (is_named name) ds)
        → AllByRecursion (λ (d : Datagram). is_named name d ≡ false) (cond b ds (x ∷ without_first (is_named name) ds))
    by true is rest = all-of (λ (y : Datagram). is_named y.name x ≡ false) (λ (y : Datagram). is_named name y ≡ false) (λ y differs. other-name name x y is differs) ds distinct.0
    by false isnt rest = (isnt, rest)

arrived-whole : (now : ℕ) (f : List ℕ) (ds : List Datagram) → IsFragment f → is_broken f ≡ false → AreKept ds → (o : Option Datagram) → find (is_named (name_of f)) ds ≡ o → (arrived now f o ds).came ≡ Whole → (there : Datagram) × MakesWhole f ds (arrived now f o ds) there
arrived-whole now f ds is fine kept None found came = cc
arrived-whole now f ds is fine kept (Some d) found came = (d, on (effect_of d.fragments f) refl came)
  where
    on : (e : Effect) → effect_of d.fragments f ≡ e → (joined e (name_of f) (d.fragments ++ f ∷ []) ds).came ≡ Whole → MakesWhole f ds (joined e (name_of f) (d.fragments ++ f ∷ []) ds) d
    on Repeats effect came = cc
    on Contradicts effect came = cc
    on Waits effect came = cc
    on TooLong effect came = cc
    on Completes effect came =
        let known = ready-there f ds d is fine kept found effect in
        record { found = found; ready = known.0; of_one = known.1; made = refl; gone = none-named (name_of f) ds kept.distinct }

pub taken-whole : (now : ℕ) (frame : List ℕ) (ds : List Datagram) → IsFragment frame → AreKept ds → (taken now frame ds).came ≡ Whole → (there : Datagram) × MakesWhole (trimmed frame) ds (taken now frame ds) there
unfolding taken
taken-whole now frame ds is kept came = by (is_broken (trimmed frame)) refl came
  where
    f : List ℕ
    f = trimmed frame

    by : (b : Bool) → is_broken f ≡ b → (cond b (refused None ds) (arrived now f (find (is_named (name_of f)) ds) ds)).came ≡ Whole
        → (there : Datagram) × MakesWhole f ds (cond b (refused None ds) (arrived now f (find (is_named (name_of f)) ds) ds)) there
    by true broken came = cc
    by false fine came = arrived-whole now f ds (trimmed-fragment frame is) fine kept (find (is_named (name_of f)) ds) refl came

-- ---- how long a whole frame is
length-from : (fs : List (List ℕ)) (first : List ℕ) → find starts fs ≡ Some first → IsFragment first → length (reassembled fs) ≡ 14 + whole_length fs
unfolding reassembled first_header_length
length-from fs first found is =
    let same : first_fragment fs ≡ first = ap (λ (o : Option (List ℕ)). unwrap_or o []) found in
    let packet : List ℕ = ipv4_in first in
    let options : 20 + length (options_of packet) ≡ (header_of packet).header_length = length-options packet is.header.holds_fields (omega (arith, is.header.holds_header, is.header.there)) in
    let header : length (header_with (whole_fields fs) packet (options_of packet)) ≡ (header_of packet).header_length = length-header (whole_fields fs) packet (options_of packet) ∙ options in
    let payload : length (map (byte_at fs) (range_with_len 0 (payload_end fs))) ≡ payload_end fs = length-map-range_with_len (byte_at fs) 0 (payload_end fs) in
    rw same (length-parts first (header_with (whole_fields fs) packet (options_of packet)) (map (byte_at fs) (range_with_len 0 (payload_end fs))) (header_of packet).header_length (payload_end fs) is.whole header payload)

pub length-whole : (name : Name) (fs : List (List ℕ)) → IsReady fs → AllByRecursion (IsOf name) fs → length (reassembled fs) ≡ 14 + whole_length fs
length-whole name fs ready each =
    let there = found-of starts fs (omega (arith, ready.complete.first)) in
    length-from fs there.0 there.1 (found-all (IsOf name) starts fs there.0 each there.1).fragment_is

-- ---- its options are those of the fragment with offset 0, so none is a source route
options-from : (fs : List (List ℕ)) (first : List ℕ) → find starts fs ≡ Some first → IsFragment first → options_of (ipv4_in (reassembled fs)) ≡ options_of (ipv4_in first)
unfolding reassembled
options-from fs first found is =
    let same : first_fragment fs ≡ first = ap (λ (o : Option (List ℕ)). unwrap_or o []) found in
    let packet : List ℕ = ipv4_in first in
    let payload : List ℕ = map (byte_at fs) (range_with_len 0 (payload_end fs)) in
    let options : 20 + length (options_of packet) ≡ (header_of packet).header_length = length-options packet is.header.holds_fields (omega (arith, is.header.holds_header, is.header.there)) in
    rw same (ap options_of (behind-parts first (header_with (whole_fields fs) packet (options_of packet)) payload is.whole)
    ∙ options-written (whole_fields fs) packet (options_of packet) payload (sym options))

route-whole : (name : Name) (fs : List (List ℕ)) → IsReady fs → AllByRecursion (IsOf name) fs → has_source_route (options_of (ipv4_in (reassembled fs))) ≡ false
route-whole name fs ready each =
    let there = found-of starts fs (omega (arith, ready.complete.first)) in
    let is : IsFragment there.0 = (found-all (IsOf name) starts fs there.0 each there.1).fragment_is in
    ap has_source_route (options-from fs there.0 there.1 is) ∙ is.header.no_source_route

-- ---- what each whole frame has that is made
module _ (P : List ℕ → Type 0) (each : (name : Name) (fs : List (List ℕ)) → IsReady fs → AllByRecursion (IsOf name) fs → P (reassembled fs)) where
  arrived-made : (now : ℕ) (f : List ℕ) (ds : List Datagram) → IsFragment f → is_broken f ≡ false → AreKept ds → (o : Option Datagram) → find (is_named (name_of f)) ds ≡ o → IfSome (arrived now f o ds).made P
  arrived-made now f ds is fine kept None found = tt
  arrived-made now f ds is fine kept (Some d) found = on (effect_of d.fragments f) refl
    where
      on : (e : Effect) → effect_of d.fragments f ≡ e → IfSome (joined e (name_of f) (d.fragments ++ f ∷ []) ds).made P
      on Repeats effect = tt
      on Contradicts effect = tt
      on Waits effect = tt
      on TooLong effect = tt
      on Completes effect =
          let known = ready-there f ds d is fine kept found effect in
          each (name_of f) (d.fragments ++ f ∷ []) known.0 known.1

  taken-made : (now : ℕ) (frame : List ℕ) (ds : List Datagram) → IsFragment frame → AreKept ds → IfSome (taken now frame ds).made P
  unfolding taken
  taken-made now frame ds is kept = by (is_broken (trimmed frame)) refl
    where
      f : List ℕ
      f = trimmed frame

      by : (b : Bool) → is_broken f ≡ b → IfSome (cond b (refused None ds) (arrived now f (find (is_named (name_of f)) ds) ds)).made P
      by true broken = tt
      by false fine = arrived-made now f ds (trimmed-fragment frame is) fine kept (find (is_named (name_of f)) ds) refl

-- at most 14 + 65,535 bytes
pub taken-most : (now : ℕ) (frame : List ℕ) (ds : List Datagram) → IsFragment frame → AreKept ds → IfSome (taken now frame ds).made (λ (w : List ℕ). length w ≤ 65549)
taken-most = taken-made (λ (w : List ℕ). length w ≤ 65549) (λ name fs ready each. omega (arith, length-whole name fs ready each, ready.short))

-- no source route
pub taken-route : (now : ℕ) (frame : List ℕ) (ds : List Datagram) → IsFragment frame → AreKept ds → IfSome (taken now frame ds).made (λ (w : List ℕ). has_source_route (options_of (ipv4_in w)) ≡ false)
taken-route = taken-made (λ (w : List ℕ). has_source_route (options_of (ipv4_in w)) ≡ false) route-whole

-- ---- both sides
either : (P : List ℕ → Type 0) (o : Option (List ℕ)) (w : List ℕ) → IfSome o P → P w → P (unwrap_or o w)
either P None w some was = was
either P (Some v) w some was = some

pub kept-after : (side : Side) (now : ℕ) (frame : List ℕ) (g : Gathered) → IsFragment frame → IsKept g → IsKept (after side (taken now frame (of_side side g)) g)
kept-after Inside now frame g is kept = record {
  inside = taken-kept now frame g.inside is kept.inside;
  outside = kept.outside;
  whole = either (λ (w : List ℕ). length w ≤ 65549) (taken now frame g.inside).made g.whole (taken-most now frame g.inside is kept.inside) kept.whole;
}
kept-after Outside now frame g is kept = record {
  inside = kept.inside;
  outside = taken-kept now frame g.outside is kept.outside;
  whole = either (λ (w : List ℕ). length w ≤ 65549) (taken now frame g.outside).made g.whole (taken-most now frame g.outside is kept.outside) kept.whole;
}

pub kept-without_old : (now : ℕ) (g : Gathered) → IsKept g → IsKept (without_old now g)
kept-without_old now g kept = record { inside = kept-young now g.inside kept.inside; outside = kept-young now g.outside kept.outside; whole = kept.whole }

pub kept-none_there : IsKept none_there
kept-none_there = record { inside = kept-none; outside = kept-none; whole = omega arith }

-- the same before the datagram ends that becomes whole, and when it ends
kept-first : (o : Option (List ℕ)) (left ds : List Datagram) → AreKept left → AreKept ds → AreKept (left_by o left ds)
kept-first None left ds one two = one
kept-first (Some w) left ds one two = two

pub kept-joined : (now : ℕ) (frame : List ℕ) (ds : List Datagram) → IsFragment frame → AreKept ds → AreKept (left_first (taken now frame ds) ds)
kept-joined now frame ds is kept = kept-first (taken now frame ds).made (taken now frame ds).left ds (taken-kept now frame ds is kept) kept

pub most-joined : (now : ℕ) (frame w : List ℕ) (ds : List Datagram) → IsFragment frame → AreKept ds → length w ≤ 65549 → length (unwrap_or (taken now frame ds).made w) ≤ 65549
most-joined now frame w ds is kept most = either (λ (v : List ℕ). length v ≤ 65549) (taken now frame ds).made w (taken-most now frame ds is kept) most

pub kept-ended : (frame : List ℕ) (ds : List Datagram) → AreKept ds → AreKept (ended frame ds)
unfolding ended
kept-ended frame ds kept = kept-without (name_of (trimmed frame)) ds kept

pub kept-after_join : (side : Side) (now : ℕ) (frame : List ℕ) (g : Gathered) → IsFragment frame → IsKept g → IsKept (after_join side (taken now frame (of_side side g)) g)
kept-after_join Inside now frame g is kept = record {
  inside = kept-joined now frame g.inside is kept.inside;
  outside = kept.outside;
  whole = most-joined now frame g.whole g.inside is kept.inside kept.whole;
}
kept-after_join Outside now frame g is kept = record {
  inside = kept.inside;
  outside = kept-joined now frame g.outside is kept.outside;
  whole = most-joined now frame g.whole g.outside is kept.outside kept.whole;
}

pub kept-after_end : (side : Side) (frame : List ℕ) (g : Gathered) → IsKept g → IsKept (after_end side frame g)
kept-after_end Inside frame g kept = record { inside = kept-ended frame g.inside kept.inside; outside = kept.outside; whole = kept.whole }
kept-after_end Outside frame g kept = record { inside = kept.inside; outside = kept-ended frame g.outside kept.outside; whole = kept.whole }
