-- What the checker of traces does at each note.
use Rattle.std.proofs.Common.{◌≡◌, ℕ, ◌+◌, ◌-◌, ◌<◌, ◌≤◌, Bool, true, false, not, ◌&&◌, cond, List, [], ◌∷◌, ◌++◌, length, take, get_or, filter, reverse, IsTrue, ◌↔◌, refl, sym, ap, subst, ◌∙◌, arith}
use Rattle.std.specs.List.{All, Contains}
use Rattle.std.proofs.lemmas.List.{take_all}
use Rattle.std.proofs.lemmas.List.Elements.{All-contains, Contains-get_or}
use Rattle.nat_types.specs.declared.gateways.GatewayId.{GatewayId}
use Rattle.nat_types.specs.declared.gateways.GatewayId.TheVariants.{Zero, One}
use Rattle.nat_types.specs.declared.pairs.Pair.{Pair}
use Rattle.nat_types.specs.declared.notes.NoteKind.{NoteKind}
use Rattle.nat_types.specs.declared.notes.NoteKind.TheVariants.{Used, Released, Crashed}
use Rattle.nat_types.specs.declared.notes.Note.{Note}
use Rattle.nat_types.specs.Same.{same_pair}
use Rattle.nat_types.proofs.Offered.{pair-eq}
use Rattle.spec_trace.specs.declared.checker.AuditFault.{AuditFault}
use Rattle.spec_trace.specs.declared.checker.AuditFault.TheVariants.{NoMemory, NotFits, NotKept, NotSilent}
use Rattle.spec_trace.specs.Past.{is_open, synced_after, is_synced, is_only_at, is_agreed, open_after, OnePortAt, OneEndpointAt, SilentAt, OnePort, OneEndpoint, Silent, Kept}
use Rattle.spec_trace.specs.Audit.{ListsHold, DoSuit, IsHeld, FitsUnlessAlone, FirstNotFits, FirstNotSilent, FaultSays, AreOpen, Judged, Going, by_gateway}
use Rattle.spec_trace.proofs.Lists.{push_iff, has_iff, without_iff, less_iff, reverse_take}

pub fits_open : (i : GatewayId) (w : NoteKind) (p : Pair) (xs : List Pair) (s : Bool) (t : List Note) → w ≡ Used p → All (DoSuit t p) xs → s ≡ true → AreOpen xs t → s ≡ is_synced i t → OnePortAt w t × OneEndpointAt w t × SilentAt i w t
fits_open i w p xs s t e fit up opens it = subst (λ (x : NoteKind). OnePortAt x t × OneEndpointAt x t × SilentAt i x t) (sym e) (
  λ q o. (All-contains (DoSuit t p) xs q fit ((opens q).1 o)).0,
  λ q o. (All-contains (DoSuit t p) xs q fit ((opens q).1 o)).1,
  sym it ∙ up,
)

pub unfit_open : (i : GatewayId) (w : NoteKind) (p : Pair) (xs : List Pair) (s : Bool) (k : ℕ) (t : List Note) → w ≡ Used p → (All (DoSuit t p) xs → ⊥) → s ≡ true → AreOpen xs t → s ≡ is_synced i t → (k ≡ k) × SilentAt i w t × (OnePortAt w t × OneEndpointAt w t → ⊥)
unfit_open i w p xs s k t e unfit up opens it = (
  refl,
  subst (λ (x : NoteKind). SilentAt i x t) (sym e) (sym it ∙ up),
  λ f.
      let g : OnePortAt (Used p) t = subst (λ (x : NoteKind). OnePortAt x t) e f.0 in
      let h : OneEndpointAt (Used p) t = subst (λ (x : NoteKind). OneEndpointAt x t) e f.1 in
      unfit (λ j d lt. let o : is_open (get_or xs j d) t ≡ true = (opens (get_or xs j d)).0 (Contains-get_or xs j d lt) in (g (get_or xs j d) o, h (get_or xs j d) o)),
)

-- a use of a pair that isn't in the list: the list with it at the end has the open pairs
pub used_new : (p : Pair) (xs : List Pair) (t : List Note) (i : GatewayId) (w : NoteKind) → AreOpen xs t → w ≡ Used p → (q : Pair) → Contains (xs ++ p ∷ []) q ↔ IsTrue (open_after q w (is_agreed i q t) (is_only_at i q t) (is_open q t))
used_new p xs t i w opens e q = subst (λ (x : NoteKind). Contains (xs ++ p ∷ []) q ↔ IsTrue (open_after q x (is_agreed i q t) (is_only_at i q t) (is_open q t))) (sym e) (push_iff q p xs (is_open q t) (opens q))

-- a use of a pair that is in the list: the list still has the open pairs
pub used_old : (p : Pair) (xs : List Pair) (t : List Note) (i : GatewayId) (w : NoteKind) → AreOpen xs t → w ≡ Used p → Contains xs p → (q : Pair) → Contains xs q ↔ IsTrue (open_after q w (is_agreed i q t) (is_only_at i q t) (is_open q t))
used_old p xs t i w opens e had q = subst (λ (x : NoteKind). Contains xs q ↔ IsTrue (open_after q x (is_agreed i q t) (is_only_at i q t) (is_open q t))) (sym e) (has_iff q p xs (is_open q t) had (opens q))

-- an agreed release: the list without the pair has the open pairs
pub released_gone : (p : Pair) (xs : List Pair) (t : List Note) (i : GatewayId) (w : NoteKind) → AreOpen xs t → w ≡ Released p → is_agreed i p t ≡ true → (q : Pair) → Contains (filter (λ x. not (same_pair x p)) xs) q ↔ IsTrue (open_after q w (is_agreed i q t) (is_only_at i q t) (is_open q t))
released_gone p xs t i w opens e agreed q = subst (λ (x : NoteKind). Contains (filter (λ y. not (same_pair y p)) xs) q ↔ IsTrue (open_after q x (is_agreed i q t) (is_only_at i q t) (is_open q t))) (sym e) (without_iff q p xs (is_agreed i q t) (is_open q t) (λ s. ap (λ (x : Pair). is_agreed i x t) (pair-eq q p s) ∙ agreed) (opens q))

keep_agreed : (s a o : Bool) → (s ≡ true → a ≡ false) → o ≡ cond (s && a) false o
keep_agreed true true o h = absurd (let x : true ≡ false = h refl in cc)
keep_agreed true false o h = refl
keep_agreed false a o h = refl

-- a release that isn't agreed: the list still has the open pairs
pub released_stays : (p : Pair) (xs : List Pair) (t : List Note) (i : GatewayId) (w : NoteKind) → AreOpen xs t → w ≡ Released p → is_agreed i p t ≡ false → (q : Pair) → Contains xs q ↔ IsTrue (open_after q w (is_agreed i q t) (is_only_at i q t) (is_open q t))
released_stays p xs t i w opens e agreed q =
    let stays : is_open q t ≡ open_after q (Released p) (is_agreed i q t) (is_only_at i q t) (is_open q t) = keep_agreed (same_pair q p) (is_agreed i q t) (is_open q t) (λ s. ap (λ (x : Pair). is_agreed i x t) (pair-eq q p s) ∙ agreed) in
    subst (λ (x : NoteKind). Contains xs q ↔ IsTrue (open_after q x (is_agreed i q t) (is_only_at i q t) (is_open q t))) (sym e) (subst (λ b. Contains xs q ↔ IsTrue b) stays (opens q))

-- a crash: the list without the pairs that are lost has the open pairs
pub crashed_less : (xs : List Pair) (t : List Note) (i : GatewayId) (w : NoteKind) → AreOpen xs t → w ≡ Crashed → (q : Pair) → Contains (filter (λ x. not (is_only_at i x t)) xs) q ↔ IsTrue (open_after q w (is_agreed i q t) (is_only_at i q t) (is_open q t))
crashed_less xs t i w opens e q = subst (λ (x : NoteKind). Contains (filter (λ y. not (is_only_at i y t)) xs) q ↔ IsTrue (open_after q x (is_agreed i q t) (is_only_at i q t) (is_open q t))) (sym e) (less_iff q xs (λ y. is_only_at i y t) (is_open q t) (opens q))

-- where all open pairs of the list are held, the tables are kept
pub is_kept : (opens zero one : List Pair) (z o : Bool) (t : List Note) → Going opens z o t → All (IsHeld zero one t) opens → Kept (ListsHold zero one) t
is_kept opens zero one z o t g have p open_ = All-contains (IsHeld zero one t) opens p have ((g.pairs p).1 open_)

pub isnt_kept : (opens zero one : List Pair) (z o : Bool) (t : List Note) → Going opens z o t → (All (IsHeld zero one t) opens → ⊥) → Kept (ListsHold zero one) t → ⊥
isnt_kept opens zero one z o t g bad kept = bad (λ j d lt. kept (get_or opens j d) ((g.pairs (get_or opens j d)).0 (Contains-get_or opens j d lt)))

-- a fault found at a note, after notes that fit and are silent, says what it says of the whole
-- trace
pub charged : (xs : List Note) (i : ℕ) (n : Note) (zero one : List Pair) (f : AuditFault) → i < length xs → n ≡ get_or xs i n → OnePort (reverse (take i xs)) × OneEndpoint (reverse (take i xs)) → Silent (reverse (take i xs)) → Judged (reverse (take i xs)) n (i + 1) f → FaultSays xs zero one f
charged xs i n zero one NoMemory lt here fits silent j = tt
charged xs i n zero one (NotFits k) lt here fits silent j =
    let before : i ≡ i + 1 - 1 = omega arith in
    let more = reverse_take xs i n lt here in
    subst (FirstNotFits xs) (sym j.0) (
      subst (λ x. FitsUnlessAlone (take x xs)) before fits,
      subst Silent (sym more) (j.1, silent),
      λ h.
          let ports : OnePort (n ∷ reverse (take i xs)) = subst OnePort more h.0 in
          let endpoints : OneEndpoint (n ∷ reverse (take i xs)) = subst OneEndpoint more h.1 in
          j.2 (ports.0, endpoints.0),
    )
charged xs i n zero one NotKept lt here fits silent j = absurd j
charged xs i n zero one (NotSilent k) lt here fits silent j =
    let before : i ≡ i + 1 - 1 = omega arith in
    let more = reverse_take xs i n lt here in
    subst (FirstNotSilent xs) (sym j.0) (
      subst (λ x. FitsUnlessAlone (take x xs)) before fits,
      subst (λ x. Silent (reverse (take x xs))) before silent,
      λ h. let all : Silent (n ∷ reverse (take i xs)) = subst Silent more h in j.1 all.0,
    )

pub gateway_is : (i : GatewayId) (zero one : Bool) (t : List Note) → zero ≡ is_synced Zero t → one ≡ is_synced One t → by_gateway i zero one ≡ is_synced i t
gateway_is Zero zero one t a b = a
gateway_is One zero one t a b = b

pub going_on : (opens opens2 : List Pair) (zero one zero2 one2 : Bool) (n : Note) (t : List Note) → Going opens zero one t → AreOpen opens2 (n ∷ t) → zero2 ≡ synced_after Zero n.by n.what zero → one2 ≡ synced_after One n.by n.what one → OnePortAt n.what t × OneEndpointAt n.what t × SilentAt n.by n.what t → Going opens2 zero2 one2 (n ∷ t)
going_on opens opens2 zero one zero2 one2 n t g pairs z o ok = record {
  pairs = pairs;
  zero_is = z ∙ ap (synced_after Zero n.by n.what) g.zero_is;
  one_is = o ∙ ap (synced_after One n.by n.what) g.one_is;
  one_port = (ok.0, g.one_port);
  one_endpoint = (ok.1, g.one_endpoint);
  silent = (ok.2, g.silent);
}

pub going_next : (opens : List Pair) (zero one : Bool) (xs : List Note) (i : ℕ) (n : Note) → i < length xs → n ≡ get_or xs i n → Going opens zero one (n ∷ reverse (take i xs)) → Going opens zero one (reverse (take (i + 1) xs))
going_next opens zero one xs i n lt here g = subst (λ (t : List Note). Going opens zero one t) (sym (reverse_take xs i n lt here)) g

-- what is known after the first i notes is known of the whole trace, where it has no more
pub going_end : (opens : List Pair) (zero one : Bool) (xs : List Note) (i : ℕ) → length xs ≤ i → Going opens zero one (reverse (take i xs)) → Going opens zero one (reverse xs)
going_end opens zero one xs i le g = subst (λ (t : List Note). Going opens zero one (reverse t)) (take_all i xs le) g
