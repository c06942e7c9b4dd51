-- The pairs of a table as a list, each pair once.
use Rattle.std.proofs.Common.{◌≡◌, ℕ, ◌+◌, ◌*◌, ◌<◌, ◌≤◌, nat_lt, Bool, true, false, cond, Option, Some, None, ◌⊎◌, inl, inr, List, [], ◌∷◌, ◌++◌, map, reverse, refl, sym, ap, subst, ◌∙◌, arith}
use Rattle.std.specs.List.{filter, list_any}
use Rattle.std.proofs.lemmas.Bool.{and_from, cond-true, cond-false, lt-ltb, or_left, or_right}
use Rattle.std.proofs.lemmas.List.{reverse-append}
use Rattle.nat_types.specs.declared.pairs.EntryState.{EntryState}
use Rattle.nat_types.specs.declared.pairs.EntryState.TheVariants as state
use Rattle.nat_types.specs.declared.pairs.Endpoint.{Endpoint}
use Rattle.nat_types.specs.declared.pairs.Key.{Key}
use Rattle.nat_types.specs.declared.pairs.Pair.{Pair}
use Rattle.nat_types.specs.Same.{same_key, same_endpoint}
use Rattle.nat_types.proofs.Offered.{key-true, key-false, pair-parts, key-self, endpoint-true}
use Rattle.addresses.specs.declared.transport.Protocol.{Protocol}
use Rattle.addresses.specs.declared.transport.Protocol.TheVariants.{Icmp, Tcp, Udp}
use Rattle.addresses.specs.Transport.{protocol_number}
use Rattle.slots.specs.declared.ranks.Rank.{Rank}
use Rattle.slots.specs.declared.ranks.Rank.TheVariants.{First, Second}
use Rattle.bindings.specs.declared.entries.Entry.{Entry}
use Rattle.bindings.specs.Entries.{slot_of, is_of_rank, is_pair, has_key, pairs_in, place_of, HasDistinctKeys}
use Rattle.bindings.specs.Lists.{IsOneToOne, Rises, key_place}
use Rattle.bindings.specs.Ports.{key_of}
use Rattle.bindings.specs.Revivals.{comes_back, revived_entries, woken, woken_entry}
use Rattle.bindings.proofs.Offered.{find-some, one-rank, pair-rank, slot-key}
use Rattle.resync.specs.Batch.{is_ahead, is_second, is_settled}
use Rattle.spec_pair.specs.Talk as machine
use Rattle.spec_pair.specs.Box.{In, Parcel, revived, is_back}
use Rattle.spec_pair.specs.Batch.{AreApart}
use Rattle.spec_pair.specs.Mapped.{slot_in}
use Rattle.spec_binding.specs.Machine.{machine_slot, slots_of}

-- the table has the pair at its key, in a state that passes the test
pub record IsAt (test : EntryState → Bool) (es : List Entry) (p : Pair) : Type 0 where
  pub entry : Entry
  pub found : slot_of es p.key ≡ Some entry
  pub passes : test entry.state ≡ true
  pub pair : entry.pair ≡ p

-- a pair of a table is in the table with another key's entry before it
behind : (test : EntryState → Bool) (x : Entry) (xs : List Entry) (p : Pair) → slot_of xs x.pair.key ≡ None → IsAt test xs p → IsAt test (x ∷ xs) p
behind test x xs p free at =
    let found : slot_of xs p.key ≡ Some at.entry = at.found in
    let other : same_key x.pair.key p.key ≡ false = key-false x.pair.key p.key (λ same. let clash : slot_of xs p.key ≡ None = ap (slot_of xs) (sym same) ∙ free in cc) in
    record { entry = at.entry; found = cond-false (same_key x.pair.key p.key) (Some x) (slot_of xs p.key) other ∙ found; passes = at.passes; pair = at.pair }

ahead : (test : EntryState → Bool) (x : Entry) (xs : List Entry) (p : Pair) → test x.state ≡ true → p ≡ x.pair → IsAt test (x ∷ xs) p
ahead test x xs p passes same =
    record { entry = x; found = cond-true (same_key x.pair.key p.key) (Some x) (slot_of xs p.key) (key-true x.pair.key p.key (ap (λ (q : Pair). q.key) (sym same))); passes = passes; pair = sym same }

-- a listed pair is in the table at its key
pub listed-at : (test : EntryState → Bool) (es : List Entry) (p : Pair) → HasDistinctKeys es → In p (pairs_in test es) → IsAt test es p
listed-at test [] p d h = absurd h
listed-at test (x ∷ xs) p d h = at (test x.state) refl h (λ i. listed-at test xs p d.1 i)
  where
    at : (b : Bool) → test x.state ≡ b → In p (map (λ (e : Entry). e.pair) (cond b (x ∷ filter (λ e. test e.state) xs) (filter (λ e. test e.state) xs))) → (In p (pairs_in test xs) → IsAt test xs p) → IsAt test (x ∷ xs) p
    at true passes h ih = elim h [ inl same ↦ ahead test x xs p passes same | inr i ↦ behind test x xs p d.0 (ih i) ]
    at false passes h ih = behind test x xs p d.0 (ih h)

-- an entry of a table without its first entry is one of the table
past : (x : Entry) (xs : List Entry) → slot_of xs x.pair.key ≡ None → (k : Key) (y : Entry) → slot_of xs k ≡ Some y → slot_of (x ∷ xs) k ≡ Some y
past x xs free k y h = cond-false (same_key x.pair.key k) (Some x) (slot_of xs k) (key-false x.pair.key k (λ (s : x.pair.key ≡ k). let bad : slot_of xs k ≡ None = ap (slot_of xs) (sym s) ∙ free in cc)) ∙ h

-- and so is a listed pair
more-listed : (test : EntryState → Bool) (x : Entry) (xs : List Entry) (p : Pair) → In p (pairs_in test xs) → In p (pairs_in test (x ∷ xs))
more-listed test x xs p i = at (test x.state)
  where
    at : (b : Bool) → In p (map (λ (e : Entry). e.pair) (cond b (x ∷ filter (λ e. test e.state) xs) (filter (λ e. test e.state) xs)))
    at true = inr i
    at false = i

-- an entry at a key, in a state that passes the test, is listed
pub at-listed : (test : EntryState → Bool) (es : List Entry) (k : Key) (x : Entry) → slot_of es k ≡ Some x → test x.state ≡ true → In x.pair (pairs_in test es)
at-listed test [] k x h passes = cc
at-listed test (y ∷ ys) k x h passes = at (test y.state) refl (λ found. at-listed test ys k x found passes)
  where
    at : (b : Bool) → test y.state ≡ b → (slot_of ys k ≡ Some x → In x.pair (pairs_in test ys)) → In x.pair (map (λ (e : Entry). e.pair) (cond b (y ∷ filter (λ e. test e.state) ys) (filter (λ e. test e.state) ys)))
    at true is ih = elim (find-some (has_key k y) y (slot_of ys k) x h) [ inl w ↦ inl (ap (λ (e : Entry). e.pair) (sym w.1)) | inr w ↦ inr (ih w.1) ]
    at false is ih = elim (find-some (has_key k y) y (slot_of ys k) x h) [ inl w ↦ (let bad : test x.state ≡ false = ap (λ (e : Entry). test e.state) (sym w.1) ∙ is in cc) | inr w ↦ ih w.1 ]

-- the pairs in states that pass the test are those whose slots have an endpoint by `word`
pub those : (test : EntryState → Bool) (word : machine.Slot → Option Endpoint) → ((s : EntryState) (e : Endpoint) → word (slot_in s e) ≡ cond (test s) (Some e) None) → word machine.Free ≡ None
    → (es : List Entry) → HasDistinctKeys es → (p : Pair) → (In p (pairs_in test es) → word (slots_of es p.key) ≡ Some p.endpoint) × (word (slots_of es p.key) ≡ Some p.endpoint → In p (pairs_in test es))
those test word says none es d p = (there, back (slot_of es p.key) refl)
  where
    there : In p (pairs_in test es) → word (slots_of es p.key) ≡ Some p.endpoint
    there h =
        let at = listed-at test es p d h in
        ap (λ (o : Option Entry). word (machine_slot o)) at.found ∙ says at.entry.state at.entry.pair.endpoint
        ∙ cond-true (test at.entry.state) (Some at.entry.pair.endpoint) None at.passes ∙ ap (λ (q : Pair). Some q.endpoint) at.pair

    passing : (b : Bool) (e : Endpoint) → (let o : Option Endpoint = cond b (Some e) None in o) ≡ Some p.endpoint → (b ≡ true) × (e ≡ p.endpoint)
    passing true e h = (refl, cc)
    passing false e h = cc

    back : (o : Option Entry) → slot_of es p.key ≡ o → word (machine_slot (slot_of es p.key)) ≡ Some p.endpoint → In p (pairs_in test es)
    back None found h = let bad : word (machine_slot (slot_of es p.key)) ≡ None = ap (λ (o : Option Entry). word (machine_slot o)) found ∙ none in cc
    back (Some x) found h =
        let said : cond (test x.state) (Some x.pair.endpoint) None ≡ Some p.endpoint = sym (says x.state x.pair.endpoint) ∙ ap (λ (o : Option Entry). word (machine_slot o)) (sym found) ∙ h in
        let parts = passing (test x.state) x.pair.endpoint said in
        subst (λ (q : Pair). In q (pairs_in test es)) (pair-parts x.pair p (slot-key es p.key x found) parts.1) (at-listed test es p.key x found parts.0)

pub held-says : (s : EntryState) (e : Endpoint) → machine.held (revived (slot_in s e)) ≡ cond (is_pair s) (Some e) None
held-says (state.Pending m) e = refl
held-says state.Doomed e = refl
held-says state.Live e = refl
held-says (state.Closing m) e = refl
held-says state.Alone e = refl
held-says state.Held e = refl

pub back-says : (s : EntryState) (e : Endpoint) → is_back (slot_in s e) ≡ cond (comes_back s) (Some e) None
back-says (state.Pending m) e = refl
back-says state.Doomed e = refl
back-says state.Live e = refl
back-says (state.Closing m) e = refl
back-says state.Alone e = refl
back-says state.Held e = refl

-- a table without its first entry still serves no endpoint twice
one-tail : (x : Entry) (xs : List Entry) → slot_of xs x.pair.key ≡ None → IsOneToOne (x ∷ xs) → IsOneToOne xs
one-tail x xs free one k q y z rank hy hz py pz same = one k q y z rank (past x xs free k y hy) (past x xs free q z hz) py pz same

-- ---- the pairs of a table as the parcels of a batch

-- a pair as a parcel: it goes as a Tell where its endpoint has a pair before it, of these pairs
abbrev pub parcel_for : List Pair → Pair → Parcel
parcel_for pairs p = record { pair = p; told = is_second pairs p }

abbrev pub parcels_of : List Pair → List Parcel
parcels_of pairs = map (parcel_for pairs) pairs

-- a parcel of a list of pairs is that of one of them
pub in-parcels : (f : Pair → Parcel) (ps : List Pair) (x : Parcel) → In x (map f ps) → (p : Pair) × In p ps × (x ≡ f p)
in-parcels f [] x i = absurd i
in-parcels f (p ∷ ps) x i = elim i [
  | inl e ↦ (p, inl refl, e)
  | inr more ↦ (let m = in-parcels f ps x more in (m.0, inr m.1, m.2))
]

pub parcels-in : (f : Pair → Parcel) (ps : List Pair) (p : Pair) → In p ps → In (f p) (map f ps)
parcels-in f [] p i = absurd i
parcels-in f (q ∷ ps) p i = elim i [ inl e ↦ inl (ap f e) | inr more ↦ inr (parcels-in f ps p more) ]

-- some value of a list passes, where one that is in it does
any-in : (f : Pair → Bool) (ps : List Pair) (p : Pair) → In p ps → f p ≡ true → list_any f ps ≡ true
any-in f [] p i h = absurd i
any-in f (q ∷ ps) p i h = elim i [
  | inl e ↦ or_left (f q) (list_any f ps) (ap f (sym e) ∙ h)
  | inr more ↦ or_right (f q) (list_any f ps) (any-in f ps p more h)
]

-- two keys at one place are equal
same-place : (a b : Key) → a.port.0 < 65536 → b.port.0 < 65536 → key_place a ≡ key_place b → a ≡ b
same-place a b small other same =
    let parts = at a.protocol b.protocol a.port.0 b.port.0 small other same in
    ap (λ (z : Protocol). key_of z a.port.0) parts.0 ∙ ap (λ (z : ℕ). key_of b.protocol z) parts.1
  where
    at : (p q : Protocol) (m n : ℕ) → m < 65536 → n < 65536 → 65536 * protocol_number p + m ≡ 65536 * protocol_number q + n → (p ≡ q) × (m ≡ n)
    at Icmp Icmp m n u v h = (refl, omega (arith, h))
    at Icmp Tcp m n u v h = absurd (omega (arith, h, u, v))
    at Icmp Udp m n u v h = absurd (omega (arith, h, u, v))
    at Tcp Icmp m n u v h = absurd (omega (arith, h, u, v))
    at Tcp Tcp m n u v h = (refl, omega (arith, h))
    at Tcp Udp m n u v h = absurd (omega (arith, h, u, v))
    at Udp Icmp m n u v h = absurd (omega (arith, h, u, v))
    at Udp Tcp m n u v h = absurd (omega (arith, h, u, v))
    at Udp Udp m n u v h = (refl, omega (arith, h))

-- each listed pair is at this place or later, where each entry is
placed : (test : EntryState → Bool) (low : ℕ) (es : List Entry) (p : Pair) → Rises low es → In p (pairs_in test es) → low ≤ place_of p
placed test low [] p rises i = absurd i
placed test low (x ∷ xs) p rises i = at (test x.state) i (λ more. placed test (place_of x.pair) xs p rises.1 more)
  where
    later : place_of x.pair ≤ place_of p → low ≤ place_of p
    later le = let first : low ≤ place_of x.pair = rises.0 in omega (arith, first, le)

    at : (b : Bool) → In p (map (λ (e : Entry). e.pair) (cond b (x ∷ filter (λ e. test e.state) xs) (filter (λ e. test e.state) xs))) → (In p (pairs_in test xs) → place_of x.pair ≤ place_of p) → low ≤ place_of p
    at true i more = elim i [ inl e ↦ subst (λ (q : Pair). low ≤ place_of q) (sym e) rises.0 | inr rest ↦ later (more rest) ]
    at false i more = later (more i)

below : (a b : ℕ) → a ≤ b → (a ≡ b → ⊥) → a < b
below a b le ne = omega (arith, le, ne)

-- two pairs on one side have one rank
one-side : (s t : EntryState) → is_pair s ≡ true → is_pair t ≡ true → is_of_rank Second t ≡ is_of_rank Second s → (rank : Rank) × (is_of_rank rank s ≡ true) × (is_of_rank rank t ≡ true)
one-side s t ps pt same =
    let a = pair-rank s ps in
    let b = pair-rank t pt in
    by a.0 b.0 a.1 b.1
  where
    by : (a b : Rank) → is_of_rank a s ≡ true → is_of_rank b t ≡ true → (rank : Rank) × (is_of_rank rank s ≡ true) × (is_of_rank rank t ≡ true)
    by First First hs ht = (First, hs, ht)
    by First Second hs ht = absurd (let bad : First ≡ Second = one-rank s First Second hs (sym same ∙ ht) in cc)
    by Second First hs ht = absurd (let bad : Second ≡ First = one-rank t Second First (same ∙ hs) ht in cc)
    by Second Second hs ht = (Second, hs, ht)

-- an entry is Held exactly where the other gateway is to own its key, and its port is one of 16 bits
abbrev pub IsSided : (Key → Bool) → Key → Entry → Type 0
IsSided own k x = (own k ≡ is_of_rank Second x.state) × (k.port.0 < 65536)

-- The pairs of a table, by protocol and port, are apart as parcels: their keys are distinct, and the later one of two
-- pairs of one endpoint goes as a Tell, and lies on the other side.
module _ (own : Key → Bool) (pairs : List Pair) where
  pub apart : (low : ℕ) (es : List Entry) → HasDistinctKeys es → IsOneToOne es → Rises low es → ((k : Key) (x : Entry) → slot_of es k ≡ Some x → IsSided own k x) → ((p : Pair) → In p (pairs_in is_pair es) → In p pairs) → AreApart own (map (parcel_for pairs) (pairs_in is_pair es))
  apart low [] d one rises sided inside = tt
  apart low (x ∷ xs) d one rises sided inside =
      at (is_pair x.state) refl (apart (place_of x.pair) xs d.1 (one-tail x xs d.0 one) rises.1 (λ k y h. sided k y (past x xs d.0 k y h)) (λ p i. inside p (more-listed is_pair x xs p i)))
    where
      mine : slot_of (x ∷ xs) x.pair.key ≡ Some x
      mine = cond-true (same_key x.pair.key x.pair.key) (Some x) (slot_of xs x.pair.key) (key-self x.pair.key)

      other-key : (q : Pair) → In q (pairs_in is_pair xs) → q.key ≡ x.pair.key → ⊥
      other-key q i same =
          let at = listed-at is_pair xs q d.1 i in
          let found : slot_of xs q.key ≡ Some at.entry = at.found in
          let clash : slot_of xs q.key ≡ None = ap (slot_of xs) same ∙ d.0 in
          cc

      -- the pair before is one of an endpoint's before the other
      told : is_pair x.state ≡ true → (q : Pair) → In q (pairs_in is_pair xs) → q.endpoint ≡ x.pair.endpoint → is_second pairs q ≡ true
      told pair q i same =
          let at = listed-at is_pair xs q d.1 i in
          let le = placed is_pair (place_of x.pair) xs q rises.1 i in
          let small = (sided x.pair.key x mine).1 in
          let small2 = (sided q.key at.entry (past x xs d.0 q.key at.entry at.found)).1 in
          let less : place_of x.pair < place_of q = below (place_of x.pair) (place_of q) le (λ e. other-key q i (sym (same-place x.pair.key q.key small small2 e))) in
          any-in (is_ahead q) pairs x.pair (inside x.pair (at-listed is_pair (x ∷ xs) x.pair.key x mine pair))
          (and_from (same_endpoint x.pair.endpoint q.endpoint) (nat_lt (place_of x.pair) (place_of q)) (endpoint-true x.pair.endpoint q.endpoint (sym same)) (lt-ltb (place_of x.pair) (place_of q) less))

      other-side : is_pair x.state ≡ true → (q : Pair) → In q (pairs_in is_pair xs) → q.endpoint ≡ x.pair.endpoint → own q.key ≡ own x.pair.key → ⊥
      other-side pair q i same alike =
          let at = listed-at is_pair xs q d.1 i in
          let found = past x xs d.0 q.key at.entry at.found in
          let sides : is_of_rank Second at.entry.state ≡ is_of_rank Second x.state = sym (sided q.key at.entry found).0 ∙ alike ∙ (sided x.pair.key x mine).0 in
          let ranked = one-side x.state at.entry.state pair at.passes sides in
          other-key q i (one q.key x.pair.key at.entry x ranked.0 found mine ranked.2 ranked.1 (ap (λ (p : Pair). p.endpoint) at.pair ∙ same))

      first : is_pair x.state ≡ true → (y : Parcel) → In y (map (parcel_for pairs) (pairs_in is_pair xs)) → (y.pair.key ≡ x.pair.key → ⊥) × (y.pair.endpoint ≡ x.pair.endpoint → (y.told ≡ true) × (own y.pair.key ≡ own x.pair.key → ⊥))
      first pair y i =
          let m = in-parcels (parcel_for pairs) (pairs_in is_pair xs) y i in
          subst (λ (z : Parcel). (z.pair.key ≡ x.pair.key → ⊥) × (z.pair.endpoint ≡ x.pair.endpoint → (z.told ≡ true) × (own z.pair.key ≡ own x.pair.key → ⊥))) (sym m.2)
          (other-key m.0 m.1, λ same. (told pair m.0 m.1 same, other-side pair m.0 m.1 same))

      at : (b : Bool) → is_pair x.state ≡ b → AreApart own (map (parcel_for pairs) (pairs_in is_pair xs)) → AreApart own (map (parcel_for pairs) (map (λ (e : Entry). e.pair) (cond b (x ∷ filter (λ e. is_pair e.state) xs) (filter (λ e. is_pair e.state) xs))))
      at true pair ih = (first pair, ih)
      at false pair ih = ih

-- a value of two lists joined is in one of them
pub in-append : {A : Type 0} (p : A) (xs ys : List A) → (In p (xs ++ ys) → In p xs ⊎ In p ys) × (In p xs ⊎ In p ys → In p (xs ++ ys))
in-append p [] ys = (λ h. inr h, λ h. elim h [ inl a ↦ absurd a | inr b ↦ b ])
in-append p (x ∷ xs) ys =
    let ih = in-append p xs ys in (
      λ h. elim h [ inl e ↦ inl (inl e) | inr i ↦ elim (ih.0 i) [ inl a ↦ inl (inr a) | inr b ↦ inr b ] ],
      λ h. elim h [ inl a ↦ elim a [ inl e ↦ inl e | inr i ↦ inr (ih.1 (inl i)) ] | inr b ↦ inr (ih.1 (inr b)) ],
    )

pub in-reverse : {A : Type 0} (p : A) (xs : List A) → (In p (reverse xs) → In p xs) × (In p xs → In p (reverse xs))
in-reverse p [] = (λ h. h, λ h. h)
in-reverse p (x ∷ xs) =
    let ih = in-reverse p xs in
    let turned : reverse (x ∷ xs) ≡ reverse xs ++ x ∷ [] = reverse-append (x ∷ []) xs in
    let more = subst (λ ys. (In p ys → In p (reverse xs) ⊎ In p (x ∷ [])) × (In p (reverse xs) ⊎ In p (x ∷ []) → In p ys)) (sym turned) (in-append p (reverse xs) (x ∷ [])) in (
      λ h. elim (more.0 h) [ inl a ↦ inr (ih.0 a) | inr b ↦ elim b [ inl e ↦ inl e | inr n ↦ absurd n ] ],
      λ h. elim h [ inl e ↦ more.1 (inr (inl e)) | inr i ↦ more.1 (inl (ih.1 i)) ],
    )

-- ---- the pairs that a batch puts are those of the table

pub woken-settled : (s : EntryState) → is_pair s ≡ true → is_settled (woken s) ≡ true
woken-settled (state.Pending m) h = refl
woken-settled state.Doomed h = cc
woken-settled state.Live h = refl
woken-settled (state.Closing m) h = refl
woken-settled state.Alone h = refl
woken-settled state.Held h = refl

pub woken-pair : (s : EntryState) → is_pair s ≡ true → is_pair (woken s) ≡ true
woken-pair (state.Pending m) h = refl
woken-pair state.Doomed h = cc
woken-pair state.Live h = refl
woken-pair (state.Closing m) h = refl
woken-pair state.Alone h = refl
woken-pair state.Held h = refl

pub settled-pairs : (es : List Entry) → pairs_in is_settled (revived_entries es) ≡ pairs_in is_pair es
settled-pairs [] = refl
settled-pairs (x ∷ xs) = at (is_pair x.state) refl (settled-pairs xs)
  where
    test : Entry → Bool
    test e = is_pair e.state

    rest : List Entry
    rest = filter (λ e. is_settled e.state) (revived_entries xs)

    at : (b : Bool) → is_pair x.state ≡ b → pairs_in is_settled (revived_entries xs) ≡ pairs_in is_pair xs
        → map (λ (e : Entry). e.pair) (filter (λ e. is_settled e.state) (map woken_entry (cond b (x ∷ filter (λ e. is_pair e.state) xs) (filter (λ e. is_pair e.state) xs))))
        ≡ map (λ (e : Entry). e.pair) (cond b (x ∷ filter (λ e. is_pair e.state) xs) (filter (λ e. is_pair e.state) xs))
    at true pair ih = ap (map (λ (e : Entry). e.pair)) (cond-true (is_settled (woken x.state)) (woken_entry x ∷ rest) rest (woken-settled x.state pair)) ∙ ap (λ (ps : List Pair). x.pair ∷ ps) ih
    at false pair ih = ih
