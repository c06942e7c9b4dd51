-- Whatever record is at the next number, the act that the record table names takes it.
use Rattle.std.proofs.Common.{◌≡◌, ◌==◌, ℕ, Bool, true, false, not, ◌&&◌, List, [], ◌∷◌, None, Some, Option, cond, filter, refl, sym, ap, subst, ◌∙◌, inl, inr}
use Rattle.std.proofs.lemmas.Bool.{cases_Bool, both_ways, and_from, and_parts, eqb-true}
use Rattle.nat_types.specs.Same.{same}
use Rattle.nat_types.specs.declared.gateways.GatewayId.{GatewayId}
use Rattle.nat_types.specs.declared.gateways.GatewayId.TheVariants.{Zero, One}
use Rattle.nat_types.specs.declared.pairs.Endpoint.{Endpoint}
use Rattle.nat_types.specs.declared.pairs.Key.{Key}
use Rattle.addresses.specs.declared.transport.Protocol.TheVariants.{Icmp, Tcp, Udp}
use Rattle.spec_pair.specs.Acts.{IsMisplaced, AreGot, Take, LoadOwner, LoadPut, LoadDone, LoadSkip, TakePorts, LosePorts}
use Rattle.spec_pair.specs.Box.{Box, StandsNext, Letter}
use Rattle.spec_pair.specs.Ownership.{has, Ranges, keyed}
use Rattle.spec_pair.specs.RecordTable.{Absent, Proposed, Bound, Finding, Finds, Facts, AreFacts, is_free, key_of, accepted, refused, asked, agreed_to, denied, proposed, installed, told, is_senders, becomes_owned, has_no_entry, act_at_synced, act_at_unsynced, act_unless_promised, act_by_table, parcel, put_in, DoesTake}
use Rattle.spec_pair.specs.Talk.{Slot, Free, Pending, Doomed, Live, Closing, Held, Alone, MachineRecord, Install, Accept, Refuse, Ask, Yes, No, Begin, Put, Done, Want, Grant, Owner, Tell, Deed, Skip, Yield, Reject, Adopt, Decline, Leave, Stay, held, MayDo, taken_by, IsUnboundOn}

free_is : (s : Slot) → is_free s ≡ true → s ≡ Free
free_is Free h = refl
free_is s h = cc

keep_if : (b c d : Bool) → (b ≡ true → d ≡ true) → (cond b true (c && d)) ≡ (cond b true c && d)
keep_if true c d h = sym (h refl)
keep_if false c d h = refl

drop_if : (b c d : Bool) → (b ≡ true → d ≡ false) → (c && d) ≡ (cond b true c && d)
drop_if true true d h = refl
drop_if true false d h = sym (h refl)
drop_if false c d h = refl

has-filter : (f : ℕ → Bool) (p : ℕ) (qs : List ℕ) → has p (filter f qs) ≡ (has p qs && f p)
has-filter f p [] = refl
has-filter f p (q ∷ qs) = elim (cases_Bool (f q)) [
  | inl y ↦ ap (λ b. has p (cond b (q ∷ filter f qs) (filter f qs))) y ∙ ap (λ b. cond (p == q) true b) (has-filter f p qs) ∙ keep_if (p == q) (has p qs) (f p) (λ e. ap f (eqb-true p q e) ∙ y)
  | inr n ↦ ap (λ b. has p (cond b (q ∷ filter f qs) (filter f qs))) n ∙ has-filter f p qs ∙ drop_if (p == q) (has p qs) (f p) (λ e. ap f (eqb-true p q e) ∙ n)
]

pub got : (r : Ranges) (a : Box) (ports : List ℕ) → AreGot r a ports (filter (becomes_owned r a) ports)
got r a ports p = (
  λ h. (and_parts (has p ports) (becomes_owned r a p) (sym (has-filter (becomes_owned r a) p ports) ∙ h)).0,
  λ h inside off free. has-filter (becomes_owned r a) p ports ∙ and_from (has p ports) (becomes_owned r a p) h
      (and_from (r.in_ranges p && not (a.owned p)) (has_no_entry r a p)
      (and_from (r.in_ranges p) (not (a.owned p)) inside (ap not off))
      (and_from (is_free (a.table (key_of Icmp p))) (is_free (a.table (key_of Tcp p)) && is_free (a.table (key_of Udp p))) (ap is_free (free (key_of Icmp p) refl))
      (and_from (is_free (a.table (key_of Tcp p))) (is_free (a.table (key_of Udp p))) (ap is_free (free (key_of Tcp p) refl)) (ap is_free (free (key_of Udp p) refl))))),
)

-- the deeds of the table may be done, and take the record
module _ (own : Key → Bool) (i : GatewayId) (table : Key → Slot) where
  abbrev pub DoesIt : Deed → MachineRecord → Type 0
  DoesIt d q = MayDo own i table d × (taken_by d ≡ q ∷ [])

  accepts : (k : Key) (s : Slot) → table k ≡ s → DoesIt (accepted k s) (Accept k)
  accepts k (Pending m n) h = ((m, h), refl)
  accepts k s h = (λ m e o x. cc, refl)

  refuses : (k : Key) (s : Slot) → table k ≡ s → DoesIt (refused k s) (Refuse k)
  refuses k (Pending true n) h = (h, refl)
  refuses k (Pending false n) h = ((n, inl h), refl)
  refuses k (Doomed n) h = ((n, inr h), refl)
  refuses k Free h = (λ m e o x. elim x [ inl y ↦ cc | inr y ↦ cc ], refl)
  refuses k (Live n) h = (λ m e o x. elim x [ inl y ↦ cc | inr y ↦ cc ], refl)
  refuses k (Closing b n) h = (λ m e o x. elim x [ inl y ↦ cc | inr y ↦ cc ], refl)
  refuses k (Held n) h = (λ m e o x. elim x [ inl y ↦ cc | inr y ↦ cc ], refl)
  refuses k (Alone n) h = (λ m e o x. elim x [ inl y ↦ cc | inr y ↦ cc ], refl)

  answers : (rests : Bool) (k : Key) (n : Endpoint) → table k ≡ Held n → DoesIt (cond rests (Leave k n) (Stay k n)) (Ask k)
  answers true k n h = (h, refl)
  answers false k n h = (h, refl)

  asks : (rests : Bool) (k : Key) (s : Slot) → table k ≡ s → DoesIt (asked rests k s) (Ask k)
  asks rests k (Held n) h = answers rests k n h
  asks rests k s h = (λ e x. cc, refl)

  agrees : (k : Key) (s : Slot) → table k ≡ s → DoesIt (agreed_to k s) (Yes k)
  agrees k (Closing true n) h = (h, refl)
  agrees k (Closing false n) h = (h, refl)
  agrees k Free h = (λ m e o x. cc, refl)
  agrees k (Pending b n) h = (λ m e o x. cc, refl)
  agrees k (Doomed n) h = (λ m e o x. cc, refl)
  agrees k (Live n) h = (λ m e o x. cc, refl)
  agrees k (Held n) h = (λ m e o x. cc, refl)
  agrees k (Alone n) h = (λ m e o x. cc, refl)

  denies : (k : Key) (s : Slot) → table k ≡ s → DoesIt (denied k s) (No k)
  denies k (Closing m n) h = ((m, h), refl)
  denies k s h = (λ m e o x. cc, refl)

  proposes : (k : Key) (e : Endpoint) (f : Finding) → table k ≡ Free → Finds table e f → DoesIt (proposed i k e f) (Install k e)
  proposes k e Absent free found = ((free, found), refl)
  proposes k e (Proposed q) free found = at i refl
    where
      at : (j : GatewayId) → i ≡ j → DoesIt (cond (same j One) (Yield k e q) (Reject k e)) (Install k e)
      at Zero is = (tt, refl)
      at One is = ((is, free, found.0), refl)
  proposes k e Bound free found = (tt, refl)

module _ (r : Ranges) (i : GatewayId) (a : Box) (l : Letter) (n : ℕ) (f : Facts) where
  abbrev pub own : Key → Bool
  own = keyed a.owned

  installs : (k : Key) (e : Endpoint) → Finds a.table e f.found → DoesIt own i a.table (installed r i a k e f.found) (Install k e)
  installs k e found = at (is_senders r a k && is_free (a.table k)) refl
    where
      at : (b : Bool) → (is_senders r a k && is_free (a.table k)) ≡ b → DoesIt own i a.table (cond b (proposed i k e f.found) (Reject k e)) (Install k e)
      at true h = proposes own i a.table k e f.found (free_is (a.table k) (and_parts (is_senders r a k) (is_free (a.table k)) h).1) found
      at false h = (tt, refl)

  tells : (k : Key) (e : Endpoint) → a.synced ≡ true → AreFacts r a (Tell k e) f → DoesIt own i a.table (told r a k e f.clear) (Tell k e)
  tells k e synced facts = at ((is_senders r a k && is_free (a.table k)) && f.clear) refl
    where
      at : (b : Bool) → ((is_senders r a k && is_free (a.table k)) && f.clear) ≡ b → DoesIt own i a.table (cond b (Adopt k e) (Decline k e)) (Tell k e)
      at true h =
          let p = and_parts (is_senders r a k && is_free (a.table k)) f.clear h in
          let q = and_parts (is_senders r a k) (is_free (a.table k)) p.0 in
          ((free_is (a.table k) q.1, subst (λ (b : Bool). IsUnboundOn (not b && keyed a.owned k) a.table e) synced (facts.0 p.1)), refl)
      at false h = (tt, refl)

  module _ (synced : a.synced ≡ true) (together : a.lone ≡ false) where
    by_deed : (q : MachineRecord) (d : Deed) → DoesIt own i a.table d q → StandsNext a l n q → DoesTake r i a l (Take l n q d)
    by_deed q d does next = ((synced, together, does.0, does.1, next), refl, refl)

    grants : (ports : List ℕ) (b : Bool) → a.wants ≡ b → AreGot r a ports f.got → StandsNext a l n (Grant ports) → DoesTake r i a l (cond b (TakePorts l n ports f.got) (LosePorts l n ports))
    grants ports true wants got next = ((synced, together, wants, got, next), refl, refl)
    grants ports false wants got next = ((synced, together, wants, next), refl, refl)

    takes_synced : (q : MachineRecord) → AreFacts r a q f → StandsNext a l n q → DoesTake r i a l (act_at_synced r i a l n f q)
    takes_synced (Install k e) facts next = by_deed (Install k e) (installed r i a k e f.found) (installs k e facts) next
    takes_synced (Accept k) facts next = by_deed (Accept k) (accepted k (a.table k)) (accepts own i a.table k (a.table k) refl) next
    takes_synced (Refuse k) facts next = by_deed (Refuse k) (refused k (a.table k)) (refuses own i a.table k (a.table k) refl) next
    takes_synced (Ask k) facts next = by_deed (Ask k) (asked f.rests k (a.table k)) (asks own i a.table f.rests k (a.table k) refl) next
    takes_synced (Yes k) facts next = by_deed (Yes k) (agreed_to k (a.table k)) (agrees own i a.table k (a.table k) refl) next
    takes_synced (No k) facts next = by_deed (No k) (denied k (a.table k)) (denies own i a.table k (a.table k) refl) next
    takes_synced Begin facts next = by_deed Begin (Skip Begin) (tt, refl) next
    takes_synced (Put k e) facts next = by_deed (Put k e) (Skip (Put k e)) (tt, refl) next
    takes_synced Done facts next = by_deed Done (Skip Done) (tt, refl) next
    takes_synced Want facts next = ((synced, together, facts.0, facts.1, next), refl, refl)
    takes_synced (Grant ports) facts next = grants ports a.wants refl facts next
    takes_synced (Owner first last) facts next = by_deed (Owner first last) (Skip (Owner first last)) (tt, refl) next
    takes_synced (Tell k e) facts next = by_deed (Tell k e) (told r a k e f.clear) (tells k e synced facts) next

    unless_promised : (o : Option ℕ) (q : MachineRecord) → a.promised ≡ o → AreFacts r a q f → StandsNext a l n q → DoesTake r i a l (act_unless_promised r i a l n f o q)
    unless_promised None q is facts next = takes_synced q facts next
    unless_promised (Some m) q is facts next = ((synced, together, (m, is), next), refl, refl)

  module _ (unsynced : a.synced ≡ false) where
    skips_it : (q : MachineRecord) → IsMisplaced r a q → StandsNext a l n q → DoesTake r i a l (LoadSkip l n q)
    skips_it q out next = ((unsynced, next, out), refl, refl)

    puts_it : (k : Key) (e : Endpoint) (x : Finding) (b : Bool) → (a.loading && (keyed r.in_ranges k && is_free (a.table k))) ≡ b → Finds a.table e x → StandsNext a l n (Put k e)
        → DoesTake r i a l (cond b (put_in r i a l n f k e x) (LoadSkip l n (Put k e)))
    puts_it k e Absent true h found next =
        let p = and_parts a.loading (keyed r.in_ranges k && is_free (a.table k)) h in
        let q = and_parts (keyed r.in_ranges k) (is_free (a.table k)) p.1 in
        ((unsynced, p.0, free_is (a.table k) q.1, found, next, q.0), refl, refl)
    puts_it k e (Proposed at) true h found next = skips_it (Put k e) (λ y inside free none. none at (ap held found.0)) next
    puts_it k e Bound true h found next = skips_it (Put k e) (λ y inside free none. found.0 none) next
    puts_it k e x false h found next = skips_it (Put k e)
        (λ y inside free none. both_ways (a.loading && (keyed r.in_ranges k && is_free (a.table k))) h
        (and_from a.loading (keyed r.in_ranges k && is_free (a.table k)) y (and_from (keyed r.in_ranges k) (is_free (a.table k)) inside (ap is_free free)))) next

    tells_it : (k : Key) (e : Endpoint) (b : Bool) → (a.loading && ((keyed r.in_ranges k && is_free (a.table k)) && f.clear)) ≡ b → AreFacts r a (Tell k e) f → StandsNext a l n (Tell k e)
        → DoesTake r i a l (cond b (LoadPut l n (parcel k e true)) (LoadSkip l n (Tell k e)))
    tells_it k e true h facts next =
        let p = and_parts a.loading ((keyed r.in_ranges k && is_free (a.table k)) && f.clear) h in
        let c = and_parts (keyed r.in_ranges k && is_free (a.table k)) f.clear p.1 in
        let q = and_parts (keyed r.in_ranges k) (is_free (a.table k)) c.0 in
        ((unsynced, p.0, free_is (a.table k) q.1, subst (λ (b : Bool). IsUnboundOn (not b && keyed a.owned k) a.table e) unsynced (facts.0 c.1), next, q.0), refl, refl)
    tells_it k e false h facts next = skips_it (Tell k e)
        (λ y inside free none. both_ways (a.loading && ((keyed r.in_ranges k && is_free (a.table k)) && f.clear)) h
        (and_from a.loading ((keyed r.in_ranges k && is_free (a.table k)) && f.clear) y (and_from (keyed r.in_ranges k && is_free (a.table k)) f.clear (and_from (keyed r.in_ranges k) (is_free (a.table k)) inside (ap is_free free))
        (facts.1 (subst (λ (b : Bool). IsUnboundOn (not b && keyed a.owned k) a.table e) (sym unsynced) none))))) next

    dones : (b : Bool) → a.loading ≡ b → StandsNext a l n Done → DoesTake r i a l (cond b (LoadDone l n) (LoadSkip l n Done))
    dones true h next = ((unsynced, h, next), refl, refl)
    dones false h next = skips_it Done (λ y. both_ways a.loading h y) next

    names_it : (first last : ℕ) (b : Bool) → (a.loading && (f.is_empty && f.rises)) ≡ b → AreFacts r a (Owner first last) f → StandsNext a l n (Owner first last)
        → DoesTake r i a l (cond b (LoadOwner l n first last) (LoadSkip l n (Owner first last)))
    names_it first last true h facts next =
        let p = and_parts a.loading (f.is_empty && f.rises) h in
        let q = and_parts f.is_empty f.rises p.1 in
        ((unsynced, p.0, facts.0.0 q.0, facts.1.0 q.1, next), refl, refl)
    names_it first last false h facts next = skips_it (Owner first last)
        (λ y none rises. both_ways (a.loading && (f.is_empty && f.rises)) h
        (and_from a.loading (f.is_empty && f.rises) y (and_from f.is_empty f.rises (facts.0.1 none) (facts.1.1 rises)))) next

    takes_unsynced : (q : MachineRecord) → AreFacts r a q f → StandsNext a l n q → DoesTake r i a l (act_at_unsynced r i a l n f q)
    takes_unsynced (Install k e) facts next = skips_it (Install k e) tt next
    takes_unsynced (Accept k) facts next = skips_it (Accept k) tt next
    takes_unsynced (Refuse k) facts next = skips_it (Refuse k) tt next
    takes_unsynced (Ask k) facts next = skips_it (Ask k) tt next
    takes_unsynced (Yes k) facts next = skips_it (Yes k) tt next
    takes_unsynced (No k) facts next = skips_it (No k) tt next
    takes_unsynced Begin facts next = ((unsynced, next), refl, refl)
    takes_unsynced (Put k e) facts next = puts_it k e f.found (a.loading && (keyed r.in_ranges k && is_free (a.table k))) refl facts next
    takes_unsynced Done facts next = dones a.loading refl next
    takes_unsynced Want facts next = skips_it Want tt next
    takes_unsynced (Grant ports) facts next = skips_it (Grant ports) tt next
    takes_unsynced (Tell k e) facts next = tells_it k e (a.loading && ((keyed r.in_ranges k && is_free (a.table k)) && f.clear)) refl facts next
    takes_unsynced (Owner first last) facts next = names_it first last (a.loading && (f.is_empty && f.rises)) refl facts next

  pub takes_it : (q : MachineRecord) → (a.synced ≡ true → a.lone ≡ false) → StandsNext a l n q → AreFacts r a q f → DoesTake r i a l (act_by_table r i a l n f q)
  takes_it q together next facts = at a.synced refl
    where
      at : (b : Bool) → a.synced ≡ b → DoesTake r i a l (cond b (act_unless_promised r i a l n f a.promised q) (act_at_unsynced r i a l n f q))
      at true is = unless_promised is (together is) a.promised q refl facts next
      at false is = takes_unsynced is q facts next
