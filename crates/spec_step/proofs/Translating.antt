-- The pairs by which a packet is sent translate, and a note names each of them.
use Rattle.std.proofs.Common.{◌≡◌, ℕ, Bool, true, false, cond, Option, Some, None, Ok, [], ◌∷◌, refl, sym, ap, subst, ◌∙◌}
use Rattle.std.proofs.lemmas.Bool.{cond-false, cond-true}
use Rattle.addresses.specs.declared.transport.Port.{Port}
use Rattle.addresses.specs.declared.transport.Protocol.{Protocol}
use Rattle.nat_types.specs.declared.gateways.GatewayId.{GatewayId}
use Rattle.nat_types.specs.declared.pairs.Endpoint.{Endpoint}
use Rattle.nat_types.specs.declared.pairs.EntryState.{EntryState}
use Rattle.nat_types.specs.declared.pairs.EntryState.TheVariants as state
use Rattle.nat_types.specs.declared.pairs.Key.{Key}
use Rattle.nat_types.specs.declared.pairs.Pair.{Pair}
use Rattle.nat_types.specs.declared.records.Record.TheVariants as record_of
use Rattle.nat_types.specs.declared.notes.NoteKind.{NoteKind}
use Rattle.nat_types.specs.declared.notes.NoteKind.TheVariants.{Retaken}
use Rattle.nat_types.specs.declared.notes.NoteKind.TheVariants as kinds
use Rattle.nat_types.specs.Same.{same_key}
use Rattle.nat_types.proofs.Offered.{key-false, key-self}
use Rattle.slots.specs.declared.ranks.Rank.TheVariants.{First}
use Rattle.bindings.specs.declared.entries.Entry.{Entry}
use Rattle.bindings.specs.Entries.{entry_in, entry_of, is_of_rank, slot_of, translates}
use Rattle.bindings.specs.Lists.{put_in}
use Rattle.bindings.proofs.Offered.{entry-serves, entry-slot, slot-key, slot-put}
use Rattle.ipv4.specs.declared.flows.Flow.{Flow}
use Rattle.spec_binding.specs.declared.changes.Change.TheVariants.{Add}
use Rattle.spec_binding.specs.declared.changes.Change.TheVariants as change_of
use Rattle.spec_binding.specs.declared.changes.Transition.{Transition}
use Rattle.spec_binding.specs.declared.changes.Want.TheVariants as want
use Rattle.spec_binding.specs.declared.changes.PortRequest.{PortRequest}
use Rattle.spec_binding.specs.Books.{Book, IsBook, is_lone, is_synced}
use Rattle.spec_binding.specs.Rows.{after, carry_row, is_at_limit, known_wish, may_want, new_pair, new_wish, wanting_row, paired_wish, port_for, quiet, row, use_row, used_row, wish, wish_by, wish_of, noted_with}
use Rattle.spec_binding.specs.Serving.{serving}
use Rattle.spec_binding.specs.WellFormed.{IsWellFormedEndpoint}
use Rattle.spec_binding.proofs.Offered.{at-key, chosen-says, wish-keeps}
use Rattle.packet_rules.specs.Flows.{target_of}
use Rattle.spec_step.specs.Shown.{Shown}
use Rattle.spec_step.specs.Truly.{used_pairs}
use Rattle.spec_step.specs.Verdict.{pair_at, pair_in, target_pair}
use Rattle.spec_step.proofs.Steady.{own-serves, serves-by}

-- packets are translated by the pair
pub record Translates (b : Book) (p : Pair) : Type 0 where
  pub synced : is_synced b.stage ≡ true
  pub entry : Entry
  pub found : slot_of b.entries p.key ≡ Some entry
  pub pair : entry.pair ≡ p
  pub live : translates entry.state ≡ true

state-note : (counts : Bool) (i : GatewayId) (now : ℕ) (q : Pair) (s : EntryState) → translates s ≡ true → used_pairs (noted_with counts i now (used_row q s).what) ≡ q ∷ []
state-note counts i now q (state.Pending true) is = refl
state-note counts i now q (state.Pending false) is = absurd (cc)
state-note counts i now q state.Doomed is = absurd (cc)
state-note counts i now q state.Live is = refl
state-note counts i now q (state.Closing true) is = refl
state-note counts i now q (state.Closing false) is = absurd (cc)
state-note counts i now q state.Alone is = refl
state-note counts i now q state.Held is = refl

-- a packet that a pair carries is noted as a use of it, whether the use counts or not
pub carry-note : (counts : Bool) (b : Book) (p : Pair) (i : GatewayId) (now : ℕ) → Translates b p → used_pairs (noted_with counts i now (carry_row b p.key).what) ≡ p ∷ []
carry-note counts b p i now t = at (is_synced b.stage) (slot_of b.entries p.key) t.synced t.found
  where
    at : (s : Bool) (o : Option Entry) → s ≡ true → o ≡ Some t.entry → used_pairs (noted_with counts i now (let r : Transition = cond s (use_row o) quiet in r.what)) ≡ p ∷ []
    at true (Some x) synced is =
        let same : x ≡ t.entry = cc in
        subst (λ (y : Entry). used_pairs (noted_with counts i now (used_row y.pair y.state).what) ≡ p ∷ []) (sym same)
        (state-note counts i now t.entry.pair t.entry.state t.live ∙ ap (λ (q : Pair). q ∷ []) t.pair)
    at true None synced is = absurd (cc)
    at false o synced is = absurd (cc)

pub pair-is : (p : Pair) (e : Endpoint) (port : Port) → p.endpoint ≡ e → e.protocol ≡ p.key.protocol → p.key.port ≡ port → p ≡ new_pair e port
pair-is p e port a b c =
    ap (λ (x : Endpoint). let q : Pair = record { key = p.key; endpoint = x } in q) a
    ∙ (ap (λ (x : Protocol). let q : Pair = record { key = record { protocol = x; port = p.key.port }; endpoint = e } in q) (sym b)
    ∙ ap (λ (x : Port). let q : Pair = record { key = record { protocol = e.protocol; port = x }; endpoint = e } in q) c)

-- ---- the pair of an endpoint whose packet is translated at once

module _ (b : Book) (apart full : Bool) (e : Endpoint) (is : IsBook b) where
  -- packets are translated by the pair that an endpoint has already, where its entry translates
  known-owns : is_synced b.stage ≡ true → (x : Entry) → entry_of b.entries e ≡ Some x → (port : Port) → x.pair.key.port ≡ port → translates x.state ≡ true → Translates b (new_pair e port)
  known-owns synced x there port at live =
      let found = entry-slot b.entries e x is.keys there in
      let formed = is.formed x.pair.key x found in
      let serving = (entry-serves b.entries e x there).1 in
      let same = pair-is x.pair e port serving (ap (λ (q : Endpoint). q.protocol) (sym serving) ∙ formed.protocol) at in
      record {
        synced = synced;
        entry = x;
        found = ap (λ (q : Pair). slot_of b.entries q.key) (sym same) ∙ found;
        pair = same;
        live = live;
      }

  known-says : is_synced b.stage ≡ true → (x : Entry) → entry_of b.entries e ≡ Some x → (p : Pair) (s : EntryState) → x.pair ≡ p → x.state ≡ s → (port : Port) → (known_wish p s).answer ≡ want.Port port
      → Translates (after b (known_wish p s).row) (new_pair e port)
  known-says synced x there p (state.Pending true) pair st port says = let one : p.key.port ≡ port = cc in known-owns synced x there port (ap (λ (q : Pair). q.key.port) pair ∙ one) (ap translates st)
  known-says synced x there p (state.Pending false) pair st port says = absurd (cc)
  known-says synced x there p state.Doomed pair st port says = absurd (cc)
  known-says synced x there p state.Live pair st port says = let one : p.key.port ≡ port = cc in known-owns synced x there port (ap (λ (q : Pair). q.key.port) pair ∙ one) (ap translates st)
  known-says synced x there p (state.Closing true) pair st port says = let one : p.key.port ≡ port = cc in known-owns synced x there port (ap (λ (q : Pair). q.key.port) pair ∙ one) (ap translates st)
  known-says synced x there p (state.Closing false) pair st port says = absurd (cc)
  known-says synced x there p state.Alone pair st port says = let one : p.key.port ≡ port = cc in known-owns synced x there port (ap (λ (q : Pair). q.key.port) pair ∙ one) (ap translates st)
  known-says synced x there p state.Held pair st port says = let one : p.key.port ≡ port = cc in known-owns synced x there port (ap (λ (q : Pair). q.key.port) pair ∙ one) (ap translates st)

  -- packets are translated by the pair that is added for an endpoint, in a state in which it translates
  new-owns : is_synced b.stage ≡ true → (q port : Port) (s : EntryState) (what : Option NoteKind) → port_for b e ≡ Some q → q ≡ port → translates s ≡ true → Translates (after b (row (Add (entry_in s (new_pair e q))) None what)) (new_pair e port)
  new-owns synced q port s what chosen same live =
      let fresh = chosen-says b e q chosen in
      let there : Translates (after b (row (Add (entry_in s (new_pair e q))) None what)) (new_pair e q) = record {
        synced = synced;
        entry = entry_in s (new_pair e q);
        found = slot-put (entry_in s (new_pair e q)) b.entries (new_pair e q).key fresh.free ∙ self (new_pair e q).key;
        pair = refl;
        live = live;
      } in
      subst (λ (x : Port). Translates (after b (row (Add (entry_in s (new_pair e q))) None what)) (new_pair e x)) same there
    where
      self : (k : Key) → cond (same_key k k) (Some (entry_in s (new_pair e q))) (slot_of b.entries k) ≡ Some (entry_in s (new_pair e q))
      self k = cond-true (same_key k k) _ _ (key-self k)

  new-says : is_synced b.stage ≡ true → (o : Option Port) → port_for b e ≡ o → (port : Port) → (new_wish b apart full e o).answer ≡ want.Port port → Translates (after b (new_wish b apart full e o).row) (new_pair e port)
  new-says synced None there port says = absurd (cc)
  new-says synced (Some q) there port says = at (is_lone b.stage) says
    where
      second : (apart full : Bool) → (paired_wish apart full (new_pair e q)).answer ≡ want.Port port → Translates (after b (paired_wish apart full (new_pair e q)).row) (new_pair e port)
      second true full says = let same : q ≡ port = cc in new-owns synced q port state.Alone (Some (kinds.Alone (new_pair e q))) there same refl
      second false true says = absurd (cc)
      second false false says = absurd (cc)

      at : (t : Bool) → (let w : PortRequest = cond t (wish (want.Port q) (row (Add (entry_in state.Live (new_pair e q))) None (Some (Retaken (new_pair e q))))) (paired_wish apart full (new_pair e q)) in w.answer) ≡ want.Port port
          → Translates (after b (let w : PortRequest = cond t (wish (want.Port q) (row (Add (entry_in state.Live (new_pair e q))) None (Some (Retaken (new_pair e q))))) (paired_wish apart full (new_pair e q)) in w.row)) (new_pair e port)
      at true says = let same : q ≡ port = cc in new-owns synced q port state.Live (Some (Retaken (new_pair e q))) there same refl
      at false says = second apart full says

  by-says : is_synced b.stage ≡ true → (o : Option Entry) → entry_of b.entries e ≡ o → (port : Port) → (wish_by b apart full e o).answer ≡ want.Port port → Translates (after b (wish_by b apart full e o).row) (new_pair e port)
  by-says synced (Some x) there port says = known-says synced x there x.pair x.state refl refl port says
  by-says synced None there port says = at (is_at_limit b e.address) says
    where
      at : (t : Bool) → (let w : PortRequest = cond t (wish want.HostLimit quiet) (new_wish b apart full e (port_for b e)) in w.answer) ≡ want.Port port
          → Translates (after b (let w : PortRequest = cond t (wish want.HostLimit quiet) (new_wish b apart full e (port_for b e)) in w.row)) (new_pair e port)
      at true says = absurd (cc)
      at false says = new-says synced (port_for b e) refl port says

  -- an endpoint whose wish is answered with a port has a pair that translates afterwards
  pub wish-owns : (port : Port) → (wish_of b apart full e).answer ≡ want.Port port → Translates (after b (wish_of b apart full e).row) (new_pair e port)
  wish-owns port says = at (is_synced b.stage) refl says
    where
      at : (t : Bool) → is_synced b.stage ≡ t → (let w : PortRequest = cond t (wish_by b apart full e (entry_of b.entries e)) (wish want.NotNow quiet) in w.answer) ≡ want.Port port
          → Translates (after b (let w : PortRequest = cond t (wish_by b apart full e (entry_of b.entries e)) (wish want.NotNow quiet) in w.row)) (new_pair e port)
      at true synced says = by-says synced (entry_of b.entries e) refl port says
      at false synced says = absurd (cc)

  -- ---- the pair is the endpoint's pair

  -- the pair of an endpoint's entry that translates
  known-there : (x : Entry) → entry_of b.entries e ≡ Some x → (port : Port) → x.pair.key.port ≡ port → translates x.state ≡ true → serving b e ≡ Some (new_pair e port)
  known-there x there port at live =
      let found = entry-slot b.entries e x is.keys there in
      let formed = is.formed x.pair.key x found in
      let endpoint = (entry-serves b.entries e x there).1 in
      let same = pair-is x.pair e port endpoint (ap (λ (q : Endpoint). q.protocol) (sym endpoint) ∙ formed.protocol) at in
      serves-by (entry_of b.entries e) x (new_pair e port) there same live

  known-serves : (x : Entry) → entry_of b.entries e ≡ Some x → (p : Pair) (s : EntryState) → x.pair ≡ p → x.state ≡ s → (port : Port) → (known_wish p s).answer ≡ want.Port port
      → serving (after b (known_wish p s).row) e ≡ Some (new_pair e port)
  known-serves x there p (state.Pending true) pair st port says = let one : p.key.port ≡ port = cc in known-there x there port (ap (λ (q : Pair). q.key.port) pair ∙ one) (ap translates st)
  known-serves x there p (state.Pending false) pair st port says = absurd (cc)
  known-serves x there p state.Doomed pair st port says = absurd (cc)
  known-serves x there p state.Live pair st port says = let one : p.key.port ≡ port = cc in known-there x there port (ap (λ (q : Pair). q.key.port) pair ∙ one) (ap translates st)
  known-serves x there p (state.Closing true) pair st port says = let one : p.key.port ≡ port = cc in known-there x there port (ap (λ (q : Pair). q.key.port) pair ∙ one) (ap translates st)
  known-serves x there p (state.Closing false) pair st port says = absurd (cc)
  known-serves x there p state.Alone pair st port says = let one : p.key.port ≡ port = cc in known-there x there port (ap (λ (q : Pair). q.key.port) pair ∙ one) (ap translates st)
  known-serves x there p state.Held pair st port says = let one : p.key.port ≡ port = cc in known-there x there port (ap (λ (q : Pair). q.key.port) pair ∙ one) (ap translates st)

  -- a pair that is added for an endpoint, of the gateway's own, in a state in which it translates
  new-there : (q port : Port) (s : EntryState) (what : Option NoteKind) → port_for b e ≡ Some q → q ≡ port → translates s ≡ true → is_of_rank First s ≡ true → IsBook (after b (row (Add (entry_in s (new_pair e q))) None what))
      → serving (after b (row (Add (entry_in s (new_pair e q))) None what)) e ≡ Some (new_pair e port)
  new-there q port s what chosen same live own book =
      let y = entry_in s (new_pair e q) in
      let fresh = chosen-says b e q chosen in
      let found = slot-put y b.entries (new_pair e q).key fresh.free ∙ cond-true (same_key (new_pair e q).key (new_pair e q).key) (Some y) (slot_of b.entries (new_pair e q).key) (key-self (new_pair e q).key) in
      own-serves (put_in y b.entries) y book.keys book.endpoints found own live ∙ ap (λ (x : Port). Some (new_pair e x)) same

  new-serves : (o : Option Port) → port_for b e ≡ o → IsBook (after b (new_wish b apart full e o).row) → (port : Port) → (new_wish b apart full e o).answer ≡ want.Port port → serving (after b (new_wish b apart full e o).row) e ≡ Some (new_pair e port)
  new-serves None there book port says = absurd (cc)
  new-serves (Some q) there book port says = at (is_lone b.stage) book says
    where
      second : (apart full : Bool) → IsBook (after b (paired_wish apart full (new_pair e q)).row) → (paired_wish apart full (new_pair e q)).answer ≡ want.Port port → serving (after b (paired_wish apart full (new_pair e q)).row) e ≡ Some (new_pair e port)
      second true full book says = let same : q ≡ port = cc in new-there q port state.Alone (Some (kinds.Alone (new_pair e q))) there same refl refl book
      second false true book says = absurd (cc)
      second false false book says = absurd (cc)

      at : (t : Bool) → IsBook (after b (let w : PortRequest = cond t (wish (want.Port q) (row (Add (entry_in state.Live (new_pair e q))) None (Some (Retaken (new_pair e q))))) (paired_wish apart full (new_pair e q)) in w.row))
          → (let w : PortRequest = cond t (wish (want.Port q) (row (Add (entry_in state.Live (new_pair e q))) None (Some (Retaken (new_pair e q))))) (paired_wish apart full (new_pair e q)) in w.answer) ≡ want.Port port
          → serving (after b (let w : PortRequest = cond t (wish (want.Port q) (row (Add (entry_in state.Live (new_pair e q))) None (Some (Retaken (new_pair e q))))) (paired_wish apart full (new_pair e q)) in w.row)) e ≡ Some (new_pair e port)
      at true book says = let same : q ≡ port = cc in new-there q port state.Live (Some (Retaken (new_pair e q))) there same refl refl book
      at false book says = second apart full book says

  -- an endpoint whose wish is answered with a port goes by that pair afterwards
  pub wish-serves : IsWellFormedEndpoint e → (port : Port) → (wish_of b apart full e).answer ≡ want.Port port → serving (after b (wish_of b apart full e).row) e ≡ Some (new_pair e port)
  wish-serves formed port says = at (is_synced b.stage) (entry_of b.entries e) refl (wish-keeps b apart full e is formed) says
    where
      limited : (t : Bool) → IsBook (after b (let w : PortRequest = cond t (wish want.HostLimit quiet) (new_wish b apart full e (port_for b e)) in w.row))
          → (let w : PortRequest = cond t (wish want.HostLimit quiet) (new_wish b apart full e (port_for b e)) in w.answer) ≡ want.Port port
          → serving (after b (let w : PortRequest = cond t (wish want.HostLimit quiet) (new_wish b apart full e (port_for b e)) in w.row)) e ≡ Some (new_pair e port)
      limited true book says = absurd (cc)
      limited false book says = new-serves (port_for b e) refl book port says

      by : (o : Option Entry) → entry_of b.entries e ≡ o → IsBook (after b (wish_by b apart full e o).row) → (wish_by b apart full e o).answer ≡ want.Port port → serving (after b (wish_by b apart full e o).row) e ≡ Some (new_pair e port)
      by (Some x) there book says = known-serves x there x.pair x.state refl refl port says
      by None there book says = limited (is_at_limit b e.address) book says

      at : (t : Bool) (o : Option Entry) → entry_of b.entries e ≡ o → IsBook (after b (let w : PortRequest = cond t (wish_by b apart full e o) (wish want.NotNow quiet) in w.row))
          → (let w : PortRequest = cond t (wish_by b apart full e o) (wish want.NotNow quiet) in w.answer) ≡ want.Port port
          → serving (after b (let w : PortRequest = cond t (wish_by b apart full e o) (wish want.NotNow quiet) in w.row)) e ≡ Some (new_pair e port)
      at true o there book says = by o there book says
      at false o there book says = absurd (cc)

  -- ---- a pair that translates still does, whatever an endpoint wishes

  module _ (p : Pair) (t : Translates b p) where
    same-still : Translates (after b quiet) p
    same-still = record { synced = t.synced; entry = t.entry; found = t.found; pair = t.pair; live = t.live }

    put-still : (n : Entry) → slot_of b.entries n.pair.key ≡ None → Translates (record b { entries = put_in n b.entries }) p
    put-still n free =
        record {
          synced = t.synced;
          entry = t.entry;
          found = slot-put n b.entries p.key free ∙ (cond-false (same_key n.pair.key p.key) (Some n) (slot_of b.entries p.key) (key-false n.pair.key p.key other) ∙ t.found);
          pair = t.pair;
          live = t.live;
        }
      where
        other : n.pair.key ≡ p.key → ⊥
        other same = let clash : None ≡ Some t.entry = sym free ∙ (ap (slot_of b.entries) same ∙ t.found) in absurd (cc)

    known-still : (q : Pair) (s : EntryState) → Translates (after b (known_wish q s).row) p
    known-still q (state.Pending true) = same-still
    known-still q (state.Pending false) = same-still
    known-still q state.Doomed = same-still
    known-still q state.Live = same-still
    known-still q (state.Closing true) = same-still
    known-still q (state.Closing false) = same-still
    known-still q state.Alone = same-still
    known-still q state.Held = same-still

    none-still : Translates (after b (wanting_row b full)) p
    none-still = at (may_want b full)
      where
        at : (c : Bool) → Translates (after b (let r : Transition = cond c (row change_of.Want (Some record_of.Want) None) quiet in r)) p
        at true = record { synced = t.synced; entry = t.entry; found = t.found; pair = t.pair; live = t.live }
        at false = same-still

    new-still : (o : Option Port) → port_for b e ≡ o → Translates (after b (new_wish b apart full e o).row) p
    new-still None there = none-still
    new-still (Some port) there = at (is_lone b.stage)
      where
        free : slot_of b.entries (new_pair e port).key ≡ None
        free = (chosen-says b e port there).free

        paired : (apart full : Bool) → Translates (after b (paired_wish apart full (new_pair e port)).row) p
        paired true full = put-still (entry_in state.Alone (new_pair e port)) free
        paired false true = same-still
        paired false false = put-still (entry_in (state.Pending false) (new_pair e port)) free

        at : (c : Bool) → Translates (after b (let w : PortRequest = cond c (wish (want.Port port) (row (Add (entry_in state.Live (new_pair e port))) None (Some (Retaken (new_pair e port))))) (paired_wish apart full (new_pair e port)) in w.row)) p
        at true = put-still (entry_in state.Live (new_pair e port)) free
        at false = paired apart full

    pub wish-still : Translates (after b (wish_of b apart full e).row) p
    wish-still = at (is_synced b.stage)
      where
        limited : (c : Bool) → Translates (after b (let w : PortRequest = cond c (wish want.HostLimit quiet) (new_wish b apart full e (port_for b e)) in w.row)) p
        limited true = same-still
        limited false = new-still (port_for b e) refl

        by : (o : Option Entry) → entry_of b.entries e ≡ o → Translates (after b (wish_by b apart full e o).row) p
        by (Some x) there = known-still x.pair x.state
        by None there = limited (is_at_limit b e.address)

        at : (c : Bool) → Translates (after b (let w : PortRequest = cond c (wish_by b apart full e (entry_of b.entries e)) (wish want.NotNow quiet) in w.row)) p
        at true = by (entry_of b.entries e) refl
        at false = same-still

-- ---- the pair of the port that a packet goes to

abbrev pub IsThere : Shown → Flow → Pair → Type 0
IsThere g flow p = Translates g.ledger.book p × (p.key ≡ target_of flow)

pub target-translates : (g : Shown) (flow : Flow) (p : Pair) → is_synced g.ledger.book.stage ≡ true → target_pair g flow ≡ Ok p → IsThere g flow p
target-translates g flow p synced is = at (slot_of g.ledger.book.entries (target_of flow)) refl is
  where
    made : (x : Entry) → slot_of g.ledger.book.entries (target_of flow) ≡ Some x → x.pair ≡ p → translates x.state ≡ true → IsThere g flow p
    made x there same live = (
      record {
        synced = synced;
        entry = x;
        found = ap (λ (q : Pair). slot_of g.ledger.book.entries q.key) (sym same) ∙ at-key g.ledger.book.entries (target_of flow) x there;
        pair = same;
        live = live;
      },
      ap (λ (q : Pair). q.key) (sym same) ∙ slot-key g.ledger.book.entries (target_of flow) x there,
    )

    state-of : (x : Entry) → slot_of g.ledger.book.entries (target_of flow) ≡ Some x → (s : EntryState) → x.state ≡ s → pair_in s x.pair ≡ Ok p → IsThere g flow p
    state-of x there (state.Pending true) st is = let same : x.pair ≡ p = cc in made x there same (ap translates st)
    state-of x there (state.Pending false) st is = absurd (cc)
    state-of x there state.Doomed st is = absurd (cc)
    state-of x there state.Live st is = let same : x.pair ≡ p = cc in made x there same (ap translates st)
    state-of x there (state.Closing true) st is = let same : x.pair ≡ p = cc in made x there same (ap translates st)
    state-of x there (state.Closing false) st is = absurd (cc)
    state-of x there state.Alone st is = let same : x.pair ≡ p = cc in made x there same (ap translates st)
    state-of x there state.Held st is = let same : x.pair ≡ p = cc in made x there same (ap translates st)

    at : (o : Option Entry) → slot_of g.ledger.book.entries (target_of flow) ≡ o → pair_at o ≡ Ok p → IsThere g flow p
    at None there is = absurd (cc)
    at (Some x) there is = state-of x there x.state refl is
