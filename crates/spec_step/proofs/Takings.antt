-- A wish for a port uses no pair, and what is told of a packet that is kept is true.
use Rattle.std.proofs.Common.{◌≡◌, ℕ, Bool, true, false, cond, List, [], ◌∷◌, Option, Some, None, IsPermutation, refl, sym, subst, nat_lt, ◌++◌, inl, arith}
use Rattle.std.proofs.lemmas.List.{append-nil, map-append}
use Rattle.std.proofs.lemmas.List.Sorted.{IsPermutation-append_comm, IsPermutation-append_right, IsPermutation-cons, IsPermutation-refl, IsPermutation-trans}
use Rattle.addresses.specs.declared.transport.Port.{Port}
use Rattle.nat_types.specs.declared.gateways.GatewayId.{GatewayId}
use Rattle.nat_types.specs.declared.gateways.Side.{Side}
use Rattle.nat_types.specs.declared.notes.NoteKind.TheVariants.{Retaken}
use Rattle.nat_types.specs.declared.pairs.Endpoint.{Endpoint}
use Rattle.nat_types.specs.declared.pairs.EntryState.{EntryState}
use Rattle.nat_types.specs.declared.pairs.EntryState.TheVariants as state
use Rattle.nat_types.specs.declared.pairs.Pair.{Pair}
use Rattle.nat_types.specs.declared.records.Record.TheVariants as record_of
use Rattle.bindings.specs.declared.entries.Entry.{Entry}
use Rattle.bindings.specs.Entries.{entry_in, entry_of}
use Rattle.ipv4.specs.declared.flows.Flow.{Flow}
use Rattle.spec_binding.specs.declared.changes.Change.TheVariants.{Add}
use Rattle.spec_binding.specs.declared.changes.Change.TheVariants as change_of
use Rattle.spec_binding.specs.declared.changes.Transition.{Transition}
use Rattle.spec_binding.specs.declared.changes.PortRequest.{PortRequest}
use Rattle.spec_binding.specs.declared.changes.Want.TheVariants as want
use Rattle.spec_binding.specs.Books.{Book, is_lone, is_synced}
use Rattle.spec_binding.specs.Rows.{is_at_limit, known_wish, may_want, new_pair, new_wish, wanting_row, noted_by, paired_wish, port_for, proposal, quiet, row, wish, wish_by, wish_of}
use Rattle.waiting.specs.declared.waits.WaitsFor.{WaitsFor}
use Rattle.waiting.specs.declared.waits.WaitsFor.TheVariants as wait
use Rattle.waiting.specs.Packets.{HeldPacket, hop_count, with_room, without_first_hop}
use Rattle.waiting.specs.Waits.{is_for_pair}
use Rattle.packet_rules.specs.declared.translations.Translation.{Translation}
use Rattle.packet_rules.specs.declared.translations.Translation.TheVariants.{Outward, Inward, Hairpin}
use Rattle.spec_step.specs.Parts.{keeping, waiting, wanted_for}
use Rattle.spec_step.specs.Shown.{GatewayAndOutput}
use Rattle.spec_step.specs.Truly.{known_of, packets_of, used_pairs}
use Rattle.spec_step.proofs.Steady.{steady-same}
use Rattle.spec_step.proofs.Telling.{Told, at_hand, swap-front}

-- ---- what decides where packets go

pub wanted-for-known : (s : GatewayAndOutput) (flow : Flow) (by : Translation) → known_of (wanted_for s flow by).shown ≡ known_of s.shown
wanted-for-known s flow (Outward p) = refl
wanted-for-known s flow (Inward p) = refl
wanted-for-known s flow (Hairpin own other) = refl

-- ---- a wish uses no pair

abbrev pub IsUseless : Transition → Type 0
IsUseless r = (i : GatewayId) (now : ℕ) → used_pairs (noted_by i now r.what) ≡ []

known-useless : (p : Pair) (s : EntryState) → IsUseless (known_wish p s).row
known-useless p (state.Pending true) = λ i now. refl
known-useless p (state.Pending false) = λ i now. refl
known-useless p state.Doomed = λ i now. refl
known-useless p state.Live = λ i now. refl
known-useless p (state.Closing true) = λ i now. refl
known-useless p (state.Closing false) = λ i now. refl
known-useless p state.Alone = λ i now. refl
known-useless p state.Held = λ i now. refl

pub either-row : (t : Bool) (x y : Transition) → IsUseless x → IsUseless y → IsUseless (cond t x y)
either-row true x y a b = a
either-row false x y a b = b

either-wish : (t : Bool) (x y : PortRequest) → IsUseless x.row → IsUseless y.row → IsUseless (let w : PortRequest = cond t x y in w.row)
either-wish true x y a b = a
either-wish false x y a b = b

none-useless : (b : Book) (full : Bool) → IsUseless (wanting_row b full)
none-useless b full = either-row (may_want b full) (row change_of.Want (Some record_of.Want) None) quiet (λ i now. refl) (λ i now. refl)

paired-useless : (apart full : Bool) (p : Pair) → IsUseless (paired_wish apart full p).row
paired-useless true full p = λ i now. refl
paired-useless false full p = either-wish full (wish want.NotNow quiet) (wish want.Wait (proposal p)) (λ i now. refl) (λ i now. refl)

new-useless : (b : Book) (apart full : Bool) (e : Endpoint) (o : Option Port) → IsUseless (new_wish b apart full e o).row
new-useless b apart full e None = none-useless b full
new-useless b apart full e (Some port) =
    either-wish (is_lone b.stage) (wish (want.Port port) (row (Add (entry_in state.Live (new_pair e port))) None (Some (Retaken (new_pair e port))))) (paired_wish apart full (new_pair e port)) (λ i now. refl)
    (paired-useless apart full (new_pair e port))

by-useless : (b : Book) (apart full : Bool) (e : Endpoint) (o : Option Entry) → IsUseless (wish_by b apart full e o).row
by-useless b apart full e (Some x) = known-useless x.pair x.state
by-useless b apart full e None =
    either-wish (is_at_limit b e.address) (wish want.HostLimit quiet) (new_wish b apart full e (port_for b e)) (λ i now. refl) (new-useless b apart full e (port_for b e))

pub wish-useless : (b : Book) (apart full : Bool) (e : Endpoint) → IsUseless (wish_of b apart full e).row
wish-useless b apart full e = either-wish (is_synced b.stage) (wish_by b apart full e (entry_of b.entries e)) (wish want.NotNow quiet) (by-useless b apart full e (entry_of b.entries e)) (λ i now. refl)

-- the packets that a list loses where a place is made in it
record IsMade (w : WaitsFor) (kept : List HeldPacket) : Type 0 where
  lost : List HeldPacket
  are : IsPermutation (packets_of kept) (packets_of lost ++ packets_of (with_room w kept))

first-lost : (kept : List HeldPacket) → (lost : List HeldPacket) × IsPermutation (packets_of kept) (packets_of lost ++ packets_of (without_first_hop kept))
first-lost [] = ([], IsPermutation-refl [])
first-lost (w ∷ ws) = at (is_for_pair w.wait) (first-lost ws)
  where
    at : (b : Bool) → (lost : List HeldPacket) × IsPermutation (packets_of ws) (packets_of lost ++ packets_of (without_first_hop ws))
        → (lost : List HeldPacket) × IsPermutation (packets_of (w ∷ ws)) (packets_of lost ++ packets_of (let xs : List HeldPacket = cond b (w ∷ without_first_hop ws) ws in xs))
    at true rest =
        let p = at_hand w.side w.bytes in (
          rest.0,
          IsPermutation-trans _ _ _ (IsPermutation-cons p _ _ rest.1) (swap-front (p ∷ []) (packets_of rest.0) (packets_of (without_first_hop ws))),
        )
    at false rest = (w ∷ [], IsPermutation-refl (packets_of (w ∷ ws)))

room-made : (w : WaitsFor) (kept : List HeldPacket) → IsMade w kept
room-made (wait.Pair e) kept = record { lost = []; are = IsPermutation-refl (packets_of kept) }
room-made (wait.Hop exit host) kept = let m = at (nat_lt (hop_count kept) 64) (first-lost kept) in record { lost = m.0; are = m.1 }
  where
    at : (b : Bool) → (lost : List HeldPacket) × IsPermutation (packets_of kept) (packets_of lost ++ packets_of (without_first_hop kept))
        → (lost : List HeldPacket) × IsPermutation (packets_of kept) (packets_of lost ++ packets_of (let xs : List HeldPacket = cond b kept (without_first_hop kept) in xs))
    at true first = ([], IsPermutation-refl (packets_of kept))
    at false first = first

-- what is told of a packet that is kept is true
pub keeping-tells : (s : GatewayAndOutput) (side : Side) (bytes : List ℕ) (w : WaitsFor) → Told (at_hand side bytes ∷ []) s (keeping s side bytes w)
keeping-tells s side bytes w =
    let view = λ (x : HeldPacket). at_hand x.side x.bytes in
    let made = room-made w s.shown.kept in
    record {
      all = record {
        frames = [];
        frames_are = sym (append-nil s.told.frames);
        notes = [];
        notes_are = sym (append-nil s.told.notes);
        done = [];
        translated = refl;
        used = refl;
        each = tt;
        served = tt;
        passed = [];
        errors = refl;
        each_error = tt;
        served_errors = tt;
        own = [];
        own_are = refl;
        each_own = tt;
        counted_inside = refl;
        counted_outside = refl;
        dropped = packets_of made.lost;
        once = subst (λ ps. IsPermutation (at_hand side bytes ∷ packets_of s.shown.kept) (packets_of made.lost ++ ps)) (sym (map-append view (with_room w s.shown.kept) (waiting side bytes s.shown.moment w ∷ [])))
            (IsPermutation-trans _ _ _ (IsPermutation-cons (at_hand side bytes) _ _ made.are)
            (IsPermutation-trans _ _ _ (swap-front (at_hand side bytes ∷ []) (packets_of made.lost) (packets_of (with_room w s.shown.kept)))
            (IsPermutation-append_right (packets_of made.lost) _ _ (IsPermutation-append_comm (at_hand side bytes ∷ []) (packets_of (with_room w s.shown.kept))))));
      };
      roots = λ p t. inl t;
      steady = steady-same s (keeping s side bytes w) [] (refl, (refl, refl));
      within = λ h. h;
      later = omega arith;
    }
