-- The change of each row fits, and each record that is pushed is well-formed.
use Rattle.std.proofs.Common.{◌≡◌, Bool, true, false, cond, not, ◌&&◌, is_some, Option, Some, None, refl, sym, ap, ◌∙◌}
use Rattle.std.specs.Prelude.{IfSome}
use Rattle.std.proofs.lemmas.Bool.{and_parts}
use Rattle.nat_types.specs.Granted.{Granted, IsPort}
use Rattle.nat_types.specs.declared.gateways.GatewayId.{GatewayId}
use Rattle.nat_types.specs.declared.notes.NoteKind.TheVariants as happens
use Rattle.nat_types.specs.declared.pairs.EntryState.{EntryState}
use Rattle.nat_types.specs.declared.pairs.EntryState.TheVariants as state
use Rattle.nat_types.specs.declared.pairs.Endpoint.{Endpoint}
use Rattle.nat_types.specs.declared.pairs.Key.{Key}
use Rattle.nat_types.specs.declared.pairs.Pair.{Pair}
use Rattle.nat_types.specs.declared.records.Record.{Record}
use Rattle.nat_types.specs.declared.records.Record.TheVariants as rec
use Rattle.addresses.specs.declared.transport.Port.{Port}
use Rattle.slots.specs.declared.ranks.Rank.{Rank}
use Rattle.slots.specs.declared.ranks.Rank.TheVariants.{First, Second}
use Rattle.bindings.specs.declared.entries.Entry.{Entry}
use Rattle.bindings.specs.Entries.{slot_of, entry_of, entry_in, has_rank, is_of_rank, is_taken, rank_of}
use Rattle.bindings.proofs.Offered.{entry-serves, entry-slot, none-ranked}
use Rattle.link.specs.Grammar.{IsWellFormedPair, IsWellFormedRecord}
use Rattle.spec_binding.specs.declared.setups.Stage.{Stage}
use Rattle.spec_binding.specs.declared.setups.Stage.TheVariants.{Unsynced, Paired, Lone}
use Rattle.spec_binding.specs.declared.changes.Change.TheVariants.{Add, Yield, Gain}
use Rattle.spec_binding.specs.declared.changes.Change.TheVariants as change_of
use Rattle.spec_binding.specs.declared.changes.Transition.{Transition}
use Rattle.spec_binding.specs.declared.changes.PortRequest.{PortRequest}
use Rattle.spec_binding.specs.declared.changes.Want.TheVariants as want
use Rattle.spec_binding.specs.Books.{Book, IsBook, is_lone, is_paired, is_promised, is_synced}
use Rattle.spec_binding.specs.WellFormed.{Fits, HasOwnPair, IsNewEntry, IsWellFormedEndpoint}
use Rattle.spec_binding.specs.Rows.{accept_row, accepted_row, alone_row, answering, is_takeable, marked_row, paired_wish, sought_row, taking, telling_row, told_row, ask_row, asked_row, carry_row, ending, gives_way, grant_row, idle_row, install_row, is_at_limit, known_wish, left_row, may_want, new_pair, new_wish, no_row, wanting_row, port_for, proposed_row, quiet, refuse_row, refused_row, release_row, released_row, row, row_of, stayed_row, synced_row, taken_answer, use_row, used_row, wish, wish_by, wish_of, yes_row}
use Rattle.spec_binding.proofs.Moves.{may-give, ranges-port}
use Rattle.spec_binding.proofs.Taking.{MayTake, takes}
use Rattle.spec_binding.proofs.Wishing.{at-key, chosen-says}

-- the change of the row fits, and its answer is well-formed
pub record IsSound (c : Book) (r : Transition) : Type 0 where
  pub fits : Fits c r.change
  pub answer : IfSome r.answer IsWellFormedRecord

sound-quiet : (c : Book) → IsSound c quiet
sound-quiet c = record { fits = tt; answer = tt }

has-own : (c : Book) (x : Entry) (s : EntryState) → x.state ≡ s → is_of_rank First s ≡ true → slot_of c.entries x.pair.key ≡ Some x → HasOwnPair c x.pair.key
has-own c x s is own found = record { entry = x; found = found; own = ap (is_of_rank First) is ∙ own }

-- the stage of a gateway that is synced and not lone
pub paired-is : (s : Stage) → is_paired s ≡ true → s ≡ Paired
paired-is Unsynced h = cc
paired-is Paired h = refl
paired-is Lone h = cc

module _ (c : Book) where
  accepted-sound : (x : Entry) (s : EntryState) → x.state ≡ s → slot_of c.entries x.pair.key ≡ Some x → IsSound c (accepted_row x.pair s)
  accepted-sound x (state.Pending true) is found = record { fits = (has-own c x (state.Pending true) is refl found, refl); answer = tt }
  accepted-sound x (state.Pending false) is found = record { fits = (has-own c x (state.Pending false) is refl found, refl); answer = tt }
  accepted-sound x state.Doomed is found = sound-quiet c
  accepted-sound x state.Live is found = sound-quiet c
  accepted-sound x (state.Closing m) is found = sound-quiet c
  accepted-sound x state.Alone is found = sound-quiet c
  accepted-sound x state.Held is found = sound-quiet c

  stayed-sound : (x : Entry) (s : EntryState) → x.state ≡ s → slot_of c.entries x.pair.key ≡ Some x → IsSound c (stayed_row x.pair s)
  stayed-sound x (state.Pending m) is found = sound-quiet c
  stayed-sound x state.Doomed is found = sound-quiet c
  stayed-sound x state.Live is found = sound-quiet c
  stayed-sound x (state.Closing m) is found = record { fits = has-own c x (state.Closing m) is refl found; answer = tt }
  stayed-sound x state.Alone is found = sound-quiet c
  stayed-sound x state.Held is found = sound-quiet c

  refused-sound : (x : Entry) (s : EntryState) → x.state ≡ s → slot_of c.entries x.pair.key ≡ Some x → IsSound c (refused_row x.pair s)
  refused-sound x (state.Pending true) is found = record { fits = (has-own c x (state.Pending true) is refl found, refl); answer = tt }
  refused-sound x (state.Pending false) is found = record { fits = tt; answer = tt }
  refused-sound x state.Doomed is found = record { fits = tt; answer = tt }
  refused-sound x state.Live is found = sound-quiet c
  refused-sound x (state.Closing m) is found = sound-quiet c
  refused-sound x state.Alone is found = sound-quiet c
  refused-sound x state.Held is found = sound-quiet c

  left-sound : (x : Entry) (s : EntryState) → x.state ≡ s → slot_of c.entries x.pair.key ≡ Some x → IsSound c (left_row x.pair s)
  left-sound x (state.Pending m) is found = sound-quiet c
  left-sound x state.Doomed is found = sound-quiet c
  left-sound x state.Live is found = sound-quiet c
  left-sound x (state.Closing true) is found = record { fits = (has-own c x (state.Closing true) is refl found, refl); answer = tt }
  left-sound x (state.Closing false) is found = record { fits = tt; answer = tt }
  left-sound x state.Alone is found = sound-quiet c
  left-sound x state.Held is found = sound-quiet c

  asked-sound : (p : Pair) (rests : Bool) (s : EntryState) → IsPort p.key.port.0 → IsSound c (asked_row p rests s)
  asked-sound p rests (state.Pending m) port = record { fits = tt; answer = port }
  asked-sound p rests state.Doomed port = record { fits = tt; answer = port }
  asked-sound p rests state.Live port = record { fits = tt; answer = port }
  asked-sound p rests (state.Closing m) port = record { fits = tt; answer = port }
  asked-sound p rests state.Alone port = record { fits = tt; answer = port }
  asked-sound p true state.Held port = record { fits = tt; answer = port }
  asked-sound p false state.Held port = record { fits = tt; answer = port }

  ways : (i : GatewayId) (s : EntryState) → gives_way i s ≡ true → is_of_rank First s ≡ true
  ways i (state.Pending true) g = cc
  ways i (state.Pending false) g = refl
  ways i state.Doomed g = cc
  ways i state.Live g = cc
  ways i (state.Closing m) g = cc
  ways i state.Alone g = cc
  ways i state.Held g = cc

  taking-sound : (p : Pair) → IsWellFormedPair p → MayTake c p → IsSound c (taking p)
  taking-sound p formed may = record {
    fits = record { key = may.free; endpoint = ap is_some may.held; side = sym (ap not may.side); within = may.inside; formed = formed };
    answer = formed.key;
  }

  proposed-sound : (p : Pair) (o : Option Entry) → IsBook c → IsWellFormedPair p → entry_of c.entries p.endpoint ≡ o → MayTake c p → IsSound c (proposed_row c p o)
  proposed-sound p None is formed none may = taking-sound p formed may
  proposed-sound p (Some x) is formed found may = at (gives_way c.id x.state) refl
    where
      at : (b : Bool) → gives_way c.id x.state ≡ b → IsSound c (let r : Transition = cond b (ending p.endpoint (row (Yield x.pair.key p) (Some (rec.Accept p.key)) (Some (happens.Retaken p)))) (answering (rec.Refuse p.key)) in r)
      at true g = record {
        fits = record {
          entry = x;
          found = entry-slot c.entries p.endpoint x is.keys found;
          own = ways c.id x.state g;
          endpoint = (entry-serves c.entries p.endpoint x found).1;
          held = may.held;
          key = may.free;
          side = may.side;
          within = may.inside;
          formed = formed;
        };
        answer = formed.key;
      }
      at false g = record { fits = tt; answer = formed.key }

  install-sound : (p : Pair) → IsBook c → IsWellFormedPair p → IsSound c (install_row c p)
  install-sound p is formed = at (is_takeable c p) refl
    where
      at : (b : Bool) → is_takeable c p ≡ b → IsSound c (let r : Transition = cond b (proposed_row c p (entry_of c.entries p.endpoint)) (answering (rec.Refuse p.key)) in r)
      at true g = proposed-sound p (entry_of c.entries p.endpoint) is formed refl (takes c p g)
      at false g = record { fits = tt; answer = formed.key }

  told-sound : (p : Pair) → IsWellFormedPair p → IsSound c (told_row c p)
  told-sound p formed = at (is_takeable c p) refl
    where
      at : (b : Bool) → is_takeable c p ≡ b → IsSound c (let r : Transition = cond b (taking p) (answering (rec.Refuse p.key)) in r)
      at true g = taking-sound p formed (takes c p g)
      at false g = record { fits = tt; answer = formed.key }

  grant-sound : (g : Granted) → IsSound c (grant_row c g)
  grant-sound g = at c.wants
    where
      at : (b : Bool) → IsSound c (let r : Transition = cond b (row (Gain g) None None) quiet in r)
      at true = record { fits = tt; answer = tt }
      at false = sound-quiet c

  synced-sound : (r : Record) (rests : Bool) → IsBook c → IsWellFormedRecord r → IsSound c (synced_row c rests r)
  synced-sound (rec.Install p) rests is formed = install-sound p is formed
  synced-sound (rec.Accept k) rests is formed = at (slot_of c.entries k) refl
    where
      at : (o : Option Entry) → slot_of c.entries k ≡ o → IsSound c (accept_row o)
      at None h = sound-quiet c
      at (Some x) h = accepted-sound x x.state refl (at-key c.entries k x h)
  synced-sound (rec.Refuse k) rests is formed = at (slot_of c.entries k) refl
    where
      at : (o : Option Entry) → slot_of c.entries k ≡ o → IsSound c (refuse_row o)
      at None h = sound-quiet c
      at (Some x) h = refused-sound x x.state refl (at-key c.entries k x h)
  synced-sound (rec.Ask k) rests is formed = at (slot_of c.entries k) refl
    where
      at : (o : Option Entry) → slot_of c.entries k ≡ o → IsSound c (ask_row k rests o)
      at None h = record { fits = tt; answer = formed }
      at (Some x) h = asked-sound x.pair rests x.state (is.formed k x h).key
  synced-sound (rec.Yes k) rests is formed = at (slot_of c.entries k) refl
    where
      at : (o : Option Entry) → slot_of c.entries k ≡ o → IsSound c (yes_row o)
      at None h = sound-quiet c
      at (Some x) h = left-sound x x.state refl (at-key c.entries k x h)
  synced-sound (rec.No k) rests is formed = at (slot_of c.entries k) refl
    where
      at : (o : Option Entry) → slot_of c.entries k ≡ o → IsSound c (no_row o)
      at None h = sound-quiet c
      at (Some x) h = stayed-sound x x.state refl (at-key c.entries k x h)
  synced-sound rec.Begin rests is formed = sound-quiet c
  synced-sound (rec.Put p) rests is formed = sound-quiet c
  synced-sound rec.Done rests is formed = sound-quiet c
  synced-sound rec.Want rests is formed = let may = may-give c is in record { fits = may; answer = may.formed }
  synced-sound (rec.Grant g) rests is formed = grant-sound g
  synced-sound (rec.Owner first last) rests is formed = sound-quiet c
  synced-sound (rec.Tell p) rests is formed = told-sound p formed

  pub row-sound : (rests : Bool) (r : Record) → IsBook c → IsWellFormedRecord r → IsSound c (row_of c rests r)
  row-sound rests r is formed = at (is_promised c)
    where
      at : (b : Bool) → IsSound c (let w : Transition = cond b quiet (synced_row c rests r) in w)
      at true = sound-quiet c
      at false = synced-sound r rests is formed

  -- ---- wishes

  known-sound : (p : Pair) (s : EntryState) → IsSound c (known_wish p s).row
  known-sound p (state.Pending true) = sound-quiet c
  known-sound p (state.Pending false) = sound-quiet c
  known-sound p state.Doomed = sound-quiet c
  known-sound p state.Live = sound-quiet c
  known-sound p (state.Closing true) = sound-quiet c
  known-sound p (state.Closing false) = sound-quiet c
  known-sound p state.Alone = sound-quiet c
  known-sound p state.Held = sound-quiet c

  none-sound : (full : Bool) → IsSound c (wanting_row c full)
  none-sound full = at (may_want c full) refl
    where
      at : (t : Bool) → may_want c full ≡ t → IsSound c (let r : Transition = cond t (row change_of.Want (Some rec.Want) None) quiet in r)
      at true may = record { fits = paired-is c.stage (and_parts (is_paired c.stage) (not c.wants && not full) may).0; answer = tt }
      at false may = sound-quiet c

  -- ports asked for ahead
  pub ahead-sound : (t full : Bool) → IsSound c (let r : Transition = cond t (wanting_row c full) quiet in r)
  ahead-sound true full = none-sound full
  ahead-sound false full = sound-quiet c

  -- an own pair of an endpoint without one, on a port that was chosen for it, is a new entry
  new-entry : (e : Endpoint) (port : Port) (s : EntryState) → rank_of s ≡ Some First → IsBook c → IsWellFormedEndpoint e → entry_of c.entries e ≡ None → port_for c e ≡ Some port → IsNewEntry c (entry_in s (new_pair e port))
  new-entry e port s own is formed none found =
      let says = chosen-says c e port found in
      let inside = is.owned port.0 says.owned in
      record {
        key = says.free;
        endpoint = ap (λ (r : Option Rank). is_taken r c.entries e) own ∙ ap is_some (none-ranked c.entries e none First);
        side = ap (λ (r : Option Rank). has_rank r Second) own ∙ sym (ap not says.owned);
        within = inside;
        formed = record { key = ranges-port c port.0 is inside; protocol = refl; address = formed.address; port = formed.port };
      }

  paired-sound : (apart full : Bool) (e : Endpoint) (port : Port) → IsBook c → IsWellFormedEndpoint e → entry_of c.entries e ≡ None → port_for c e ≡ Some port → IsSound c (paired_wish apart full (new_pair e port)).row
  paired-sound true full e port is formed none found = record { fits = new-entry e port state.Alone refl is formed none found; answer = tt }
  paired-sound false true e port is formed none found = sound-quiet c
  paired-sound false false e port is formed none found = let new = new-entry e port (state.Pending false) refl is formed none found in record { fits = new; answer = new.formed }

  new-sound : (apart full : Bool) (e : Endpoint) (o : Option Port) → IsBook c → is_synced c.stage ≡ true → IsWellFormedEndpoint e → entry_of c.entries e ≡ None → port_for c e ≡ o → IsSound c (new_wish c apart full e o).row
  new-sound apart full e None is synced formed none found = none-sound full
  new-sound apart full e (Some port) is synced formed none found = at (is_lone c.stage)
    where
      at : (lone : Bool) → IsSound c (let w : PortRequest = cond lone (wish (want.Port port) (row (Add (entry_in state.Live (new_pair e port))) None (Some (happens.Retaken (new_pair e port))))) (paired_wish apart full (new_pair e port)) in w).row
      at true = record { fits = new-entry e port state.Live refl is formed none found; answer = tt }
      at false = paired-sound apart full e port is formed none found

  pub wish-sound : (apart full : Bool) (e : Endpoint) → IsBook c → IsWellFormedEndpoint e → IsSound c (wish_of c apart full e).row
  wish-sound apart full e is formed = at (is_synced c.stage) refl (entry_of c.entries e) refl
    where
      unknown : (t : Bool) → is_synced c.stage ≡ true → entry_of c.entries e ≡ None → IsSound c (let w : PortRequest = cond t (wish want.HostLimit quiet) (new_wish c apart full e (port_for c e)) in w).row
      unknown true synced none = sound-quiet c
      unknown false synced none = new-sound apart full e (port_for c e) is synced formed none refl

      at : (b : Bool) → is_synced c.stage ≡ b → (o : Option Entry) → entry_of c.entries e ≡ o → IsSound c (let w : PortRequest = cond b (wish_by c apart full e o) (wish want.NotNow quiet) in w).row
      at true synced (Some x) found = known-sound x.pair x.state
      at true synced None none = unknown (is_at_limit c e.address) synced none
      at false unsynced o found = sound-quiet c

  -- ---- idle pairs, and packets

  released-sound : (lone ask : Bool) (x : Entry) (s : EntryState) → x.state ≡ s → slot_of c.entries x.pair.key ≡ Some x → IsPort x.pair.key.port.0 → IsSound c (released_row lone ask x.pair s)
  released-sound lone ask x (state.Pending m) is found port = sound-quiet c
  released-sound lone ask x state.Doomed is found port = sound-quiet c
  released-sound true ask x state.Live is found port = record { fits = tt; answer = tt }
  released-sound false true x state.Live is found port = record { fits = (has-own c x state.Live is refl found, refl); answer = port }
  released-sound false false x state.Live is found port = sound-quiet c
  released-sound lone ask x (state.Closing m) is found port = sound-quiet c
  released-sound lone ask x state.Alone is found port = record { fits = tt; answer = tt }
  released-sound true ask x state.Held is found port = record { fits = tt; answer = tt }
  released-sound false ask x state.Held is found port = sound-quiet c

  pub idle-sound : (ask : Bool) (k : Key) → IsBook c → IsSound c (idle_row c ask k)
  idle-sound ask k is = at (is_synced c.stage) (slot_of c.entries k) refl
    where
      at : (b : Bool) (o : Option Entry) → slot_of c.entries k ≡ o → IsSound c (let r : Transition = cond b (release_row (is_lone c.stage) ask o) quiet in r)
      at true None found = sound-quiet c
      at true (Some x) found = released-sound (is_lone c.stage) ask x x.state refl (at-key c.entries k x found) (is.formed k x found).key
      at false o found = sound-quiet c

  marked-sound : (x : Entry) (s : EntryState) → x.state ≡ s → slot_of c.entries x.pair.key ≡ Some x → IsSound c (marked_row x.pair s)
  marked-sound x (state.Pending true) is found = sound-quiet c
  marked-sound x (state.Pending false) is found = record { fits = (has-own c x (state.Pending false) is refl found, refl); answer = tt }
  marked-sound x state.Doomed is found = sound-quiet c
  marked-sound x state.Live is found = sound-quiet c
  marked-sound x (state.Closing true) is found = sound-quiet c
  marked-sound x (state.Closing false) is found = record { fits = (has-own c x (state.Closing false) is refl found, refl); answer = tt }
  marked-sound x state.Alone is found = sound-quiet c
  marked-sound x state.Held is found = sound-quiet c

  telling-sound : (full : Bool) (x : Entry) (s : EntryState) → x.state ≡ s → slot_of c.entries x.pair.key ≡ Some x → IsWellFormedPair x.pair → IsSound c (telling_row full x.pair s)
  telling-sound full x (state.Pending m) is found formed = sound-quiet c
  telling-sound full x state.Doomed is found formed = sound-quiet c
  telling-sound full x state.Live is found formed = sound-quiet c
  telling-sound full x (state.Closing m) is found formed = sound-quiet c
  telling-sound true x state.Alone is found formed = sound-quiet c
  telling-sound false x state.Alone is found formed = record { fits = (has-own c x state.Alone is refl found, refl); answer = formed }
  telling-sound full x state.Held is found formed = sound-quiet c

  pub alone-sound : (apart full : Bool) (k : Key) → IsBook c → IsSound c (alone_row c apart full k)
  alone-sound apart full k is = at (is_paired c.stage) apart (slot_of c.entries k) refl
    where
      at : (b apart : Bool) (o : Option Entry) → slot_of c.entries k ≡ o → IsSound c (let r : Transition = cond b (sought_row apart full o) quiet in r)
      at true apart None found = sound-quiet c
      at true true (Some x) found = marked-sound x x.state refl (at-key c.entries k x found)
      at true false (Some x) found = telling-sound full x x.state refl (at-key c.entries k x found) (is.formed k x found)
      at false apart o found = sound-quiet c

  used-sound : (p : Pair) (s : EntryState) → IsSound c (used_row p s)
  used-sound p (state.Pending true) = record { fits = tt; answer = tt }
  used-sound p (state.Pending false) = sound-quiet c
  used-sound p state.Doomed = sound-quiet c
  used-sound p state.Live = record { fits = tt; answer = tt }
  used-sound p (state.Closing true) = record { fits = tt; answer = tt }
  used-sound p (state.Closing false) = sound-quiet c
  used-sound p state.Alone = record { fits = tt; answer = tt }
  used-sound p state.Held = record { fits = tt; answer = tt }

  pub carry-sound : (k : Key) → IsSound c (carry_row c k)
  carry-sound k = at (is_synced c.stage) (slot_of c.entries k)
    where
      at : (b : Bool) (o : Option Entry) → IsSound c (let r : Transition = cond b (use_row o) quiet in r)
      at true None = sound-quiet c
      at true (Some x) = used-sound x.pair x.state
      at false o = sound-quiet c

  pub taken-spelled : (rests : Bool) (r : Record) → IsBook c → IsWellFormedRecord r → IfSome (taken_answer c rests r) IsWellFormedRecord
  taken-spelled rests r is formed = at (is_synced c.stage)
    where
      at : (b : Bool) → IfSome (let o : Option Record = cond b (row_of c rests r).answer None in o) IsWellFormedRecord
      at true = (row-sound rests r is formed).answer
      at false = tt
