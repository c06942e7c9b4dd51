-- An entry in another state, or one entry more, keeps the pairs' spelling.
use Rattle.std.proofs.Common.{◌≡◌, Some, Result, Ok, Err, OnOk, OnErr, inl, inr, List, [], ◌∷◌, map, sym, ap, ◌∙◌, subst, cond}
use Rattle.nat_types.specs.declared.pairs.EntryState.{EntryState}
use Rattle.nat_types.specs.declared.pairs.Key.{Key}
use Rattle.nat_types.specs.declared.pairs.Pair.{Pair}
use Rattle.nat_types.specs.Same.{same_key}
use Rattle.bindings.specs.declared.entries.Entry.{Entry}
use Rattle.bindings.specs.declared.entries.PortBounds.{PortBounds}
use Rattle.bindings.specs.Entries.{has_key, slot_of, entry_in, set_at}
use Rattle.bindings.specs.Table.{Table, with_entry_state}
use Rattle.bindings.proofs.Offered.{find-some, turned-pair}
use Rattle.nat_types.specs.Granted.{IsPort}
use Rattle.link.specs.Grammar.{IsWellFormedPair}
use Rattle.resync.specs.Batch.{CanBeSent}

record HadPair (es : List Entry) (q : Key) (p : Pair) : Type 0 where
  entry : Entry
  found : slot_of es q ≡ Some entry
  same : entry.pair ≡ p

had-pair : (f : Entry → Entry) → ((y : Entry) → (f y).pair ≡ y.pair) → (es : List Entry) (q : Key) (x : Entry) → slot_of (map f es) q ≡ Some x → HadPair es q x.pair
had-pair f same [] q x h = cc
had-pair f same (y ∷ ys) q x h =
    elim (find-some (has_key q (f y)) (f y) (slot_of (map f ys) q) x h) [
      | inl w ↦ record {
        entry = y;
        found = ap (λ b. cond b (Some y) (slot_of ys q)) (ap (λ (p : Pair). same_key p.key q) (sym (same y)) ∙ w.0);
        same = sym (same y) ∙ ap (λ (e : Entry). e.pair) w.1;
      }
      | inr w ↦
          (let rest : HadPair ys q x.pair = had-pair f same ys q x w.1 in
          record {
            entry = rest.entry;
            found = ap (λ b. cond b (Some y) (slot_of ys q)) (ap (λ (p : Pair). same_key p.key q) (sym (same y)) ∙ w.0) ∙ rest.found;
            same = rest.same;
          })
    ]

pub sent-turned : (t : Table) (key : Key) (s : EntryState) → CanBeSent t → CanBeSent (with_entry_state t key s)
sent-turned t key s sent = record { highest = sent.highest; pairs = pairs }
  where
    pairs : (q : Key) (x : Entry) → slot_of (map (λ e. cond (has_key key e) (entry_in s e.pair) e) t.entries) q ≡ Some x → IsWellFormedPair x.pair
    pairs q x h =
        let had : HadPair t.entries q x.pair = had-pair (λ e. cond (has_key key e) (entry_in s e.pair) e) (turned-pair key s) t.entries q x h in
        subst (λ (p : Pair). IsWellFormedPair p) had.same (sent.pairs q had.entry had.found)

-- a table with those ranges and those entries
pub sent-alike : (t n : Table) → n.zero ≡ t.zero → n.one ≡ t.one → ((q : Key) (x : Entry) → slot_of n.entries q ≡ Some x → IsWellFormedPair x.pair) → CanBeSent t → CanBeSent n
sent-alike t n zero one pairs sent = record {
  highest = (
    subst (λ (b : PortBounds). IsPort b.highest.0) (sym zero) sent.highest.0,
    subst (λ (b : PortBounds). IsPort b.highest.0) (sym one) sent.highest.1,
  );
  pairs = pairs;
}

-- what a table keeps whether it takes an entry or refuses it
pub record KeepsAll (t n : Table) : Type 0 where
  pub sent : CanBeSent n
  pub zero : n.zero ≡ t.zero
  pub one : n.one ≡ t.one

pub added-keeps : {X E : Type 0} (r : Result X E) (t n m : Table) (p : Pair) (s : EntryState) → IsWellFormedPair p → CanBeSent t
    → m.zero ≡ t.zero → m.one ≡ t.one
    → OnOk r ((q : Key) → slot_of n.entries q ≡ set_at (slot_of t.entries) p.key (Some (entry_in s p)) q)
    → OnOk r (n ≡ m) → OnErr r (n ≡ t) → KeepsAll t n
added-keeps (Ok u) t n m p s well sent zero one slots same err =
    let z : n.zero ≡ t.zero = ap (λ (y : Table). y.zero) same ∙ zero in
    let o : n.one ≡ t.one = ap (λ (y : Table). y.one) same ∙ one in
    record { sent = sent-alike t n z o pairs sent; zero = z; one = o }
  where
    pairs : (q : Key) (x : Entry) → slot_of n.entries q ≡ Some x → IsWellFormedPair x.pair
    pairs q x h =
        elim (find-some (same_key p.key q) (entry_in s p) (slot_of t.entries q) x (sym (slots q) ∙ h)) [
          | inl w ↦ subst (λ (e : Entry). IsWellFormedPair e.pair) w.1 well
          | inr w ↦ sent.pairs q x w.1
        ]
added-keeps (Err e) t n m p s well sent zero one slots same err = record {
  sent = subst (λ (y : Table). CanBeSent y) (sym err) sent;
  zero = ap (λ (y : Table). y.zero) err;
  one = ap (λ (y : Table). y.one) err;
}
