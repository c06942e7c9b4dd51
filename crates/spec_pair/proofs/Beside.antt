-- What a gateway keeps while the other one changes.
use Rattle.std.proofs.Common.{◌≡◌, ◌⊎◌, ◌||◌, ◌≤◌, ℕ, true, false, List, [], ◌++◌, Some, IsTrue, sym, subst}
use Rattle.nat_types.specs.declared.gateways.GatewayId.{GatewayId}
use Rattle.nat_types.specs.declared.notes.Note.{Note}
use Rattle.nat_types.specs.declared.pairs.Pair.{Pair}
use Rattle.spec_trace.specs.Past.{is_synced, is_open, was_alone}
use Rattle.spec_pair.specs.Box.{Box, Letter, In}
use Rattle.spec_pair.specs.Ownership.{Ranges}
use Rattle.spec_pair.specs.Talk.{pair_of}
use Rattle.spec_pair.proofs.Invariant.{IsLone, Awaits, Loads, Real, Side, View, Within}
use Rattle.spec_pair.proofs.Traced.{Covers, GoesAt, PrivateAt, LetsGo, WereAlone, TwoAlone}

module _ (r : Ranges) (i : GatewayId) (a b b2 : Box) where
  -- a gateway's side holds still where the mails and the other's boot are the same
  pub side_beside : (ma mb : List Letter) (t t2 : List Note) → Side r i a b ma mb t → b2.boot ≡ b.boot
      → is_synced i t2 ≡ a.synced → (a.up ≡ true → GoesAt i a.table t2) → (a.up ≡ true → PrivateAt i a.table t2)
      → (a.synced ≡ true → IsLone r i a b2 t2 ⊎ View r i a b2 mb t2)
      → (a.synced ≡ false → a.up ≡ true → Awaits a b2 mb) → Side r i a b2 ma mb t2
  side_beside ma mb t t2 x boot synced goes private state awaits = record {
    synced_is = synced;
    up_synced = x.up_synced;
    goes = goes;
    private = private;
    letters = x.letters;
    boots = λ l inside. ((x.boots l inside).0, subst (λ (n : ℕ). l.to ≤ n) (sym boot) (x.boots l inside).1);
    barred = x.barred;
    known = x.known;
    peer_at = subst (λ (n : ℕ). a.peer ≤ n) (sym boot) x.peer_at;
    later = x.later;
    quiet = x.quiet;
    state = state;
    awaits = awaits;
  }

  -- what holds of a lone gateway holds still, where no more is open and the other isn't in its
  -- session
  pub alone_beside : (t t2 : List Note) → IsLone r i a b t → b2.synced ≡ false
      → ((p : Pair) → IsTrue (is_open p t2) → IsTrue (is_open p t)) → (b2.up ≡ true → a.peer ≡ b2.boot → ⊥)
      → ((p q : Pair) → IsTrue (was_alone p t || was_alone q t) → IsTrue (was_alone p t2 || was_alone q t2))
      → IsLone r i a b2 t2
  alone_beside t t2 x out opens unheard later = record {
    lone = x.lone;
    other_out = out;
    proper = x.proper;
    within = x.within;
    nowhere = x.nowhere;
    one_each = x.one_each;
    two = λ k q e ne h g. later (pair_of k e) (pair_of q e) (x.two k q e ne h g);
    covers = λ p o. x.covers p (opens p o);
    sent = x.sent;
    unheard = unheard;
  }

  -- a gateway's view holds still, where what it says of the other is shown anew
  pub view_beside : (mb mb2 : List Letter) (t t2 : List Note) (x : View r i a b mb t)
      → ((l : Letter) → In l mb2 → l.boot ≡ a.peer → l.to ≡ a.boot → Within l (x.heard ++ x.inn))
      → Covers x.owner x.phase t2 → ((g : GatewayId) → LetsGo x.owner g x.phase t2) → WereAlone x.phase t2 → TwoAlone x.owner x.phase t2
      → (b2.synced ≡ true → Real a b2 x.table x.their_owned x.their_want x.gone x.heard x.inn)
      → ((m : ℕ) → a.promised ≡ Some m → (x.inn ≡ []) × (b2.synced ≡ false))
      → (b2.synced ≡ false → b2.up ≡ true → a.peer ≡ b2.boot
      → Loads r i a b2 x.phase x.owner x.table x.their_owned x.their_want x.gone x.heard x.inn)
      → View r i a b2 mb2 t2
  view_beside mb mb2 t t2 x letters covers lets were two real owes loads = record {
    lone = x.lone;
    phase = x.phase;
    table = x.table;
    owner = x.owner;
    their_owned = x.their_owned;
    their_want = x.their_want;
    gone = x.gone;
    out = x.out;
    heard = x.heard;
    inn = x.inn;
    sent = x.sent;
    taken = x.taken;
    talks = x.talks;
    ports = x.ports;
    letters = letters;
    covers = covers;
    lets = lets;
    were = were;
    two = two;
    real = real;
    owes = owes;
    loads = loads;
  }
