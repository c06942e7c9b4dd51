-- The effect of a change on a table, and on what its pairs carried.
use Rattle.std.specs.Prelude.{◌≡◌, ℕ, ◌-◌, Bool, true, false, [], None, Some, if◌then◌else◌}
use Rattle.nat_types.specs.Same.{same_key}
use Rattle.nat_types.specs.declared.gateways.GatewayId.TheVariants.{Zero}
use Rattle.nat_types.specs.declared.pairs.Key.{Key}
use Rattle.activity.specs.Lives.{History, came, renewed}
use Rattle.bindings.specs.Table.{Table, IsPast}
use Rattle.bindings.specs.declared.entries.Entry.{Entry}
use Rattle.bindings.specs.Entries.{slot_of}
use Rattle.resync.specs.Batch.{is_settled}
use Rattle.spec_binding.specs.declared.setups.Choice.TheVariants.{Lowest}
use Rattle.spec_binding.specs.declared.setups.Stage.TheVariants.{Paired}
use Rattle.spec_binding.specs.declared.changes.Change.{Change}
use Rattle.spec_binding.specs.declared.changes.Change.TheVariants.{Keep, Add, Turn, Renew, Drop, Yield, Want, Give, Gain}
use Rattle.spec_binding.specs.Books.{Book}
use Rattle.spec_binding.specs.Ledgers.{is_held, lives_after}
use Rattle.spec_binding.specs.Rows.{changed}
use Rattle.bind_core.specs.declared.deeds.Bounds.{Bounds}

-- the table as the book of a gateway that isn't lone, with no limit and no rules of its own
abbrev pub table_book : Table → Book
table_book t = record {
  id = Zero;
  zero = t.zero;
  one = t.one;
  limit = None;
  alone = 0;
  choice = Lowest;
  ahead = 0;
  stage = Paired;
  begun = false;
  named = 0;
  entries = t.entries;
  owned = t.owned;
  wants = false;
  coming = [];
}

-- the table's ranges are these bounds
pub record IsBetween (t : Table) (bounds : Bounds) : Type 0 where
  pub zero : t.zero ≡ bounds.zero
  pub one : t.one ≡ bounds.one

-- whether a Want is open after the change
abbrev pub wants_after : Change → Bool → Bool
wants_after Keep wants = wants
wants_after (Add e) wants = wants
wants_after (Turn k s) wants = wants
wants_after (Renew k) wants = wants
wants_after (Drop k) wants = wants
wants_after (Yield q p) wants = wants
wants_after Want wants = true
wants_after (Give g) wants = wants
wants_after (Gain g) wants = false

-- whether the change adds an entry
abbrev pub adds : Change → Bool
adds Keep = false
adds (Add e) = true
adds (Turn k s) = false
adds (Renew k) = false
adds (Drop k) = false
adds (Yield q p) = true
adds Want = false
adds (Give g) = false
adds (Gain g) = false

-- ---- lives

-- whether the change removes the key's entry
abbrev pub leaves : Change → Key → Bool
leaves Keep q = false
leaves (Add e) q = false
leaves (Turn k s) q = false
leaves (Renew k) q = false
leaves (Drop k) q = same_key k q
leaves (Yield p2 p) q = false
leaves Want q = false
leaves (Give g) q = false
leaves (Gain g) q = false

-- for how many more entries the table is ready after the change
abbrev pub ready_after : Change → ℕ → ℕ
ready_after Keep n = n
ready_after (Add e) n = n - 1
ready_after (Turn k s) n = n
ready_after (Renew k) n = n
ready_after (Drop k) n = n
ready_after (Yield q p) n = n - 1
ready_after Want n = n
ready_after (Give g) n = n
ready_after (Gain g) n = n

-- the table after the change
abbrev pub table_after : ℕ → Change → Table → Table
table_after now change t =
    let b = changed change (table_book t) in
    record t { entries = b.entries; owned = b.owned; lives = lives_after now change t.entries t.lives; ready = ready_after change t.ready }

-- the past of a key's entry after the change: only a No begins it anew
abbrev pub past_after : ℕ → Change → Key → History → History
past_after now Keep q past = past
past_after now (Add e) q past = past
past_after now (Turn k s) q past = past
past_after now (Renew k) q past = (if same_key k q then renewed now past else past)
past_after now (Drop k) q past = past
past_after now (Yield p2 p) q past = past
past_after now Want q past = past
past_after now (Give g) q past = past
past_after now (Gain g) q past = past

-- the life of the entry that the change adds begins now
abbrev pub Begins : ℕ → Change → Table → Type 0
Begins now Keep t = Unit {0}
Begins now (Add e) t = IsPast t e.pair.key (came (is_held e.state) now)
Begins now (Turn k s) t = Unit {0}
Begins now (Renew k) t = Unit {0}
Begins now (Drop k) t = Unit {0}
Begins now (Yield q p) t = IsPast t p.key (came true now)
Begins now Want t = Unit {0}
Begins now (Give g) t = Unit {0}
Begins now (Gain g) t = Unit {0}

-- what the pairs carried goes on through a change
pub record LivesOn (now : ℕ) (change : Change) (t t2 : Table) : Type 0 where
  pub stays : (q : Key) (past : History) → leaves change q ≡ false → IsPast t q past → IsPast t2 q (past_after now change q past)
  pub begins : Begins now change t2

-- ---- a promised batch

-- the change leaves what is still to be drawn of a batch as it is
abbrev pub IsSteady : Book → Change → Type 0
IsSteady b Keep = Unit {0}
IsSteady b (Add e) = is_settled e.state ≡ false
IsSteady b (Turn k s) = (x : Entry) → slot_of b.entries k ≡ Some x → is_settled x.state ≡ is_settled s
IsSteady b (Renew k) = ⊥
IsSteady b (Drop k) = (x : Entry) → slot_of b.entries k ≡ Some x → is_settled x.state ≡ false
IsSteady b (Yield q p) = ⊥
IsSteady b Want = Unit {0}
IsSteady b (Give g) = ⊥
IsSteady b (Gain g) = ⊥
