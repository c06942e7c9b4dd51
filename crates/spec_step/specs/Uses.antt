-- The pairs that carry packets, and what a packet that is carried leaves as it was.
use Rattle.std.specs.Prelude.{◌≡◌, ℕ, Some}
use Rattle.nat_types.specs.declared.notes.NoteKind.TheVariants.{Used}
use Rattle.nat_types.specs.declared.pairs.Key.{Key}
use Rattle.nat_types.specs.declared.pairs.Pair.{Pair}
use Rattle.activity.specs.Lives.{Activity}
use Rattle.bindings.specs.Lives.{life_in, rests_at}
use Rattle.spec_binding.specs.Ledgers.{Ledger}
use Rattle.spec_binding.specs.Rows.{carry_row}
use Rattle.spec_step.specs.Shown.{Shown}

-- the gateway translates by the pair, so that a packet that the pair carries is noted, and its entry has this life
pub record IsCarrier (g : Shown) (p : Pair) (life : Activity) : Type 0 where
  pub life_is : life_in g.ledger.book.entries g.ledger.lives p.key ≡ Some life
  pub noted : (carry_row g.ledger.book p.key).what ≡ Some (Used p)

-- at each time the same pairs are idle by these two ledgers, which have the same entries
abbrev pub RestAlike : Ledger → Ledger → Type 0
RestAlike old new =
    (key : Key) (now : ℕ)
    → rests_at new.book.entries new.lives key now ≡ rests_at old.book.entries old.lives key now
