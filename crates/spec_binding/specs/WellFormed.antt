-- What a change requires of the book that it changes.
use Rattle.std.specs.Prelude.{◌≡◌, ℕ, ◌<◌, ◌≤◌, ◌^◌, true, false, not, IsTrue, None, Some, length}
use Rattle.nat_types.specs.Granted.{Granted, IsPort}
use Rattle.nat_types.specs.declared.pairs.Endpoint.{Endpoint}
use Rattle.nat_types.specs.declared.pairs.Key.{Key}
use Rattle.nat_types.specs.declared.pairs.Pair.{Pair}
use Rattle.slots.specs.declared.ranks.Rank.TheVariants.{First, Second}
use Rattle.bindings.specs.declared.entries.Entry.{Entry}
use Rattle.bindings.specs.Entries.{slot_of, held_entry_of, is_of_rank, is_taken, pairs_in, rank_of}
use Rattle.bindings.specs.Ports.{is_spare}
use Rattle.port_range.specs.Ports.{is_listed}
use Rattle.link.specs.Grammar.{IsWellFormedPair, IsWellFormedGrant}
use Rattle.resync.specs.Batch.{is_settled}
use Rattle.spec_pair.specs.Ownership.{AreDistinct}
use Rattle.spec_binding.specs.declared.setups.Stage.TheVariants.{Paired}
use Rattle.spec_binding.specs.declared.changes.Change.{Change}
use Rattle.spec_binding.specs.declared.changes.Change.TheVariants.{Keep, Add, Turn, Renew, Drop, Yield, Want, Give, Gain}
use Rattle.spec_binding.specs.Books.{Book, in_ranges, owns}
use Rattle.spec_binding.specs.Rows.{numbers_of}

-- an endpoint that a pair can have
pub record IsWellFormedEndpoint (e : Endpoint) : Type 0 where
  pub address : e.address.0 < 2 ^ 32
  pub port : IsPort e.port.0

-- The entry's key is new, and on a port of the ranges. Its endpoint has no pair of the same side, and the entry is Held
-- exactly where the port isn't owned.
pub record IsNewEntry (b : Book) (x : Entry) : Type 0 where
  pub key : slot_of b.entries x.pair.key ≡ None
  pub endpoint : is_taken (rank_of x.state) b.entries x.pair.endpoint ≡ false
  pub side : is_of_rank Second x.state ≡ not (owns b x.pair.key.port.0)
  pub within : IsTrue (in_ranges b x.pair.key.port.0)
  pub formed : IsWellFormedPair x.pair

-- the key has an entry that is an own pair
pub record HasOwnPair (b : Book) (k : Key) : Type 0 where
  pub entry : Entry
  pub found : slot_of b.entries k ≡ Some entry
  pub own : is_of_rank First entry.state ≡ true

-- The entry at key `q` is an own pair of the endpoint of `p`, which has no Held pair. The key of `p` is free, and on a
-- port of the ranges that isn't owned.
pub record GivesWay (b : Book) (q : Key) (p : Pair) : Type 0 where
  pub entry : Entry
  pub found : slot_of b.entries q ≡ Some entry
  pub own : is_of_rank First entry.state ≡ true
  pub endpoint : entry.pair.endpoint ≡ p.endpoint
  pub held : held_entry_of b.entries p.endpoint ≡ None
  pub key : slot_of b.entries p.key ≡ None
  pub side : owns b p.key.port.0 ≡ false
  pub within : IsTrue (in_ranges b p.key.port.0)
  pub formed : IsWellFormedPair p

-- at most 16 ports are granted, each once, owned and without an entry
pub record MayGive (b : Book) (g : Granted) : Type 0 where
  pub most : length g.ports ≤ 16
  pub distinct : AreDistinct (numbers_of g)
  pub spare : (port : ℕ) → is_listed port (numbers_of g) ≡ true → is_spare b.entries b.owned port ≡ true
  pub formed : IsWellFormedGrant g

-- the identity, the ranges, the rules, the stage, what was loaded and what of a batch is to come are the same
pub record IsBeside (b b2 : Book) : Type 0 where
  pub id : b2.id ≡ b.id
  pub zero : b2.zero ≡ b.zero
  pub one : b2.one ≡ b.one
  pub limit : b2.limit ≡ b.limit
  pub alone : b2.alone ≡ b.alone
  pub choice : b2.choice ≡ b.choice
  pub ahead : b2.ahead ≡ b.ahead
  pub stage : b2.stage ≡ b.stage
  pub begun : b2.begun ≡ b.begun
  pub named : b2.named ≡ b.named
  pub coming : b2.coming ≡ b.coming

-- both books have the same settled pairs and owned ports, so their batches are the same
pub record IsSameBatch (b b2 : Book) : Type 0 where
  pub pairs : pairs_in is_settled b2.entries ≡ pairs_in is_settled b.entries
  pub owned : b2.owned ≡ b.owned

-- the change can be made to the book, and a synced book stays a book by it
abbrev pub Fits : Book → Change → Type 0
Fits b Keep = Unit {0}
Fits b (Add e) = IsNewEntry b e
Fits b (Turn k s) = HasOwnPair b k × (is_of_rank First s ≡ true)
Fits b (Renew k) = HasOwnPair b k
Fits b (Drop k) = Unit {0}
Fits b (Yield q p) = GivesWay b q p
Fits b Want = b.stage ≡ Paired
Fits b (Give g) = MayGive b g
Fits b (Gain g) = Unit {0}
