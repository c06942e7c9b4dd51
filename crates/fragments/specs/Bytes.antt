-- Frames that are bytes.
use Rattle.std.specs.Prelude.{◌<◌, ℕ, List, slice_index}
use Rattle.std.specs.List.{AllByRecursion}
use Rattle.fragments.specs.Gathered.{Datagram, Gathered}

-- each number is a byte
abbrev pub AreBytes : List ℕ → Type 0
AreBytes bytes = (place : ℕ) → slice_index bytes place < 256

-- the fragments of datagrams are bytes
abbrev pub HaveBytes : List Datagram → Type 0
HaveBytes datagrams =
    AllByRecursion (λ d. AllByRecursion AreBytes d.fragments) datagrams

-- all fragments that are there are bytes, and so is the whole frame that was made last
pub record KeepsBytes (gathered : Gathered) : Type 0 where
  pub inside : HaveBytes gathered.inside
  pub outside : HaveBytes gathered.outside
  pub whole : AreBytes gathered.whole
