-- The fragments that are there at a side, and what comes of one more (RFC 791, section 3.2; RFC 815; RFC 5722).
use Rattle.std.specs.Prelude.{◌≡◌, ◌≤◌, ℕ, ◌-◌, Bool, false, not, ◌==◌, ◌||◌, nat_le, nat_lt, Option, None, Some, unwrap_or, List, [], ◌∷◌, ◌++◌, length, drop, find, if◌then◌else◌}
use Rattle.std.specs.List.{filter, count_by, list_any, AllByRecursion, IsDistinct}
use Rattle.nat_types.specs.declared.gateways.Side.{Side}
use Rattle.nat_types.specs.declared.gateways.Side.TheVariants.{Inside, Outside}
use Rattle.fragments.specs.Fragment.{IsFragment, contradicts, is_broken, is_same, trimmed}
use Rattle.fragments.specs.Name.{name_of, same_name}
use Rattle.fragments.specs.Whole.{IsReady, is_whole, reassembled, whole_length}
use Rattle.fragments.specs.declared.names.Name.{Name}
use Rattle.fragments.specs.declared.datagrams.Effect.{Effect}
use Rattle.fragments.specs.declared.datagrams.Effect.TheVariants.{Repeats, Contradicts, Waits, TooLong, Completes}
use Rattle.fragments.specs.declared.gatherings.Came.{Came}
use Rattle.fragments.specs.declared.gatherings.Came.TheVariants.{Refused, Held, Whole}
use Rattle.fragments.specs.declared.gatherings.Loss.{Loss}
use Rattle.fragments.specs.declared.gatherings.Loss.TheVariants.{CrowdedOut, Contradicted, Oversized}

-- a datagram of which fragments are there: their name, when the first of them came, and they themselves, without padding,
-- in the order in which they came
pub record Datagram : Type 0 where
  pub name : Name
  pub since : ℕ
  pub fragments : List (List ℕ)

abbrev pub is_named : Name → Datagram → Bool
is_named name datagram = same_name name datagram.name

abbrev pub is_from : ℕ → Datagram → Bool
is_from source datagram = datagram.name.source.0 == source

-- a datagram that began less than 300 centiseconds ago
abbrev pub is_young : ℕ → Datagram → Bool
is_young now datagram = nat_lt (now - datagram.since) 300

-- a list without the first of its items that pass a test, and with that one changed
abbrev pub without_first : {X : Type 0} → (X → Bool) → List X → List X
without_first test [] = []
without_first test (x ∷ xs) = (if test x then xs else x ∷ without_first test xs)

abbrev pub with_first : {X : Type 0} → (X → Bool) → (X → X) → List X → List X
with_first test change [] = []
with_first test change (x ∷ xs) =
    (if test x then change x ∷ xs else x ∷ with_first test change xs)

-- what a fragment does beside those of its datagram that are there. 64 fragments are the most of a datagram, and a whole
-- packet has at most 65,535 bytes
unfoldable pub effect_of : List (List ℕ) → List ℕ → Effect
effect_of there fragment =
    (if list_any (is_same fragment) there then Repeats
    else if list_any (λ f. contradicts f fragment) there || nat_le 64 (length there) then Contradicts
    else if not (is_whole (there ++ fragment ∷ [])) then Waits
    else if nat_lt 65535 (whole_length (there ++ fragment ∷ [])) then TooLong
    else Completes)

-- what is there afterwards, what came of the fragment, why a datagram was given up where one was, and the whole frame where
-- one was made
pub record Taking : Type 0 where
  pub left : List Datagram
  pub came : Came
  pub lost : Option Loss
  pub made : Option (List ℕ)

abbrev pub refused : Option Loss → List Datagram → Taking
refused lost left = record { left = left; came = Refused; lost = lost; made = None }

abbrev pub held : Option Loss → List Datagram → Taking
held lost left = record { left = left; came = Held; lost = lost; made = None }

-- a side has no place for one more datagram of a source: 16 of that source are there, or 64 in all
abbrev pub is_full : ℕ → List Datagram → Bool
is_full source datagrams =
    nat_le 16 (count_by (is_from source) datagrams) || nat_le 64 (length datagrams)

-- the datagrams before one more of a source begins: where 16 of that source are there the first of these is given up,
-- else, where 64 are there, the first of all
unfoldable pub with_place : ℕ → List Datagram → List Datagram
with_place source datagrams =
    (if nat_le 16 (count_by (is_from source) datagrams)
    then without_first (is_from source) datagrams
    else if nat_le 64 (length datagrams) then drop 1 datagrams
    else datagrams)

unfoldable pub lost_for : ℕ → List Datagram → Option Loss
lost_for source datagrams = (if is_full source datagrams then Some CrowdedOut else None)

-- a datagram begins with this fragment
abbrev pub begun : ℕ → List ℕ → List Datagram → List Datagram
begun now fragment datagrams =
    let name = name_of fragment in
    with_place name.source.0 datagrams
    ++ record { name = name; since = now; fragments = fragment ∷ [] } ∷ []

-- a datagram whose fragments are these now
abbrev pub with_fragments : Name → List (List ℕ) → List Datagram → List Datagram
with_fragments name fragments datagrams =
    with_first (is_named name) (λ d. record d { fragments = fragments }) datagrams

-- what comes of a fragment with this effect: the datagram of this name has these fragments then
abbrev pub joined : Effect → Name → List (List ℕ) → List Datagram → Taking
joined Repeats name fragments datagrams = refused None datagrams
joined Contradicts name fragments datagrams =
    refused (Some Contradicted) (without_first (is_named name) datagrams)
joined Waits name fragments datagrams = held None (with_fragments name fragments datagrams)
joined TooLong name fragments datagrams =
    refused (Some Oversized) (without_first (is_named name) datagrams)
joined Completes name fragments datagrams = record {
  left = without_first (is_named name) datagrams;
  came = Whole;
  lost = None;
  made = Some (reassembled fragments);
}

-- what comes of a fragment, beside those of its datagram if it is there
abbrev pub arrived : ℕ → List ℕ → Option Datagram → List Datagram → Taking
arrived now fragment None datagrams =
    held (lost_for (name_of fragment).source.0 datagrams) (begun now fragment datagrams)
arrived now fragment (Some d) datagrams =
    joined (effect_of d.fragments fragment) (name_of fragment) (d.fragments ++ fragment ∷ []) datagrams

-- what comes of a frame with a fragment
unfoldable pub taken : ℕ → List ℕ → List Datagram → Taking
taken now frame datagrams =
    let fragment = trimmed frame in
    (if is_broken fragment then refused None datagrams
    else arrived now fragment (find (is_named (name_of fragment)) datagrams) datagrams)

-- what is there at first: where a whole frame is made the fragments stay, and leave when their datagram ends
abbrev pub left_by : Option (List ℕ) → List Datagram → List Datagram → List Datagram
left_by None left datagrams = left
left_by (Some whole) left datagrams = datagrams

abbrev pub left_first : Taking → List Datagram → List Datagram
left_first taking datagrams = left_by taking.made taking.left datagrams

-- the datagrams without that of a frame's fragment
unfoldable pub ended : List ℕ → List Datagram → List Datagram
ended frame datagrams = without_first (is_named (name_of (trimmed frame))) datagrams

-- the datagrams that are there after a tick
abbrev pub dropped_old : ℕ → List Datagram → List Datagram
dropped_old now datagrams = filter (is_young now) datagrams

-- the datagrams that are there at the two sides, the whole frame that was made last, and why the fragment that came last gave
-- a datagram up, where it did
pub record Gathered : Type 0 where
  pub inside : List Datagram
  pub outside : List Datagram
  pub whole : List ℕ
  pub lost : Option Loss

abbrev pub of_side : Side → Gathered → List Datagram
of_side Inside gathered = gathered.inside
of_side Outside gathered = gathered.outside

abbrev pub with_side : Side → List Datagram → Gathered → Gathered
with_side Inside datagrams gathered = record gathered { inside = datagrams }
with_side Outside datagrams gathered = record gathered { outside = datagrams }

-- what is there after a taking at a side, and before the datagram ends that it makes whole
abbrev pub after : Side → Taking → Gathered → Gathered
after side taking gathered =
    record (with_side side taking.left gathered) {
      whole = unwrap_or taking.made gathered.whole;
      lost = taking.lost;
    }

abbrev pub after_join : Side → Taking → Gathered → Gathered
after_join side taking gathered =
    record (with_side side (left_first taking (of_side side gathered)) gathered) {
      whole = unwrap_or taking.made gathered.whole;
      lost = taking.lost;
    }

abbrev pub after_end : Side → List ℕ → Gathered → Gathered
after_end side frame gathered =
    with_side side (ended frame (of_side side gathered)) gathered

abbrev pub without_old : ℕ → Gathered → Gathered
without_old now gathered = record gathered {
  inside = dropped_old now gathered.inside;
  outside = dropped_old now gathered.outside;
}

abbrev pub none_there : Gathered
none_there = record { inside = []; outside = []; whole = []; lost = None }

-- the datagrams that are there, without the whole frame that was made last and why one was given up
abbrev pub there_of : Gathered → Gathered
there_of gathered = record gathered { whole = []; lost = None }

-- no two fragments contradict each other
abbrev pub AreApart : List (List ℕ) → Type 0
AreApart [] = Unit {0}
AreApart (f ∷ fragments) =
    AllByRecursion (λ g. contradicts f g ≡ false) fragments × AreApart fragments

-- a fragment of this name that isn't broken
pub record IsOf (name : Name) (fragment : List ℕ) : Type 0 where
  pub fragment_is : IsFragment fragment
  pub unbroken : is_broken fragment ≡ false
  pub named : name_of fragment ≡ name

-- fragments of one datagram, some of which are missing
pub record IsPartial (datagram : Datagram) : Type 0 where
  pub few : length datagram.fragments ≤ 64
  pub each : AllByRecursion (IsOf datagram.name) datagram.fragments
  pub apart : AreApart datagram.fragments
  pub missing : is_whole datagram.fragments ≡ false

-- the datagrams at a side: at most 64, of one source at most 16, no two of one name, all with something missing
pub record AreKept (datagrams : List Datagram) : Type 0 where
  pub few : length datagrams ≤ 64
  pub sources : (source : ℕ) → count_by (is_from source) datagrams ≤ 16
  pub distinct : IsDistinct (λ a b. is_named b.name a) datagrams
  pub each : AllByRecursion IsPartial datagrams

-- what is kept at both sides, and a whole frame of at most 14 + 65,535 bytes
pub record IsKept (gathered : Gathered) : Type 0 where
  pub inside : AreKept gathered.inside
  pub outside : AreKept gathered.outside
  pub whole : length gathered.whole ≤ 65549

-- a fragment completes those of a datagram that is there: they and it are complete, and of one name. The whole frame is
-- made of them, and nothing of that name is there afterwards
pub record MakesWhole (fragment : List ℕ) (datagrams : List Datagram) (taking : Taking) (there : Datagram) : Type 0 where
  pub found : find (is_named (name_of fragment)) datagrams ≡ Some there
  pub ready : IsReady (there.fragments ++ fragment ∷ [])
  pub of_one : AllByRecursion (IsOf (name_of fragment)) (there.fragments ++ fragment ∷ [])
  pub made : taking.made ≡ Some (reassembled (there.fragments ++ fragment ∷ []))
  pub gone : AllByRecursion (λ d. is_named (name_of fragment) d ≡ false) taking.left
