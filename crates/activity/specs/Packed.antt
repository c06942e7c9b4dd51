-- A session in 16 bytes, and those that a pair keeps.
use Rattle.std.specs.Prelude.{ℕ, ◌+◌, ◌*◌, ◌/◌, ◌%◌, ◌==◌, ◌<◌, Bool, max, List, [], ◌∷◌, map, take}
use Rattle.std.specs.List.{list_any, list_all}
use Rattle.activity.specs.declared.packed.Moment.{Moment}
use Rattle.activity.specs.declared.packed.PackedSession.{PackedSession}
use Rattle.activity.specs.declared.packets.Packet.{Packet}
use Rattle.activity.specs.declared.packets.Remote.{Remote}
use Rattle.activity.specs.declared.places.Place.{Place}
use Rattle.activity.specs.declared.places.Place.TheVariants.{Known, Free, Passed, Nowhere}
use Rattle.activity.specs.declared.sessions.Marks.{Marks}
use Rattle.activity.specs.declared.sessions.Session.{Session}
use Rattle.activity.specs.Packets.{same_remote}
use Rattle.activity.specs.Sessions.{rest_of, has_passed_by}
use Rattle.activity.specs.Places.{place_by}

-- a moment by its two halves
abbrev pub moment_in : Moment → ℕ
moment_in moment = 4294967296 * moment.high + moment.low

-- the marks of a kind of segment, of two bits
abbrev pub marks_in : ℕ → Marks
marks_in number = record { outward = number % 2 == 1; inward = number / 2 % 2 == 1 }

abbrev pub session_in : PackedSession → Session
session_in packed = record {
  remote = record { address = packed.address; port = packed.port };
  class = packed.class;
  fin = marks_in (packed.marks % 4);
  plain = marks_in (packed.marks / 4);
  last = moment_in packed.last;
}

-- the session in each place
abbrev pub all_sessions : List PackedSession → List Session
all_sessions kept = map session_in kept

-- the sessions that are kept: the first so many places have them
abbrev pub sessions_in : ℕ → List PackedSession → List Session
sessions_in count places = all_sessions (take count places)

-- a session with a remote is among these
abbrev pub is_known_among : Remote → List PackedSession → Bool
is_known_among remote kept = list_any (λ k. same_remote (session_in k).remote remote) kept

-- the place of a packet's session among these
abbrev pub place_among : Packet → List PackedSession → Place
place_among p kept = place_by (λ k. same_remote (session_in k).remote p.remote) (λ k. has_passed_by p.at (session_in k)) kept

-- the place is one of the first `count`, or there is a free place for one more
abbrev pub FitsAmong : ℕ → Place → Type 0
FitsAmong count (Known i) = i < count
FitsAmong count Free = count < 4
FitsAmong count (Passed i) = i < count
FitsAmong count Nowhere = Unit {0}

-- the limit of each session has passed
abbrev pub have_passed : ℕ → List PackedSession → Bool
have_passed now kept = list_all (λ k. has_passed_by now (session_in k)) kept

-- the moment at which the last of the sessions passes its limit
abbrev pub end_of : List PackedSession → ℕ
end_of [] = 0
end_of (k ∷ ks) = max (moment_in k.last + rest_of k.class) (end_of ks)
