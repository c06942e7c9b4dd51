-- What the code keeps of all sessions of a pair. What it should keep is said in Lives.
use Rattle.std.specs.Prelude.{ℕ, Bool, List}
use Rattle.std.specs.List.{list_any, list_all}
use Rattle.activity.specs.declared.packets.Packet.{Packet}
use Rattle.activity.specs.declared.packets.Remote.{Remote}
use Rattle.activity.specs.declared.sessions.Session.{Session}
use Rattle.activity.specs.declared.places.Place.{Place}
use Rattle.activity.specs.Packets.{same_remote}
use Rattle.activity.specs.Sessions.{begun_session, stepped, has_passed_by}
use Rattle.activity.specs.Places.{place_by, put_at}

-- a session with a remote is kept
abbrev pub has_session : Remote → List Session → Bool
has_session remote xs = list_any (λ x. same_remote x.remote remote) xs

abbrev pub session_place : Packet → List Session → Place
session_place p xs = place_by (λ x. same_remote x.remote p.remote) (has_passed_by p.at) xs

abbrev pub with_session : Packet → List Session → List Session
with_session p xs = put_at (session_place p xs) (λ x. stepped x p) (begun_session p) xs

abbrev pub all_passed : ℕ → List Session → Bool
all_passed now xs = list_all (has_passed_by now) xs
