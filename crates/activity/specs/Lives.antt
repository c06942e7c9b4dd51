-- The rule of idle pairs: a function of all packets that were carried since the pair's life began.
use Rattle.std.specs.Prelude.{◌≡◌, ℕ, Bool, true, false, not, ◌&&◌, ◌||◌, List, [], ◌∷◌, map, if◌then◌else◌}
use Rattle.std.specs.List.{list_any, list_all}
use Rattle.addresses.specs.declared.transport.Protocol.{Protocol}
use Rattle.addresses.specs.declared.transport.Protocol.TheVariants.{Icmp, Tcp, Udp}
use Rattle.addresses.specs.declared.transport.TcpFlags.{TcpFlags}
use Rattle.activity.specs.declared.packets.Packet.{Packet}
use Rattle.activity.specs.declared.packets.Remote.{Remote}
use Rattle.activity.specs.declared.packets.Way.{Way}
use Rattle.activity.specs.declared.packets.Way.TheVariants.{Outward, Inward}
use Rattle.activity.specs.declared.places.Place.{Place}
use Rattle.activity.specs.declared.sessions.Class.{Class}
use Rattle.activity.specs.declared.sessions.Class.TheVariants.{Opening, Established, Closed}
use Rattle.activity.specs.declared.sessions.Marks.{Marks}
use Rattle.activity.specs.declared.sessions.Session.{Session}
use Rattle.activity.specs.declared.TheConstants.{QUERY_REST, UDP_REST, TRANSITORY_REST, ESTABLISHED_REST}
use Rattle.activity.specs.Packets.{same_way, same_remote, is_fin, is_plain, is_loose_by, sets_last, does_count}
use Rattle.activity.specs.Sessions.{is_closed, is_opening, first_class, rest_of, has_rested}
use Rattle.activity.specs.Places.{place_by, put_at, is_nowhere}
use Rattle.activity.specs.Kept.{all_passed, has_session, session_place, with_session}

-- ---- one session: its segments, the newest first

-- the state of a session: its class, and the segments since its marks were cleared
pub record Standing : Type 0 where
  pub class : Class
  pub marked : List Packet

-- one of the segments went this way and passes a test
abbrev pub went : (TcpFlags → Bool) → Way → List Packet → Bool
went test way segments = list_any (λ s. same_way s.way way && test s.flags) segments

abbrev pub went_both_ways : (TcpFlags → Bool) → List Packet → Bool
went_both_ways test segments = went test Outward segments && went test Inward segments

-- The session after its first segment, which goes outward: RST makes it Closed, else SYN Opening, else it is
-- Established. Its own marks are set.
abbrev pub begun : Packet → Standing
begun s = record { class = first_class s.flags; marked = s ∷ [] }

-- The session after a further segment: RST counts first, then SYN in Closed, which clears the marks and sets none, then
-- FIN carried both ways, then a plain segment (no RST, and no SYN without ACK) carried each way in Opening.
abbrev pub went_on : Standing → Packet → Standing
went_on x s =
    (if s.flags.rst then record { class = Closed; marked = s ∷ x.marked }
    else (if is_closed x.class && s.flags.syn then record { class = Opening; marked = [] }
    else (if went_both_ways is_fin (s ∷ x.marked) then record { class = Closed; marked = s ∷ x.marked }
    else (if is_opening x.class && went_both_ways is_plain (s ∷ x.marked) then record { class = Established; marked = s ∷ x.marked }
    else record { class = x.class; marked = s ∷ x.marked }))))

abbrev pub standing : Packet → List Packet → Standing
standing s [] = begun s
standing s (t ∷ earlier) = went_on (standing t earlier) s

-- a session: the remote host's address and port, its last segment, and those before it
pub record Course : Type 0 where
  pub remote : Remote
  pub latest : Packet
  pub earlier : List Packet

abbrev pub class_of : Course → Class
class_of c = (standing c.latest c.earlier).class

-- a session's limit has passed, counted from its last segment
abbrev pub has_passed : ℕ → Course → Bool
has_passed now c = has_rested (rest_of (class_of c)) c.latest.at now

-- ---- the sessions that a pair keeps

abbrev pub first_course : Packet → Course
first_course p = record { remote = p.remote; latest = p; earlier = [] }

abbrev pub longer : Packet → Course → Course
longer p c = record { remote = c.remote; latest = p; earlier = c.latest ∷ c.earlier }

abbrev pub course_place : Packet → List Course → Place
course_place p cs = place_by (λ c. same_remote c.remote p.remote) (has_passed p.at) cs

abbrev pub has_course : Remote → List Course → Bool
has_course remote cs = list_any (λ c. same_remote c.remote remote) cs

abbrev pub is_empty : {A : Type 0} → List A → Bool
is_empty [] = true
is_empty (x ∷ xs) = false

-- A segment is loose beside these sessions, behind these packets of the pair's life: its remote has none of them, and
-- it goes inward, or has RST and isn't the first packet.
abbrev pub is_loose_beside : List Course → List Packet → Packet → Bool
is_loose_beside cs older p = is_loose_by (has_course p.remote cs) (not (is_empty older)) p

-- the sessions after these packets, the newest of which comes first: a loose segment begins none
abbrev pub courses : List Packet → List Course
courses [] = []
courses (p ∷ older) =
    (if is_loose_beside (courses older) older p
    then courses older
    else put_at (course_place p (courses older)) (longer p) (first_course p) (courses older))

-- a segment behind these packets is loose
abbrev pub is_loose : List Packet → Packet → Bool
is_loose older p = is_loose_beside (courses older) older p

-- some packet found no place for its session
abbrev pub is_crowded : List Packet → Bool
is_crowded [] = false
is_crowded (p ∷ older) = is_crowded older || (not (is_loose older p) && is_nowhere (course_place p (courses older)))

-- ---- the life of a pair

-- What a pair's entry saw: whether it came by Install and carried nothing before this life, when this life began, and
-- the packets that it carried since, the newest first.
pub record History : Type 0 where
  pub by_install : Bool
  pub since : ℕ
  pub packets : List Packet

-- a pair comes into the table
abbrev pub came : Bool → ℕ → History
came by_install now = record { by_install = by_install; since = now; packets = [] }

-- a packet is carried
abbrev pub with_packet : Packet → History → History
with_packet p past = record { by_install = past.by_install; since = past.since; packets = p ∷ past.packets }

-- a pair came by Install, and carried nothing since
abbrev pub is_unused : History → Bool
is_unused past = past.by_install && is_empty past.packets

-- a past after the peer says No, or the operator that the peer is off: the list of packets begins anew
abbrev pub renewed : ℕ → History → History
renewed now past = record { by_install = is_unused past; since = now; packets = [] }

-- the moment of the newest of these packets that sets the last use, or else `since`
abbrev pub last_set : Protocol → ℕ → List Packet → ℕ
last_set protocol since [] = since
last_set protocol since (p ∷ older) =
    (if sets_last protocol (is_loose older p) p then p.at else last_set protocol since older)

-- the moment of the last use that was set, or that at which the life began
abbrev pub last_of : Protocol → History → ℕ
last_of protocol past = last_set protocol past.since past.packets

-- the use that a packet behind these makes counts
abbrev pub counts : Protocol → List Packet → Packet → Bool
counts protocol older p = does_count protocol (is_loose older p) p

-- how long a pair of a protocol rests at least before it is idle, in centiseconds
abbrev pub least_rest : Protocol → ℕ
least_rest Icmp = QUERY_REST
least_rest Tcp = TRANSITORY_REST
least_rest Udp = UDP_REST

-- A pair is idle: a TCP pair with no session or that is crowded by its last use, another TCP pair where the limits of
-- all its sessions have passed; a pair of another protocol, which has no sessions, by its last use.
abbrev pub is_idle : Protocol → History → ℕ → Bool
is_idle Tcp past now =
    (if is_crowded past.packets || is_empty (courses past.packets)
    then has_rested ESTABLISHED_REST (last_of Tcp past) now
    else list_all (has_passed now) (courses past.packets))
is_idle protocol past now = has_rested (least_rest protocol) (last_of protocol past) now

-- ---- what is kept of a life

-- what callers see of a life
pub record Activity : Type 0 where
  pub last : ℕ
  pub is_unused : Bool
  pub has_carried : Bool
  pub is_crowded : Bool
  pub sessions : List Session

-- the rule of idle pairs on what is kept
abbrev pub looks_idle : Protocol → Activity → ℕ → Bool
looks_idle Tcp life now =
    (if life.is_crowded || is_empty life.sessions
    then has_rested ESTABLISHED_REST life.last now
    else all_passed now life.sessions)
looks_idle protocol life now = has_rested (least_rest protocol) life.last now

-- a segment is loose by what is kept
abbrev pub is_loose_at : Activity → Packet → Bool
is_loose_at life p = is_loose_by (has_session p.remote life.sessions) life.has_carried p

-- the use that a packet makes counts, by what is kept
abbrev pub counts_at : Protocol → Activity → Packet → Bool
counts_at protocol life p = does_count protocol (is_loose_at life p) p

-- the last use after a packet, by what is kept
abbrev pub last_after : Protocol → Packet → Activity → ℕ
last_after protocol p life = (if sets_last protocol (is_loose_at life p) p then p.at else life.last)

-- what is kept as a pair comes into a table, as it carries a packet, and as its list of packets begins empty
abbrev pub life_begun : Bool → ℕ → Activity
life_begun by_install now = record {
  last = now;
  is_unused = by_install;
  has_carried = false;
  is_crowded = false;
  sessions = [];
}

abbrev pub life_carried : Protocol → Packet → Activity → Activity
life_carried Tcp p life = record {
  last = last_after Tcp p life;
  is_unused = false;
  has_carried = true;
  is_crowded = life.is_crowded || (not (is_loose_at life p) && is_nowhere (session_place p life.sessions));
  sessions = if is_loose_at life p then life.sessions else with_session p life.sessions;
}
life_carried protocol p life = record life {
  last = last_after protocol p life;
  is_unused = false;
  has_carried = true;
}

abbrev pub life_renewed : ℕ → Activity → Activity
life_renewed now life = record life { last = now; has_carried = false; is_crowded = false; sessions = [] }

-- the ways in which a kind of segment went
abbrev pub marks_of : (TcpFlags → Bool) → List Packet → Marks
marks_of test segments = record { outward = went test Outward segments; inward = went test Inward segments }

-- what is kept of a session by its state and its last moment
abbrev pub summed_up : Remote → Standing → ℕ → Session
summed_up remote x last = record {
  remote = remote;
  class = x.class;
  fin = marks_of is_fin x.marked;
  plain = marks_of is_plain x.marked;
  last = last;
}

abbrev pub session_of : Course → Session
session_of c = summed_up c.remote (standing c.latest c.earlier) c.latest.at

-- a life agrees with a past
pub record Agrees (protocol : Protocol) (past : History) (life : Activity) : Type 0 where
  pub last : life.last ≡ last_of protocol past
  pub unused : life.is_unused ≡ is_unused past
  pub carried : life.has_carried ≡ not (is_empty past.packets)
  pub sessions : protocol ≡ Tcp → life.sessions ≡ map session_of (courses past.packets)
  pub crowded : protocol ≡ Tcp → life.is_crowded ≡ is_crowded past.packets
