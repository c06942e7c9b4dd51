-- What the code keeps of one session. Lives says what it should keep.
use Rattle.std.specs.Prelude.{ℕ, ◌-◌, Bool, true, false, ◌&&◌, ◌||◌, nat_le, if◌then◌else◌}
use Rattle.addresses.specs.declared.transport.TcpFlags.{TcpFlags}
use Rattle.activity.specs.declared.packets.Packet.{Packet}
use Rattle.activity.specs.declared.packets.Way.{Way}
use Rattle.activity.specs.declared.packets.Way.TheVariants.{Outward, Inward}
use Rattle.activity.specs.declared.sessions.Class.{Class}
use Rattle.activity.specs.declared.sessions.Class.TheVariants.{Opening, Established, Closed}
use Rattle.activity.specs.declared.sessions.Marks.{Marks}
use Rattle.activity.specs.declared.sessions.Session.{Session}
use Rattle.activity.specs.declared.TheConstants.{TRANSITORY_REST, ESTABLISHED_REST}
use Rattle.activity.specs.Packets.{is_fin, is_plain}

abbrev pub is_closed : Class → Bool
is_closed Opening = false
is_closed Established = false
is_closed Closed = true

abbrev pub is_opening : Class → Bool
is_opening Opening = true
is_opening Established = false
is_opening Closed = false

-- the class that a first segment gives, which goes outward: RST counts first; SYN, with ACK or without
abbrev pub first_class : TcpFlags → Class
first_class flags = (if flags.rst then Closed else (if flags.syn then Opening else Established))

-- how long a session of a class rests, in centiseconds (RFC 5382, REQ-5)
abbrev pub rest_of : Class → ℕ
rest_of Opening = TRANSITORY_REST
rest_of Established = ESTABLISHED_REST
rest_of Closed = TRANSITORY_REST

-- a rest has passed, counted from `since`
abbrev pub has_rested : ℕ → ℕ → ℕ → Bool
has_rested rest since now = nat_le rest (now - since)

abbrev pub no_marks : Marks
no_marks = record { outward = false; inward = false }

abbrev pub marked_if : Bool → Way → Marks → Marks
marked_if holds Outward marks = record { outward = holds || marks.outward; inward = marks.inward }
marked_if holds Inward marks = record { outward = marks.outward; inward = holds || marks.inward }

abbrev pub are_both : Marks → Bool
are_both marks = marks.outward && marks.inward

abbrev pub begun_session : Packet → Session
begun_session s = record {
  remote = s.remote;
  class = first_class s.flags;
  fin = marked_if (is_fin s.flags) s.way no_marks;
  plain = marked_if (is_plain s.flags) s.way no_marks;
  last = s.at;
}

abbrev pub noted : Session → Packet → Session
noted x s = record {
  remote = x.remote;
  class = x.class;
  fin = marked_if (is_fin s.flags) s.way x.fin;
  plain = marked_if (is_plain s.flags) s.way x.plain;
  last = s.at;
}

abbrev pub in_class : Class → Session → Session
in_class class x = record { remote = x.remote; class = class; fin = x.fin; plain = x.plain; last = x.last }

abbrev pub reopened : Session → Session
reopened x = record { remote = x.remote; class = Opening; fin = no_marks; plain = no_marks; last = x.last }

abbrev pub stepped : Session → Packet → Session
stepped x s =
    (if s.flags.rst then in_class Closed (noted x s)
    else (if is_closed x.class && s.flags.syn then reopened (noted x s)
    else (if are_both (noted x s).fin then in_class Closed (noted x s)
    else (if is_opening x.class && are_both (noted x s).plain then in_class Established (noted x s)
    else noted x s))))

-- a session's limit has passed
abbrev pub has_passed_by : ℕ → Session → Bool
has_passed_by now x = has_rested (rest_of x.class) x.last now
