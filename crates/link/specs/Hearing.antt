-- Whether the peer was heard lately, and whether it serves.
use Rattle.std.specs.Prelude.{ℕ, ◌-◌, Bool, false, ◌&&◌, nat_le, Option, Some, None}
use Rattle.link.specs.Link.{Link}
use Rattle.link.specs.declared.session.TheConstants.{HEARD_FOR}

-- whether the peer was heard (at the time in the option) at most 300 cs (HEARD_FOR) before now
abbrev pub is_heard : Option ℕ → ℕ → Bool
is_heard None now = false
is_heard (Some last) now = nat_le (now - last) HEARD_FOR

-- whether the peer was heard at most 300 cs before now, and the last datagram by which it counted as heard says that it serves
abbrev pub peer_serves : Link → ℕ → Bool
peer_serves e now = is_heard e.heard now && e.status
