-- The moment from which a pair is idle, if it carries nothing more.
use Rattle.std.specs.Prelude.{ℕ, ◌+◌, ◌-◌, ◌^◌, ◌||◌, max, min, List, [], ◌∷◌, if◌then◌else◌}
use Rattle.addresses.specs.declared.transport.Protocol.{Protocol}
use Rattle.addresses.specs.declared.transport.Protocol.TheVariants.{Tcp}
use Rattle.activity.specs.declared.sessions.Session.{Session}
use Rattle.activity.specs.declared.TheConstants.{ESTABLISHED_REST}
use Rattle.activity.specs.Sessions.{rest_of}
use Rattle.activity.specs.Lives.{Activity, is_empty, least_rest}

-- the moment at which the last of these sessions passes its limit
abbrev pub last_end : List Session → ℕ
last_end [] = 0
last_end (x ∷ xs) = max (x.last + rest_of x.class) (last_end xs)

abbrev pub due_moment : Protocol → Activity → ℕ
due_moment Tcp life =
    (if life.is_crowded || is_empty life.sessions then life.last + ESTABLISHED_REST else last_end life.sessions)
due_moment protocol life = life.last + least_rest protocol

-- a moment, or the last one that a clock can show
abbrev pub clipped : ℕ → ℕ
clipped moment = min moment (2 ^ 64 - 1)
