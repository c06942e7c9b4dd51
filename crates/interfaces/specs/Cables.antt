-- A side's cable: whether it is in, and whether the side is whole.
use Rattle.std.specs.Prelude.{ℕ, ◌-◌, Bool, true, false, nat_le, Option, Some, None}
use Rattle.interfaces.specs.declared.cables.Cable.{Cable}
use Rattle.interfaces.specs.declared.cables.Cable.TheVariants.{Out, In}
use Rattle.interfaces.specs.declared.cables.TheConstants.{WHOLE_AFTER}

abbrev pub is_in : Cable → Bool
is_in Out = false
is_in (In since) = true

-- a cable came in 300 cs (WHOLE_AFTER) ago or more, or before the gateway began
abbrev pub is_long_ago : Option ℕ → ℕ → Bool
is_long_ago None now = true
is_long_ago (Some since) now = nat_le WHOLE_AFTER (now - since)

abbrev pub is_whole : Cable → ℕ → Bool
is_whole Out now = false
is_whole (In since) now = is_long_ago since now

-- the cable comes in at a moment
abbrev pub put_in : Cable → ℕ → Cable
put_in Out now = In (Some now)
put_in (In since) now = In since

-- the cable is reported in (true) or out; where it is in already, the moment at which it came in stays
abbrev pub plugged : Cable → Bool → ℕ → Cable
plugged cable true now = put_in cable now
plugged cable false now = Out
