-- How many answers to Echos and ICMP errors of its own a gateway sends at a side in one second of its clock.
use Rattle.std.specs.Prelude.{◌≤◌, ℕ, ◌+◌, ◌/◌, Bool, nat_lt, ◌==◌, if◌then◌else◌}
use Rattle.interfaces.specs.declared.tallies.Tally.{Tally}
use Rattle.interfaces.specs.declared.tallies.TheConstants.{MOST_REPLIES, MOST_ERRORS}

-- the second of a moment: a second is a hundred moments
abbrev pub second_of : ℕ → ℕ
second_of now = now / 100

-- a tally in which nothing was counted in a second
abbrev pub none_in : ℕ → Tally
none_in second = record { second = second; replies = 0; errors = 0 }

-- the tally at a moment: each second begins with zero counts
unfoldable pub at_moment : ℕ → Tally → Tally
at_moment now tally =
    (if tally.second == second_of now then tally else none_in (second_of now))

-- one more Echo may be answered at a moment, or one more error sent
abbrev pub may_reply : ℕ → Tally → Bool
may_reply now tally = nat_lt (at_moment now tally).replies MOST_REPLIES

abbrev pub may_complain : ℕ → Tally → Bool
may_complain now tally = nat_lt (at_moment now tally).errors MOST_ERRORS

-- one more Echo was answered at a moment, or one more error sent
abbrev pub replied : ℕ → Tally → Tally
replied now tally = let t = at_moment now tally in record t { replies = t.replies + 1 }

abbrev pub complained : ℕ → Tally → Tally
complained now tally = let t = at_moment now tally in record t { errors = t.errors + 1 }

-- a tally counts no more than may be sent
pub record IsWithin (tally : Tally) : Type 0 where
  pub replies : tally.replies ≤ MOST_REPLIES
  pub errors : tally.errors ≤ MOST_ERRORS
