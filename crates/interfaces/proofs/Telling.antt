-- A tally stays within its limits.
use Rattle.std.proofs.Common.{◌≡◌, ◌≢◌, ℕ, ◌<◌, ◌==◌, nat_lt, Bool, true, false, if◌then◌else◌, refl, arith}
use Rattle.std.proofs.lemmas.Bool.Decides.{nat_tests}
use Rattle.interfaces.specs.declared.tallies.Tally.{Tally}
use Rattle.interfaces.specs.declared.tallies.TheConstants.{MOST_ERRORS, MOST_REPLIES}
use Rattle.interfaces.specs.Tallies.{IsWithin, at_moment, complained, may_complain, may_reply, none_in, replied, second_of}

below : (m n : ℕ) → nat_lt m n ≡ true → m < n
below m n is = grind (arith, nat_tests)

pub none-within : (second : ℕ) → IsWithin (none_in second)
none-within second = record { replies = omega arith; errors = omega arith }

either-within : (b : Bool) (second : ℕ) (tally : Tally) → IsWithin tally → IsWithin (if b then tally else none_in second)
either-within true second tally is = is
either-within false second tally is = none-within second

moment-within : (now : ℕ) (tally : Tally) → IsWithin tally → IsWithin (at_moment now tally)
unfolding at_moment
moment-within now tally is = either-within (tally.second == second_of now) (second_of now) tally is

pub replied-within : (now : ℕ) (tally : Tally) → IsWithin tally → may_reply now tally ≡ true → IsWithin (replied now tally)
replied-within now tally is may =
    let within = moment-within now tally is in
    record { replies = omega (arith, below (at_moment now tally).replies MOST_REPLIES may); errors = within.errors }

pub complained-within : (now : ℕ) (tally : Tally) → IsWithin tally → may_complain now tally ≡ true → IsWithin (complained now tally)
complained-within now tally is may =
    let within = moment-within now tally is in
    record { replies = within.replies; errors = omega (arith, below (at_moment now tally).errors MOST_ERRORS may) }

number-same : (m n : ℕ) → m ≡ n → (m == n) ≡ true
number-same m n e = grind (arith, nat_tests)

number-other : (m n : ℕ) → m ≢ n → (m == n) ≡ false
number-other m n e = grind (arith, nat_tests)

pub same-second : (now : ℕ) (tally : Tally) → tally.second ≡ second_of now → at_moment now tally ≡ tally
unfolding at_moment
same-second now tally is = rw (number-same tally.second (second_of now) is) refl

pub other-second : (now : ℕ) (tally : Tally) → tally.second ≢ second_of now → at_moment now tally ≡ none_in (second_of now)
unfolding at_moment
other-second now tally is = rw (number-other tally.second (second_of now) is) refl

same-number : (m n : ℕ) → (m == n) ≡ true → m ≡ n
same-number m n e = grind (arith, nat_tests)

second-by : (b : Bool) (now : ℕ) (tally : Tally) → (tally.second == second_of now) ≡ b → (if b then tally else none_in (second_of now)).second ≡ second_of now
second-by true now tally is = same-number tally.second (second_of now) is
second-by false now tally is = refl

pub at-second : (now : ℕ) (tally : Tally) → (at_moment now tally).second ≡ second_of now
unfolding at_moment
at-second now tally = second-by (tally.second == second_of now) now tally refl
