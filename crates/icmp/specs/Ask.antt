-- An Echo to the box itself (RFC 792; RFC 1122, section 3.2.2.6).
use Rattle.std.specs.Prelude.{◌≡◌, ◌≤◌, ℕ, Bool, nat_lt, not, ◌||◌, List, [], ◌∷◌, length, Option}
use Rattle.sums.specs.Sum.{IsRight}
use Rattle.ipv4.specs.Header.{has_wrong_sum}
use Rattle.ipv4.specs.Order.{first_fault}
use Rattle.icmp.specs.Query.{begins_with, kind_number, query_of}
use Rattle.icmp.specs.declared.faults.IcmpFault.{IcmpFault}
use Rattle.icmp.specs.declared.faults.IcmpFault.TheVariants.{NotAsked}
use Rattle.icmp.specs.declared.kinds.Kind.TheVariants.{Echo}
use Rattle.icmp.specs.declared.queries.field.TheConstants.{HEADER}

-- a whole Echo with code 0 and a right checksum; whatever the identifier is
pub record IsAsk (message : List ℕ) : Type 0 where
  pub long : HEADER ≤ length message
  pub type_is : (query_of message).kind ≡ kind_number Echo
  pub code : (query_of message).code ≡ 0
  pub sum : IsRight message

-- a message is too short, of another type or code, or has a wrong checksum
abbrev pub has_no_ask : List ℕ → Bool
has_no_ask message =
    nat_lt (length message) HEADER || not (begins_with Echo message) || has_wrong_sum message

-- why a message is no Echo to the box, None where it is one
abbrev pub ask_refusal : List ℕ → Option IcmpFault
ask_refusal message = first_fault ((has_no_ask message, NotAsked) ∷ [])
