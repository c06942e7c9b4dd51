-- ICMP errors (RFC 792).
use Rattle.std.specs.Prelude.{◌≤◌, ℕ, Bool, IsTrue, ◌==◌, nat_lt, not, ◌||◌, List, [], ◌∷◌, length, drop, slice_index, Option}
use Rattle.byteorder.specs.Endian.{big_number}
use Rattle.sums.specs.Sum.{IsRight}
use Rattle.ipv4.specs.Header.{word_at, has_wrong_sum}
use Rattle.ipv4.specs.Order.{first_fault}
use Rattle.icmp.specs.Quoted.{IsQuoted, has_no_packet}
use Rattle.icmp.specs.declared.errors.TheConstants.{UNREACHABLE, TIME_EXCEEDED, PARAMETER_PROBLEM}
use Rattle.icmp.specs.declared.errors.field.TheConstants.{HEADER}
use Rattle.icmp.specs.declared.faults.IcmpFault.{IcmpFault}
use Rattle.icmp.specs.declared.faults.IcmpFault.TheVariants.{NotError, BadError}

-- the fields before the packet inside
pub record Message : Type 0 where
  pub kind : ℕ
  pub code : ℕ
  pub checksum : ℕ
  pub parameter : ℕ

-- the fields that a packet's payload spells
abbrev pub message_of : List ℕ → Message
message_of payload = record {
  kind = slice_index payload 0;
  code = slice_index payload 1;
  checksum = word_at 2 payload;
  parameter = big_number 4 (drop 4 payload);
}

-- the packet inside, and what follows it
abbrev pub inside_of : List ℕ → List ℕ
inside_of message = drop HEADER message

-- a type that is an error's
abbrev pub is_error : ℕ → Bool
is_error kind = (kind == UNREACHABLE) || (kind == TIME_EXCEEDED) || (kind == PARAMETER_PROBLEM)

-- a whole message of an error's type with a right checksum and a packet inside, whatever the code is
pub record IsError (message : List ℕ) : Type 0 where
  pub long : HEADER ≤ length message
  pub kind : IsTrue (is_error (message_of message).kind)
  pub sum : IsRight message
  pub inside : IsQuoted (inside_of message)

-- a message begins with an error's type: an empty one doesn't
abbrev pub has_error_kind : List ℕ → Bool
has_error_kind message = is_error (message_of message).kind

-- a message of an error's type is cut off, or its checksum or the packet inside is wrong
abbrev pub has_no_error : List ℕ → Bool
has_no_error message =
    nat_lt (length message) HEADER
    || has_wrong_sum message
    || has_no_packet (inside_of message)

-- why a message is no error, None where it is one
abbrev pub error_refusal : List ℕ → Option IcmpFault
error_refusal message =
    first_fault (
    (not (has_error_kind message), NotError)
    ∷ (has_no_error message, BadError)
    ∷ [])
