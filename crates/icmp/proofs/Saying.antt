-- What is read from the packets and messages that the box writes.
use Rattle.std.proofs.Common.{◌≡◌, ℕ, ◌+◌, ◌-◌, ◌*◌, ◌/◌, ◌%◌, ◌<◌, List, length, take, drop, slice_index, refl, sym, ap, ◌∙◌, arith}
use Rattle.std.proofs.lemmas.List.{get_or-drop}
use Rattle.std.proofs.Math.Seq.{take-length}
use Rattle.sums.specs.Sum.{IsRight}
use Rattle.ipv4.specs.Header.{header_of, word_at}
use Rattle.ipv4.proofs.Offered.{route-none}
use Rattle.icmp.specs.Ask.{IsAsk}
use Rattle.icmp.specs.Own.{flags_of, identification_of, own_message, own_packet, IsOwnPacket, IsReplyTo, reply_message}
use Rattle.icmp.specs.Query.{IsQuery, query_of, query_data}
use Rattle.icmp.specs.declared.kinds.Kind.TheVariants.{Reply}
use Rattle.icmp.specs.declared.own.Cutting.{Cutting}
use Rattle.icmp.specs.declared.own.Cutting.TheVariants.{Forbidden, Allowed}

-- a message that is written with its checksum is right
pub right_message : (kind code first second : ℕ) (bytes : List ℕ) → IsRight (own_message kind code first second bytes)
right_message kind code first second bytes = (omega arith, omega arith)

-- a word and a number are read from the bytes that they are written in
word-written : (x : ℕ) → x < 65536 → x / 256 % 256 * 256 + (x % 256 * 1 + 0) ≡ x
word-written x h = omega arith

-- a word after a word that is 0 is read as a number of 32 bits
pub second-written : (x : ℕ) → x < 65536 → 0 * 16777216 + (0 * 65536 + (x / 256 % 256 * 256 + (x % 256 * 1 + 0))) ≡ x
second-written x h = omega arith

number-written : (x : ℕ) → x < 4294967296 → x / 16777216 % 256 * 16777216 + (x / 65536 % 256 * 65536 + (x / 256 % 256 * 256 + (x % 256 * 1 + 0))) ≡ x
number-written x h = omega arith

-- the word of flags and fragment offset that is read
abbrev word-of : ℕ → ℕ
word-of x = x / 256 % 256 * 256 + (x % 256 * 1 + 0)

-- a packet of the box is no fragment, and has the flags that are written
flags-written : (cutting : Cutting) → (word-of (flags_of cutting) ≡ flags_of cutting) × ((word-of (flags_of cutting) / 8192 % 2 ≡ 0) × (word-of (flags_of cutting) % 8192 ≡ 0))
flags-written Forbidden = (refl, (refl, refl))
flags-written (Allowed identification) = (refl, (refl, refl))

pub spelled : (cutting : Cutting) (service from to : ℕ) (message : List ℕ) → identification_of cutting < 65536 → service < 256 → from < 4294967296 → to < 4294967296 → 20 + length message < 65536
    → IsOwnPacket cutting service from to message (own_packet cutting service from to message)
spelled cutting service from to message numbered small from_fits to_fits fits =
    let packet = own_packet cutting service from to message in
    let flags = flags-written cutting in
    let size : length packet ≡ 20 + length message = omega arith in
    let total : (header_of packet).total_length ≡ 20 + length message = word-written (20 + length message) fits in
    let behind : 20 + length message - 20 ≡ length message = omega arith in
    let sum : IsRight (take 20 packet) = (omega arith, omega arith) in
    record {
      right = record {
        long = omega (arith, size);
        version = refl;
        holds_fields = omega arith;
        holds_header = omega (arith, total);
        there = omega (arith, total, size);
        sum = sum;
        no_source_route = route-none;
        last = flags.1.0;
        first = flags.1.1;
      };
      header_length = refl;
      type_of_service = refl;
      total_length = total ∙ sym size;
      identification = word-written (identification_of cutting) numbered;
      flags_word = flags.0;
      ttl = refl;
      protocol = refl;
      source = number-written from from_fits;
      destination = number-written to to_fits;
      payload = ap (λ (k : ℕ). take (k - 20) message) total ∙ (ap (λ (k : ℕ). take k message) behind ∙ take-length message);
    }

-- a word that is read from bytes is below 65536
word-fits : (place : ℕ) (bytes : List ℕ) → ((i : ℕ) → slice_index bytes i < 256) → word_at place bytes < 65536
word-fits place bytes fits =
    let high : slice_index (drop place bytes) 0 < 256 = rw (get_or-drop place bytes 0 0) (fits (place + 0)) in
    let low : slice_index (drop place bytes) 1 < 256 = rw (get_or-drop place bytes 1 0) (fits (place + 1)) in
    omega (arith, high, low)

pub answers : (ask : List ℕ) → ((i : ℕ) → slice_index ask i < 256) → IsAsk ask → IsReplyTo ask (reply_message ask)
answers ask fits is =
    let q = query_of ask in
    record {
      type_is = refl;
      code = refl;
      sum = right_message 0 0 q.identifier q.sequence_number (query_data ask);
      identifier = word-written q.identifier (word-fits 4 ask fits);
      sequence_number = word-written q.sequence_number (word-fits 6 ask fits);
      carried = refl;
    }

pub is_query : (ask : List ℕ) → ((i : ℕ) → slice_index ask i < 256) → IsAsk ask → 0 < (query_of ask).identifier → IsQuery Reply (reply_message ask)
is_query ask fits is some =
    let same : (query_of (reply_message ask)).identifier ≡ (query_of ask).identifier = (answers ask fits is).identifier in
    record { long = omega arith; type_is = refl; code = refl; identifier = omega (arith, same, some) }
