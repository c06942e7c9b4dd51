-- VRRP advertisements (RFC 9568, section 5.2).
use Rattle.std.specs.Prelude.{◌≡◌, ◌≤◌, ◌<◌, ◌⊎◌, ℕ, ◌+◌, ◌*◌, ◌/◌, ◌%◌, ◌^◌, ◌==◌, nat_lt, not, ◌&&◌, List, [], ◌∷◌, ◌++◌, length, take, drop, slice_index, Option}
use Rattle.byteorder.specs.Endian.{big_number, big_bytes}
use Rattle.sums.specs.Sum.{IsRight, checksum_of}
use Rattle.ipv4.specs.Order.{first_fault}
use Rattle.ipv4.specs.Header.{word_at, header_of, payload_of, has_wrong_sum}
use Rattle.vrrp_packet.specs.declared.TheConstants.{PROTOCOL, VERSION, ADVERTISEMENT, INTERVALS}
use Rattle.vrrp_packet.specs.declared.field.TheConstants.{HEADER}
use Rattle.vrrp_packet.specs.declared.Advert.{Advert}
use Rattle.vrrp_packet.specs.declared.AdvertFault.{AdvertFault}
use Rattle.vrrp_packet.specs.declared.AdvertFault.TheVariants.{BadTtl, BadVersion, BadType, TooShort, NoAddress, BadSum, ZeroInterval}

-- the fields before the addresses
pub record Message : Type 0 where
  pub version : ℕ
  pub kind : ℕ
  pub router : ℕ
  pub priority : ℕ
  pub count : ℕ
  pub interval : ℕ

-- the fields that a payload spells
abbrev pub message_of : List ℕ → Message
message_of payload = record {
  version = slice_index payload 0 / 16;
  kind = slice_index payload 0 % 16;
  router = slice_index payload 1;
  priority = slice_index payload 2;
  count = slice_index payload 3;
  interval = word_at 4 payload % INTERVALS;
}

-- the bytes of a message with its addresses
abbrev pub size_of : Message → ℕ
size_of message = HEADER + 4 * message.count

-- the bytes that the checksum may cover before the message (RFC 9568, section 5.2.8)
abbrev pub pseudo_header : (source destination size : ℕ) → List ℕ
pseudo_header source destination size =
    big_bytes 4 source ++ big_bytes 4 destination ++ (0 ∷ PROTOCOL ∷ []) ++ big_bytes 2 size

-- what a checksum covers in the first form: the message with its addresses
abbrev pub summed : List ℕ → List ℕ
summed packet = take (size_of (message_of (payload_of packet))) (payload_of packet)

-- what a checksum covers in the second form: the pseudo-header, and the message with its addresses
abbrev pub summed_with_pseudo : List ℕ → List ℕ
summed_with_pseudo packet =
    let size = size_of (message_of (payload_of packet)) in
    pseudo_header (header_of packet).source (header_of packet).destination size ++ summed packet

-- an IPv4 packet carries an advertisement
pub record IsAdvert (packet : List ℕ) : Type 0 where
  pub one_hop : (header_of packet).ttl ≡ 255
  pub long : HEADER ≤ length (payload_of packet)
  pub version : (message_of (payload_of packet)).version ≡ VERSION
  pub kind : (message_of (payload_of packet)).kind ≡ ADVERTISEMENT
  pub some_address : 0 < (message_of (payload_of packet)).count
  pub there : size_of (message_of (payload_of packet)) ≤ length (payload_of packet)
  pub sum : IsRight (summed packet) ⊎ IsRight (summed_with_pseudo packet)
  pub interval : 0 < (message_of (payload_of packet)).interval

-- why an IPv4 packet carries no advertisement, None where it carries one
abbrev pub advert_refusal : List ℕ → Option AdvertFault
advert_refusal packet =
    let payload = payload_of packet in
    let message = message_of payload in
    first_fault (
    (not ((header_of packet).ttl == 255), BadTtl)
    ∷ (nat_lt (length payload) HEADER, TooShort)
    ∷ (not (message.version == VERSION), BadVersion)
    ∷ (not (message.kind == ADVERTISEMENT), BadType)
    ∷ (message.count == 0, NoAddress)
    ∷ (nat_lt (length payload) (size_of message), TooShort)
    ∷ (has_wrong_sum (summed packet) && has_wrong_sum (summed_with_pseudo packet), BadSum)
    ∷ (message.interval == 0, ZeroInterval)
    ∷ [])

-- what a payload advertises, with the first of its addresses
abbrev pub advert_of : List ℕ → Advert
advert_of payload = record {
  router = (message_of payload).router;
  priority = (message_of payload).priority;
  interval = (message_of payload).interval;
  address = record { 0 = big_number 4 (drop 8 payload) };
}

-- a message of one address with this checksum
abbrev pub message_bytes : Advert → ℕ → List ℕ
message_bytes advert checksum =
    (0x31 ∷ advert.router ∷ advert.priority ∷ 1 ∷ [])
    ++ big_bytes 2 advert.interval ++ big_bytes 2 checksum ++ big_bytes 4 advert.address.0

-- the message of one address, whose checksum covers the message alone
abbrev pub advert_bytes : Advert → List ℕ
advert_bytes advert = message_bytes advert (checksum_of (message_bytes advert 0))

-- an advertisement whose numbers fit their fields, with an interval other than 0
pub record IsWritable (advert : Advert) : Type 0 where
  pub router : advert.router < 2 ^ 8
  pub priority : advert.priority < 2 ^ 8
  pub some : 0 < advert.interval
  pub interval : advert.interval < 2 ^ 12
  pub address : advert.address.0 < 2 ^ 32
