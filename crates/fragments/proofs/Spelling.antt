-- What is read from a frame whose header was written.
use Rattle.std.proofs.Common.{◌≡◌, ℕ, ◌+◌, ◌-◌, ◌*◌, ◌/◌, ◌%◌, ◌^◌, ◌<◌, ◌≤◌, false, List, [], ◌∷◌, ◌++◌, length, take, drop, slice_index, refl, ap, ◌∙◌, sym, subst, arith, append_assoc, length-append, length-drop}
use Rattle.std.proofs.lemmas.List.{length-take-le, drop_at, take_at, take_all}
use Rattle.byteorder.specs.Numbers.{big_number-reads_back}
use Rattle.sums.specs.Sum.{IsRight, checksum_of}
use Rattle.ipv4.specs.Header.{header_of, options_of, payload_of}
use Rattle.ipv4.specs.Options.{has_source_route}
use Rattle.fragments.specs.Fragment.{HasHeader, ipv4_in}
use Rattle.byteorder.specs.Endian.{big_bytes}
use Rattle.fragments.specs.Header.{fixed_summed, header_with}
use Rattle.fragments.specs.declared.headers.Fields.{Fields}

word-written : (x : ℕ) → x < 65536 → x / 256 % 256 * 256 + (x % 256 * 1 + 0) ≡ x
word-written x h = omega arith

-- what is written of a packet: its header's version is 4, lengths and fields agree, and no option is a source route
pub record Writes (fields : Fields) (packet options payload : List ℕ) : Type 0 where
  pub version : (header_of packet).version ≡ 4
  pub header : (header_of packet).header_length ≡ 20 + length options
  pub total : fields.total ≡ (header_of packet).header_length + length payload
  pub fits : fields.total < 65536
  pub identification : fields.identification < 65536
  pub flags : fields.flags < 65536
  pub source : (header_of packet).source < 256 ^ 4
  pub destination : (header_of packet).destination < 256 ^ 4
  pub no_source_route : has_source_route options ≡ false

-- a packet with these fields, options and payload, as it is read
pub record Spelled (fields : Fields) (packet options payload bytes : List ℕ) : Type 0 where
  pub service : (header_of bytes).type_of_service ≡ fields.service
  pub identification : (header_of bytes).identification ≡ fields.identification
  pub flags : (header_of bytes).flags_word ≡ fields.flags
  pub header : (header_of bytes).header_length ≡ (header_of packet).header_length
  pub first_byte : slice_index bytes 0 ≡ slice_index packet 0
  pub ttl : (header_of bytes).ttl ≡ (header_of packet).ttl
  pub protocol : (header_of bytes).protocol ≡ (header_of packet).protocol
  pub source : (header_of bytes).source ≡ (header_of packet).source
  pub destination : (header_of bytes).destination ≡ (header_of packet).destination
  pub options_are : options_of bytes ≡ options
  pub payload_is : payload_of bytes ≡ payload
  pub right : HasHeader bytes

pub length-header : (fields : Fields) (packet options : List ℕ) → length (header_with fields packet options) ≡ 20 + length options
unfolding header_with fixed_summed
length-header fields packet options = omega arith

-- the options of a packet whose header was written
pub options-written : (fields : Fields) (packet options payload : List ℕ) → (header_of packet).header_length ≡ 20 + length options → options_of (header_with fields packet options ++ payload) ≡ options
unfolding header_with fixed_summed
options-written fields packet options payload size = take_at options payload ((header_of packet).header_length - 20) (omega (arith, size))

-- the first 20 bytes and the options have a right checksum
right-header : (fields : Fields) (packet options : List ℕ) → (header_of packet).version ≡ 4 → IsRight (header_with fields packet options)
unfolding header_with fixed_summed
right-header fields packet options version = (omega arith, omega arith)

pub spelled : (fields : Fields) (packet options payload : List ℕ) → Writes fields packet options payload → Spelled fields packet options payload (header_with fields packet options ++ payload)
unfolding header_with fixed_summed
spelled fields packet options payload is =
    let written = header_with fields packet options in
    let bytes = written ++ payload in
    let size : length written ≡ (header_of packet).header_length = length-header fields packet options ∙ sym is.header in
    let total : (header_of bytes).total_length ≡ fields.total = word-written fields.total is.fits in
    let behind : 20 + length options - 20 ≡ length options = omega arith in
    let options_are : options_of bytes ≡ options = options-written fields packet options payload is.header in
    record {
      service = refl;
      identification = word-written fields.identification is.identification;
      flags = word-written fields.flags is.flags;
      header = refl;
      first_byte = refl;
      ttl = refl;
      protocol = refl;
      source = big_number-reads_back 4 (header_of packet).source [] is.source;
      destination = big_number-reads_back 4 (header_of packet).destination [] is.destination;
      options_are = options_are;
      payload_is =
          ap (λ (n : ℕ). take (n - (header_of packet).header_length) (drop (header_of packet).header_length bytes)) total
          ∙ (ap (λ (xs : List ℕ). take (fields.total - (header_of packet).header_length) xs) (drop_at written payload (header_of packet).header_length size)
          ∙ take_all (fields.total - (header_of packet).header_length) payload (omega (arith, is.total)));
      right = record {
        long = omega arith;
        version = is.version;
        holds_fields = omega (arith, is.header);
        holds_header = omega (arith, total, is.total);
        there = omega (arith, total, is.total, size, length-append written payload);
        sum = subst IsRight (sym (take_at written payload (header_of packet).header_length size)) (right-header fields packet options is.version);
        no_source_route = ap has_source_route options_are ∙ is.no_source_route;
      };
    }

-- what stands behind an Ethernet header
pub behind-ethernet : (frame body : List ℕ) → 14 ≤ length frame → ipv4_in (take 14 frame ++ body) ≡ body
behind-ethernet frame body whole = drop_at (take 14 frame) body 14 (length-take-le 14 frame whole)

pub ethernet-same : (frame body : List ℕ) → 14 ≤ length frame → take 14 (take 14 frame ++ body) ≡ take 14 frame
ethernet-same frame body whole = take_at (take 14 frame) body 14 (length-take-le 14 frame whole)

-- a header, by what it is made of
built : (first ttl protocol source destination : ℕ) → Fields → List ℕ → List ℕ
built first ttl protocol source destination fields options =
    let fixed : ℕ → List ℕ = λ (sum : ℕ). (first ∷ fields.service ∷ []) ++ big_bytes 2 fields.total ++ big_bytes 2 fields.identification ++ big_bytes 2 fields.flags ++ (ttl ∷ protocol ∷ []) ++ big_bytes 2 sum ++ big_bytes 4 source ++ big_bytes 4 destination in
    fixed (checksum_of (fixed 0 ++ options)) ++ options

header-built : (fields : Fields) (packet options : List ℕ)
    → header_with fields packet options ≡ built (slice_index packet 0) (header_of packet).ttl (header_of packet).protocol (header_of packet).source (header_of packet).destination fields options
unfolding header_with fixed_summed built
header-built fields packet options = refl

built-same : (a a2 b b2 c c2 d d2 e e2 : ℕ) (f f2 : Fields) (o o2 : List ℕ) → a ≡ a2 → b ≡ b2 → c ≡ c2 → d ≡ d2 → e ≡ e2 → f ≡ f2 → o ≡ o2 → built a b c d e f o ≡ built a2 b2 c2 d2 e2 f2 o2
built-same a a2 b b2 c c2 d d2 e e2 f f2 o o2 p q r s t u v = cc

-- two packets with the same of all that a header takes from them
pub record SameHeader (p q : List ℕ) : Type 0 where
  pub first_byte : slice_index p 0 ≡ slice_index q 0
  pub ttl : (header_of p).ttl ≡ (header_of q).ttl
  pub protocol : (header_of p).protocol ≡ (header_of q).protocol
  pub source : (header_of p).source ≡ (header_of q).source
  pub destination : (header_of p).destination ≡ (header_of q).destination

pub header-same : (f g : Fields) (p q o r : List ℕ) → f ≡ g → SameHeader p q → o ≡ r → header_with f p o ≡ header_with g q r
header-same f g p q o r fields same options =
    header-built f p o
    ∙ built-same _ _ _ _ _ _ _ _ _ _ f g o r same.first_byte same.ttl same.protocol same.source same.destination fields options
    ∙ sym (header-built g q r)

pub length-options : (packet : List ℕ) → 20 ≤ (header_of packet).header_length → (header_of packet).header_length ≤ length packet → 20 + length (options_of packet) ≡ (header_of packet).header_length
length-options packet low there =
    omega (arith, length-take-le ((header_of packet).header_length - 20) (drop 20 packet) (omega (arith, length-drop 20 packet, there, low)), low)

-- how long a frame of three parts is
pub length-parts : (frame header payload : List ℕ) (h n : ℕ) → 14 ≤ length frame → length header ≡ h → length payload ≡ n → length (take 14 frame ++ header ++ payload) ≡ 14 + (h + n)
length-parts frame header payload h n whole one two =
    omega (arith, length-append (take 14 frame ++ header) payload, length-append (take 14 frame) header, length-take-le 14 frame whole, one, two)

-- the same of what stands behind an Ethernet header in two parts
pub behind-parts : (frame header payload : List ℕ) → 14 ≤ length frame → ipv4_in (take 14 frame ++ header ++ payload) ≡ header ++ payload
behind-parts frame header payload whole =
    ap ipv4_in (append_assoc (take 14 frame) header payload) ∙ behind-ethernet frame (header ++ payload) whole

pub ethernet-parts : (frame header payload : List ℕ) → 14 ≤ length frame → take 14 (take 14 frame ++ header ++ payload) ≡ take 14 frame
ethernet-parts frame header payload whole =
    ap (take 14) (append_assoc (take 14 frame) header payload) ∙ ethernet-same frame (header ++ payload) whole
