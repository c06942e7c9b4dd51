-- A message that was written is read as the same advertisement.
use Rattle.std.proofs.Common.{◌≡◌, ℕ, ◌%◌, List, length, take, drop, ap, ◌∙◌, sym, subst, arith, inl}
use Rattle.byteorder.specs.Endian.{big_number}
use Rattle.sums.specs.Sum.{checksum_of, IsRight}
use Rattle.ipv4.specs.Header.{word_at, header_of, payload_of}
use Rattle.vrrp_packet.specs.declared.Advert.{Advert}
use Rattle.vrrp_packet.specs.Message.{message_of, size_of, IsAdvert, advert_of, message_bytes, advert_bytes, IsWritable}

-- the fields of a message that was written are those of the advertisement
pub advert_of-message_bytes : (advert : Advert) (checksum : ℕ) → IsWritable advert → advert_of (message_bytes advert checksum) ≡ advert
advert_of-message_bytes advert checksum fits =
    let interval : word_at 4 (message_bytes advert checksum) % 0x1000 ≡ advert.interval = omega arith in
    let address : big_number 4 (drop 8 (message_bytes advert checksum)) ≡ advert.address.0 = omega arith in
    ap (λ (x : ℕ). let a : Advert = record { router = advert.router; priority = advert.priority; interval = x; address = record { 0 = big_number 4 (drop 8 (message_bytes advert checksum)) } } in a) interval
    ∙ ap (λ (x : ℕ). let a : Advert = record { router = advert.router; priority = advert.priority; interval = advert.interval; address = record { 0 = x } } in a) address

-- the checksum of a message that was written is right
pub right_sum : (advert : Advert) → IsRight (advert_bytes advert)
right_sum advert = (omega arith, omega arith)

-- a packet with TTL 255 that carries such a message is an advertisement
pub IsAdvert-written : (packet : List ℕ) (advert : Advert) → IsWritable advert → (header_of packet).ttl ≡ 255 → payload_of packet ≡ advert_bytes advert → IsAdvert packet
IsAdvert-written packet advert fits hop carried =
    let message = message_of (payload_of packet) in
    let size : length (payload_of packet) ≡ 12 = ap length carried in
    let version : message.version ≡ 3 = ap (λ (p : List ℕ). (message_of p).version) carried in
    let kind : message.kind ≡ 1 = ap (λ (p : List ℕ). (message_of p).kind) carried in
    let count : message.count ≡ 1 = ap (λ (p : List ℕ). (message_of p).count) carried in
    let sent : message.interval ≡ (message_of (advert_bytes advert)).interval = ap (λ (p : List ℕ). (message_of p).interval) carried in
    let interval : (message_of (advert_bytes advert)).interval ≡ advert.interval = ap (λ (a : Advert). a.interval) (advert_of-message_bytes advert (checksum_of (message_bytes advert 0)) fits) in
    let P : List ℕ → Type 0 = λ p. IsRight (take (size_of (message_of p)) p) in
    record {
      one_hop = hop;
      long = omega arith;
      version = version;
      kind = kind;
      some_address = omega arith;
      there = omega arith;
      sum = inl (subst P (sym carried) (right_sum advert));
      interval = omega arith;
    }
