-- How many fragments a packet is cut into, and where each begins.
use Rattle.std.proofs.Common.{◌≡◌, ℕ, zero, suc, ◌+◌, ◌-◌, ◌*◌, ◌/◌, ◌<◌, ◌≤◌, List, length, take, drop, slice_index, refl, ap, ◌∙◌, sym, subst, arith}
use Rattle.std.proofs.lemmas.List.{get_or-drop, length-drop, length-take-le}
use Rattle.std.proofs.lemmas.Nat.{div-add-mod', div_below, mul-le}
use Rattle.std.proofs.Math.Nat.{mul_assoc}
use Rattle.ipv4.specs.Header.{IsIpv4, header_of, payload_of, word_at}
use Rattle.fragments.specs.Cut.{IsMtu, piece_count, step_of}

-- the bytes of a packet: of its header h, of its payload n; each fragment but the last carries s bytes
pub record Sizes (mtu h n s : ℕ) : Type 0 where
  pub least : 576 ≤ mtu
  pub most : mtu ≤ 1500
  pub low : 20 ≤ h
  pub high : h ≤ 60
  pub step : s ≡ (mtu - h) / 8 * 8

abbrev pub count : ℕ → ℕ → ℕ → ℕ → ℕ
count mtu h n s = (h + n - mtu + (s - 1)) / s + 1

pub step-least : (mtu h n s : ℕ) → Sizes mtu h n s → 512 ≤ s
step-least mtu h n s is = omega (arith, is.least, is.most, is.low, is.high, is.step)

pub step-fits : (mtu h n s : ℕ) → Sizes mtu h n s → h + s ≤ mtu
step-fits mtu h n s is = omega (arith, is.least, is.most, is.low, is.high, is.step)

-- rounding up: the quotient is the least number of steps that reach as far
round-reaches : (x s : ℕ) → 0 < s → x ≤ (x + (s - 1)) / s * s
round-reaches x s some =
    let whole = div-add-mod' (x + (s - 1)) s in
    omega (arith, whole, some)

round-least : (x s k : ℕ) → 0 < s → k < (x + (s - 1)) / s → k * s < x
round-least x s k some below =
    let whole = div-add-mod' (x + (s - 1)) s in
    let steps = mul-le (suc k) s ((x + (s - 1)) / s) s (omega (arith, below)) (omega arith) in
    let more = suc-steps k s in
    omega (arith, whole, steps, more, some)
  where
    suc-steps : (k s : ℕ) → suc k * s ≡ k * s + s
    suc-steps k s = omega arith

pub few : (mtu h n s : ℕ) → Sizes mtu h n s → h + n < 65536 → count mtu h n s ≤ 128
few mtu h n s is whole =
    let least = step-least mtu h n s is in
    let below = div_below (h + n - mtu + (s - 1)) s 128 (omega (arith, least)) (omega (arith, least, is.least, whole)) in
    omega (arith, below)

-- all that is left goes into the last one
pub last-fits : (mtu h n s k : ℕ) → Sizes mtu h n s → k + 1 ≡ count mtu h n s → h + n - k * s ≤ mtu
last-fits mtu h n s k is last =
    let least = step-least mtu h n s is in
    let reach = round-reaches (h + n - mtu) s (omega (arith, least)) in
    let at : k * s ≡ (h + n - mtu + (s - 1)) / s * s = ap (λ (m : ℕ). m * s) (let same : k ≡ (h + n - mtu + (s - 1)) / s = omega (arith, last) in same) in
    omega (arith, reach, at)

-- what is left behind each other one doesn't fit
pub more-left : (mtu h n s k : ℕ) → Sizes mtu h n s → k + 1 < count mtu h n s → mtu < h + n - k * s
more-left mtu h n s k is more =
    let least = step-least mtu h n s is in
    let reach = round-least (h + n - mtu) s k (omega (arith, least)) (omega (arith, more)) in
    omega (arith, reach)

-- where what is left doesn't fit, a whole step is left and more
pub step-left : (mtu h n s k : ℕ) → Sizes mtu h n s → mtu < h + n - k * s → k * s + s < n
step-left mtu h n s k is more = omega (arith, more, step-fits mtu h n s is)

-- each fragment begins within the payload
pub place-within : (mtu h n s k : ℕ) → Sizes mtu h n s → k < count mtu h n s → k * s ≤ n
place-within mtu h n s zero is there = omega arith
place-within mtu h n s (suc k) is there =
    let before = more-left mtu h n s k is (omega (arith, there)) in
    let reach = step-left mtu h n s k is before in
    omega (arith, reach, next k s)
  where
    next : (k s : ℕ) → suc k * s ≡ k * s + s
    next k s = omega arith

-- where a packet doesn't fit, each fragment but the first begins before its end
pub place-before : (mtu h n s k : ℕ) → Sizes mtu h n s → mtu < h + n → k < count mtu h n s → k * s < n
place-before mtu h n s zero is long there = omega (arith, long, is.least, is.high)
place-before mtu h n s (suc k) is long there =
    let before = more-left mtu h n s k is (omega (arith, there)) in
    let reach = step-left mtu h n s k is before in
    omega (arith, reach, next k s)
  where
    next : (k s : ℕ) → suc k * s ≡ k * s + s
    next k s = omega arith

-- a place is a multiple of 8
pub place-eighths : (mtu h n s k : ℕ) → Sizes mtu h n s → 8 * (k * s / 8) ≡ k * s
place-eighths mtu h n s k is =
    let y = (mtu - h) / 8 in
    let steps : k * s ≡ k * y * 8 = ap (λ (m : ℕ). k * m) is.step ∙ sym (mul_assoc k y 8) in
    omega (arith, steps)

-- ---- of a packet
pub payload-size : (packet : List ℕ) → (header_of packet).header_length ≤ (header_of packet).total_length → (header_of packet).total_length ≤ length packet → (header_of packet).header_length + length (payload_of packet) ≡ (header_of packet).total_length
payload-size packet holds there = sized packet (header_of packet).header_length (header_of packet).total_length holds there
  where
    sized : (packet : List ℕ) (h t : ℕ) → h ≤ t → t ≤ length packet → h + length (take (t - h) (drop h packet)) ≡ t
    sized packet h t holds there = omega (arith, length-take-le (t - h) (drop h packet) (omega (arith, length-drop h packet, holds, there)), holds)

pub sizes : (mtu : ℕ) (packet : List ℕ) → IsMtu mtu → IsIpv4 packet → Sizes mtu (header_of packet).header_length (length (payload_of packet)) (step_of mtu packet)
unfolding step_of
sizes mtu packet limits is = record {
  least = limits.least;
  most = limits.most;
  low = is.holds_fields;
  high = omega arith;
  step = refl;
}

-- the number of fragments, by the sizes
pub counted : (mtu : ℕ) (packet : List ℕ) → IsIpv4 packet → piece_count mtu packet ≡ count mtu (header_of packet).header_length (length (payload_of packet)) (step_of mtu packet)
unfolding piece_count
counted mtu packet is =
    ap (λ (t : ℕ). (t - mtu + (step_of mtu packet - 1)) / step_of mtu packet + 1) (sym (payload-size packet is.holds_header is.there))

-- a word that is read from bytes is below 65536
pub word-fits : (place : ℕ) (bytes : List ℕ) → ((i : ℕ) → slice_index bytes i < 256) → word_at place bytes < 65536
word-fits place bytes fits =
    let high : slice_index (drop place bytes) 0 < 256 = subst (λ (n : ℕ). n < 256) (sym (get_or-drop place bytes 0 0)) (fits (place + 0)) in
    let low : slice_index (drop place bytes) 1 < 256 = subst (λ (n : ℕ). n < 256) (sym (get_or-drop place bytes 1 0)) (fits (place + 1)) in
    omega (arith, high, low)
