-- Bytes that are read as a packet begin with the bytes of that packet.
use Rattle.std.proofs.Common.{◌≡◌, ◌⊎◌, ⊎_elim, ℕ, ◌+◌, ◌*◌, ◌/◌, ◌%◌, ◌<◌, ◌≤◌, ◌==◌, if◌then◌else◌, List, [], ◌∷◌, ◌++◌, length, slice_index, take, drop, refl, sym, ◌∙◌, ap, subst, arith, length-drop, take-append-drop}
use Rattle.std.proofs.Math.Path.{ap₂}
use Rattle.std.proofs.Math.Seq.{take-add}
use Rattle.std.proofs.lemmas.List.{get_or-drop}
use Rattle.byteorder.specs.Endian.{big_number, big_bytes}
use Rattle.arp.specs.declared.packets.Operation.{Operation}
use Rattle.arp.specs.declared.packets.Operation.TheVariants.{Request, Reply}
use Rattle.arp.specs.Packet.{ethernet_ipv4, operation_number, packet_bytes, packet_of, IsArp, Spells}

-- four bytes are those of the number that they spell
digits : (a b c d : ℕ) → a < 256 → b < 256 → c < 256 → d < 256
    → let n = a * 16777216 + (b * 65536 + (c * 256 + (d * 1 + 0))) in (n / 16777216 % 256 ≡ a) × (n / 65536 % 256 ≡ b) × (n / 256 % 256 ≡ c) × (n % 256 ≡ d)
digits a b c d ha hb hc hd = (omega arith, omega arith, omega arith, omega arith)

number_bytes : (xs : List ℕ) → 4 ≤ length xs → ((i : ℕ) → slice_index xs i < 256) → big_bytes 4 (big_number 4 xs) ≡ take 4 xs
number_bytes [] h small = absurd (omega arith)
number_bytes (a ∷ []) h small = absurd (omega arith)
number_bytes (a ∷ b ∷ []) h small = absurd (omega arith)
number_bytes (a ∷ b ∷ c ∷ []) h small = absurd (omega arith)
number_bytes (a ∷ b ∷ c ∷ d ∷ xs) h small =
    let e = digits a b c d (small 0) (small 1) (small 2) (small 3) in
    ap₂ (λ (p q : List ℕ). p ++ q) (ap₂ (λ (x y : ℕ). x ∷ y ∷ []) e.0 e.1) (ap₂ (λ (x y : ℕ). x ∷ y ∷ []) e.2 e.3)

-- a number that is 1 or 2 is that of its operation
operation_is : (n : ℕ) → (n ≡ 1) ⊎ (n ≡ 2) → n ≡ operation_number (if n == 1 then Request else Reply)
operation_is n either =
    let P : ℕ → Type 0 = λ m. m ≡ operation_number (if m == 1 then Request else Reply) in
    let at_one : P 1 = refl in
    let at_two : P 2 = refl in
    ⊎_elim (λ one. subst P (sym one) at_one) (λ two. subst P (sym two) at_two) either

operation_fits : (o : Operation) → operation_number o < 256
operation_fits Request = omega arith
operation_fits Reply = omega arith

-- bytes with these types, lengths and operation are the first eight of a packet
starts : (a b c d e f g h o : ℕ) → a * 256 + (b * 1 + 0) ≡ 1 → c * 256 + (d * 1 + 0) ≡ 2048 → d < 256 → e ≡ 6 → f ≡ 4 → g * 256 + (h * 1 + 0) ≡ o → o < 256
    → a ∷ b ∷ c ∷ d ∷ e ∷ f ∷ g ∷ h ∷ [] ≡ ethernet_ipv4 ++ (0 ∷ o ∷ [])
starts a b c d e f g h o ab cd hd he hf gh small =
    let a0 : a ≡ 0 = omega arith in
    let b1 : b ≡ 1 = omega arith in
    let c8 : c ≡ 8 = omega arith in
    let d0 : d ≡ 0 = omega arith in
    let g0 : g ≡ 0 = omega arith in
    let ho : h ≡ o = omega arith in
    (λ i. a0 i ∷ b1 i ∷ c8 i ∷ d0 i ∷ he i ∷ hf i ∷ g0 i ∷ ho i ∷ [])

head_is : (bytes : List ℕ) → IsArp bytes → ((i : ℕ) → slice_index bytes i < 256) → take 8 bytes ≡ ethernet_ipv4 ++ (0 ∷ operation_number (packet_of bytes).operation ∷ [])
head_is (a ∷ b ∷ c ∷ d ∷ e ∷ f ∷ g ∷ h ∷ xs) is small = starts a b c d e f g h _ is.hardware_type is.protocol_type (small 3) is.hardware_length is.protocol_length (operation_is _ is.operation) (operation_fits _)
head_is (a ∷ b ∷ c ∷ d ∷ e ∷ f ∷ g ∷ []) is small = absurd (omega (arith, is.whole))
head_is (a ∷ b ∷ c ∷ d ∷ e ∷ f ∷ []) is small = absurd (omega (arith, is.whole))
head_is (a ∷ b ∷ c ∷ d ∷ e ∷ []) is small = absurd (omega (arith, is.whole))
head_is (a ∷ b ∷ c ∷ d ∷ []) is small = absurd (omega (arith, is.whole))
head_is (a ∷ b ∷ c ∷ []) is small = absurd (omega (arith, is.whole))
head_is (a ∷ b ∷ []) is small = absurd (omega (arith, is.whole))
head_is (a ∷ []) is small = absurd (omega (arith, is.whole))
head_is [] is small = absurd (omega (arith, is.whole))

pub read_spells : (bytes : List ℕ) → ((i : ℕ) → slice_index bytes i < 256) → IsArp bytes → Spells bytes (packet_of bytes)
read_spells bytes small is =
    let at : (n : ℕ) (i : ℕ) → slice_index (drop n bytes) i < 256 = λ n i. subst (λ x. x < 256) (sym (get_or-drop n bytes i 0)) (small (n + i)) in
    let x = number_bytes (drop 14 bytes) (omega (arith, length-drop 14 bytes, is.whole)) (at 14) in
    let y = number_bytes (drop 24 bytes) (omega (arith, length-drop 24 bytes, is.whole)) (at 24) in
    let p14 = take-add 8 6 bytes in
    let p18 = take-add 14 4 bytes in
    let p24 = take-add 18 6 bytes in
    let p28 = take-add 24 4 bytes in
    let whole : take 28 bytes ≡ packet_bytes (packet_of bytes) =
    p28 ∙ ap₂ (λ a b. a ++ b) (p24 ∙ ap (λ a. a ++ take 6 (drop 18 bytes)) (p18 ∙ ap₂ (λ a b. a ++ b) (p14 ∙ ap (λ a. a ++ take 6 (drop 8 bytes)) (head_is bytes is small)) (sym x))) (sym y) in
    (drop 28 bytes, sym (take-append-drop 28 bytes) ∙ ap (λ a. a ++ drop 28 bytes) whole)
