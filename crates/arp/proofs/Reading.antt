-- A packet that was written is read as the same packet.
use Rattle.std.proofs.Common.{◌≡◌, ℕ, ◌<◌, ◌≤◌, ◌^◌, nat_lt, if◌then◌else◌, Some, None, List, [], ◌∷◌, ◌++◌, get_or, sym, ap, subst, arith}
use Rattle.std.proofs.Math.Path.{ap₂}
use Rattle.std.proofs.lemmas.Bool.{le-ltb}
use Rattle.byteorder.specs.Endian.{big_bytes}
use Rattle.byteorder.specs.Numbers.{big_number-reads_back}
use Rattle.arp.specs.declared.packets.ArpFault.TheVariants.{TooShort}
use Rattle.arp.specs.declared.packets.ArpPacket.{ArpPacket}
use Rattle.arp.specs.declared.packets.Operation.{Operation}
use Rattle.arp.specs.declared.packets.Operation.TheVariants.{Request, Reply}
use Rattle.arp.specs.Packet.{packet_bytes, IsPacket, Spells, IsReadAs}
use Rattle.arp.proofs.Spelling.{six}

fits : (x : ℕ) → x < 2 ^ 32 → x < 256 ^ 4
fits x h = omega (arith, h)

-- the packet of these parts
abbrev of_parts : Operation → List ℕ → ℕ → List ℕ → ℕ → ArpPacket
of_parts o s x t y = record { operation = o; sender_mac = record { 0 = s }; sender_ip = record { 0 = x }; target_mac = record { 0 = t }; target_ip = record { 0 = y } }

long_enough : (n : ℕ) → 28 ≤ n → (if nat_lt n 28 then Some TooShort else None) ≡ None
long_enough n h = ap (λ b. if b then Some TooShort else None) (le-ltb n 28 h)

-- a packet with six bytes for each hardware address is read as the same packet
laid_open : (o : Operation) (a b c d e f x g h i j k l y : ℕ) (rest : List ℕ) → x < 2 ^ 32 → y < 2 ^ 32
    → IsReadAs (packet_bytes (of_parts o (a ∷ b ∷ c ∷ d ∷ e ∷ f ∷ []) x (g ∷ h ∷ i ∷ j ∷ k ∷ l ∷ []) y) ++ rest) (of_parts o (a ∷ b ∷ c ∷ d ∷ e ∷ f ∷ []) x (g ∷ h ∷ i ∷ j ∷ k ∷ l ∷ []) y)
laid_open Request a b c d e f x g h i j k l y rest hx hy = (
  long_enough _ (omega arith),
  ap₂ (λ v w. of_parts Request (a ∷ b ∷ c ∷ d ∷ e ∷ f ∷ []) v (g ∷ h ∷ i ∷ j ∷ k ∷ l ∷ []) w) (big_number-reads_back 4 x (g ∷ h ∷ i ∷ j ∷ k ∷ l ∷ (big_bytes 4 y ++ rest)) (fits x hx)) (big_number-reads_back 4 y rest (fits y hy)),
)
laid_open Reply a b c d e f x g h i j k l y rest hx hy = (
  long_enough _ (omega arith),
  ap₂ (λ v w. of_parts Reply (a ∷ b ∷ c ∷ d ∷ e ∷ f ∷ []) v (g ∷ h ∷ i ∷ j ∷ k ∷ l ∷ []) w) (big_number-reads_back 4 x (g ∷ h ∷ i ∷ j ∷ k ∷ l ∷ (big_bytes 4 y ++ rest)) (fits x hx)) (big_number-reads_back 4 y rest (fits y hy)),
)

abbrev opened : List ℕ → List ℕ
opened s = get_or s 0 0 ∷ get_or s 1 0 ∷ get_or s 2 0 ∷ get_or s 3 0 ∷ get_or s 4 0 ∷ get_or s 5 0 ∷ []

pub reads_back : (p : ArpPacket) (rest : List ℕ) → IsPacket p → IsReadAs (packet_bytes p ++ rest) p
reads_back p rest is =
    let s = p.sender_mac.0 in
    let t = p.target_mac.0 in
    let Q : List ℕ → List ℕ → Type 0 = λ a b. IsReadAs (packet_bytes (of_parts p.operation a p.sender_ip.0 b p.target_ip.0) ++ rest) (of_parts p.operation a p.sender_ip.0 b p.target_ip.0) in
    let both : Q (opened s) (opened t) = laid_open p.operation (get_or s 0 0) (get_or s 1 0) (get_or s 2 0) (get_or s 3 0) (get_or s 4 0) (get_or s 5 0) p.sender_ip.0 (get_or t 0 0) (get_or t 1 0) (get_or t 2 0) (get_or t 3 0) (get_or t 4 0) (get_or t 5 0) p.target_ip.0 rest is.sender_ip is.target_ip in
    let one : Q (opened s) t = subst (λ b. Q (opened s) b) (sym (six t is.target_mac)) both in
    subst (λ a. Q a t) (sym (six s is.sender_mac)) one

pub spelled_reads : (bytes : List ℕ) (p : ArpPacket) → IsPacket p → Spells bytes p → IsReadAs bytes p
spelled_reads bytes p is spells = subst (λ b. IsReadAs b p) (sym spells.1) (reads_back p spells.0 is)
