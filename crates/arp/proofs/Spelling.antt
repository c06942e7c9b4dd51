-- Packets made of their parts, and the parts read from packets.
use Rattle.std.proofs.Common.{◌≡◌, ℕ, List, [], ◌∷◌, ◌++◌, length, get_or, refl, sym, ◌∙◌, ap, arith}
use Rattle.std.proofs.Math.Path.{ap₂}
use Rattle.byteorder.specs.Endian.{big_bytes}
use Rattle.arp.specs.declared.packets.ArpPacket.{ArpPacket}
use Rattle.arp.specs.Packet.{ethernet_ipv4, operation_number, packet_bytes}

pub six : (s : List ℕ) → length s ≡ 6 → s ≡ get_or s 0 0 ∷ get_or s 1 0 ∷ get_or s 2 0 ∷ get_or s 3 0 ∷ get_or s 4 0 ∷ get_or s 5 0 ∷ []
six (a ∷ b ∷ c ∷ d ∷ e ∷ f ∷ []) h = refl
six (a ∷ b ∷ c ∷ d ∷ e ∷ f ∷ g ∷ s) h = absurd (omega arith)
six (a ∷ b ∷ c ∷ d ∷ e ∷ []) h = absurd (omega arith)
six (a ∷ b ∷ c ∷ d ∷ []) h = absurd (omega arith)
six (a ∷ b ∷ c ∷ []) h = absurd (omega arith)
six (a ∷ b ∷ []) h = absurd (omega arith)
six (a ∷ []) h = absurd (omega arith)
six [] h = absurd (omega arith)

pub four : (s : List ℕ) → length s ≡ 4 → s ≡ get_or s 0 0 ∷ get_or s 1 0 ∷ get_or s 2 0 ∷ get_or s 3 0 ∷ []
four (a ∷ b ∷ c ∷ d ∷ []) h = refl
four (a ∷ b ∷ c ∷ d ∷ e ∷ s) h = absurd (omega arith)
four (a ∷ b ∷ c ∷ []) h = absurd (omega arith)
four (a ∷ b ∷ []) h = absurd (omega arith)
four (a ∷ []) h = absurd (omega arith)
four [] h = absurd (omega arith)

-- the parts of a packet, one after the other, are its bytes
pub joined : (o : ℕ) (s i t j : List ℕ) → length s ≡ 6 → length i ≡ 4 → length t ≡ 6 → length j ≡ 4
    → 0 ∷ 1 ∷ 8 ∷ 0 ∷ 6 ∷ 4 ∷ 0 ∷ o
    ∷ get_or s 0 0 ∷ get_or s 1 0 ∷ get_or s 2 0 ∷ get_or s 3 0 ∷ get_or s 4 0 ∷ get_or s 5 0
    ∷ get_or i 0 0 ∷ get_or i 1 0 ∷ get_or i 2 0 ∷ get_or i 3 0
    ∷ get_or t 0 0 ∷ get_or t 1 0 ∷ get_or t 2 0 ∷ get_or t 3 0 ∷ get_or t 4 0 ∷ get_or t 5 0
    ∷ get_or j 0 0 ∷ get_or j 1 0 ∷ get_or j 2 0 ∷ get_or j 3 0 ∷ []
    ≡ ethernet_ipv4 ++ (0 ∷ o ∷ []) ++ s ++ i ++ t ++ j
joined o s i t j hs hi ht hj =
    sym (ap₂ (λ a b. ethernet_ipv4 ++ (0 ∷ o ∷ []) ++ a ++ b ++ t ++ j) (six s hs) (four i hi)
    ∙ ap₂ (λ a b. ethernet_ipv4 ++ (0 ∷ o ∷ []) ++ (get_or s 0 0 ∷ get_or s 1 0 ∷ get_or s 2 0 ∷ get_or s 3 0 ∷ get_or s 4 0 ∷ get_or s 5 0 ∷ []) ++ (get_or i 0 0 ∷ get_or i 1 0 ∷ get_or i 2 0 ∷ get_or i 3 0 ∷ []) ++ a ++ b) (six t ht) (four j hj))

pub spelled : (p : ArpPacket) (o : ℕ) (s i t j : List ℕ) → length s ≡ 6 → length t ≡ 6 → o ≡ operation_number p.operation → s ≡ p.sender_mac.0 → i ≡ big_bytes 4 p.sender_ip.0 → t ≡ p.target_mac.0 → j ≡ big_bytes 4 p.target_ip.0
    → 0 ∷ 1 ∷ 8 ∷ 0 ∷ 6 ∷ 4 ∷ 0 ∷ o
    ∷ get_or s 0 0 ∷ get_or s 1 0 ∷ get_or s 2 0 ∷ get_or s 3 0 ∷ get_or s 4 0 ∷ get_or s 5 0
    ∷ get_or i 0 0 ∷ get_or i 1 0 ∷ get_or i 2 0 ∷ get_or i 3 0
    ∷ get_or t 0 0 ∷ get_or t 1 0 ∷ get_or t 2 0 ∷ get_or t 3 0 ∷ get_or t 4 0 ∷ get_or t 5 0
    ∷ get_or j 0 0 ∷ get_or j 1 0 ∷ get_or j 2 0 ∷ get_or j 3 0 ∷ []
    ≡ packet_bytes p
spelled p o s i t j hs ht eo es ei et ej =
    joined o s i t j hs (ap length ei) ht (ap length ej)
    ∙ ap₂ (λ a b. ethernet_ipv4 ++ (0 ∷ o ∷ []) ++ a ++ i ++ b ++ j) es et
    ∙ ap₂ (λ a b. ethernet_ipv4 ++ (0 ∷ o ∷ []) ++ p.sender_mac.0 ++ a ++ p.target_mac.0 ++ b) ei ej
    ∙ ap (λ n. ethernet_ipv4 ++ (0 ∷ n ∷ []) ++ p.sender_mac.0 ++ big_bytes 4 p.sender_ip.0 ++ p.target_mac.0 ++ big_bytes 4 p.target_ip.0) eo
