-- Networks that share no address, and own addresses that aren't virtual ones.
use Rattle.std.proofs.Common.{◌≡◌, ◌∙◌, ◌≢◌, ◌≤◌, ℕ, ◌+◌, ◌-◌, ◌/◌, ◌^◌, ◌==◌, ◌||◌, Bool, true, false, true≢false, min, refl, sym, ap, arith}
use Rattle.std.proofs.lemmas.Nat.{shr-shr}
use Rattle.std.proofs.lemmas.Bool.Decides.{nat_tests}
use Rattle.addresses.specs.Address.{IsIn}
use Rattle.settings.specs.declared.gateway_settings.GatewaySettings.{GatewaySettings}
use Rattle.settings_file.specs.Settings.{share, same_number, same_bytes}
use Rattle.settings_file.specs.Ids.{own_addresses, own_macs, own_sockets, is_virtual, same_ids}

-- what shares its first bits shares fewer of them
fewer_bits : (a b more less : ℕ) → less ≤ more → more ≤ 32 → IsIn a b more → IsIn a b less
fewer_bits a b more less h most same =
    let sum : (32 - more) + (more - less) ≡ 32 - less = omega arith in
    let shifted : a / 2 ^ (32 - more) / 2 ^ (more - less) ≡ b / 2 ^ (32 - more) / 2 ^ (more - less) = ap (λ n. n / 2 ^ (more - less)) same in
    ap (λ k. a / 2 ^ k) (sym sum) ∙ sym (shr-shr a (32 - more) (more - less)) ∙ shifted ∙ shr-shr b (32 - more) (more - less) ∙ ap (λ k. b / 2 ^ k) sum

-- where an address lies in two networks, theirs share the bits of the shorter prefix
pub lies_in_shorter : (both a b m n : ℕ) → m ≤ 32 → n ≤ 32 → IsIn both a m → IsIn both b n → IsIn a b (min n m)
lies_in_shorter both a b m n h k x y =
    sym (fewer_bits both a m (min n m) (omega arith) h x) ∙ fewer_bits both b n (min n m) (omega arith) k y

-- where one or the other is false, both are
neither : (a b : Bool) → (a || b) ≡ false → (a ≡ false) × (b ≡ false)
neither false b h = (refl, h)
neither true b h = absurd (true≢false h)

other_number : (m n : ℕ) → (m == n) ≡ false → m ≢ n
other_number m n h = grind (arith, nat_tests)

-- neither of a gateway's own addresses is the virtual one
not_virtual : (g : GatewaySettings) (inside outside : ℕ) → is_virtual g inside outside ≡ false → (g.inside_ip.0 ≢ inside) × (g.outside_ip.0 ≢ outside)
not_virtual g inside outside h =
    let both = neither (g.inside_ip.0 == inside) (g.outside_ip.0 == outside) h in
    (other_number _ _ both.0, other_number _ _ both.1)

-- gateways of other ids have other addresses than the virtual ones
pub not_shared : (zero one : GatewaySettings) (inside outside : ℕ) → same_ids zero one inside outside ≡ false
    → ((zero.inside_ip.0 ≢ inside) × (zero.outside_ip.0 ≢ outside)) × ((one.inside_ip.0 ≢ inside) × (one.outside_ip.0 ≢ outside))
unfolding same_ids
not_shared zero one inside outside h =
    let numbers = share same_number (own_addresses zero) (own_addresses one) in
    let macs = share same_bytes (own_macs zero) (own_macs one) in
    let ports = share same_number (own_sockets zero) (own_sockets one) in
    let own = neither _ _ (neither ports _ (neither macs _ (neither numbers _ h).1).1).1 in
    (not_virtual zero inside outside own.0, not_virtual one inside outside own.1)
