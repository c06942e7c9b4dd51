-- The box's addresses are placed as the settings place them.
use Rattle.std.proofs.Common.{◌≡◌, ◌≢◌, ℕ, ◌^◌, ◌<◌, ◌==◌, true, false, refl, arith}
use Rattle.std.proofs.lemmas.Bool.Decides.{nat_tests}
use Rattle.nat_types.specs.declared.gateways.GatewayId.{GatewayId}
use Rattle.nat_types.specs.declared.gateways.GatewayId.TheVariants.{Zero, One}
use Rattle.settings.specs.declared.whole.Settings.{Settings}
use Rattle.settings.specs.Parts.{gateway_of}
use Rattle.settings.specs.Placed.{IsOwnIn}
use Rattle.packet_rules.specs.Networks.{IsPlaced, lies_in, networks_of}
use Rattle.packet_rules.proofs.Passing.{same-number}

number-same : (m n : ℕ) → m ≡ n → (m == n) ≡ true
number-same m n e = grind (arith, nat_tests)

number-other : (m n : ℕ) → m ≢ n → (m == n) ≡ false
number-other m n e = grind (arith, nat_tests)

module _ (settings : Settings) where
  own-inside : (id : GatewayId) → IsOwnIn settings.inside (gateway_of settings id).inside_ip.0
  own-inside Zero = settings.zero_inside
  own-inside One = settings.one_inside

  own-outside : (id : GatewayId) → IsOwnIn settings.outside (gateway_of settings id).outside_ip.0
  own-outside Zero = settings.zero_outside
  own-outside One = settings.one_outside

  pub placing : (id : GatewayId)
      → (gateway_of settings id).inside_ip.0 < 2 ^ 32 → (gateway_of settings id).outside_ip.0 < 2 ^ 32 → settings.inside.virtual_ip.0 < 2 ^ 32 → settings.outside.virtual_ip.0 < 2 ^ 32
      → IsPlaced (networks_of settings id)
  unfolding lies_in
  placing id a b c d = record {
    inside_own = number-same _ _ (own-inside id).lies;
    outside_own = number-same _ _ (own-outside id).lies;
    apart = λ address out. number-other _ _ (λ within. settings.apart address (same-number _ _ out) within);
    inside_other = (own-inside id).other;
    outside_other = (own-outside id).other;
    inside_knows = refl;
    outside_knows = refl;
    inside_number = a;
    outside_number = b;
    inside_virtual = c;
    outside_virtual = d;
  }
