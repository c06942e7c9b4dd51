-- Hardware addresses of six bytes.
use Rattle.std.specs.Prelude.{◌≡◌, List, [], ◌∷◌, length}
use Rattle.addresses.specs.declared.ethernet.Mac.{Mac}
use Rattle.arp.specs.Neighbours.{Neighbours}

abbrev pub AllSix : {X : Type 0} → (X → Mac) → List X → Type 0
AllSix mac_in [] = Unit {0}
AllSix mac_in (x ∷ xs) = (length (mac_in x).0 ≡ 6) × AllSix mac_in xs

-- every known hardware address has six bytes
pub record KnowsMacs (known : Neighbours) : Type 0 where
  pub fixed : AllSix (λ n. n.mac) known.fixed
  pub learnt : AllSix (λ e. e.mac) known.learnt
