use Rattle.std.proofs.Common.{◌≡◌, ◌<◌, ◌&&◌, ℕ, Bool, true, false, List, map, refl, ap, arith}
use Rattle.nat_types.specs.declared.gateways.GatewayId.{GatewayId}
use Rattle.nat_types.specs.declared.gateways.GatewayId.TheVariants.{Zero, One}
use Rattle.output.specs.Output.{Sent}
use Rattle.packet_rules.specs.Networks.{mtu_of}
use Rattle.spec_gateway.specs.Sendings.{is_cut, is_for_many, number_of}
use Rattle.spec_gateway.proofs.Renumbered.{numbered-pieces}
use Rattle.spec_gateway.proofs.laws.pieces_are_numbered.Goals as goal

number-fits : (id : GatewayId) (n : ℕ) → number_of id n < 65536
number-fits Zero n = omega arith
number-fits One n = omega arith

first-of : (a b : Bool) → (a && b) ≡ true → a ≡ true
first-of true b e = refl
first-of false b e = absurd (cc)

pub returns-clause-pieces : goal.returns-clause-pieces
returns-clause-pieces c = λ networks id n f bytes is.
    ap (λ (all : List (List ℕ)). map (λ (bytes : List ℕ). let g : Sent = record { side = f.side; bytes = bytes } in g) all)
    (numbered-pieces c.ipv4_grammar.ensures.grammar (mtu_of networks f.side) (number_of id n) f.bytes bytes (number-fits id n) (first-of (is_cut networks f) (is_for_many networks f) is))

pub returns-clause-apart : goal.returns-clause-apart
returns-clause-apart c = λ (m n : ℕ) same. omega (arith, same)
