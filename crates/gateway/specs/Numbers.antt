-- The numbering of one frame.
use Rattle.std.specs.Prelude.{◌≡◌, ℕ, Bool, List, if◌then◌else◌}
use Rattle.nat_types.specs.declared.gateways.GatewayId.{GatewayId}
use Rattle.output.specs.Output.{Sent, changed_at}
use Rattle.packet_rules.specs.declared.networks.Networks.{Networks}
use Rattle.fragments.specs.Cut.{identified}
use Rattle.spec_gateway.specs.Sendings.{next_number, number_after, number_of, numbered}

-- the frames, of which the one at an index has the identification of packet n where it is numbered
abbrev pub frames_by : Bool → GatewayId → ℕ → ℕ → List Sent → List Sent
frames_by numbered id n k frames =
    (if numbered then changed_at k (identified (number_of id n)) frames else frames)

-- the number of the next packet
abbrev pub number_by : Bool → ℕ → ℕ
number_by numbered n = (if numbered then next_number n else n)

-- nothing of these frames is numbered
pub record IsUncut (networks : Networks) (id : GatewayId) (n : ℕ) (frames : List Sent) : Type 0 where
  pub same : numbered networks id n frames ≡ frames
  pub number_is : number_after networks n frames ≡ n
