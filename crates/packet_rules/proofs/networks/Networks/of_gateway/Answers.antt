use Rattle.std.proofs.Common.{subst, sym}
use Rattle.packet_rules.specs.declared.networks.Networks.{Networks}
use Rattle.packet_rules.specs.Networks.{IsPlaced}
use Rattle.packet_rules.proofs.Placing.{placing}
use Rattle.packet_rules.proofs.networks.Networks.of_gateway.Goals as goal

pub returns-clause-placed : goal.returns-clause-placed
returns-clause-placed c =
    let known = c.recall_numbers.ensures in
    subst (λ (n : Networks). IsPlaced n) (sym c.networks_at.ensures)
    (placing c.args.settings.now c.args.id known.inside known.outside known.inside_virtual known.outside_virtual)
