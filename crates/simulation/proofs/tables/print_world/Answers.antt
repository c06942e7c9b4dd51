use Rattle.std.proofs.KnownBytes.{Appends-kept, Appends-trans}
use Rattle.simulation.proofs.tables.print_world.Goals as goal

pub returns : goal.returns
returns g c =
    Appends-kept _ _ _ _ (Appends-trans _ _ _ _ _ c.in_ok-print_gateway.ensures c.in_ok-print_gateway-2.ensures) c.in_ok-flush.ensures.bytes
