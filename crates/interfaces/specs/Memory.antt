-- Which memory is missing where an interface isn't made.
use Rattle.std.specs.Prelude.{◌⊎◌, length}
use Rattle.nat_types.specs.declared.gateways.Side.{Side}
use Rattle.settings.specs.declared.whole.Settings.{Settings}
use Rattle.memory.specs.Memory.{WasRefused}
use Rattle.arp.specs.Memory.{LacksCache}
use Rattle.interfaces.specs.Stations.{fixed_on}

-- on a side, there is no memory for the list of the static neighbours, or for their cache
abbrev pub LacksInterface : Settings → Side → Type 0
LacksInterface settings side =
    let count = length (fixed_on side settings.neighbours.items) in
    WasRefused count ⊎ LacksCache count
