-- The memory that a core needs.
use Rattle.std.specs.Prelude.{◌⊎◌}
use Rattle.memory.specs.Memory.{WasRefused}
use Rattle.bindings.specs.declared.entries.PortBounds.{PortBounds}
use Rattle.bindings.specs.Memory.{LacksTable}
use Rattle.bindings.specs.Ports.{key_count}

-- no memory was obtained for the core's list of idle keys, with a place for each key of both ranges, or for its table
abbrev pub LacksCore : PortBounds → PortBounds → Type 0
LacksCore zero one = WasRefused (key_count zero one) ⊎ LacksTable zero one
