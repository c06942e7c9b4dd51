-- Strays: what comes on the link and isn't a datagram of a gateway that runs on these values.
use Rattle.std.specs.Prelude.{◌≡◌, ℕ, Bool, true, not, List, Result, Ok, Err}
use Rattle.settings.specs.Values.{same_values}
use Rattle.settings.specs.declared.values.Values.{Values}
use Rattle.link.specs.declared.datagrams.Datagram.{Datagram}
use Rattle.link.specs.declared.faults.LinkFault.{LinkFault}
use Rattle.link.specs.Reading.{reading}

-- whether bytes that are read so are a stray
abbrev pub is_stray : Values → Result Datagram LinkFault → Bool
is_stray values (Ok d) = not (same_values d.values values)
is_stray values (Err fault) = true

-- the bytes are a stray: no datagram, or a datagram with other values
abbrev pub IsStray : Values → List ℕ → Type 0
IsStray values bytes = is_stray values (reading bytes) ≡ true
