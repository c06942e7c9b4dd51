-- The texts of the faults of refused events.
use Rattle.std.specs.Prelude.{ℕ, List, codes}
use Rattle.frame_sim.specs.declared.events.WorldFault.{WorldFault}
use Rattle.frame_sim.specs.declared.events.WorldFault.TheVariants.{PremiseBroken, NoSuchDatagram, NoMemory}

-- the text of a fault, as the codes of its characters
abbrev pub refusal_text : WorldFault → List ℕ
refusal_text PremiseBroken = codes "1 PremiseBroken"
refusal_text NoSuchDatagram = codes "2 NoSuchDatagram"
refusal_text NoMemory = codes "3 NoMemory"
