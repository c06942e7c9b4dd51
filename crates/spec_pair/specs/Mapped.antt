-- The states of a table's entries and the records of the link, as slots and records of the machine.
use Rattle.std.specs.Prelude.{map}
use Rattle.nat_types.specs.declared.pairs.Endpoint.{Endpoint}
use Rattle.nat_types.specs.declared.pairs.EntryState.{EntryState}
use Rattle.nat_types.specs.declared.pairs.EntryState.TheVariants.{Pending, Doomed, Live, Closing, Alone, Held}
use Rattle.nat_types.specs.declared.records.Record.{Record}
use Rattle.nat_types.specs.declared.records.Record.TheVariants.{Install, Accept, Refuse, Ask, Yes, No, Begin, Put, Done, Want, Grant, Owner, Tell}
use Rattle.spec_pair.specs.Talk as machine

-- the slot of an entry, by its state and its endpoint
abbrev pub slot_in : EntryState → Endpoint → machine.Slot
slot_in (Pending marked) e = machine.Pending marked e
slot_in Doomed e = machine.Doomed e
slot_in Live e = machine.Live e
slot_in (Closing marked) e = machine.Closing marked e
slot_in Alone e = machine.Alone e
slot_in Held e = machine.Held e

-- the machine's record for a record of the link
abbrev pub machine_record : Record → machine.MachineRecord
machine_record (Install p) = machine.Install p.key p.endpoint
machine_record (Accept k) = machine.Accept k
machine_record (Refuse k) = machine.Refuse k
machine_record (Ask k) = machine.Ask k
machine_record (Yes k) = machine.Yes k
machine_record (No k) = machine.No k
machine_record Begin = machine.Begin
machine_record (Put p) = machine.Put p.key p.endpoint
machine_record Done = machine.Done
machine_record Want = machine.Want
machine_record (Grant g) = machine.Grant (map (λ p. p.0) g.ports)
machine_record (Owner first last) = machine.Owner first.0 last.0
machine_record (Tell p) = machine.Tell p.key p.endpoint
