use Rattle.std.proofs.Common.{◌≡◌, ◌≤◌, ◌*◌, length, drop}
use Rattle.std.specs.List.{AllByRecursion}
use Rattle.link.specs.Grammar.{IsWellFormedRecord}
use Rattle.link.specs.Link.{answers_count, free_places}
use Rattle.waiting.specs.Packets.{octets_in}
use Rattle.spec_step.specs.Parts.{records_done}
use Rattle.forwarder.specs.Forwarder.{scene_on}
use Rattle.gateway.proofs.records.take_records.Given as goal

-- the records still to be taken lead to the same end, and there is capacity for them
pub record SoFar (l : goal.Live-loop-entry) : Type 0 where
  pub scene : records_done (scene_on l.forwarder l.page) (drop l.entry-index l.records) ≡ records_done (scene_on l.fn.forwarder l.fn.page) l.records
  pub moment : l.forwarder.moment ≡ l.fn.forwarder.moment
  pub formed : AllByRecursion IsWellFormedRecord (drop l.entry-index l.records)
  pub few : length (drop l.entry-index l.records) ≤ 64
  pub ready : 2 * length (drop l.entry-index l.records) ≤ l.forwarder.core.table.ready
  pub places : answers_count (drop l.entry-index l.records) ≤ free_places l.forwarder.link
  pub frames : 2 * length (drop l.entry-index l.records) ≤ l.page.room.frames
  pub octets : octets_in l.forwarder.kept ≤ l.page.room.octets
  pub notes : 4 * length (drop l.entry-index l.records) ≤ l.page.room.notes
  pub datagrams : l.page.room.datagrams ≡ l.fn.page.room.datagrams

abbrev pub invariant-loop-entry : goal.invariant-loop-entry
invariant-loop-entry l = SoFar l
