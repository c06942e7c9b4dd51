use Rattle.std.proofs.Common.{arith}
use Rattle.link.specs.Reading.{datagram_with}
use Rattle.link.proofs.Wholes.{reading_takes}
use Rattle.link.proofs.reading.read_whole.Goals as goal

pub returns-in-Ok-clause-found : goal.returns-in-Ok-clause-found
returns-in-Ok-clause-found c = reading_takes c.args.bytes.now (datagram_with c.in-Ok.header c.read_parts.new.records.items) (λ i. omega (arith, c.type_inv.bytes i)) c.in-Ok.ensures
