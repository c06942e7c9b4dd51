use Rattle.std.proofs.Common.{ap, arith}
use Rattle.output.specs.Output.{octet_count}
use Rattle.output.proofs.Places.{sent-octets}
use Rattle.output.proofs.pages.OutputBuffer.frame_octets.Goals as goal

pub returns-clause-count : goal.returns-clause-count
returns-clause-count c =
    omega (arith, c.octet_count.ensures.count, sent-octets c.self.inside.sides.items c.self.inside.frames.strings c.self.invariant.0, ap (λ v. octet_count v.told.frames) c.self.view_is)
