use Rattle.std.proofs.Common.{length, ap, arith}
use Rattle.output.proofs.Places.{sent-count}
use Rattle.output.proofs.pages.OutputBuffer.frame_count.Goals as goal

pub returns : goal.returns
returns c =
    omega (arith, c.len.ensures, c.self.inside.sides.ok, sent-count c.self.inside.sides.items c.self.inside.frames.strings c.self.invariant.0, ap (λ v. length v.told.frames) c.self.view_is)
