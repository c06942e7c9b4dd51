use Rattle.std.proofs.Common.{ap, refl}
use Rattle.output.proofs.Sent.{told-push}
use Rattle.output.proofs.pages.OutputBuffer.make_whole_frame.Goals as goal

pub returns-then-size-gt-LONGEST_FRAME-clause-told : goal.returns-then-size-gt-LONGEST_FRAME-clause-told
returns-then-size-gt-LONGEST_FRAME-clause-told g c =
    let told = ap (λ v. v.told) c.self.view_is in
    rw (← told, c.push_reserved.ensures.items, c.write-size.ensures.strings)
    (told-push (record { frames = _; datagrams = c.self.inside.datagrams.strings; notes = c.self.inside.notes.items }) c.self.inside.sides.items c.self.inside.frames.strings c.args.side (g.W.WriteBytes.bytes c.args.frame.now) refl c.self.invariant.0)

pub returns-else-size-gt-LONGEST_FRAME-clause-told : goal.returns-else-size-gt-LONGEST_FRAME-clause-told
returns-else-size-gt-LONGEST_FRAME-clause-told g c =
    let told = ap (λ v. v.told) c.self.view_is in
    rw (← told, c.push_reserved.ensures.items, c.write-size.ensures.strings)
    (told-push (record { frames = _; datagrams = c.self.inside.datagrams.strings; notes = c.self.inside.notes.items }) c.self.inside.sides.items c.self.inside.frames.strings c.args.side (g.W.WriteBytes.bytes c.args.frame.now) refl c.self.invariant.0)
