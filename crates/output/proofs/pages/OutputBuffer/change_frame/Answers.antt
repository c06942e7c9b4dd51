use Rattle.std.proofs.Common.{length, ap, sym, subst, ◌∙◌, arith, IfSome, slice_get}
use Rattle.output.specs.Output.{Output}
use Rattle.output.proofs.Places.{sent-count, sent-changes, string-ready, changed-count}
use Rattle.output.proofs.pages.OutputBuffer.change_frame.Goals as goal

pub change-requires-clause-there : goal.change-requires-clause-there
change-requires-clause-there g c =
    omega (arith, c.requires.there, sent-count c.self.inside.sides.items c.self.inside.frames.strings c.self.invariant.0, c.self.invariant.0, ap (λ v. length v.told.frames) c.self.view_is)

pub change-requires-clause-ready : goal.change-requires-clause-ready
change-requires-clause-ready g c =
    let can = g.C.ChangeBytes.can_change c.args.change.now in
    string-ready can c.self.inside.sides.items c.self.inside.frames.strings c.args.k c.self.invariant.0
    (subst (λ v. IfSome (slice_get v.told.frames c.args.k) (λ f. can f.bytes)) (sym c.self.view_is) c.requires.ready)

pub invariant_of-self : goal.invariant_of-self
invariant_of-self g c = (
  c.self.invariant.0 ∙ sym (ap length c.change.ensures.strings ∙ changed-count (g.C.ChangeBytes.changed c.args.change.now) c.self.inside.frames.strings c.args.k),
  c.self.invariant.1,
  record { each = omega (arith, c.self.invariant.2.each, c.change.ensures.places); whole = omega (arith, c.self.invariant.2.whole, c.change.ensures.octets) },
  c.self.invariant.3,
  c.self.invariant.4,
)

pub returns-clause-told : goal.returns-clause-told
returns-clause-told g c =
    let change = g.C.ChangeBytes.changed c.args.change.now in
    rw (← ap (λ v. v.told) c.self.view_is, c.change.ensures.strings)
    (ap (λ fs. let t : Output = record { frames = fs; datagrams = c.self.inside.datagrams.strings; notes = c.self.inside.notes.items } in t)
    (sent-changes change c.self.inside.sides.items c.self.inside.frames.strings c.args.k c.self.invariant.0))
