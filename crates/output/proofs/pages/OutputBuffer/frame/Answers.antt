use Rattle.std.proofs.Common.{◌<◌, length, slice_get, ap, ◌∙◌, sym, arith}
use Rattle.output.proofs.Places.{sent-at, sent-count}
use Rattle.output.proofs.pages.OutputBuffer.frame.Goals as goal

pub index-requires : goal.index-requires
index-requires c =
    omega (arith, c.requires, c.self.inside.sides.ok, sent-count c.self.inside.sides.items c.self.inside.frames.strings c.self.invariant.0, ap (λ v. length v.told.frames) c.self.view_is)

pub string-requires : goal.string-requires
string-requires c =
    omega (arith, c.requires, c.self.invariant.0, sent-count c.self.inside.sides.items c.self.inside.frames.strings c.self.invariant.0, ap (λ v. length v.told.frames) c.self.view_is)

pub returns : goal.returns
returns c =
    let there : c.args.k < length c.self.inside.sides.items =
    omega (arith, c.requires, sent-count c.self.inside.sides.items c.self.inside.frames.strings c.self.invariant.0, ap (λ v. length v.told.frames) c.self.view_is) in
    ap (λ v. slice_get v.told.frames c.args.k) (sym c.self.view_is)
    ∙ sent-at c.self.inside.sides.items c.self.inside.frames.strings c.args.k c.index.result.now c.string.result.now c.self.invariant.0 there c.index.ensures c.string.ensures
