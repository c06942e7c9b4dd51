use Rattle.std.proofs.Common.{length, ap, arith}
use Rattle.output.proofs.Cut.{cut-count}
use Rattle.output.proofs.piles.Pile.string.Goals as goal

pub string_of-requires-clause-there : goal.string_of-requires-clause-there
string_of-requires-clause-there c =
    omega (arith, c.requires, ap length c.deref.ensures.value, cut-count c.self.inside.sizes.items c.self.inside.bytes.items, ap (λ v. length v.strings) c.self.view_is)
