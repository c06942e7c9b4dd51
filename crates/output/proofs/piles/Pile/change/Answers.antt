use Rattle.std.proofs.Common.{length, ap, arith}
use Rattle.output.proofs.Cut.{cut-count}
use Rattle.output.proofs.piles.Pile.change.Goals as goal

pub change_string-requires-clause-there : goal.change_string-requires-clause-there
change_string-requires-clause-there g c =
    omega (arith, c.requires.there, ap length c.deref.ensures.value, cut-count c.self.inside.sizes.items c.self.inside.bytes.items, ap (λ v. length v.strings) c.self.view_is)
