use Rattle.std.proofs.Common.{length, ap, arith}
use Rattle.output.proofs.Cut.{cut-count}
use Rattle.output.proofs.piles.Pile.count.Goals as goal

pub returns : goal.returns
returns c =
    omega (arith, c.len.ensures, c.self.inside.sizes.ok, cut-count c.self.inside.sizes.items c.self.inside.bytes.items, ap (λ v. length v.strings) c.self.view_is)
