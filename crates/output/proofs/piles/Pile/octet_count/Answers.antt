use Rattle.std.proofs.Common.{ap, arith}
use Rattle.output.specs.Piles.{bytes_in}
use Rattle.output.proofs.Places.{bytes-in-cut}
use Rattle.output.proofs.piles.Pile.octet_count.Goals as goal

pub returns-clause-count : goal.returns-clause-count
returns-clause-count c =
    omega (arith, c.len.ensures, c.self.inside.bytes.ok, bytes-in-cut c.self.inside.sizes.items c.self.inside.bytes.items c.self.invariant, ap (λ v. bytes_in v.strings) c.self.view_is)
