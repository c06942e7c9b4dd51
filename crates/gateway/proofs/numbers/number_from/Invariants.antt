use Rattle.std.specs.Prelude.{◌++◌, take, drop}
use Rattle.spec_gateway.specs.Sendings.{number_after, numbered}
use Rattle.gateway.proofs.Numbering.{IsLeft}
use Rattle.gateway.proofs.numbers.number_from.Given as goal

-- what is left to number gives with what is numbered all that is to be given
abbrev pub invariant-loop-k : goal.invariant-loop-k
invariant-loop-k l =
    IsLeft l.networks l.id (number_after l.networks l.next (drop l.first l.fn.page.told.frames)) l.number l.k
    (take l.first l.fn.page.told.frames ++ numbered l.networks l.id l.next (drop l.first l.fn.page.told.frames)) l.fn.page.told l.page.told
