use Rattle.port_range.proofs.Searching.{NoneYet}
use Rattle.port_range.proofs.words.next_bit.Given as goal

-- no number so far agrees
abbrev pub invariant-loop-index : goal.invariant-loop-index
invariant-loop-index l = NoneYet l.words l.flag l.fn.from l.index
