use Rattle.port_range.proofs.Summing.{marks-zero, zero-bits}
use Rattle.port_range.proofs.marks.Marks.new.Goals as goal

pub invariant_of-result : goal.invariant_of-result
invariant_of-result c =
    rw (c.in_ok-free.ensures.items, c.in_ok-owned.ensures.items, c.in_ok-even.ensures.items, c.in_ok-odd.ensures.items) marks-zero

pub returns-clause-free : goal.returns-clause-free
returns-clause-free c = rw c.in_ok-free.ensures.items (zero-bits 1024)

pub returns-clause-owned : goal.returns-clause-owned
returns-clause-owned c = rw c.in_ok-owned.ensures.items (zero-bits 1024)
