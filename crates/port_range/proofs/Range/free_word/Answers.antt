use Rattle.std.proofs.Common.{◌+◌, ◌*◌, sym, ◌∙◌}
use Rattle.port_range.specs.Words.{has_bit}
use Rattle.port_range.proofs.Listed.{where-is}
use Rattle.port_range.proofs.Range.free_word.Goals as goal

pub returns : goal.returns
returns c =
    let i = c.self.inside in
    rw (← c.self.view_is) (λ n low. c.free_word.ensures n low ∙ sym (where-is i.lowest.0 i.highest.0 (has_bit i.marks.free) c.self.invariant.order c.self.invariant.free (c.args.index * 64 + n)))
