use Rattle.std.proofs.Common.{true, ap, ◌∙◌}
use Rattle.port_range.specs.Ports.{is_within}
use Rattle.port_range.proofs.Listed.{listed-put}
use Rattle.port_range.proofs.Range.put_back.Goals as goal

pub returns-clause-free : goal.returns-clause-free
returns-clause-free c =
    let i = c.self.inside in
    let within = ap (λ r. is_within r.lowest r.highest c.args.port.0) c.self.view_is ∙ c.requires.within in
    rw (← c.self.view_is)
    (listed-put i.lowest.0 i.highest.0 c.args.port.0 true i.marks.free c.put_free.new.self.free c.self.invariant.order c.self.invariant.free (λ e. within) c.put_free.ensures.free)
