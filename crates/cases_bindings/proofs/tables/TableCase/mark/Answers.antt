use Rattle.std.proofs.Common.{sym, ap, ◌∙◌}
use Rattle.bindings.specs.Table.{Table}
use Rattle.cases_bindings.proofs.tables.TableCase.mark.Goals as goal

pub invariant_of-self : goal.invariant_of-self
invariant_of-self c =
    let turned = c.mark.ensures.entries c.in-Some.entry (sym c.pair_of_port.ensures ∙ c.in-Some.is) in
    record {
      first = ap (λ (t : Table). t.zero) turned ∙ c.args.self.now.first;
      second = ap (λ (t : Table). t.one) turned ∙ c.args.self.now.second;
    }
