use Rattle.std.proofs.Common.{List, ℕ, ap, sym, ◌∙◌}
use Rattle.bindings.specs.Table.{Table}
use Rattle.bind_core.proofs.Porting.{without-absent}
use Rattle.bind_core.proofs.deeds.give_port.Goals as goal

pub returns-else-owns : goal.returns-else-owns
returns-else-owns c =
    let same = without-absent c.args.port.0 c.args.table.now.owned (sym c.owns.ensures ∙ c.if-owns.false) in
    ap (λ (ports : List ℕ). let t : Table = record c.args.table.now { owned = ports } in t) (sym same)
