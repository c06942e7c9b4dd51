use Rattle.std.proofs.Common.{ℕ, List, sym, ap, ◌∙◌}
use Rattle.bindings.specs.Table.{Table}
use Rattle.resync.proofs.Giving.{without-unlisted}
use Rattle.resync.proofs.loading.give_up.Goals as goal

pub returns-else-owns : goal.returns-else-owns
returns-else-owns c =
    ap (λ (owned : List ℕ). let t : Table = record c.args.table.now { owned = owned } in t)
    (sym (without-unlisted c.args.port c.args.table.now.owned (sym c.owns.ensures ∙ c.if-owns.false)))
