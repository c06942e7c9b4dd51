use Rattle.std.proofs.Common.{List, sym, ap, ◌∙◌, drop}
use Rattle.nat_types.specs.declared.records.Record.{Record}
use Rattle.bindings.specs.Runs.{first_of}
use Rattle.resync.proofs.Drawing.{no-owners}
use Rattle.resync.proofs.cursor.Cursor.next_owner.Goals as goal

pub returns-in-None-clause-first : goal.returns-in-None-clause-first
returns-in-None-clause-first c = c.next_put.ensures.first ∙ ap (λ (rs : List Record). first_of rs) (sym (no-owners c.args.from c.args.table.now c.in-None.ensures.none))

pub returns-in-None-clause-rest : goal.returns-in-None-clause-rest
returns-in-None-clause-rest c = c.next_put.ensures.rest ∙ ap (λ (rs : List Record). drop 1 rs) (sym (no-owners c.args.from c.args.table.now c.in-None.ensures.none))
