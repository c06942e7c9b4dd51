use Rattle.std.proofs.Common.{ℕ, ◌∷◌, ◌++◌, [], List, sym, ap, ◌∙◌, drop}
use Rattle.nat_types.specs.declared.records.Record.TheVariants.{Done}
use Rattle.bindings.specs.Runs.{runs_of}
use Rattle.resync.specs.Batch.{owners_of, puts_of}
use Rattle.resync.specs.Cursor.{coming}
use Rattle.resync.specs.declared.cursor.Cursor.{Cursor}
use Rattle.resync.proofs.Ahead.{all-ahead}
use Rattle.resync.proofs.cursor.Cursor.next.Goals as goal

pub returns-in-Begin-clause-rest : goal.returns-in-Begin-clause-rest
returns-in-Begin-clause-rest c =
    ap (λ (ps : List ℕ). owners_of (runs_of ps) ++ (puts_of c.args.table.now.entries ++ Done ∷ [])) (all-ahead c.args.table.now.owned)
    ∙ sym (ap (λ (s : Cursor). drop 1 (coming s c.args.table.now)) c.in-Begin.is)
