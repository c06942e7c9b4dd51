use Rattle.std.proofs.Common.{◌≡◌, ◌≢◌, List, Option, Result, Ok, Err, IfErr, map, refl, string_bytes, subst}
use Rattle.clap.specs.Words.{Row, Text, kind_of, subcommand_rows_of}
use Rattle.clap.specs.declared.error.Error.{Error}
use Rattle.clap.specs.declared.error.kind.ErrorKind.TheVariants.{DisplayVersion}
use Rattle.command_line.specs.Line.{Takes, entered_by}
use Rattle.command_line.specs.Tasks.{IsEnteredFaulty, Refuses, RefusesEntered, RefusesWords}
use Rattle.command_line.specs.declared.faults.LineFault.{LineFault}
use Rattle.command_line.specs.declared.faults.LineFault.TheVariants.{Refused, Values, NoMemory}
use Rattle.command_line.specs.declared.tasks.Task.{Task}
use Rattle.command_line.proofs.tasks.command.Goals as goal

-- of words that clap takes a fault comes of their values, or of memory
of_task : (words : List Text) (entered : Option (Text × List Row)) (r : Result Task LineFault) → entered ≡ entered_by words → Takes words
    → IfErr r (RefusesEntered entered) → IfErr r (Refuses words)
of_task words entered (Ok asked) same takes err = tt
of_task words entered (Err (Refused e)) same takes err = absurd err
of_task words entered (Err (Values why)) same takes err = (takes, subst (λ (o : Option (Text × List Row)). IsEnteredFaulty o why) same err)
of_task words entered (Err NoMemory) same takes err = tt

pub returns-in-Ok-clause-err : goal.returns-in-Ok-clause-err
returns-in-Ok-clause-err c =
    of_task (map string_bytes c.args.words.now) (subcommand_rows_of c.in-Ok.matches) _ c.in-Ok.ensures.values c.in-Ok.ensures.taken
    c.entered_task.ensures.err

-- a fault of reading that isn't the version is one of the line
of_reading : (words : List Text) (f : LineFault) → RefusesWords words f → ((e : Error) → f ≡ Refused e → kind_of e ≢ DisplayVersion) → Refuses words f
of_reading words (Refused e) why other = (why.0, (λ asked. other e refl (why.2 asked)), why.3, other e refl)
of_reading words (Values why) none other = absurd none
of_reading words NoMemory why other = tt
