use Rattle.clap.specs.Words.{found_of, rows_of}
use Rattle.command_line.proofs.Readings.{id_if}
use Rattle.command_line.proofs.values.optional_id.Goals as goal

pub returns : goal.returns
returns c = id_if (rows_of (found_of c.args.matches.now)) c.id.result c.requires c.id.ensures
