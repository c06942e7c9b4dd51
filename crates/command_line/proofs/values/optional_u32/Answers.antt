use Rattle.std.specs.Str.Parse.{ParsesUnsigned, ExplainsUnsignedError, HasUnsignedDigitsIfOk}
use Rattle.clap.specs.Words.{found_of, rows_of}
use Rattle.command_line.proofs.Readings.{number_at, read_if}
use Rattle.command_line.proofs.values.optional_u32.Goals as goal

pub returns : goal.returns
returns c =
    read_if 32 c.args.name.now (rows_of (found_of c.args.matches.now)) c.get_one.result c.requires
    (number_at _ (λ bs r. ParsesUnsigned 32 10 bs r × ExplainsUnsignedError 10 bs r × HasUnsignedDigitsIfOk bs r) 32
    (found_of c.args.matches.now) c.args.name.now c.get_one.result (λ u x g. g.0) c.get_one.ensures.none c.get_one.ensures.value)
