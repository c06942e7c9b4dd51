use Rattle.std.specs.Str.Parse.{ParsesUnsigned, ExplainsUnsignedError, HasUnsignedDigitsIfOk}
use Rattle.clap.specs.Words.{found_of}
use Rattle.command_line.proofs.Readings.{number_at}
use Rattle.command_line.proofs.values.optional_u8.Goals as goal

pub returns : goal.returns
returns c =
    number_at _ (λ bs r. ParsesUnsigned 8 10 bs r × ExplainsUnsignedError 10 bs r × HasUnsignedDigitsIfOk bs r) 8
    (found_of c.args.matches.now) c.args.name.now c.get_one.result (λ u x g. g.0) c.get_one.ensures.none c.get_one.ensures.value
