-- What the faults of a command line lead to.
use Rattle.std.specs.Prelude.{◌≡◌, ◌≢◌}
use Rattle.clap.specs.Words.{kind_of}
use Rattle.clap.specs.declared.error.Error.{Error}
use Rattle.clap.specs.declared.error.kind.ErrorKind.TheVariants.{OutOfMemory}
use Rattle.command_line.specs.declared.faults.LineFault.{LineFault}
use Rattle.command_line.specs.declared.faults.LineFault.TheVariants.{Refused, Values, NoMemory}

-- the fault of an error of clap's: the error as it is, or memory exactly where it is of that kind
abbrev pub IsOfClap : Error → LineFault → Type 0
IsOfClap error (Refused told) = (told ≡ error) × (kind_of error ≢ OutOfMemory)
IsOfClap error (Values why) = ⊥
IsOfClap error NoMemory = kind_of error ≡ OutOfMemory
