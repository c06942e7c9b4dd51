use Rattle.std.proofs.Common.{codes, take}
use Rattle.clap.specs.Words.{new_app}
use Rattle.command_line.specs.Arguments.{TakesSo, with_each}
use Rattle.command_line.proofs.commands.line.Given as goal

-- so many of its commands are added
abbrev pub invariant-loop-outline : goal.invariant-loop-outline
invariant-loop-outline l = TakesSo l.program (with_each (new_app (codes "natpair")) (take l.outline-index l.all))
