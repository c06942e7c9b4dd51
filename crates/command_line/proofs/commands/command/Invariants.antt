use Rattle.std.proofs.Common.{take}
use Rattle.clap.specs.Words.{new_app}
use Rattle.command_line.specs.Arguments.{TakesSo, with_all}
use Rattle.command_line.proofs.commands.command.Given as goal

-- so many of its arguments are added
abbrev pub invariant-loop-argument : goal.invariant-loop-argument
invariant-loop-argument l =
    TakesSo l.command (with_all (new_app l.outline.name.now) (take l.argument-index l.outline.arguments.now))
