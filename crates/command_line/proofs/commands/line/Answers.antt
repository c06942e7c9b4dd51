use Rattle.std.proofs.Common.{codes}
use Rattle.clap.specs.Words.{new_app}
use Rattle.command_line.proofs.Arguments.{all_commands, one_command}
use Rattle.command_line.proofs.commands.line.Goals as goal

pub loop-outline-preserved : goal.loop-outline-preserved
loop-outline-preserved c =
    let l = c.loop-outline in
    one_command c.in_ok-program.program (new_app (codes "natpair")) c.outlines-all.result.now l.outline-index _ c.loop-outline-test.true
    (c.in_ok-program.ensures _ _ l.invariant c.in_ok-command.ensures)

pub returns : goal.returns
returns c =
    let l = c.loop-outline in
    all_commands c.with_texts.result c.outlines-all.result.now l.outline-index c.loop-outline-test.false c.outlines-all.ensures
    (c.with_texts.ensures _ (c.wanting_command.ensures _ l.invariant))
