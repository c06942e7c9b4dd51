use Rattle.clap.specs.Words.{new_app}
use Rattle.command_line.proofs.Arguments.{all_told, one_told}
use Rattle.command_line.proofs.commands.command.Goals as goal

pub loop-argument-preserved : goal.loop-argument-preserved
loop-argument-preserved c =
    let l = c.loop-argument in
    one_told c.in_ok-command.command (new_app c.args.outline.now.name.now) c.args.outline.now.arguments.now l.argument-index _
    c.loop-argument-test.true (c.in_ok-command.ensures _ l.invariant)

pub returns : goal.returns
returns c =
    let l = c.loop-argument in
    all_told c.with_texts.result (new_app c.args.outline.now.name.now) c.args.outline.now.arguments.now l.argument-index
    c.loop-argument-test.false (c.with_texts.ensures _ l.invariant)
