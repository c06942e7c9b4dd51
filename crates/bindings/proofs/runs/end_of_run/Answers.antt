use Rattle.std.proofs.Common.{◌-◌, arith}
use Rattle.bindings.proofs.Unbroken.{behind-first, run-before, run-whole}
use Rattle.bindings.proofs.runs.end_of_run.Goals as goal

pub overflow_sub-result : goal.overflow_sub-result
overflow_sub-result c =
    let is = c.in-Some.ensures.some in
    let past = behind-first c.args.range.now c.args.first.0 c.in-Some.port.0 c.requires.owned is in
    omega (arith, past)

pub returns-in-Some : goal.returns-in-Some
returns-in-Some c =
    let is = c.in-Some.ensures.some in
    run-before c.args.range.now c.args.first.0 c.in-Some.port.0 (c.in-Some.port.0 - 1) c.recall.ensures c.requires.owned is (omega (arith, behind-first c.args.range.now c.args.first.0 c.in-Some.port.0 c.requires.owned is))

pub returns-in-None : goal.returns-in-None
returns-in-None c =
    let all = c.in-None.ensures.none in
    run-whole c.args.range.now c.args.first.0 c.args.highest.0 c.requires.highest c.recall.ensures c.requires.owned all
