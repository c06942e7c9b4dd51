use Rattle.gateway.proofs.Lacking.{lacks-core, lacks-parts}
use Rattle.gateway.proofs.begins.begin_founded.Goals as goal

pub returns-in_err-parts-clause-refused : goal.returns-in_err-parts-clause-refused
returns-in_err-parts-clause-refused c = lacks-parts c.from_residual.result c.args.settings.now c.in_err-parts.ensures.refused

pub returns-in_err-core-clause-refused : goal.returns-in_err-core-clause-refused
returns-in_err-core-clause-refused c =
    lacks-core c.from_residual-in_err-core.result c.args.settings.now c.bounds_of-zero.result c.bounds_of-one.result c.bounds_of-zero.ensures c.bounds_of-one.ensures c.in_err-core.ensures.refused
