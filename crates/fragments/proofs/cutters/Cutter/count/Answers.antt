use Rattle.std.proofs.Common.{◌∙◌, sym, arith}
use Rattle.fragments.proofs.Longs.{count-pieces, some-pieces}
use Rattle.fragments.proofs.cutters.Cutter.count.Goals as goal

pub returns-then-is_long-clause-value : goal.returns-then-is_long-clause-value
returns-then-is_long-clause-value c =
    c.long_count.ensures.value ∙ sym (count-pieces c.args.mtu c.args.frame.now (sym c.is_long.ensures ∙ c.if-is_long.true))

pub returns-then-is_long-clause-least : goal.returns-then-is_long-clause-least
returns-then-is_long-clause-least c =
    omega (arith, c.long_count.ensures.value, some-pieces c.args.mtu c.args.frame.now)
