use Rattle.std.proofs.Common.{◌++◌, take, drop, arith}
use Rattle.spec_gateway.specs.Sendings.{number_after, numbered}
use Rattle.gateway.proofs.Numbering.{left-next}
use Rattle.gateway.proofs.numbers.number_from.Goals as goal

pub loop-k-preserved : goal.loop-k-preserved
loop-k-preserved c =
    let networks = c.args.networks.now in
    let told = c.args.page.now.told in
    let rest = drop c.args.first told.frames in
    left-next networks c.args.id (number_after networks c.args.next rest) c.loop-k.number c.number_next-number.result c.loop-k.k
    (take c.args.first told.frames ++ numbered networks c.args.id c.args.next rest) told c.loop-k.page.told c.number_next-number.new.page.told
    (omega (arith, c.loop-k.invariant.count, c.frame_count-k-end.ensures, c.loop-k-test.true)) c.number_next-number.ensures.told c.number_next-number.ensures.next c.loop-k.invariant
