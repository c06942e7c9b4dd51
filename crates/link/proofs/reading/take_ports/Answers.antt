use Rattle.std.proofs.Common.{◌∷◌, [], List, length, ap, arith}
use Rattle.std.proofs.lemmas.List.{length-append}
use Rattle.addresses.specs.declared.transport.Port.{Port}
use Rattle.link.proofs.Loop.{goes_on, ends, is_done}
use Rattle.link.specs.Reading.{port_at, many_at}
use Rattle.link.proofs.reading.take_ports.Goals as goal

pub returns-in-Err : goal.returns-in-Err
returns-in-Err c = ends port_at c.in-Err.fault c.loop.granted.ports c.args.count c.loop.counter c.loop.rest.now (many_at port_at c.args.count c.args.bytes.now) c.loop-test.true c.in-Err.ensures.exact c.loop.invariant.so_far

pub loop-preserved : goal.loop-preserved
loop-preserved c =
    record {
      so_far = rw c.push.ensures (goes_on port_at c.loop.granted.ports c.args.count c.loop.counter c.loop.rest.now c.in-Ok.port c.in-Ok.after.now (many_at port_at c.args.count c.args.bytes.now) c.loop-test.true c.in-Ok.ensures.exact c.loop.invariant.so_far);
      room = omega (arith, ap (λ (xs : List Port). length xs) c.push.ensures, length-append c.loop.granted.ports (c.in-Ok.port ∷ []), c.loop.invariant.room);
    }

pub returns : goal.returns
returns c = is_done port_at c.loop.granted.ports c.args.count c.loop.counter c.loop.rest.now (many_at port_at c.args.count c.args.bytes.now) c.loop-test.false c.loop.invariant.so_far
