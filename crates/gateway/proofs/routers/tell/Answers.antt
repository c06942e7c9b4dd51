use Rattle.gateway.proofs.routers.tell.Goals as goal

pub returns-in-Stop : goal.returns-in-Stop
returns-in-Stop c = rw c.in-Stop.is (c.stop.ensures c.args.now)
