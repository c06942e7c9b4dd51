use Rattle.bindings.proofs.Rising.{owned-less}
use Rattle.bindings.proofs.ports.Ports.disown.Goals as goal

pub returns-clause-list : goal.returns-clause-list
returns-clause-list c = owned-less c.args.port.0 c.args.self.now.tcp.owned c.disown-2.new.self.owned c.recall.ensures.rising c.recall-2.ensures.rising c.disown-2.ensures.owned
