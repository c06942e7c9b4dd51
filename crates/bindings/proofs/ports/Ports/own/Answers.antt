use Rattle.bindings.proofs.Rising.{owned-more, above-none}
use Rattle.bindings.proofs.ports.Ports.own.Goals as goal

pub returns-clause-list : goal.returns-clause-list
returns-clause-list c =
    let old = c.args.self.now.tcp in
    owned-more c.args.port.0 old.owned c.own-2.new.self.owned c.recall.ensures.rising c.recall-2.ensures.rising
    (above-none old.lowest old.highest c.args.port.0 c.recall.ensures.low c.requires.within) c.requires.foreign c.own-2.ensures.owned
