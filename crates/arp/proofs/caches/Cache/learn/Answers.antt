use Rattle.arp.proofs.caches.Cache.learn.Goals as goal

pub invariant_of-self : goal.invariant_of-self
invariant_of-self c = (c.learn.ensures.holds, record { fixed = c.self.invariant.1.fixed; learnt = c.learn.ensures.six c.octets_of.ensures.six c.self.invariant.1.learnt })
