use Rattle.arp.specs.Log.{kept}
use Rattle.arp.proofs.Sent.{sent-six-in}
use Rattle.arp.proofs.caches.Cache.ask.Goals as goal

pub invariant_of-self : goal.invariant_of-self
invariant_of-self c = (c.ask_in.ensures.holds, record { fixed = c.self.invariant.1.fixed; learnt = rw c.ask_in.ensures.entries (sent-six-in c.args.address.0 c.args.now (kept c.self.inside.learnt.log.items) c.self.invariant.1.learnt) })
