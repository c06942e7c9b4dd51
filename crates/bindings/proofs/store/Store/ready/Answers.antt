use Rattle.std.proofs.lemmas.Result.{on_err_weaker}
use Rattle.bindings.proofs.Readied.{lacks-more}
use Rattle.bindings.proofs.Stored.{readied}
use Rattle.bindings.proofs.store.Store.ready.Goals as goal

pub invariant_of-self : goal.invariant_of-self
invariant_of-self c =
    let i = c.self.inside in
    (readied i.slots.rows i.index c.ready.new.self c.self.invariant.0 c.ready.ensures.same, c.self.invariant.1, c.self.invariant.2)

pub returns-clause-refused : goal.returns-clause-refused
returns-clause-refused c =
    let i = c.self.inside in
    rw (← c.self.view_is) (on_err_weaker c.ready.result (lacks-more c.args.more i.slots.rows i.index c.self.invariant.0) c.ready.ensures.refused)
