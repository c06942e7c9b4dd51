use Rattle.std.proofs.Common.{sym, subst}
use Rattle.bindings.specs.Table.{Table}
use Rattle.resync.specs.Batch.{CanBeSent}
use Rattle.cases_bindings.proofs.Turned.{sent-turned}
use Rattle.cases_bindings.proofs.sender.Sender.set_state.Goals as goal

pub invariant_of-self-clause-sent : goal.invariant_of-self-clause-sent
invariant_of-self-clause-sent c =
    subst (λ (t : Table). CanBeSent t) (sym c.set_state.ensures.entries) (sent-turned c.args.self.now.table c.args.key c.args.state c.args.self.now.sent)
