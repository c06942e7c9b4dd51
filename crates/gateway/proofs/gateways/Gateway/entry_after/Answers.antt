use Rattle.std.proofs.Common.{sym, subst}
use Rattle.bindings.specs.Table.{Table}
use Rattle.resync.specs.Batch.{CanBeSent}
use Rattle.gateway.proofs.gateways.Gateway.entry_after.Goals as goal

pub entry_after-requires : goal.entry_after-requires
entry_after-requires c =
    let sent : CanBeSent c.self.inside.forwarder.core.table = record { highest = c.recall.ensures.book.highest; pairs = c.recall.ensures.book.formed } in
    subst (λ (t : Table). CanBeSent t) (sym c.table.ensures) sent
