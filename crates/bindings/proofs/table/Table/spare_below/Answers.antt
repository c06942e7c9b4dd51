use Rattle.bindings.specs.Ports.{is_spare, is_spare_in, lowest_of, highest_of}
use Rattle.bindings.proofs.Holding.{in-both}
use Rattle.bindings.proofs.Owning.{spare-is, some-last, none-last}
use Rattle.bindings.proofs.table.Table.spare_below.Goals as goal

pub returns-clause-some : goal.returns-clause-some
returns-clause-some c =
    let i = c.self.inside in
    let keeps = c.self.invariant.0 in
    rw (← c.self.view_is)
    (some-last c.spare_below.result (is_spare_in i.ports) (is_spare i.store.entries i.ports.tcp.owned) c.args.end
    (spare-is (lowest_of i.zero i.one) (highest_of i.zero i.one) i.store.entries i.ports keeps.free (λ port owned. in-both i.zero i.one port (keeps.owned port owned))) c.spare_below.ensures.some)

pub returns-clause-none : goal.returns-clause-none
returns-clause-none c =
    let i = c.self.inside in
    let keeps = c.self.invariant.0 in
    rw (← c.self.view_is)
    (none-last c.spare_below.result (is_spare_in i.ports) (is_spare i.store.entries i.ports.tcp.owned) c.args.end
    (spare-is (lowest_of i.zero i.one) (highest_of i.zero i.one) i.store.entries i.ports keeps.free (λ port owned. in-both i.zero i.one port (keeps.owned port owned))) c.spare_below.ensures.none)
