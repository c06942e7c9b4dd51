use Rattle.bindings.specs.Ports.{in_bounds}
use Rattle.bindings.proofs.Owning.{alike-more}
use Rattle.bindings.proofs.ports.Ports.own_range.Goals as goal

pub returns-clause-alike : goal.returns-clause-alike
returns-clause-alike c =
    let old = c.args.self.now in
    alike-more old.tcp.lowest old.tcp.highest old _ (in_bounds c.args.bounds) c.requires.alike
    record {
      icmp = record { low = c.own_between.ensures.lowest; high = c.own_between.ensures.highest };
      tcp = record { low = c.own_between-2.ensures.lowest; high = c.own_between-2.ensures.highest };
      udp = record { low = c.own_between-3.ensures.lowest; high = c.own_between-3.ensures.highest };
    }
    c.own_between.ensures.owned c.own_between-2.ensures.owned c.own_between-3.ensures.owned
