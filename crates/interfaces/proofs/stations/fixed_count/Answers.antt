use Rattle.std.proofs.Common.{◌≡◌, count_by, rules, sym, ◌∙◌}
use Rattle.interfaces.specs.Stations.{is_on}
use Rattle.interfaces.proofs.Listing.{on-count}
use Rattle.interfaces.proofs.stations.fixed_count.Goals as goal

pub returns : goal.returns
returns c =
    let counted : c.count.result ≡ count_by (is_on c.args.side) c.args.set.now = search rules in
    counted ∙ sym (on-count c.args.side c.args.set.now)
