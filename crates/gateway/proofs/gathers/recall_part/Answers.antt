use Rattle.spec_step.specs.Shown.{is_up, station_on}
use Rattle.interfaces.specs.Stations.{is_active}
use Rattle.forwarder.specs.Forwarder.{shown_of}
use Rattle.gateway.proofs.Reading.{part-is, plain-read}
use Rattle.gateway.proofs.gathers.recall_part.Goals as goal

pub returns-clause-part : goal.returns-clause-part
returns-clause-part c =
    let g = shown_of c.args.forwarder.now in
    let s = station_on g c.args.frame.side in
    part-is c.fragment_grammar.ensures c.args.frame.side s.network (is_active s) (is_up g) c.args.frame.bytes.now

pub returns-clause-plain : goal.returns-clause-plain
returns-clause-plain c =
    let g = shown_of c.args.forwarder.now in
    let s = station_on g c.args.frame.side in
    plain-read c.fragment_grammar.ensures c.args.frame.side s.network (is_active s) (is_up g) c.args.frame.bytes.now
