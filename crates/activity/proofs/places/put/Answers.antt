use Rattle.activity.proofs.Packing.{kept_there, kept_more}
use Rattle.activity.proofs.places.put.Goals as goal

pub returns-clause-kept : goal.returns-clause-kept
returns-clause-kept c = λ count low. kept_there count c.args.place c.args.places.now c.of.result c.args.session c.of.ensures low

pub returns-clause-more : goal.returns-clause-more
returns-clause-more c = kept_more c.args.place c.args.places.now c.of.result c.args.session c.of.ensures c.requires
