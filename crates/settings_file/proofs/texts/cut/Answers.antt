use Rattle.settings_file.proofs.Cuts.{cut_none, cut_some}
use Rattle.settings_file.proofs.texts.cut.Goals as goal

pub returns-clause-some : goal.returns-clause-some
returns-clause-some c = cut_some c.args.separator c.args.text.now _ c.split_once.ensures.cases c.requires

pub returns-clause-none : goal.returns-clause-none
returns-clause-none c = cut_none c.args.separator c.args.text.now _ c.split_once.ensures.cases c.requires
