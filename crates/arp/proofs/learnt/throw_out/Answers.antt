use Rattle.std.proofs.Common.{rules}
use Rattle.std.proofs.lemmas.Fn.{filter_same}
use Rattle.std.specs.Prelude.{is_some}
use Rattle.arp.proofs.Logs.{kept-filter, length-filter}
use Rattle.arp.proofs.learnt.throw_out.Goals as goal

pub returns-clause-entries : goal.returns-clause-entries
returns-clause-entries c = rw (filter_same _ is_some _ (λ x b f' k. search rules) _ _ c.retain.ensures.filtered) (kept-filter c.args.log.now.items)

pub returns-clause-full : goal.returns-clause-full
returns-clause-full c = rw (filter_same _ is_some _ (λ x b f' k. search rules) _ _ c.retain.ensures.filtered) (length-filter c.args.log.now.items)
