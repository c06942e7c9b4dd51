use Rattle.std.proofs.Common.{refl, sym, ap, subst}
use Rattle.bindings.specs.Table.{Table}
use Rattle.spec_binding.specs.Rows.{answered}
use Rattle.bind_core.specs.Changes.{LivesOn}
use Rattle.bind_core.specs.Cores.{Core}
use Rattle.bind_core.proofs.Asking.{asked-behind, asked-link}
use Rattle.bind_core.proofs.cores.Core.carry_out.Goals as goal

pub returns-clause-core : goal.returns-clause-core
returns-clause-core c =
    asked-behind c.args.now c.args.self.now c.change_by.new.self c.args.link.now (answered c.args.link.now c.args.row.answer) c.args.row c.is_cause-is_cause.result c.change_by.ensures.core refl c.is_cause-is_cause.ensures c.answer.new.self c.answer.ensures.core

pub returns-clause-link : goal.returns-clause-link
returns-clause-link c =
    asked-link c.args.now c.args.self.now c.change_by.new.self c.args.link.now (answered c.args.link.now c.args.row.answer) c.args.row c.is_cause-is_cause.result c.change_by.ensures.core refl c.is_cause-is_cause.ensures c.answer.new.link c.answer.ensures.link

pub returns-clause-pasts : goal.returns-clause-pasts
returns-clause-pasts c = subst (λ (t : Table). LivesOn c.args.now c.args.row.change c.args.self.now.table t) (sym (ap (λ (k : Core). k.table) c.answer.ensures.core)) c.change_by.ensures.pasts
