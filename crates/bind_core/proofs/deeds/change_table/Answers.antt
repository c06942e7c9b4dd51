use Rattle.std.proofs.Common.{Bool, subst, sym, ap, ◌∙◌}
use Rattle.spec_binding.specs.declared.changes.Change.{Change}
use Rattle.spec_binding.specs.declared.changes.Change.TheVariants.{Add, Turn}
use Rattle.spec_binding.specs.WellFormed.{Fits}
use Rattle.activity.specs.Lives.{came}
use Rattle.bindings.specs.Table.{IsPast}
use Rattle.bind_core.specs.Changes.{LivesOn, table_after, table_book}
use Rattle.bind_core.proofs.Changing.{own-turn, stays-added, added-table, made-table}
use Rattle.bind_core.proofs.Porting.{gained-table}
use Rattle.bind_core.proofs.deeds.change_table.Goals as goal

pub returns-in-Add-clause-lives : goal.returns-in-Add-clause-lives
returns-in-Add-clause-lives c =
    let fits : Fits (table_book c.args.table.now) (Add c.in-Add.entry) = subst (λ (ch : Change). Fits (table_book c.args.table.now) ch) c.in-Add.is c.requires.fits in
    rw c.in-Add.is record {
      stays = λ q past stays has. stays-added c.in-Add.entry.pair.key c.args.table.now c.add_entry.new.table fits.key c.add_entry.ensures.others q past has;
      begins = subst (λ (b : Bool). IsPast c.add_entry.new.table c.in-Add.entry.pair.key (came b c.args.now)) c.came_by_install.ensures c.add_entry.ensures.begins;
    }

pub set_state-requires : goal.set_state-requires
set_state-requires c = λ y there.
    let fits : Fits (table_book c.args.table.now) (Turn c.in-Turn.key c.in-Turn.state) = subst (λ (ch : Change). Fits (table_book c.args.table.now) ch) c.in-Turn.is c.requires.fits in
    own-turn c.args.table.now.entries c.in-Turn.key fits.0.entry c.in-Turn.state fits.0.found fits.0.own fits.1 y there

pub returns-in-Turn-clause-exact : goal.returns-in-Turn-clause-exact
returns-in-Turn-clause-exact c = c.set_state.ensures.entries ∙ ap (λ (ch : Change). table_after c.args.now ch c.args.table.now) (sym c.in-Turn.is)

pub returns-in-Renew-clause-exact : goal.returns-in-Renew-clause-exact
returns-in-Renew-clause-exact c =
    made-table c.args.table.now c.renew_entry.new.table c.renew_entry.ensures.same c.renew_entry.ensures.entries c.renew_entry.ensures.exact
    ∙ ap (λ (ch : Change). table_after c.args.now ch c.args.table.now) (sym c.in-Renew.is)

pub returns-in-Renew-clause-lives : goal.returns-in-Renew-clause-lives
returns-in-Renew-clause-lives c = subst (λ (ch : Change). LivesOn c.args.now ch c.args.table.now c.renew_entry.new.table) (sym c.in-Renew.is) c.renew_entry.ensures.lives

pub returns-in-Yield-clause-exact : goal.returns-in-Yield-clause-exact
returns-in-Yield-clause-exact c =
    added-table c.args.table.now c.yield_entry.new.table c.yield_entry.ensures.same c.yield_entry.ensures.entries c.yield_entry.ensures.exact
    ∙ ap (λ (ch : Change). table_after c.args.now ch c.args.table.now) (sym c.in-Yield.is)

pub returns-in-Yield-clause-lives : goal.returns-in-Yield-clause-lives
returns-in-Yield-clause-lives c = subst (λ (ch : Change). LivesOn c.args.now ch c.args.table.now c.yield_entry.new.table) (sym c.in-Yield.is) c.yield_entry.ensures.lives

pub returns-in-Give-clause-exact : goal.returns-in-Give-clause-exact
returns-in-Give-clause-exact c = c.give_away.ensures ∙ ap (λ (ch : Change). table_after c.args.now ch c.args.table.now) (sym c.in-Give.is)

pub returns-in-Gain-clause-exact : goal.returns-in-Gain-clause-exact
returns-in-Gain-clause-exact c =
    c.gain_ports.ensures ∙ gained-table c.args.now c.args.table.now c.in-Gain.granted
    ∙ ap (λ (ch : Change). table_after c.args.now ch c.args.table.now) (sym c.in-Gain.is)
