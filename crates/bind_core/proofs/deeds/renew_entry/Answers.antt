use Rattle.std.proofs.Common.{refl, sym, ap, ◌∙◌}
use Rattle.nat_types.specs.declared.pairs.EntryState.TheVariants.{Live}
use Rattle.bindings.specs.Entries.{slot_of}
use Rattle.bindings.specs.Table.{Table}
use Rattle.bind_core.proofs.Changing.{own-turn, stays-renewed}
use Rattle.bind_core.proofs.deeds.renew_entry.Goals as goal

pub set_state-requires : goal.set_state-requires
set_state-requires c = λ y there.
    own-turn c.args.table.now.entries c.args.key c.requires.entry Live c.requires.found c.requires.own refl y
    (sym (ap (λ (t : Table). slot_of t.entries c.args.key) c.renew.ensures.same) ∙ there)

pub returns-clause-lives : goal.returns-clause-lives
returns-clause-lives c = record {
  stays = λ q past stays has. c.set_state.ensures.pasts q _ (stays-renewed c.args.now c.args.key c.args.table.now c.renew.new.self c.renew.ensures.renewed c.renew.ensures.others q past has);
  begins = tt;
}
