use Rattle.std.proofs.Common.{is_some, ap}
use Rattle.nat_types.specs.declared.pairs.EntryState.TheVariants.{Doomed}
use Rattle.bind_core.proofs.Changing.{turned-ranges, yielded-free, yielded-held, stays-added, turned-life}
use Rattle.bind_core.proofs.deeds.yield_entry.Goals as goal

pub set_state-requires : goal.set_state-requires
set_state-requires c = λ y there r is. absurd (cc)

pub add_entry-requires-clause-ranges : goal.add_entry-requires-clause-ranges
add_entry-requires-clause-ranges c = rw c.set_state.ensures.entries (turned-ranges c.args.table.now c.args.key _ c.requires.ranges)

pub add_entry-requires-clause-key : goal.add_entry-requires-clause-key
add_entry-requires-clause-key c = rw c.set_state.ensures.entries (yielded-free c.args.table.now.entries c.args.key c.args.pair.key c.requires.fits.entry c.requires.fits.found c.requires.fits.key)

pub add_entry-requires-clause-endpoint : goal.add_entry-requires-clause-endpoint
add_entry-requires-clause-endpoint c = rw c.set_state.ensures.entries (ap is_some (yielded-held c.args.key c.args.table.now.entries c.args.pair.endpoint c.requires.fits.held))

pub returns-clause-lives : goal.returns-clause-lives
returns-clause-lives c = record {
  stays = λ q past stays has. stays-added c.args.pair.key c.set_state.new.self c.add_entry.new.table (rw c.set_state.ensures.entries (yielded-free c.args.table.now.entries c.args.key c.args.pair.key c.requires.fits.entry c.requires.fits.found c.requires.fits.key)) c.add_entry.ensures.others q past (c.set_state.ensures.pasts q past has);
  begins = c.add_entry.ensures.begins;
}

pub returns-clause-exact : goal.returns-clause-exact
returns-clause-exact c = turned-life c.args.pair c.args.key Doomed c.args.table.now c.set_state.new.self c.add_entry.new.table _ c.set_state.ensures.entries c.add_entry.ensures.exact
