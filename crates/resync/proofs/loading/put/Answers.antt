use Rattle.std.proofs.Common.{ap, ◌∙◌}
use Rattle.nat_types.specs.declared.pairs.EntryState.{EntryState}
use Rattle.nat_types.specs.declared.pairs.Key.{Key}
use Rattle.bindings.specs.Entries.{entry_in, rank_of, is_taken}
use Rattle.bindings.specs.Table.{Table}
use Rattle.resync.specs.Loading.{loaded_state}
use Rattle.resync.proofs.Giving.{never-refused, within-put}
use Rattle.resync.proofs.loading.put.Goals as goal

pub unreachable-requires : goal.unreachable-requires
unreachable-requires c =
    never-refused c.args.table.now c.args.pair c.state_on-state.result c.in-Err.field-0 c.recall.ensures c.requires.within c.requires.inside c.requires.key
    (ap (λ (s : EntryState). is_taken (rank_of s) c.args.table.now.entries c.args.pair.endpoint)
    (c.state_on-state.ensures ∙ ap (λ (k : Key). loaded_state c.args.table.now.owned k.port.0) c.key_of-key.ensures) ∙ c.requires.endpoint) c.in-Err.ensures.refused

pub returns-clause-within : goal.returns-clause-within
returns-clause-within c =
    let same = c.in-Ok.ensures.same in
    within-put c.args.table.now c.add.new.self (entry_in c.state_on-state.result c.args.pair) c.requires.within c.requires.inside c.in-Ok.ensures.slots (ap (λ (t : Table). t.zero) same) (ap (λ (t : Table). t.one) same)
