use Rattle.std.proofs.Common.{Bool, Option, cond, sym, ap, ◌∙◌}
use Rattle.nat_types.specs.declared.pairs.EntryState.{EntryState}
use Rattle.nat_types.specs.declared.pairs.EntryState.TheVariants.{Live, Held}
use Rattle.bindings.specs.declared.entries.Entry.{Entry}
use Rattle.bindings.specs.Entries.{rank_of, is_taken}
use Rattle.resync.specs.Loading.{is_own_entry}
use Rattle.resync.proofs.Seconds.{own-is}
use Rattle.resync.proofs.loading.has_pair_on.Goals as goal

pub returns-then-owns : goal.returns-then-owns
returns-then-owns c =
    let es = c.args.table.now.entries in
    let owned = sym c.owns.ensures ∙ c.if-owns.true in
    c.is_own.ensures ∙ ap (λ (o : Option Entry). is_own_entry o) c.port_of.ensures ∙ own-is es c.args.endpoint
    ∙ sym (ap (λ (b : Bool). is_taken (rank_of (let s : EntryState = cond b Live Held in s)) es c.args.endpoint) owned)
