use Rattle.std.proofs.Common.{sym, ◌∙◌, subst, arith}
use Rattle.arp.specs.Log.{spot_addresses, IsAt, IsGapFor}
use Rattle.arp.proofs.Tallies.{tally-at, tally-gap}
use Rattle.arp.proofs.Sending.{asks-none, indexed-sent, sent-none}
use Rattle.arp.proofs.learnt.ask_in.Goals as goal

pub ask_in_log-requires : goal.ask_in_log-requires
ask_in_log-requires c =
    let there = subst (λ xs. IsAt (spot_addresses xs) c.args.address.0 c.in-Ok.at) c.deref.ensures.value c.in-Ok.ensures.found in
    omega (arith, c.requires.indexed.same c.args.address.0, tally-at _ c.requires.indexed.rising _ _ there)

pub returns-in-Ok-clause-holds : goal.returns-in-Ok-clause-holds
returns-in-Ok-clause-holds c =
    let was = c.args.learnt.now in
    record {
      indexed = indexed-sent was.log.items c.ask_in_log.new.log.items was.start was.index.items c.args.address.0 c.args.now c.requires.indexed c.ask_in_log.ensures.entries c.ask_in_log.ensures.len (c.ask_in_log.ensures.front was.start c.requires.indexed.front);
      places = omega (arith, c.ask_in_log.ensures.len, c.requires.places);
      log_room = rw c.ask_in_log.ensures.capacity c.requires.log_room;
      index_room = c.requires.index_room;
    }

pub returns-in-Err-clause-asks : goal.returns-in-Err-clause-asks
returns-in-Err-clause-asks c =
    let gap = subst (λ xs. IsGapFor (spot_addresses xs) c.args.address.0 c.in-Err.field-0) c.deref.ensures.value c.in-Err.ensures.absent in
    sym (asks-none _ _ _ (c.requires.indexed.same c.args.address.0 ∙ tally-gap _ _ _ gap))

pub returns-in-Err-clause-entries : goal.returns-in-Err-clause-entries
returns-in-Err-clause-entries c =
    let gap = subst (λ xs. IsGapFor (spot_addresses xs) c.args.address.0 c.in-Err.field-0) c.deref.ensures.value c.in-Err.ensures.absent in
    sym (sent-none _ _ _ (c.requires.indexed.same c.args.address.0 ∙ tally-gap _ _ _ gap))
