use Rattle.std.proofs.Common.{◌∷◌, [], Some, None, set, refl, subst, arith}
use Rattle.std.proofs.lemmas.Bool.Decides.{nat_tests}
use Rattle.std.proofs.lemmas.List.{length-set, length-append}
use Rattle.arp.specs.Log.{spot_addresses, IsAt, IsFirst, IsLeaving}
use Rattle.arp.proofs.Logs.{kept-append, tally-out}
use Rattle.arp.proofs.Indexed.{indexed-supplanted}
use Rattle.arp.proofs.learnt.supplant.Goals as goal

pub spot_of-out-requires-clause-known : goal.spot_of-out-requires-clause-known
spot_of-out-requires-clause-known c =
    let leaves = subst (λ log. IsLeaving log c.leaving_entry-leaving.result.0 c.leaving_entry-leaving.result.1) c.deref-in-Some.ensures.value c.leaving_entry-leaving.ensures in
    let once = tally-out c.leaving_entry-leaving.result.1.address.0 c.args.learnt.now.log.items c.leaving_entry-leaving.result.0 c.leaving_entry-leaving.result.1 leaves.within leaves.is in
    grind (arith, nat_tests, once, c.requires.holds.indexed.same c.leaving_entry-leaving.result.1.address.0)

pub returns-in-Some-clause-entries : goal.returns-in-Some-clause-entries
returns-in-Some-clause-entries c =
    let leaves = subst (λ log. IsLeaving log c.leaving_entry-leaving.result.0 c.leaving_entry-leaving.result.1) c.deref-in-Some.ensures.value c.leaving_entry-leaving.ensures in
    rw (c.push.ensures.items, kept-append, leaves.rest) refl

pub returns-in-Some-clause-holds : goal.returns-in-Some-clause-holds
returns-in-Some-clause-holds c =
    let first = subst (λ log. IsFirst log c.in-Some.first c.in-Some.oldest) c.deref.ensures.value c.in-Some.ensures in
    let leaves = subst (λ log. IsLeaving log c.leaving_entry-leaving.result.0 c.leaving_entry-leaving.result.1) c.deref-in-Some.ensures.value c.leaving_entry-leaving.ensures in
    let there = subst (λ xs. IsAt (spot_addresses xs) c.leaving_entry-leaving.result.1.address.0 c.spot_of-out.result) c.deref-in-Some-2.ensures.value c.spot_of-out.ensures in
    record {
      indexed = rw (c.push.ensures.items, c.put_for.ensures.items) (indexed-supplanted c.args.learnt.now.log.items c.args.learnt.now.start c.in-Some.first c.args.learnt.now.index.items c.leaving_entry-leaving.result.1 c.leaving_entry-leaving.result.0 c.spot_of-out.result c.args.entry _ c.args.at c.requires.holds.indexed leaves.within leaves.is (omega (arith, first.within)) first.before there refl c.requires.at);
      places = rw c.push.ensures.items (omega (arith, length-append (set c.args.learnt.now.log.items c.leaving_entry-leaving.result.0 None) (Some c.args.entry ∷ []), length-set c.args.learnt.now.log.items c.leaving_entry-leaving.result.0 None, c.requires.room));
      log_room = rw c.push.ensures.capacity c.requires.holds.log_room;
      index_room = rw c.put_for.ensures.capacity c.requires.holds.index_room;
    }
