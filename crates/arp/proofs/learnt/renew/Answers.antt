use Rattle.std.proofs.Common.{◌≡◌, ◌∷◌, [], Some, refl, arith}
use Rattle.std.proofs.lemmas.List.{length-append}
use Rattle.arp.proofs.Logs.{kept-append}
use Rattle.arp.proofs.Indexed.{indexed-once, indexed-renewed, noted}
use Rattle.arp.proofs.learnt.renew.Goals as goal

pub take_out-requires : goal.take_out-requires
take_out-requires c = omega (arith, indexed-once c.args.learnt.now.log.items c.args.learnt.now.start c.args.learnt.now.index.items c.args.address.0 c.args.at c.requires.holds.indexed c.requires.at)

pub returns-in-Some-clause-entries : goal.returns-in-Some-clause-entries
returns-in-Some-clause-entries c = rw (c.push.ensures.items, kept-append, c.take_out.ensures.entries, c.renewed_entry.ensures, c.in-Some.ensures.entry) refl

pub returns-in-Some-clause-holds : goal.returns-in-Some-clause-holds
returns-in-Some-clause-holds c =
    let named : c.renewed_entry.result.address.0 ≡ c.args.address.0 = rw c.renewed_entry.ensures c.in-Some.ensures.address in
    record {
      indexed = rw c.push.ensures.items (indexed-renewed c.args.learnt.now.log.items c.take_out.new.log.items c.args.learnt.now.start c.args.learnt.now.index.items _ c.args.address.0 c.renewed_entry.result c.args.at c.requires.holds.indexed named c.requires.at c.take_out.ensures.entries c.take_out.ensures.len (c.take_out.ensures.front _ c.requires.holds.indexed.front) (noted c.args.learnt.now.index.items c.args.at _ c.requires.at));
      places = rw c.push.ensures.items (omega (arith, length-append c.take_out.new.log.items (Some c.renewed_entry.result ∷ []), c.take_out.ensures.len, c.requires.room));
      log_room = rw (c.push.ensures.capacity, c.take_out.ensures.capacity) c.requires.holds.log_room;
      index_room = c.requires.holds.index_room;
    }

pub returns-in_default-clause-entries : goal.returns-in_default-clause-entries
returns-in_default-clause-entries c = absurd (omega (arith, c.in_default.ensures.entry, indexed-once c.args.learnt.now.log.items c.args.learnt.now.start c.args.learnt.now.index.items c.args.address.0 c.args.at c.requires.holds.indexed c.requires.at))

pub returns-in_default-clause-holds : goal.returns-in_default-clause-holds
returns-in_default-clause-holds c = absurd (omega (arith, c.in_default.ensures.entry, indexed-once c.args.learnt.now.log.items c.args.learnt.now.start c.args.learnt.now.index.items c.args.address.0 c.args.at c.requires.holds.indexed c.requires.at))
