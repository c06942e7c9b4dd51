use Rattle.std.proofs.Common.{◌≡◌, true, Some, [], ◌∷◌, refl, arith}
use Rattle.std.specs.Result.{is_ok}
use Rattle.std.proofs.lemmas.List.{length-append}
use Rattle.arp.proofs.Logs.{kept-append}
use Rattle.arp.proofs.Indexed.{indexed-added}
use Rattle.arp.proofs.learnt.append.Goals as goal

pub returns-clause-entries : goal.returns-clause-entries
returns-clause-entries c = rw (c.push.ensures.items, kept-append) refl

pub returns-clause-holds : goal.returns-clause-holds
returns-clause-holds c =
    let ok : is_ok c.insert.result ≡ true = c.insert.ensures.succeeds (omega (arith, c.requires.fewer, c.requires.holds.index_room)) in
    record {
      indexed = rw (c.push.ensures.items, c.insert.ensures.items, ok) (indexed-added c.args.learnt.now.log.items c.args.learnt.now.start c.args.learnt.now.index.items c.args.entry _ c.args.at c.requires.holds.indexed c.requires.fewer refl c.requires.at);
      places = rw c.push.ensures.items (omega (arith, length-append c.args.learnt.now.log.items (Some c.args.entry ∷ []), c.requires.room));
      log_room = rw c.push.ensures.capacity c.requires.holds.log_room;
      index_room = omega (arith, c.insert.ensures.capacity, c.requires.holds.index_room);
    }
