use Rattle.std.proofs.Common.{refl, sym, ap, ◌∙◌, arith}
use Rattle.bindings.proofs.Owning.{alike-same, bounds-refl, owned-refl, bounds-trans, owned-trans}
use Rattle.bindings.proofs.Revived.{all-pairs, all-kept}
use Rattle.bindings.proofs.Walks.{behind-none, behind-end, next-held}
use Rattle.bindings.proofs.Dropping.{first_doomed, step}
use Rattle.bindings.proofs.revivals.drop_doomed.Goals as goal

pub loop-entry-init : goal.loop-entry-init
loop-entry-init c = record {
  same = c.requires.same;
  free = c.requires.free;
  pairs = refl;
  kept = refl;
  first = sym (ap first_doomed (behind-none c.args.store.now.entries));
  room = refl;
  spare = omega arith;
  hashers = refl;
  owned = owned-refl c.args.ports.now;
  bounds = bounds-refl c.args.ports.now;
}

pub drop_if_doomed-requires-clause-held : goal.drop_if_doomed-requires-clause-held
drop_if_doomed-requires-clause-held c = next-held 0 c.loop-entry.last c.loop-entry.store.entries c.in-Some.entry c.recall.ensures.order (sym c.in-Some.ensures)

pub loop-entry-smaller : goal.loop-entry-smaller
loop-entry-smaller c =
    let s = c.loop-entry.store in
    let one = step c.loop-entry.last c.in-Some.entry s.entries s.lives c.recall.ensures.order c.recall.ensures.alike (sym c.in-Some.ensures) c.loop-entry.invariant.first in
    rw (c.key_of.ensures, c.drop_if_doomed.ensures.entries) one.less

pub loop-entry-preserved : goal.loop-entry-preserved
loop-entry-preserved c =
    let s = c.loop-entry.store in
    let i = c.loop-entry.invariant in
    let d = c.drop_if_doomed.ensures in
    let old = c.loop-entry.ports in
    let low = c.args.ports.now.tcp.lowest in
    let high = c.args.ports.now.tcp.highest in
    let one = step c.loop-entry.last c.in-Some.entry s.entries s.lives c.recall.ensures.order c.recall.ensures.alike (sym c.in-Some.ensures) i.first in
    record {
      same = alike-same low high old c.drop_if_doomed.new.ports i.same d.bounds d.owned;
      free = rw (← i.bounds.tcp.low, ← i.bounds.tcp.high) d.free;
      pairs = rw d.entries (one.pairs ∙ i.pairs);
      kept = rw (d.entries, d.lives) (one.kept ∙ i.kept);
      first = rw (c.key_of.ensures, d.entries) one.first;
      room = d.room ∙ i.room;
      spare = (let a = d.spare in let b = i.spare in omega (arith, a, b));
      hashers = d.hashers ∙ i.hashers;
      owned = owned-trans c.args.ports.now old c.drop_if_doomed.new.ports i.owned d.owned;
      bounds = bounds-trans c.args.ports.now old c.drop_if_doomed.new.ports i.bounds d.bounds;
    }

pub returns-clause-entries : goal.returns-clause-entries
returns-clause-entries c =
    let s = c.loop-entry.store in
    let none = c.loop-entry.invariant.first ∙ ap first_doomed (behind-end c.loop-entry.last s.entries (sym c.entry_after.ensures ∙ c.in_default.is)) in
    sym (all-pairs s.entries none) ∙ c.loop-entry.invariant.pairs

pub returns-clause-lives : goal.returns-clause-lives
returns-clause-lives c =
    let s = c.loop-entry.store in
    let none = c.loop-entry.invariant.first ∙ ap first_doomed (behind-end c.loop-entry.last s.entries (sym c.entry_after.ensures ∙ c.in_default.is)) in
    sym (all-kept s.entries s.lives c.recall-2.ensures.alike none) ∙ c.loop-entry.invariant.kept
