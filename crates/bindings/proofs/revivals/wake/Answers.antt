use Rattle.std.proofs.Common.{◌≡◌, Option, Some, refl, sym, ap, ◌∙◌, arith}
use Rattle.std.proofs.lemmas.Bool.{both_ways}
use Rattle.nat_types.specs.declared.pairs.Key.{Key}
use Rattle.nat_types.specs.declared.pairs.EntryState.{EntryState}
use Rattle.bindings.specs.declared.entries.Entry.{Entry}
use Rattle.slots.specs.declared.ranks.Rank.{Rank}
use Rattle.bindings.specs.Entries.{is_of_rank, is_pair, slot_of}
use Rattle.bindings.specs.Lists.{with_state}
use Rattle.bindings.specs.Revivals.{woken}
use Rattle.bindings.proofs.Revived.{woken-pair, woken-rank}
use Rattle.bindings.proofs.Walks.{behind-less, next-held, wake-all, wake-end, wake-next, length-behind_turned}
use Rattle.bindings.proofs.revivals.wake.Goals as goal

pub loop-entry-init : goal.loop-entry-init
loop-entry-init c = record { woken = wake-all c.args.store.now.entries; lives = refl; room = refl; spare = omega arith; hashers = refl }

pub turn-requires : goal.turn-requires
turn-requires c =
    let held = next-held 0 c.loop-entry.last c.loop-entry.store.entries c.in-Some.entry c.recall.ensures.order (sym c.in-Some.ensures) in
    let state : is_pair c.woken_state.result ≡ is_pair c.in-Some.entry.state = ap is_pair c.woken_state.ensures ∙ woken-pair c.in-Some.entry.state in
    let ranked = λ (rank : Rank). ap (is_of_rank rank) c.woken_state.ensures ∙ woken-rank rank c.in-Some.entry.state in
    let same = λ (x : Entry) (h : slot_of c.loop-entry.store.entries c.key_of-key.result ≡ Some x). ap (λ (o : Option Entry). o) (sym h ∙ ap (slot_of c.loop-entry.store.entries) c.key_of-key.ensures ∙ held) in
    record {
      pair = λ x h rank p. one-rank x c.in-Some.entry (same x h) rank ∙ sym (ranked rank) ∙ p;
      endpoints = λ x h p q. absurd (both_ways (is_pair c.woken_state.result) q (state ∙ sym (one-state x c.in-Some.entry (same x h)) ∙ p));
    }
  where
    one-state : (x e : Entry) → Some x ≡ Some e → is_pair x.state ≡ is_pair e.state
    one-state x e h = (let same : x ≡ e = cc in ap (λ (y : Entry). is_pair y.state) same)

    one-rank : (x e : Entry) → Some x ≡ Some e → (rank : Rank) → is_of_rank rank x.state ≡ is_of_rank rank e.state
    one-rank x e h rank = (let same : x ≡ e = cc in ap (λ (y : Entry). is_of_rank rank y.state) same)

pub loop-entry-preserved : goal.loop-entry-preserved
loop-entry-preserved c =
    let es = c.loop-entry.store.entries in
    let e = c.in-Some.entry in
    let turned = c.turn.ensures.entries ∙ ap (λ (k : Key). with_state k c.woken_state.result es) c.key_of-key.ensures ∙ ap (λ (s : EntryState). with_state e.pair.key s es) c.woken_state.ensures in
    let i = c.loop-entry.invariant in
    record {
      woken = rw (c.key_of-key.ensures, turned) (wake-next 0 c.loop-entry.last es e c.recall.ensures.order (sym c.in-Some.ensures) ∙ i.woken);
      lives = c.turn.ensures.lives ∙ i.lives;
      room = c.turn.ensures.room ∙ i.room;
      spare = (let a = c.turn.ensures.spare in let b = i.spare in omega (arith, a, b));
      hashers = c.turn.ensures.hashers ∙ i.hashers;
    }

pub loop-entry-smaller : goal.loop-entry-smaller
loop-entry-smaller c =
    let es = c.loop-entry.store.entries in
    let e = c.in-Some.entry in
    let turned = c.turn.ensures.entries ∙ ap (λ (k : Key). with_state k c.woken_state.result es) c.key_of-key.ensures ∙ ap (λ (s : EntryState). with_state e.pair.key s es) c.woken_state.ensures in
    rw (c.key_of-key.ensures, turned, length-behind_turned (Some e.pair.key) e.pair.key (woken e.state) es) (behind-less 0 c.loop-entry.last es e c.recall.ensures.order (sym c.in-Some.ensures))

pub returns : goal.returns
returns c =
    let i = c.loop-entry.invariant in
    let end = wake-end c.loop-entry.last c.loop-entry.store.entries (sym c.entry_after.ensures ∙ c.in_default.is) in
    record { entries = sym end ∙ i.woken; lives = i.lives; room = i.room; spare = i.spare; hashers = i.hashers }
