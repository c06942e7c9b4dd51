use Rattle.std.proofs.Common.{◌≡◌, List, Some, ap, sym, ◌∙◌, arith}
use Rattle.nat_types.specs.declared.pairs.EntryState.{EntryState}
use Rattle.nat_types.specs.declared.pairs.Key.{Key}
use Rattle.bindings.specs.declared.entries.Entry.{Entry}
use Rattle.bindings.specs.Entries.{has_rank, is_of_rank, slot_of, set_at, entry_in, with_mark}
use Rattle.bindings.proofs.Ranked.{mark-rank}
use Rattle.bindings.proofs.Turned.{KeepsRank}
use Rattle.bindings.proofs.Edits.{slot-with_state}
use Rattle.bindings.proofs.Pasts.{life-turned}
use Rattle.bindings.proofs.Holding.{stored-turn}
use Rattle.bindings.proofs.table.Table.mark.Goals as goal

-- a mark leaves the rank of a key's entry
keeps : (key : Key) (es : List Entry) (e : Entry) (s : EntryState) → Some e ≡ slot_of es key → s ≡ with_mark e.state → KeepsRank key s es
keeps key es e s found is x held rank live =
    let same : Some x ≡ Some e = sym held ∙ sym found in
    let one : x ≡ e = cc in
    ap (λ (y : Entry). is_of_rank rank y.state) one ∙ sym (ap (is_of_rank rank) is ∙ ap (λ o. has_rank o rank) (mark-rank e.state)) ∙ live

same-mark : (key : Key) (es : List Entry) (x e : Entry) → slot_of es key ≡ Some x → Some e ≡ slot_of es key → with_mark e.state ≡ with_mark x.state
same-mark key es x e held found =
    let same : Some e ≡ Some x = found ∙ held in
    let one : e ≡ x = cc in
    ap (λ (y : Entry). with_mark y.state) one

pub turn-requires : goal.turn-requires
turn-requires c = record {
  pair = keeps c.args.key c.self.inside.store.entries c.in-Some.entry c.marked_state.result c.in-Some.ensures c.marked_state.ensures;
  endpoints = λ x held was is. c.self.invariant.0.endpoints;
}

pub invariant_of-self : goal.invariant_of-self
invariant_of-self c =
    let i = c.self.inside in
    let ranks = keeps c.args.key i.store.entries c.in-Some.entry c.marked_state.result c.in-Some.ensures c.marked_state.ensures in (
      rw (c.turn.ensures.entries, c.turn.ensures.lives, c.turn.ensures.room)
          (stored-turn i.store.entries i.store.lives i.ports i.zero i.one i.capacity _ c.args.key c.marked_state.result c.self.invariant.0 ranks),
      (let a = c.self.invariant.1 in let b = c.turn.ensures.spare in omega (arith, a, b)),
    )

pub returns-in-Some-clause-pasts : goal.returns-in-Some-clause-pasts
returns-in-Some-clause-pasts c =
    rw (c.turn.ensures.entries, c.turn.ensures.lives, ← c.self.view_is)
    (λ q past has. (has.0, life-turned c.args.key c.marked_state.result c.self.inside.store.entries c.self.inside.store.lives q ∙ has.1, has.2))

pub returns-in-Some-clause-slots : goal.returns-in-Some-clause-slots
returns-in-Some-clause-slots c =
    let es = c.self.inside.store.entries in
    let key = c.args.key in
    rw (c.turn.ensures.entries, ← c.self.view_is)
    (λ entry held q. slot-with_state key c.marked_state.result es entry q held
    ∙ ap (λ (s : EntryState). set_at (slot_of es) key (Some (entry_in s entry.pair)) q) (c.marked_state.ensures ∙ same-mark key es entry c.in-Some.entry held c.in-Some.ensures))
