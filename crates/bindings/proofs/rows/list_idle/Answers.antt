use Rattle.std.proofs.Common.{◌≡◌, ℕ, ◌+◌, ◌<◌, ◌≤◌, Bool, true, false, List, ◌∷◌, ◌++◌, length, get_or, drop, filter, refl, sym, ap, ◌∙◌, append_assoc, arith}
use Rattle.std.specs.List.{count_by}
use Rattle.std.proofs.lemmas.List.{drop_more}
use Rattle.std.proofs.lemmas.List.Sums.{length-filter}
use Rattle.nat_types.specs.declared.pairs.Key.{Key}
use Rattle.bindings.specs.Dues.{is_idle_key}
use Rattle.bindings.proofs.rows.list_idle.Goals.{then-is_idle_entry, else-is_idle_entry}
use Rattle.bindings.proofs.rows.list_idle.Goals as goal

-- the first of the keys that are left passes the test and comes first, or fails and is skipped
next : (p : Key → Bool) (keys : List Key) (i : ℕ) (d : Key) → i < length keys → p (get_or keys i d) ≡ true → filter p (drop i keys) ≡ get_or keys i d ∷ filter p (drop (i + 1) keys)
next p keys i d lt passes = ap (filter p) (drop_more keys i d lt) ∙ rw passes refl

none : (p : Key → Bool) (keys : List Key) (i : ℕ) (d : Key) → i < length keys → p (get_or keys i d) ≡ false → filter p (drop i keys) ≡ filter p (drop (i + 1) keys)
none p keys i d lt fails = ap (filter p) (drop_more keys i d lt) ∙ rw fails refl

-- there is capacity for the keys that are left
room : (p : Key → Bool) (all rest : List Key) (more len new places : ℕ) → length (filter p all) ≡ more + length (filter p rest) → new ≡ len + more → len + count_by p all ≤ places → new + count_by p rest ≤ places
room p all rest more len new places longer added fits =
    let a = length-filter p all in
    let b = length-filter p rest in
    omega (arith, a, b, longer, added, fits)

pub loop-key-preserved : goal.loop-key-preserved
loop-key-preserved c =
    let l = c.loop-key in
    let keys = c.args.keys.now in
    let p = is_idle_key c.args.watch c.args.now c.args.store.now.entries c.args.store.now.lives in
    let within = c.loop-key-test.true in
    elim c.if-is_idle_entry.branch [
      | then-is_idle_entry w ↦
          let one = next p keys l.key-index _ within (sym c.is_idle_entry.ensures ∙ w.if-is_idle_entry.true) in
          rw w.out-is (record {
            room = rw w.push_reserved.ensures.capacity (room p (drop l.key-index keys) (drop (l.key-index + 1) keys) 1 _ _ _ (omega (arith, ap length one)) w.push_reserved.ensures.len l.invariant.room);
            same = w.push_reserved.ensures.capacity ∙ l.invariant.same;
            found = rw w.push_reserved.ensures.items (append_assoc l.out.items _ _ ∙ ap (λ ks. l.out.items ++ ks) (sym one) ∙ l.invariant.found);
          })
      | else-is_idle_entry w ↦
          let same = none p keys l.key-index _ within (sym c.is_idle_entry.ensures ∙ w.if-is_idle_entry.false) in
          rw w.out-is (record {
            room = room p (drop l.key-index keys) (drop (l.key-index + 1) keys) 0 _ _ _ (omega (arith, ap length same)) (omega arith) l.invariant.room;
            same = l.invariant.same;
            found = ap (λ ks. l.out.items ++ ks) (sym same) ∙ l.invariant.found;
          })
    ]

pub push_reserved-requires : goal.push_reserved-requires
push_reserved-requires c =
    let l = c.loop-key in
    let keys = c.args.keys.now in
    let p = is_idle_key c.args.watch c.args.now c.args.store.now.entries c.args.store.now.lives in
    let one = ap length (next p keys l.key-index _ c.loop-key-test.true (sym c.is_idle_entry.ensures ∙ c.if-is_idle_entry.true)) in
    let all = length-filter p (drop l.key-index keys) in
    let fits = l.invariant.room in
    omega (arith, one, all, fits)
