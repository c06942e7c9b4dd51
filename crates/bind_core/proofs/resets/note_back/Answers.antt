use Rattle.std.proofs.Common.{◌≡◌, ◌-◌, ◌<◌, List, ◌++◌, ◌∷◌, Some, length, refl, sym, ap, ◌∙◌, subst, arith}
use Rattle.std.proofs.lemmas.List.{append-nil}
use Rattle.nat_types.specs.declared.pairs.Key.{Key}
use Rattle.bindings.specs.declared.entries.Entry.{Entry}
use Rattle.resync.specs.Cursor.{place_after}
use Rattle.resync.proofs.Offered.{table-strict, found-sent, place-on, place-small}
use Rattle.spec_binding.specs.Resets.{back_in, retaken}
use Rattle.bind_core.proofs.Walking.{behind, behind-next, behind-none, noted-next, none-all}
use Rattle.bind_core.proofs.resets.note_back.Goals as goal

pub loop-entry-init : goal.loop-entry-init
loop-entry-init c =
    let same = ap length (none-all c.args.table.now.entries) in
    record {
      items = ap (λ (z : List Entry). c.args.notes.now.items ++ retaken c.args.by c.args.at (back_in z)) (none-all c.args.table.now.entries);
      len = omega (arith, same);
      capacity = refl;
    }

pub loop-entry-smaller : goal.loop-entry-smaller
loop-entry-smaller c =
    let found = sym c.entry_after.ensures ∙ c.in-Some.is in
    let on = place-on c.loop-entry.last c.args.table.now.entries c.in-Some.entry found in
    let formed = found-sent c.args.table.now c.loop-entry.last c.in-Some.entry c.recall.ensures c.requires.sent found in
    let small = place-small c.in-Some.entry.pair.key formed.key.1 in
    subst (λ (k : Key). 2000000 - place_after (Some k) < 2000000 - place_after c.loop-entry.last) (sym c.key_of.ensures) (omega (arith, on, small))

pub note_if_back-requires : goal.note_if_back-requires
note_if_back-requires c =
    let here = ap length (behind-next c.loop-entry.last 0 c.args.table.now.entries c.in-Some.entry (table-strict c.args.table.now c.recall.ensures c.requires.sent) (sym c.entry_after.ensures ∙ c.in-Some.is)) in
    let len = c.loop-entry.invariant.len in
    let capacity = c.loop-entry.invariant.capacity in
    let reserved = c.requires.reserved in
    omega (arith, here, len, capacity, reserved)

pub loop-entry-preserved : goal.loop-entry-preserved
loop-entry-preserved c =
    let here : behind c.loop-entry.last c.args.table.now.entries ≡ c.in-Some.entry ∷ behind (Some c.key_of.result) c.args.table.now.entries =
    behind-next c.loop-entry.last 0 c.args.table.now.entries c.in-Some.entry (table-strict c.args.table.now c.recall.ensures c.requires.sent) (sym c.entry_after.ensures ∙ c.in-Some.is)
    ∙ ap (λ (k : Key). c.in-Some.entry ∷ behind (Some k) c.args.table.now.entries) (sym c.key_of.ensures) in
    let fewer = ap length here in
    let len = c.loop-entry.invariant.len in
    let longer = c.note_if_back.ensures.len in
    record {
      items = noted-next c.args.by c.args.at c.in-Some.entry (behind c.loop-entry.last c.args.table.now.entries) (behind (Some c.key_of.result) c.args.table.now.entries) c.loop-entry.notes.items c.note_if_back.new.notes.items here c.note_if_back.ensures.items
          ∙ c.loop-entry.invariant.items;
      len = omega (arith, fewer, len, longer);
      capacity = c.note_if_back.ensures.capacity ∙ c.loop-entry.invariant.capacity;
    }

pub returns-clause-items : goal.returns-clause-items
returns-clause-items c =
    let none = behind-none c.loop-entry.last c.args.table.now.entries (sym c.entry_after.ensures ∙ c.in_default.is) in
    sym (append-nil c.loop-entry.notes.items)
    ∙ ap (λ (z : List Entry). c.loop-entry.notes.items ++ retaken c.args.by c.args.at (back_in z)) (sym none)
    ∙ c.loop-entry.invariant.items
