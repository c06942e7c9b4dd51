use Rattle.std.proofs.Common.{Some, sym, ap, ◌∙◌}
use Rattle.slots.specs.Rows.{number_of}
use Rattle.bindings.specs.declared.entries.Entry.{Entry}
use Rattle.bindings.proofs.Stored.{item-key}
use Rattle.bindings.proofs.store.key_at.Goals as goal

pub returns-in-Some-clause-own : goal.returns-in-Some-clause-own
returns-in-Some-clause-own c = λ key h.
    let rows = c.args.slots.now.rows in
    ap Some (c.key_of.ensures ∙ ap (λ (e : Entry). e.pair.key) c.entry_of_item.ensures ∙ item-key rows key c.in-Some.item.now c.requires (sym (c.in-Some.ensures.item key h)))

pub returns-in-Some-clause-held : goal.returns-in-Some-clause-held
returns-in-Some-clause-held c =
    let rows = c.args.slots.now.rows in
    let key = c.in-Some.ensures.used.0 in
    let h = c.in-Some.ensures.used.1 in
    ap (number_of rows) (c.key_of.ensures ∙ ap (λ (e : Entry). e.pair.key) c.entry_of_item.ensures ∙ item-key rows key c.in-Some.item.now c.requires (sym (c.in-Some.ensures.item key h))) ∙ h
