use Rattle.std.proofs.Common.{◌||◌, Bool, Option, sym, ap, ◌∙◌}
use Rattle.nat_types.specs.declared.pairs.Endpoint.{Endpoint}
use Rattle.nat_types.specs.declared.pairs.Key.{Key}
use Rattle.nat_types.specs.declared.pairs.Pair.{Pair}
use Rattle.bindings.specs.Entries.{entry_of, held_entry_of}
use Rattle.bindings.specs.declared.entries.Entry.{Entry}
use Rattle.resync.specs.Cursor.{is_settled_below}
use Rattle.resync.proofs.Seconds.{second-is}
use Rattle.resync.proofs.cursor.is_second.Goals as goal

pub returns-then-first : goal.returns-then-first
returns-then-first c =
    let es = c.args.table.now.entries in
    let p = c.args.pair in
    let key = ap (λ (q : Pair). q.key) c.pair.view_is in
    let served = c.port_of.ensures ∙ ap (λ (x : Endpoint). entry_of es x) c.endpoint_of-endpoint.ensures in
    let said = c.is_settled_below-first.ensures ∙ ap (λ (k : Key). is_settled_below k c.port_of.result) key ∙ ap (λ (o : Option Entry). is_settled_below p.key o) served in
    c.if-first.true
    ∙ sym (second-is p es c.recall.ensures.endpoints ∙ ap (λ (b : Bool). b || is_settled_below p.key (held_entry_of es p.endpoint)) (sym said ∙ c.if-first.true))

pub returns-else-first : goal.returns-else-first
returns-else-first c =
    let es = c.args.table.now.entries in
    let p = c.args.pair in
    let key = ap (λ (q : Pair). q.key) c.pair.view_is in
    let served = c.port_of.ensures ∙ ap (λ (x : Endpoint). entry_of es x) c.endpoint_of-endpoint.ensures in
    let held = c.held_of.ensures ∙ ap (λ (x : Endpoint). held_entry_of es x) c.endpoint_of-endpoint.ensures in
    let said = c.is_settled_below-first.ensures ∙ ap (λ (k : Key). is_settled_below k c.port_of.result) key ∙ ap (λ (o : Option Entry). is_settled_below p.key o) served in
    c.is_settled_below.ensures ∙ ap (λ (k : Key). is_settled_below k c.held_of.result) key ∙ ap (λ (o : Option Entry). is_settled_below p.key o) held
    ∙ sym (second-is p es c.recall.ensures.endpoints ∙ ap (λ (b : Bool). b || is_settled_below p.key (held_entry_of es p.endpoint)) (sym said ∙ c.if-first.false))
