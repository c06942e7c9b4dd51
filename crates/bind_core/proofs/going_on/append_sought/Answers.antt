use Rattle.std.proofs.Common.{◌≡◌, List, [], ◌∷◌, ◌++◌, Some, length, refl, sym, ap, ◌∙◌, append_assoc, arith}
use Rattle.std.proofs.lemmas.List.{append-nil}
use Rattle.nat_types.specs.declared.pairs.Key.{Key}
use Rattle.bindings.specs.declared.entries.Entry.{Entry}
use Rattle.resync.proofs.Offered.{table-strict}
use Rattle.spec_binding.specs.Ledgers.{is_sought, sought_keys}
use Rattle.bind_core.proofs.GoingOn.{few-sought}
use Rattle.bind_core.proofs.Walking.{behind, none-all, sought-next, sought-none}
use Rattle.bind_core.proofs.going_on.append_sought.Goals as goal

pub loop-entry-init : goal.loop-entry-init
loop-entry-init c =
    let all = none-all c.args.table.now.entries in
    let many = ap (λ (z : List Entry). length (sought_keys c.args.apart z)) all in
    let few = few-sought c.args.apart c.args.table.now.entries in
    record {
      items = ap (λ (z : List Entry). c.args.keys.now.items ++ sought_keys c.args.apart z) all;
      len = omega (arith, many, few);
      capacity = refl;
    }

pub loop-entry-smaller : goal.loop-entry-smaller
loop-entry-smaller c =
    let next : sought_keys c.args.apart (behind c.loop-entry.last c.args.table.now.entries) ≡ c.key_of-key.result ∷ sought_keys c.args.apart (behind (Some c.key_of-key.result) c.args.table.now.entries) =
    sought-next (is_sought c.args.apart) c.loop-entry.last 0 c.args.table.now.entries c.in-Some.entry (table-strict c.args.table.now c.recall.ensures c.requires.sent) (sym c.next_sought.ensures ∙ c.in-Some.is)
    ∙ ap (λ (k : Key). k ∷ sought_keys c.args.apart (behind (Some k) c.args.table.now.entries)) (sym c.key_of-key.ensures) in
    let less = ap length next in
    omega (arith, less)

pub push_reserved-requires : goal.push_reserved-requires
push_reserved-requires c =
    let next = ap length (sought-next (is_sought c.args.apart) c.loop-entry.last 0 c.args.table.now.entries c.in-Some.entry (table-strict c.args.table.now c.recall.ensures c.requires.sent) (sym c.next_sought.ensures ∙ c.in-Some.is)) in
    let len = c.loop-entry.invariant.len in
    let capacity = c.loop-entry.invariant.capacity in
    let room = c.requires.room in
    omega (arith, next, len, capacity, room)

pub loop-entry-preserved : goal.loop-entry-preserved
loop-entry-preserved c =
    let next : sought_keys c.args.apart (behind c.loop-entry.last c.args.table.now.entries) ≡ c.key_of-key.result ∷ sought_keys c.args.apart (behind (Some c.key_of-key.result) c.args.table.now.entries) =
    sought-next (is_sought c.args.apart) c.loop-entry.last 0 c.args.table.now.entries c.in-Some.entry (table-strict c.args.table.now c.recall.ensures c.requires.sent) (sym c.next_sought.ensures ∙ c.in-Some.is)
    ∙ ap (λ (k : Key). k ∷ sought_keys c.args.apart (behind (Some k) c.args.table.now.entries)) (sym c.key_of-key.ensures) in
    let rest = sought_keys c.args.apart (behind (Some c.key_of-key.result) c.args.table.now.entries) in
    let less = ap length next in
    let len = c.loop-entry.invariant.len in
    let longer = c.push_reserved.ensures.len in
    record {
      items = ap (λ (z : List Key). z ++ rest) c.push_reserved.ensures.items
          ∙ append_assoc c.loop-entry.keys.items (c.key_of-key.result ∷ []) rest
          ∙ ap (λ (z : List Key). c.loop-entry.keys.items ++ z) (sym next)
          ∙ c.loop-entry.invariant.items;
      len = omega (arith, less, len, longer);
      capacity = c.push_reserved.ensures.capacity ∙ c.loop-entry.invariant.capacity;
    }

pub returns-clause-items : goal.returns-clause-items
returns-clause-items c =
    let none = sought-none (is_sought c.args.apart) c.loop-entry.last c.args.table.now.entries (sym c.next_sought.ensures ∙ c.in_default.is) in
    sym (append-nil c.loop-entry.keys.items)
    ∙ ap (λ (z : List Key). c.loop-entry.keys.items ++ z) (sym none)
    ∙ c.loop-entry.invariant.items
