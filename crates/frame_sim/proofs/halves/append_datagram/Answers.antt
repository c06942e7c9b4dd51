use Rattle.std.proofs.Common.{◌≡◌, ◌++◌, ◌∷◌, [], Some, None, List, ℕ, sym, ap, ◌∙◌, arith}
use Rattle.std.proofs.lemmas.Iterator.Consumers.{YieldsList-from_rest, nth_from_yields_List}
use Rattle.std.proofs.lemmas.List.{append-nil, map_push}
use Rattle.frame_sim.specs.Halves.{items_of}
use Rattle.frame_sim.proofs.Sendings.{none-found, one-found}
use Rattle.frame_sim.proofs.halves.append_datagram.Goals as goal

pub filled-requires-clause-room : goal.filled-requires-clause-room
filled-requires-clause-room c =
    let nth = nth_from_yields_List c.nth.result _ c.args.told c.nth.ensures.ran (YieldsList-from_rest c.args.out.now.datagrams c.datagrams.ensures) in
    let found = one-found c.args.out.now.datagrams c.args.told c.in-Some.bytes.now c.requires.few (let f : Some c.in-Some.bytes.now ≡ _ = cc in f) in
    let few = found.1 in let room = c.requires.room in
    omega (arith, few, room)

pub returns-in-Some : goal.returns-in-Some
returns-in-Some c =
    let nth = nth_from_yields_List c.nth.result _ c.args.told c.nth.ensures.ran (YieldsList-from_rest c.args.out.now.datagrams c.datagrams.ensures) in
    let found = one-found c.args.out.now.datagrams c.args.told c.in-Some.bytes.now c.requires.few (let f : Some c.in-Some.bytes.now ≡ _ = cc in f) in
    ap items_of c.push_reserved.ensures.items ∙ map_push (λ v. v.items) c.args.sent.now.items c.filled.result
    ∙ ap (λ (b : List ℕ). items_of c.args.sent.now.items ++ b ∷ []) c.filled.ensures ∙ ap (λ (rest : List (List ℕ)). items_of c.args.sent.now.items ++ rest) (sym found.0)

pub returns-in_default : goal.returns-in_default
returns-in_default c =
    let nth = nth_from_yields_List c.nth.result _ c.args.told c.nth.ensures.ran (YieldsList-from_rest c.args.out.now.datagrams c.datagrams.ensures) in
    let none = none-found c.args.out.now.datagrams c.args.told (let f : None ≡ _ = cc in f) in
    sym (append-nil (items_of c.args.sent.now.items)) ∙ ap (λ (rest : List (List ℕ)). items_of c.args.sent.now.items ++ rest) (sym none)
