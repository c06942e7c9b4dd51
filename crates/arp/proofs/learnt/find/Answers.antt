use Rattle.std.proofs.Common.{rules}
use Rattle.std.proofs.lemmas.List.Sorted.{answers_always}
use Rattle.arp.proofs.Indexed.{searched}
use Rattle.arp.specs.declared.learnt.Spot.{Spot}
use Rattle.arp.proofs.learnt.find.Goals as goal

pub returns-clause-found : goal.returns-clause-found
returns-clause-found c =
    let facts = c.binary_search_by_key.ensures in
    (searched _ c.requires c.args.address.0 _ facts.bound (facts.position (λ (s : Spot). s.address.0) (answers_always _ _ _ (λ f a r g called. search rules)))).found

pub returns-clause-absent : goal.returns-clause-absent
returns-clause-absent c =
    let facts = c.binary_search_by_key.ensures in
    (searched _ c.requires c.args.address.0 _ facts.bound (facts.position (λ (s : Spot). s.address.0) (answers_always _ _ _ (λ f a r g called. search rules)))).absent
