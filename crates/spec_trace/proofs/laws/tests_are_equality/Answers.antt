use Rattle.std.proofs.Common.{IsTrue, subst}
use Rattle.nat_types.specs.declared.pairs.Endpoint.{Endpoint}
use Rattle.nat_types.specs.declared.pairs.Key.{Key}
use Rattle.nat_types.specs.Same.{same_key, same_endpoint}
use Rattle.nat_types.proofs.Offered as laws
use Rattle.spec_trace.proofs.laws.tests_are_equality.Goals as goal

pub returns : goal.returns
returns c = record { key = λ a b. (laws.key-eq a b, λ e. subst (λ (x : Key). IsTrue (same_key a x)) e (laws.key-self a)); endpoint = λ a b. (laws.endpoint-eq a b, λ e. subst (λ (x : Endpoint). IsTrue (same_endpoint a x)) e (laws.endpoint-self a)); pair = λ a b. (laws.pair-eq a b, laws.pair-true a b) }
