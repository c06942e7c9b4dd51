-- How many static neighbours are on a side.
use Rattle.std.proofs.Common.{◌≡◌, ℕ, ◌+◌, ◌<◌, true, cond, List, length, filter, count_by, get_or, take, ◌∙◌, arith}
use Rattle.std.proofs.lemmas.List.{length-map}
use Rattle.std.proofs.lemmas.List.Sums.{length-filter, count_by_more_yes, sum_by-take-le}
use Rattle.nat_types.specs.declared.gateways.Side.{Side}
use Rattle.settings.specs.declared.interfaces.Neighbour.{Neighbour as Set}
use Rattle.interfaces.specs.Stations.{fixed_of, fixed_on, is_on}

pub on-count : (side : Side) (set : List Set) → length (fixed_on side set) ≡ count_by (is_on side) set
on-count side set = length-map (filter (is_on side) set) fixed_of ∙ length-filter (is_on side) set

-- before a neighbour on a side there are fewer on that side than in all
pub on-room : (side : Side) (set : List Set) (i : ℕ) (d : Set) → i < length set → is_on side (get_or set i d) ≡ true
    → length (fixed_on side (take i set)) < length (fixed_on side set)
on-room side set i d within is =
    omega (arith, on-count side (take i set), on-count side set, count_by_more_yes (is_on side) set i d within is, sum_by-take-le (λ n. cond (is_on side n) 1 0) set (i + 1))
