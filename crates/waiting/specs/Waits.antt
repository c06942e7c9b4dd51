-- The things that packets wait for, and the ends of these waits.
use Rattle.std.specs.Prelude.{ℕ, Bool, true, false, ◌&&◌, ◌==◌}
use Rattle.nat_types.specs.Same.{same_endpoint}
use Rattle.nat_types.specs.declared.gateways.Side.{Side}
use Rattle.nat_types.specs.declared.gateways.Side.TheVariants.{Inside, Outside}
use Rattle.waiting.specs.declared.waits.WaitsFor.{WaitsFor}
use Rattle.waiting.specs.declared.waits.WaitsFor.TheVariants.{Pair, Hop}
use Rattle.waiting.specs.declared.waits.Ended.{Ended}
use Rattle.waiting.specs.declared.waits.Ended.TheVariants.{One, AllPairs}

abbrev pub same_side : Side → Side → Bool
same_side Inside Inside = true
same_side Inside Outside = false
same_side Outside Inside = false
same_side Outside Outside = true

abbrev pub is_for_pair : WaitsFor → Bool
is_for_pair (Pair endpoint) = true
is_for_pair (Hop side host) = false

-- whether a packet waits for the pair of an endpoint with this inside address
abbrev pub is_for_host : ℕ → WaitsFor → Bool
is_for_host address (Pair endpoint) = endpoint.address.0 == address
is_for_host address (Hop side host) = false

-- whether both wait for the pair of one endpoint, or for one host on one side
abbrev pub same_wait : WaitsFor → WaitsFor → Bool
same_wait (Pair a) (Pair b) = same_endpoint a b
same_wait (Pair a) (Hop t b) = false
same_wait (Hop s a) (Pair b) = false
same_wait (Hop s a) (Hop t b) = same_side s t && (a.0 == b.0)

-- whether a wait is among those that are over
abbrev pub ends : Ended → WaitsFor → Bool
ends (One ended) wait = same_wait ended wait
ends AllPairs wait = is_for_pair wait
