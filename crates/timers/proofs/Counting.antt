-- How many slots are set.
use Rattle.std.proofs.Common.{◌≡◌, ℕ, zero, suc, ◌+◌, ◌<◌, ◌≤◌, cond, Option, Some, None, is_some, List, [], ◌∷◌, length, get_or, refl, ap, arith}
use Rattle.std.proofs.Math.ListN.{set}
use Rattle.std.proofs.lemmas.List.{length-map}
use Rattle.std.proofs.lemmas.List.Sums.{sum_by-set, count_by-le-length}
use Rattle.timers.specs.Due.{set_count}
use Rattle.timers.specs.declared.links.Links.{Links}
use Rattle.timers.specs.Chains.{links_of, moments}

-- the moment of a slot by its number
pub moment_of : (links : List Links) (s : ℕ) → get_or (moments links) s None ≡ (links_of links s).due
moment_of [] s = refl
moment_of (l ∷ links) zero = refl
moment_of (l ∷ links) (suc s) = moment_of links s

one : Option ℕ → ℕ
one o = cond (is_some o) 1 0

pub count-set : (ms : List (Option ℕ)) (s due : ℕ) → s < length ms → get_or ms s None ≡ None → set_count (set ms s (Some due)) ≡ set_count ms + 1
count-set ms s due within unset =
    omega (arith, sum_by-set (λ o. cond (is_some o) 1 0) ms s (Some due) None within, ap (λ o. cond {A = ℕ} (is_some o) 1 0) unset)

pub count-clear : (ms : List (Option ℕ)) (s due : ℕ) → s < length ms → get_or ms s None ≡ Some due → set_count (set ms s None) + 1 ≡ set_count ms
count-clear ms s due within is_set =
    omega (arith, sum_by-set (λ o. cond (is_some o) 1 0) ms s None None within, ap (λ o. cond {A = ℕ} (is_some o) 1 0) is_set)

pub count-le : (links : List Links) → set_count (moments links) ≤ length links
count-le links = omega (arith, count_by-le-length is_some (moments links), length-map links (λ l. l.due))
