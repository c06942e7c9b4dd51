-- For callers: a fresh store of slots, and one that grows.
use Rattle.std.proofs.Common.{◌≡◌, ℕ, zero, suc, ◌+◌, ◌<◌, ◌^◌, cond, is_some, Option, None, List, [], ◌∷◌, ◌++◌, length, length-append, get_or, replicate, refl, sym, ap, ◌∙◌, arith}
use Rattle.std.specs.List.{All}
use Rattle.std.proofs.lemmas.List.Elements.{All-replicate}
use Rattle.std.proofs.lemmas.List.Sums.{sum_by-cons}
use Rattle.timers.specs.Due.{set_count}
use Rattle.timers.specs.declared.links.Links.{Links}
use Rattle.timers.specs.declared.wheel.Wheel.{Wheel}
use Rattle.timers.specs.Chains.{links_of, unset_links, stands, moments}
use Rattle.timers.specs.Linked.{IsLinked}
use Rattle.timers.proofs.Leading.{leads_same}

pub all_unset : (count : ℕ) → All (λ slot. slot ≡ unset_links) (replicate count unset_links)
all_unset count = All-replicate (λ slot. slot ≡ unset_links) count unset_links refl

-- slots that aren't set have no moments
pub unset_moments : (count : ℕ) → moments (replicate count unset_links) ≡ replicate {A = Option ℕ} count None
unset_moments zero = refl
unset_moments (suc count) = ap (λ ms. None ∷ ms) (unset_moments count)

same_links : (links : List Links) (s : ℕ) → links_of (links ++ unset_links ∷ []) s ≡ links_of links s
same_links [] zero = refl
same_links [] (suc s) = refl
same_links (l ∷ links) zero = refl
same_links (l ∷ links) (suc s) = same_links links s

same_count : (links : List Links) → set_count (moments (links ++ unset_links ∷ [])) ≡ set_count (moments links)
same_count [] = refl
same_count (l ∷ links) =
    omega (arith, sum_by-cons (λ o. cond (is_some o) 1 0) l.due (moments (links ++ unset_links ∷ [])), sum_by-cons (λ o. cond (is_some o) 1 0) l.due (moments links), same_count links)

-- a store that is linked is linked with one more slot, which isn't set
pub IsLinked-push : (wheel : Wheel) (links : List Links) → IsLinked wheel links → length links + 1 < 2 ^ 64 → IsLinked wheel (links ++ unset_links ∷ [])
IsLinked-push wheel links l room = record {
  heads = l.heads;
  count = l.count ∙ sym (same_count links);
  room = omega (arith, room, length-append links (unset_links ∷ []));
  cleared = λ s none. same_links links s ∙ l.cleared s (ap (λ x. x.due) (sym (same_links links s)) ∙ none);
  chains = l.chains;
  linked = record {
    led = λ chain. leads_same links (links ++ unset_links ∷ []) None (get_or wheel.heads.items chain None) (l.chains chain) (l.linked.led chain) (λ t _. same_links links t);
    once = λ chain s. l.linked.once chain s ∙ ap (λ x. cond {A = ℕ} (stands wheel.turns chain x.due) 1 0) (sym (same_links links s));
  };
}
