-- A wheel on which no slot is set.
use Rattle.std.proofs.Common.{◌≡◌, ℕ, suc, ◌<◌, ◌^◌, cond, is_some, Option, None, inl, inr, List, [], ◌∷◌, length, get_or, replicate, refl, sym, ap, ◌∙◌, arith}
use Rattle.std.specs.List.{All}
use Rattle.std.proofs.lemmas.Bool.{cases_lt}
use Rattle.std.proofs.lemmas.List.{get_or-replicate, get_or_past, length-replicate}
use Rattle.std.proofs.lemmas.List.Elements.{All-get_or}
use Rattle.std.proofs.lemmas.List.Sums.{sum_by-cons}
use Rattle.timers.specs.Due.{set_count}
use Rattle.timers.specs.declared.links.Links.{Links}
use Rattle.timers.specs.declared.wheel.Wheel.{Wheel}
use Rattle.timers.specs.Chains.{links_of, unset_links, stands, Leads, moments}
use Rattle.timers.specs.Linked.{IsLinked}

unset_each : (links : List Links) → All (λ slot. slot ≡ unset_links) links → (s : ℕ) → links_of links s ≡ unset_links
unset_each links unset s =
    elim (cases_lt s (length links)) [
      | inl within ↦ All-get_or (λ slot. slot ≡ unset_links) links s unset_links within unset
      | inr past ↦ get_or_past links s unset_links past
    ]

no_head : (heads : List (Option ℕ)) → heads ≡ replicate 1024 None → (chain : ℕ) → get_or heads chain None ≡ None
no_head heads is chain =
    elim (cases_lt chain 1024) [
      | inl within ↦ ap (λ hs. get_or hs chain None) is ∙ get_or-replicate 1024 chain None None within
      | inr past ↦ get_or_past heads chain None (omega (arith, ap length is, length-replicate {A = Option ℕ} 1024 None))
    ]

none_set : (links : List Links) → ((s : ℕ) → links_of links s ≡ unset_links) → set_count (moments links) ≡ 0
none_set [] unset = refl
none_set (l ∷ links) unset =
    let one : cond {A = ℕ} (is_some l.due) 1 0 ≡ 0 = ap (λ x. cond {A = ℕ} (is_some x.due) 1 0) (unset 0) in
    omega (arith, sum_by-cons (λ o. cond (is_some o) 1 0) l.due (moments links), one, none_set links (λ s. unset (suc s)))

pub fresh_linked : (wheel : Wheel) (links : List Links) → wheel.heads.items ≡ replicate 1024 None → wheel.turns ≡ 0 → wheel.count ≡ 0 → length links < 2 ^ 64 → All (λ slot. slot ≡ unset_links) links → IsLinked wheel links
unfolding Leads
fresh_linked wheel links heads turns count room unset = record {
  heads = ap length heads ∙ length-replicate {A = Option ℕ} 1024 None;
  count = count ∙ sym (none_set links (unset_each links unset));
  room = room;
  cleared = λ s _. unset_each links unset s;
  chains = λ _. [];
  linked = record {
    led = λ chain. no_head wheel.heads.items heads chain;
    once = λ chain s. ap (λ l. cond {A = ℕ} (stands wheel.turns chain l.due) 1 0) (sym (unset_each links unset s));
  };
}
