-- A wheel after a slot was put into its chain, or removed from it.
use Rattle.std.proofs.Common.{◌≡◌, ℕ, ◌+◌, ◌-◌, ◌<◌, cond, is_some, Option, Some, None, List, length, get_or, refl, sym, ap, ◌∙◌, subst, arith}
use Rattle.std.proofs.Math.ListN.{set}
use Rattle.std.proofs.lemmas.List.{length-set, length-map}
use Rattle.timers.specs.Due.{set_count}
use Rattle.timers.specs.declared.links.Links.{Links}
use Rattle.timers.specs.declared.wheel.Wheel.{Wheel}
use Rattle.timers.specs.Chains.{links_of, chain_of, AreChains, AreCleared, moments}
use Rattle.timers.specs.Steps.{without, with_head}
use Rattle.timers.specs.Linked.{IsLinked}
use Rattle.timers.proofs.Counting.{moment_of, count-set, count-clear}
use Rattle.timers.proofs.Linking.{put_before, put_in, put-chains, put-cleared, length-put_before, moments-put_before}
use Rattle.timers.proofs.Unlinking.{unlinked, unlinked-chains, unlinked-cleared, length-unlinked, moments-unlinked}

pub chain_within : (turns due : ℕ) → chain_of turns due < 1024
chain_within turns due = omega arith

-- the chains are those of equal heads, turns and links
move_chains : (heads new : List (Option ℕ)) (turns later : ℕ) (links after : List Links) (chains : ℕ → List ℕ) → new ≡ heads → later ≡ turns → after ≡ links → AreChains heads turns links chains → AreChains new later after chains
move_chains heads new turns later links after chains e f h a =
    let P : List (Option ℕ) → Type 0 = λ hs. AreChains hs later after chains in
    let Q : ℕ → Type 0 = λ n. AreChains heads n after chains in
    let R : List Links → Type 0 = λ ls. AreChains heads turns ls chains in
    subst P (sym e) (subst Q (sym f) (subst R (sym h) a))

move_cleared : (links after : List Links) → after ≡ links → AreCleared links → AreCleared after
move_cleared links after e h =
    let P : List Links → Type 0 = λ ls. AreCleared ls in
    subst P (sym e) h

pub put-linked : (old new : Wheel) (links after : List Links) (s due chain : ℕ) (at : Option ℕ) → IsLinked old links → (links_of links s).due ≡ None → s < length links → chain ≡ chain_of old.turns due → at ≡ get_or old.heads.items chain None → new.heads.items ≡ set old.heads.items chain (Some s) → new.turns ≡ old.turns → new.count ≡ old.count + 1 → after ≡ put_before links at s due → IsLinked new after
put-linked old new links after s due chain at l unset within own first heads turns count is =
    let hs = old.heads.items in
    let same_at : at ≡ get_or hs (chain_of old.turns due) None = first ∙ ap (λ k. get_or hs k None) own in
    let list : after ≡ put_before links (get_or hs (chain_of old.turns due) None) s due = is ∙ ap (λ o. put_before links o s due) same_at in
    let inside : chain_of old.turns due < length hs = omega (arith, chain_within old.turns due, l.heads) in
    let sized : s < length (moments links) = omega (arith, length-map links (λ x. x.due)) in
    let more : set_count (moments after) ≡ set_count (moments links) + 1 = ap (λ ls. set_count (moments ls)) is ∙ ap set_count (moments-put_before links at s due) ∙ count-set (moments links) s due sized (moment_of links s ∙ unset) in
    record {
      heads = ap length heads ∙ length-set hs chain (Some s) ∙ l.heads;
      count = count ∙ ap (λ n. n + 1) l.count ∙ sym more;
      room = omega (arith, ap length is, length-put_before links at s due, l.room);
      cleared = move_cleared (put_before links (get_or hs (chain_of old.turns due) None) s due) after list (put-cleared hs old.turns links l.chains l.linked l.cleared (chain_of old.turns due) s due within);
      chains = put_in l.chains (chain_of old.turns due) s;
      linked = move_chains (set hs (chain_of old.turns due) (Some s)) new.heads.items old.turns new.turns (put_before links (get_or hs (chain_of old.turns due) None) s due) after (put_in l.chains (chain_of old.turns due) s) (heads ∙ ap (λ k. set hs k (Some s)) own) turns list (put-chains hs old.turns links l.chains l.linked s due unset within inside);
    }

pub unlinked-again : (heads new : List (Option ℕ)) (turns later : ℕ) (links after : List Links) (chains : ℕ → List ℕ) (s due chain : ℕ) → AreChains heads turns links chains → (links_of links s).due ≡ Some due → s < length links → length heads ≡ 1024 → chain ≡ chain_of turns due → new ≡ with_head heads chain (links_of links s) → later ≡ turns → after ≡ unlinked links s → AreChains new later after (λ c. without s (chains c))
unlinked-again heads new turns later links after chains s due chain a is_set within sized own front turned is =
    move_chains (with_head heads (chain_of turns due) (links_of links s)) new turns later (unlinked links s) after (λ c. without s (chains c)) (front ∙ ap (λ k. with_head heads k (links_of links s)) own) turned is (unlinked-chains heads turns links chains a s due is_set within (omega (arith, chain_within turns due)))

one_or_other : (o : Option ℕ) (heads : List (Option ℕ)) (chain : ℕ) (to : Option ℕ) → length (cond (is_some o) heads (set heads chain to)) ≡ length heads
one_or_other None heads chain to = length-set heads chain to
one_or_other (Some u) heads chain to = refl

length-with_head : (heads : List (Option ℕ)) (chain : ℕ) (l : Links) → length (with_head heads chain l) ≡ length heads
length-with_head heads chain l = one_or_other l.previous heads chain l.next

pub count_falls : (links : List Links) (s due count : ℕ) → (links_of links s).due ≡ Some due → s < length links → count ≡ set_count (moments links) → set_count (set (moments links) s None) + 1 ≡ count
count_falls links s due count is_set within is =
    count-clear (moments links) s due (omega (arith, length-map links (λ x. x.due))) (moment_of links s ∙ is_set) ∙ sym is

pub unlinked-linked : (old new : Wheel) (links after : List Links) (s due chain : ℕ) → IsLinked old links → (links_of links s).due ≡ Some due → s < length links → chain ≡ chain_of old.turns due → new.heads.items ≡ with_head old.heads.items chain (links_of links s) → new.turns ≡ old.turns → new.count ≡ old.count - 1 → after ≡ unlinked links s → IsLinked new after
unlinked-linked old new links after s due chain l is_set within own front turned count is =
    let fell = count_falls links s due old.count is_set within l.count in
    record {
      heads = ap length front ∙ length-with_head old.heads.items chain (links_of links s) ∙ l.heads;
      count = omega (arith, fell, count, ap (λ ls. set_count (moments ls)) is, ap set_count (moments-unlinked links s));
      room = omega (arith, ap length is, length-unlinked links s, l.room);
      cleared = move_cleared (unlinked links s) after is (unlinked-cleared old.heads.items old.turns links l.chains l.linked l.cleared s due is_set within);
      chains = λ c. without s (l.chains c);
      linked = unlinked-again old.heads.items new.heads.items old.turns new.turns links after l.chains s due chain l.linked is_set within l.heads own front turned is;
    }
