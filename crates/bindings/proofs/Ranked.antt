-- The ranks of pairs, by their states.
use Rattle.std.proofs.Common.{◌≡◌, Bool, true, false, not, ◌&&◌, Option, Some, None, refl, ap, sym, ◌∙◌}
use Rattle.std.specs.Option.{is_some, option_or}
use Rattle.nat_types.specs.declared.pairs.EntryState.{EntryState}
use Rattle.nat_types.specs.declared.pairs.EntryState.TheVariants.{Pending, Doomed, Live, Closing, Alone, Held}
use Rattle.slots.specs.declared.ranks.Rank.{Rank}
use Rattle.slots.specs.declared.ranks.Rank.TheVariants.{First, Second}
use Rattle.slots.specs.Ranks.{same_rank}
use Rattle.bindings.specs.Entries.{rank_of, has_rank, is_of_rank, is_pair, with_mark}

same-self : (rank : Rank) → same_rank rank rank ≡ true
same-self First = refl
same-self Second = refl

same-eq : (a b : Rank) → same_rank a b ≡ true → a ≡ b
same-eq First First h = refl
same-eq First Second h = absurd (cc)
same-eq Second First h = absurd (cc)
same-eq Second Second h = refl

-- a state has a rank exactly where it is that of a pair
pub pair-is : (s : EntryState) → is_pair s ≡ is_some (rank_of s)
pair-is (Pending marked) = refl
pair-is Doomed = refl
pair-is Live = refl
pair-is (Closing marked) = refl
pair-is Alone = refl
pair-is Held = refl

-- a state of this rank is of the rank, and the other way round
pub rank-is : (s : EntryState) (rank : Rank) → rank_of s ≡ Some rank → is_of_rank rank s ≡ true
rank-is s rank h = ap (λ o. has_rank o rank) h ∙ same-self rank

pub is-rank : (s : EntryState) (rank : Rank) → is_of_rank rank s ≡ true → rank_of s ≡ Some rank
is-rank s rank h = by (rank_of s) refl h
  where
    by : (o : Option Rank) → rank_of s ≡ o → has_rank o rank ≡ true → rank_of s ≡ Some rank
    by None e h = absurd (cc)
    by (Some r) e h = e ∙ ap Some (same-eq r rank h)

-- a state of a rank is that of a pair
pub rank-pair : (s : EntryState) (rank : Rank) → is_of_rank rank s ≡ true → is_pair s ≡ true
rank-pair s rank h = pair-is s ∙ ap is_some (is-rank s rank h)

-- a pair's state is of some rank
pub pair-rank : (s : EntryState) → is_pair s ≡ true → (rank : Rank) × (is_of_rank rank s ≡ true)
pair-rank s h = by (rank_of s) refl
  where
    by : (o : Option Rank) → rank_of s ≡ o → (rank : Rank) × (is_of_rank rank s ≡ true)
    by None e = (let no : false ≡ true = sym (pair-is s ∙ ap is_some e) ∙ h in absurd (cc))
    by (Some rank) e = (rank, rank-is s rank e)

-- a state of a rank is of no other
pub one-rank : (s : EntryState) (a b : Rank) → is_of_rank a s ≡ true → is_of_rank b s ≡ true → a ≡ b
one-rank s a b h g = (let both : Some a ≡ Some b = sym (is-rank s a h) ∙ is-rank s b g in cc)

-- where a state of a rank is left for one of no other rank, the new one is of that rank where it is that of a pair
pub stays-ranked : (s t : EntryState) (rank : Rank) → is_of_rank rank s ≡ true → ((r : Rank) → is_of_rank r t ≡ true → is_of_rank r s ≡ true) → is_pair t ≡ is_of_rank rank t
stays-ranked s t rank h back = by (rank_of t) refl
  where
    by : (o : Option Rank) → rank_of t ≡ o → is_pair t ≡ is_of_rank rank t
    by None e = pair-is t ∙ ap is_some e ∙ sym (ap (λ o. has_rank o rank) e)
    by (Some r) e =
        let same : r ≡ rank = one-rank s r rank (back r (rank-is t r e)) h in
        pair-is t ∙ ap is_some e ∙ sym (rank-is t rank (e ∙ ap Some same))

-- a mark leaves the rank
pub mark-rank : (s : EntryState) → rank_of (with_mark s) ≡ rank_of s
mark-rank (Pending marked) = refl
mark-rank Doomed = refl
mark-rank Live = refl
mark-rank (Closing marked) = refl
mark-rank Alone = refl
mark-rank Held = refl

-- a choice that is None has neither part
pub neither : {X : Type 0} (a b : Option X) → option_or a b ≡ None → (a ≡ None) × (b ≡ None)
neither None b h = (refl, h)
neither (Some x) b h = absurd (cc)

-- what a state of no pair leaves out of a rank
pub leaves-same : (s t : EntryState) (rank : Rank) (b : Bool) → ((r : Rank) → is_of_rank r t ≡ true → is_of_rank r s ≡ true)
    → ((is_of_rank rank s && b) && not (is_pair t)) ≡ ((is_of_rank rank s && b) && not (is_of_rank rank t))
leaves-same s t rank b back = by (is_of_rank rank s) refl
  where
    by : (a : Bool) → is_of_rank rank s ≡ a → ((a && b) && not (is_pair t)) ≡ ((a && b) && not (is_of_rank rank t))
    by true h = ap (λ c. b && not c) (stays-ranked s t rank h back)
    by false h = refl
