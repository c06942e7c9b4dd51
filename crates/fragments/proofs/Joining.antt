-- What comes of a fragment beside those of the datagram at a place, by its effect.
use Rattle.std.proofs.Common.{◌≡◌, ◌≤◌, ◌<◌, ℕ, zero, suc, ◌+◌, false, Some, List, [], ◌∷◌, ◌++◌, length, get_or, ap, ◌∙◌, sym, subst, arith}
use Rattle.std.specs.List.{AllByRecursion, find, position, remove}
use Rattle.fragments.specs.Fragment.{IsFragment, is_broken}
use Rattle.fragments.specs.Gathered.{AreKept, Datagram, IsPartial, Taking, effect_of, is_named, joined, left_first}
use Rattle.fragments.specs.Name.{name_of}
use Rattle.fragments.specs.Places.{added_at, fragments_at, joined_at, with_at}
use Rattle.fragments.specs.Whole.{IsReady, reassembled, whole_length}
use Rattle.fragments.proofs.ByPlace.{fragments-there, named-added, named-removed}
use Rattle.fragments.proofs.Making.{length-whole, ready-there}
use Rattle.fragments.proofs.Placing.{first-at, found-at}
use Rattle.fragments.specs.declared.datagrams.Effect.{Effect}
use Rattle.fragments.specs.declared.datagrams.Effect.TheVariants.{Repeats, Contradicts, Waits, TooLong, Completes}

-- few fragments are there of each
pub few-there : (ds : List Datagram) (at : ℕ) → AllByRecursion IsPartial ds → at < length ds → length (fragments_at at ds) ≤ 64
few-there [] at all within = absurd (omega arith)
few-there (d ∷ ds) zero all within = all.0.few
few-there (d ∷ ds) (suc at) all within = few-there ds at all.1 (omega arith)

-- what comes of it, where its effect is known
pub joined-as : (at : ℕ) (f : List ℕ) (ds : List Datagram) (e : Effect) → effect_of (fragments_at at ds) f ≡ e → joined_at at f ds ≡ joined e (name_of f) (with_at at f ds) ds
joined-as at f ds e is = ap (λ (x : Effect). joined x (name_of f) (with_at at f ds) ds) is

-- what is there at first then
pub left-repeats : (at : ℕ) (f : List ℕ) (ds : List Datagram) → effect_of (fragments_at at ds) f ≡ Repeats → left_first (joined_at at f ds) ds ≡ ds
left-repeats at f ds is = ap (λ (t : Taking). left_first t ds) (joined-as at f ds Repeats is)

pub left-contradicts : (at : ℕ) (f : List ℕ) (ds : List Datagram) (d : Datagram) → position (is_named (name_of f)) ds ≡ Some at → effect_of (fragments_at at ds) f ≡ Contradicts → left_first (joined_at at f ds) ds ≡ remove ds at
left-contradicts at f ds d there is = ap (λ (t : Taking). left_first t ds) (joined-as at f ds Contradicts is) ∙ named-removed (name_of f) at ds d there

pub left-too_long : (at : ℕ) (f : List ℕ) (ds : List Datagram) (d : Datagram) → position (is_named (name_of f)) ds ≡ Some at → effect_of (fragments_at at ds) f ≡ TooLong → left_first (joined_at at f ds) ds ≡ remove ds at
left-too_long at f ds d there is = ap (λ (t : Taking). left_first t ds) (joined-as at f ds TooLong is) ∙ named-removed (name_of f) at ds d there

pub left-waits : (at : ℕ) (f : List ℕ) (ds : List Datagram) (d : Datagram) → position (is_named (name_of f)) ds ≡ Some at → effect_of (fragments_at at ds) f ≡ Waits → left_first (joined_at at f ds) ds ≡ added_at at f ds
left-waits at f ds d there is = ap (λ (t : Taking). left_first t ds) (joined-as at f ds Waits is) ∙ named-added (name_of f) at f ds d there

pub left-completes : (at : ℕ) (f : List ℕ) (ds : List Datagram) → effect_of (fragments_at at ds) f ≡ Completes → left_first (joined_at at f ds) ds ≡ ds
left-completes at f ds is = ap (λ (t : Taking). left_first t ds) (joined-as at f ds Completes is)

-- a whole frame can be made where it completes them, and how long that is
pub ready-at : (at : ℕ) (f : List ℕ) (ds : List Datagram) (x : Datagram) → IsFragment f → is_broken f ≡ false → AreKept ds → position (is_named (name_of f)) ds ≡ Some at → effect_of (fragments_at at ds) f ≡ Completes
    → IsReady (with_at at f ds) × (length (reassembled (with_at at f ds)) ≡ 14 + whole_length (with_at at f ds))
ready-at at f ds x is fine kept there effect =
    let first = first-at (is_named (name_of f)) ds at x there in
    let d : Datagram = get_or ds at x in
    let same : fragments_at at ds ≡ d.fragments = fragments-there at ds x first.within in
    let found : find (is_named (name_of f)) ds ≡ Some d = found-at (is_named (name_of f)) ds at x first in
    let known = ready-there f ds d is fine kept found (ap (λ (fs : List (List ℕ)). effect_of fs f) (sym same) ∙ effect) in
    subst (λ (fs : List (List ℕ)). IsReady (fs ++ f ∷ []) × (length (reassembled (fs ++ f ∷ [])) ≡ 14 + whole_length (fs ++ f ∷ []))) (sym same)
    (known.0, length-whole (name_of f) (d.fragments ++ f ∷ []) known.0 known.1)
