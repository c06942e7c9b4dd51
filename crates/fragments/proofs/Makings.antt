-- Whether a taking makes a whole frame, by what came of the fragment.
use Rattle.std.proofs.Common.{◌≡◌, ℕ, Bool, true, false, cond, Option, Some, None, List, [], ◌∷◌, ◌++◌, refl, sym, subst}
use Rattle.std.specs.List.{find}
use Rattle.fragments.specs.Fragment.{is_broken, trimmed}
use Rattle.fragments.specs.Gathered.{Datagram, Taking, arrived, effect_of, ended, is_named, joined, refused, taken, without_first}
use Rattle.fragments.specs.Name.{name_of}
use Rattle.fragments.specs.declared.datagrams.Effect.{Effect}
use Rattle.fragments.specs.declared.datagrams.Effect.TheVariants.{Repeats, Contradicts, Waits, TooLong, Completes}
use Rattle.fragments.specs.declared.gatherings.Came.{Came}
use Rattle.fragments.specs.declared.gatherings.Came.TheVariants.{Refused, Held, Whole}

abbrev Fits : Came → Option (List ℕ) → List Datagram → List Datagram → Type 0
Fits Refused None left end = Unit {0}
Fits Refused (Some whole) left end = ⊥
Fits Held None left end = Unit {0}
Fits Held (Some whole) left end = ⊥
Fits Whole None left end = ⊥
Fits Whole (Some whole) left end = left ≡ end

taken-fits : (now : ℕ) (frame : List ℕ) (datagrams : List Datagram) → Fits (taken now frame datagrams).came (taken now frame datagrams).made (taken now frame datagrams).left (ended frame datagrams)
unfolding taken ended
taken-fits now frame datagrams = by (is_broken (trimmed frame)) (find (is_named (name_of (trimmed frame))) datagrams)
  where
    fragment : List ℕ
    fragment = trimmed frame

    end : List Datagram
    end = without_first (is_named (name_of (trimmed frame))) datagrams

    joins : (x : Effect) (fs : List (List ℕ)) → (let t : Taking = joined x (name_of fragment) fs datagrams in Fits t.came t.made t.left end)
    joins Repeats fs = tt
    joins Contradicts fs = tt
    joins Waits fs = tt
    joins TooLong fs = tt
    joins Completes fs = refl

    by : (b : Bool) (o : Option Datagram) → (let t : Taking = cond b (refused None datagrams) (arrived now fragment o datagrams) in Fits t.came t.made t.left end)
    by true o = tt
    by false None = tt
    by false (Some d) = joins (effect_of d.fragments fragment) (d.fragments ++ fragment ∷ [])

fits-refused : (o : Option (List ℕ)) (left end : List Datagram) → Fits Refused o left end → o ≡ None
fits-refused None left end fits = refl
fits-refused (Some whole) left end fits = absurd fits

fits-held : (o : Option (List ℕ)) (left end : List Datagram) → Fits Held o left end → o ≡ None
fits-held None left end fits = refl
fits-held (Some whole) left end fits = absurd fits

-- a whole frame is made, and its fragments are gone
pub record Makes (now : ℕ) (frame : List ℕ) (datagrams : List Datagram) : Type 0 where
  pub whole : List ℕ
  pub made : (taken now frame datagrams).made ≡ Some whole
  pub left : (taken now frame datagrams).left ≡ ended frame datagrams

fits-whole : (now : ℕ) (frame : List ℕ) (datagrams : List Datagram) (o : Option (List ℕ)) → (taken now frame datagrams).made ≡ o → Fits Whole o (taken now frame datagrams).left (ended frame datagrams) → Makes now frame datagrams
fits-whole now frame datagrams None is fits = absurd fits
fits-whole now frame datagrams (Some whole) is fits = record { whole = whole; made = is; left = fits }

came-fits : (now : ℕ) (frame : List ℕ) (datagrams : List Datagram) (came : Came) → came ≡ (taken now frame datagrams).came → Fits came (taken now frame datagrams).made (taken now frame datagrams).left (ended frame datagrams)
came-fits now frame datagrams came is =
    let t : Taking = taken now frame datagrams in
    subst (λ (c : Came). Fits c t.made t.left (ended frame datagrams)) (sym is) (taken-fits now frame datagrams)

pub refused-none : (now : ℕ) (frame : List ℕ) (datagrams : List Datagram) → Refused ≡ (taken now frame datagrams).came → (taken now frame datagrams).made ≡ None
refused-none now frame datagrams is =
    fits-refused (taken now frame datagrams).made (taken now frame datagrams).left (ended frame datagrams) (came-fits now frame datagrams Refused is)

pub held-none : (now : ℕ) (frame : List ℕ) (datagrams : List Datagram) → Held ≡ (taken now frame datagrams).came → (taken now frame datagrams).made ≡ None
held-none now frame datagrams is =
    fits-held (taken now frame datagrams).made (taken now frame datagrams).left (ended frame datagrams) (came-fits now frame datagrams Held is)

pub whole-makes : (now : ℕ) (frame : List ℕ) (datagrams : List Datagram) → Whole ≡ (taken now frame datagrams).came → Makes now frame datagrams
whole-makes now frame datagrams is = fits-whole now frame datagrams (taken now frame datagrams).made refl (came-fits now frame datagrams Whole is)
