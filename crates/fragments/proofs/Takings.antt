-- What comes of a fragment, by what a call answered.
use Rattle.std.proofs.Common.{◌≡◌, ◌⊎◌, inr, ◌≤◌, ◌+◌, ℕ, Bool, false, cond, Option, Some, None, unwrap_or, Result, Ok, Err, OnOk, OnErr, List, [], length, ap, ◌∙◌, sym, subst}
use Rattle.std.specs.List.{find, position}
use Rattle.fragments.specs.Fragment.{IsFragment, is_broken, trimmed}
use Rattle.fragments.specs.Gathered.{AreKept, Datagram, Taking, arrived, begun, effect_of, held, is_named, left_first, lost_for, refused, taken}
use Rattle.fragments.specs.Memory.{LacksCopy, LacksUpTo, LacksWhole}
use Rattle.fragments.specs.Name.{name_of}
use Rattle.fragments.specs.Places.{fragments_at, joined_at, with_at}
use Rattle.fragments.specs.Whole.{reassembled, whole_length}
use Rattle.fragments.proofs.ByPlace.{named-arrived}
use Rattle.fragments.proofs.Joining.{joined-as, ready-at}
use Rattle.fragments.proofs.Making.{kept-joined, most-joined}
use Rattle.fragments.proofs.Placing.{none-found}
use Rattle.fragments.specs.declared.datagrams.Effect.TheVariants.{Completes}
use Rattle.fragments.specs.declared.gatherings.Came.{Came}
use Rattle.fragments.specs.declared.gatherings.Came.TheVariants.{Refused, Held, Whole}

pub on_err : {T E P : Type 0} (r : Result T E) → P → OnErr r P
on_err (Ok x) p = tt
on_err (Err e) p = p

taken-of : (now : ℕ) (frame f : List ℕ) (ds : List Datagram) → f ≡ trimmed frame → is_broken f ≡ false → taken now frame ds ≡ arrived now f (find (is_named (name_of f)) ds) ds
unfolding taken
taken-of now frame f ds is fine =
    ap (λ (x : List ℕ). cond (is_broken x) (refused None ds) (arrived now x (find (is_named (name_of x)) ds) ds)) (sym is)
    ∙ ap (λ (b : Bool). cond b (refused None ds) (arrived now f (find (is_named (name_of f)) ds) ds)) fine

pub taken-some : (now at : ℕ) (frame f : List ℕ) (ds : List Datagram) → f ≡ trimmed frame → is_broken f ≡ false → position (is_named (name_of f)) ds ≡ Some at → joined_at at f ds ≡ taken now frame ds
taken-some now at frame f ds is fine there =
    let d : Datagram = record { name = name_of f; since = 0; fragments = [] } in
    sym (taken-of now frame f ds is fine ∙ named-arrived now at f ds d there)

pub taken-none : (now : ℕ) (frame f : List ℕ) (ds : List Datagram) → f ≡ trimmed frame → is_broken f ≡ false → position (is_named (name_of f)) ds ≡ None → held (lost_for (name_of f).source.0 ds) (begun now f ds) ≡ taken now frame ds
taken-none now frame f ds is fine none =
    sym (taken-of now frame f ds is fine ∙ ap (λ (o : Option Datagram). arrived now f o ds) (none-found (is_named (name_of f)) ds none))

-- what a call lacks that makes a whole frame
pub lacks-join : (at : ℕ) (f : List ℕ) (ds : List Datagram) → IsFragment f → is_broken f ≡ false → AreKept ds → position (is_named (name_of f)) ds ≡ Some at → effect_of (fragments_at at ds) f ≡ Completes
    → LacksUpTo (14 + whole_length (with_at at f ds)) → LacksCopy f ⊎ LacksWhole (joined_at at f ds).made
lacks-join at f ds is fine kept there effect whole =
    let d : Datagram = record { name = name_of f; since = 0; fragments = [] } in
    let long = (ready-at at f ds d is fine kept there effect).1 in
    let made : (joined_at at f ds).made ≡ Some (reassembled (with_at at f ds)) = ap (λ (t : Taking). t.made) (joined-as at f ds Completes effect) in
    inr (subst LacksWhole (sym made) (subst LacksUpTo (sym long) whole))

-- what is kept after a call, whatever it answers
pub kept-either : {T E : Type 0} (r : Result T E) (now : ℕ) (frame : List ℕ) (ds ds2 : List Datagram) (w w2 : List ℕ) → IsFragment frame → AreKept ds → length w ≤ 65549
    → OnOk r (ds2 ≡ left_first (taken now frame ds) ds) → OnErr r (ds2 ≡ ds) → OnOk r (w2 ≡ unwrap_or (taken now frame ds).made w) → OnErr r (w2 ≡ w) → AreKept ds2 × (length w2 ≤ 65549)
kept-either (Ok x) now frame ds ds2 w w2 is kept short left err whole err_whole = (
  subst AreKept (sym left) (kept-joined now frame ds is kept),
  subst (λ (v : List ℕ). length v ≤ 65549) (sym whole) (most-joined now frame w ds is kept short),
)
kept-either (Err e) now frame ds ds2 w w2 is kept short left err whole err_whole = (
  subst AreKept (sym err) kept,
  subst (λ (v : List ℕ). length v ≤ 65549) (sym err_whole) short,
)

pub refused-other : (came : Came) → came ≡ Refused → came ≡ Whole → ⊥
refused-other came is whole = cc

pub held-other : (came : Came) → came ≡ Held → came ≡ Whole → ⊥
held-other came is whole = cc
