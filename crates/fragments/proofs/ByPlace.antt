-- A datagram by its place in the list, where it is the first of its name.
use Rattle.std.proofs.Common.{◌≡◌, ℕ, zero, suc, ◌<◌, Option, Some, List, [], ◌∷◌, ◌++◌, length, get_or, set, refl, ap, ◌∙◌, sym, arith}
use Rattle.std.specs.List.{find, position, remove}
use Rattle.fragments.specs.Gathered.{Datagram, arrived, effect_of, is_named, joined, with_fragments, without_first}
use Rattle.fragments.specs.Name.{name_of}
use Rattle.fragments.specs.Places.{added_at, fragments_at, joined_at, with_at}
use Rattle.fragments.proofs.Placing.{changed-at, first-at, found-at, removed-at}
use Rattle.fragments.specs.declared.names.Name.{Name}

-- its fragments
pub fragments-there : (at : ℕ) (ds : List Datagram) (d : Datagram) → at < length ds → fragments_at at ds ≡ (get_or ds at d).fragments
fragments-there at [] d within = absurd (omega arith)
fragments-there zero (x ∷ ds) d within = refl
fragments-there (suc at) (x ∷ ds) d within = fragments-there at ds d (omega arith)

abbrev pub with-one : List ℕ → Datagram → Datagram
with-one f d = record d { fragments = d.fragments ++ f ∷ [] }

-- one more of them
pub added-there : (at : ℕ) (f : List ℕ) (ds : List Datagram) (d : Datagram) → at < length ds → added_at at f ds ≡ set ds at (with-one f (get_or ds at d))
added-there at f [] d within = absurd (omega arith)
added-there zero f (x ∷ ds) d within = refl
added-there (suc at) f (x ∷ ds) d within = ap (λ (xs : List Datagram). x ∷ xs) (added-there at f ds d (omega arith))

-- the first of a name, by its place: taken out, given one more fragment, asked for
pub named-removed : (name : Name) (at : ℕ) (ds : List Datagram) (d : Datagram) → position (is_named name) ds ≡ Some at → without_first (is_named name) ds ≡ remove ds at
named-removed name at ds d is = removed-at (is_named name) ds at d (first-at (is_named name) ds at d is)

pub named-added : (name : Name) (at : ℕ) (f : List ℕ) (ds : List Datagram) (d : Datagram) → position (is_named name) ds ≡ Some at → with_fragments name (with_at at f ds) ds ≡ added_at at f ds
named-added name at f ds d is =
    let first = first-at (is_named name) ds at d is in
    let there : fragments_at at ds ≡ (get_or ds at d).fragments = fragments-there at ds d first.within in
    changed-at (is_named name) (λ (e : Datagram). record e { fragments = with_at at f ds }) ds at d first
    ∙ ap (λ (fs : List (List ℕ)). set ds at (record (get_or ds at d) { fragments = fs ++ f ∷ [] })) there
    ∙ sym (added-there at f ds d first.within)

pub named-arrived : (now at : ℕ) (f : List ℕ) (ds : List Datagram) (d : Datagram) → position (is_named (name_of f)) ds ≡ Some at → arrived now f (find (is_named (name_of f)) ds) ds ≡ joined_at at f ds
named-arrived now at f ds d is =
    let first = first-at (is_named (name_of f)) ds at d is in
    let there : fragments_at at ds ≡ (get_or ds at d).fragments = fragments-there at ds d first.within in
    ap (λ (o : Option Datagram). arrived now f o ds) (found-at (is_named (name_of f)) ds at d first)
    ∙ ap (λ (fs : List (List ℕ)). joined (effect_of fs f) (name_of f) (fs ++ f ∷ []) ds) (sym there)
