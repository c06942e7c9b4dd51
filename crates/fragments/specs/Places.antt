-- Datagrams by their place in the list.
use Rattle.std.specs.Prelude.{ℕ, zero, suc, List, [], ◌∷◌, ◌++◌}
use Rattle.fragments.specs.Gathered.{Datagram, Taking, effect_of, joined}
use Rattle.fragments.specs.Name.{name_of}

-- the fragments of the datagram at a place
abbrev pub fragments_at : ℕ → List Datagram → List (List ℕ)
fragments_at at [] = []
fragments_at zero (d ∷ datagrams) = d.fragments
fragments_at (suc at) (d ∷ datagrams) = fragments_at at datagrams

-- those, and a further one
abbrev pub with_at : ℕ → List ℕ → List Datagram → List (List ℕ)
with_at at fragment datagrams = fragments_at at datagrams ++ fragment ∷ []

-- the datagrams after a fragment was put behind those of the datagram at a place
abbrev pub added_at : ℕ → List ℕ → List Datagram → List Datagram
added_at at fragment [] = []
added_at zero fragment (d ∷ datagrams) =
    record d { fragments = d.fragments ++ fragment ∷ [] } ∷ datagrams
added_at (suc at) fragment (d ∷ datagrams) = d ∷ added_at at fragment datagrams

-- what comes of a fragment beside those of the datagram at a place
abbrev pub joined_at : ℕ → List ℕ → List Datagram → Taking
joined_at at fragment datagrams =
    joined (effect_of (fragments_at at datagrams) fragment) (name_of fragment)
    (with_at at fragment datagrams) datagrams
