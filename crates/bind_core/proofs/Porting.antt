-- Ports that are given away or gained one by one.
use Rattle.std.proofs.Common.{◌≡◌, ℕ, zero, suc, ◌+◌, ◌<◌, Bool, true, false, cond, ◌||◌, ◌==◌, not, inl, inr, List, [], ◌∷◌, ◌++◌, length, get_or, map, take, refl, sym, ap, subst, ◌∙◌, arith}
use Rattle.std.proofs.lemmas.Bool.{cases_eq, eq-eqb, ne_eqb, or_left, or_right, and_parts}
use Rattle.bindings.specs.declared.entries.Entry.{Entry}
use Rattle.bindings.specs.Ports.{is_vacant, is_spare}
use Rattle.bindings.specs.Table.{Table}
use Rattle.std.proofs.lemmas.List.{take_more}
use Rattle.std.proofs.lemmas.List.Folds.{list_any-append}
use Rattle.addresses.specs.declared.transport.Port.{Port}
use Rattle.nat_types.specs.Granted.{Granted}
use Rattle.spec_binding.specs.declared.changes.Change.TheVariants.{Gain}
use Rattle.port_range.specs.Ports.{is_listed}
use Rattle.bindings.specs.Runs.{without_port, own_in}
use Rattle.spec_binding.specs.Books.{Book}
use Rattle.bind_core.specs.Changes.{table_book, table_after, IsBetween}
use Rattle.bind_core.specs.declared.deeds.Bounds.{Bounds}
use Rattle.spec_binding.specs.Rows.{without_ports, with_gained, is_gained, numbers_of}

map-append : (xs ys : List Port) → map (λ (p : Port). p.0) (xs ++ ys) ≡ map (λ (p : Port). p.0) xs ++ map (λ (p : Port). p.0) ys
map-append [] ys = refl
map-append (x ∷ xs) ys = ap (λ (z : List ℕ). x.0 ∷ z) (map-append xs ys)

-- the numbers of the first i + 1 ports are those of the first i and the next
pub one-more : (ports : List Port) (i : ℕ) (d : Port) → i < length ports → map (λ (p : Port). p.0) (take (i + 1) ports) ≡ map (λ (p : Port). p.0) (take i ports) ++ (get_or ports i d).0 ∷ []
one-more ports i d h = ap (map (λ (p : Port). p.0)) (take_more ports i d h) ∙ map-append (take i ports) (get_or ports i d ∷ [])

-- ---- given away

turned : (a b : ℕ) → (a == b) ≡ (b == a)
turned a b =
    elim (cases_eq a b) [
      | inl same ↦ eq-eqb a b same ∙ sym (eq-eqb b a (sym same))
      | inr other ↦ ne_eqb a b other ∙ sym (ne_eqb b a (λ e. other (sym e)))
    ]

without-more : (ps : List ℕ) (p : ℕ) (owned : List ℕ) → without_ports (ps ++ p ∷ []) owned ≡ without_port p (without_ports ps owned)
without-more ps p [] = refl
without-more ps p (q ∷ qs) =
    ap (λ (b : Bool). cond (not b) (q ∷ without_ports (ps ++ p ∷ []) qs) (without_ports (ps ++ p ∷ []) qs)) (list_any-append (λ x. x == q) ps (p ∷ []))
    ∙ ap (λ (z : List ℕ). cond (not (is_listed q ps || ((p == q) || false))) (q ∷ z) z) (without-more ps p qs)
    ∙ ap (λ (b : Bool). cond (not (is_listed q ps || (b || false))) (q ∷ without_port p (without_ports ps qs)) (without_port p (without_ports ps qs))) (turned p q)
    ∙ at (is_listed q ps) (q == p) refl
  where
    at : (a b : Bool) → (q == p) ≡ b → cond (not (a || (b || false))) (q ∷ without_port p (without_ports ps qs)) (without_port p (without_ports ps qs)) ≡ without_port p (cond (not a) (q ∷ without_ports ps qs) (without_ports ps qs))
    at true b is = refl
    at false true is = sym (ap (λ (b : Bool). cond (not b) (q ∷ without_port p (without_ports ps qs)) (without_port p (without_ports ps qs))) is)
    at false false is = sym (ap (λ (b : Bool). cond (not b) (q ∷ without_port p (without_ports ps qs)) (without_port p (without_ports ps qs))) is)

listed-at : (ports : List Port) (i : ℕ) (d : Port) → i < length ports → is_listed (get_or ports i d).0 (map (λ (p : Port). p.0) ports) ≡ true
listed-at [] i d h = absurd (omega (arith, h))
listed-at (x ∷ xs) zero d h = or_left (x.0 == x.0) (is_listed x.0 (map (λ (p : Port). p.0) xs)) (eq-eqb x.0 x.0 refl)
listed-at (x ∷ xs) (suc i) d h = or_right (x.0 == (get_or xs i d).0) (is_listed (get_or xs i d).0 (map (λ (p : Port). p.0) xs)) (listed-at xs i d (omega arith))

pub without-none : (owned : List ℕ) → without_ports [] owned ≡ owned
without-none [] = refl
without-none (q ∷ qs) = ap (λ (z : List ℕ). q ∷ z) (without-none qs)

pub without-absent : (p : ℕ) (owned : List ℕ) → is_listed p owned ≡ false → without_port p owned ≡ owned
without-absent p [] h = refl
without-absent p (q ∷ qs) h = at (q == p) h (without-absent p qs)
  where
    at : (b : Bool) → (b || is_listed p qs) ≡ false → (is_listed p qs ≡ false → without_port p qs ≡ qs) → cond (not b) (q ∷ without_port p qs) (without_port p qs) ≡ q ∷ qs
    at true h ih = cc
    at false h ih = ap (λ (z : List ℕ). q ∷ z) (ih h)

given-more : (ports : List Port) (i : ℕ) (d : Port) (owned : List ℕ) → i < length ports → without_ports (map (λ (p : Port). p.0) (take (i + 1) ports)) owned ≡ without_port (get_or ports i d).0 (without_ports (map (λ (p : Port). p.0) (take i ports)) owned)
given-more ports i d owned h = ap (λ (z : List ℕ). without_ports z owned) (one-more ports i d h) ∙ without-more (map (λ (p : Port). p.0) (take i ports)) (get_or ports i d).0 owned

given-step : (ports items : List Port) (i : ℕ) (d : Port) (owned : List ℕ) → items ≡ ports → i < length items → without_ports (map (λ (p : Port). p.0) (take (i + 1) ports)) owned ≡ without_port (get_or items i d).0 (without_ports (map (λ (p : Port). p.0) (take i ports)) owned)
given-step ports items i d owned same h = subst (λ (z : List Port). without_ports (map (λ (p : Port). p.0) (take (i + 1) z)) owned ≡ without_port (get_or items i d).0 (without_ports (map (λ (p : Port). p.0) (take i z)) owned)) same (given-more items i d owned h)

spare-vacant : (es : List Entry) (owned : List ℕ) (port : ℕ) → is_spare es owned port ≡ true → is_vacant es port ≡ true
spare-vacant es owned port h = (and_parts (is_listed port owned) (is_vacant es port) h).1

pub given-vacant : (ports items : List Port) (i : ℕ) (d : Port) (es : List Entry) (owned : List ℕ) → items ≡ ports → i < length items → ((port : ℕ) → is_listed port (map (λ (p : Port). p.0) ports) ≡ true → is_spare es owned port ≡ true) → is_vacant es (get_or items i d).0 ≡ true
given-vacant ports items i d es owned same h spare =
    spare-vacant es owned (get_or items i d).0 (spare (get_or items i d).0 (subst (λ (z : List Port). is_listed (get_or items i d).0 (map (λ (p : Port). p.0) z) ≡ true) same (listed-at items i d h)))

pub still-vacant : (t t0 : Table) (given : List ℕ) (port : ℕ) → t ≡ record t0 { owned = given } → is_vacant t0.entries port ≡ true → is_vacant t.entries port ≡ true
still-vacant t t0 given port same h = subst (λ (z : Table). is_vacant z.entries port ≡ true) (sym same) h

pub given-next : (t t0 t2 : Table) (ports items : List Port) (i : ℕ) (d : Port) → items ≡ ports → i < length items
    → t ≡ record t0 { owned = without_ports (map (λ (p : Port). p.0) (take i ports)) t0.owned }
    → t2 ≡ record t { owned = without_port (get_or items i d).0 t.owned }
    → t2 ≡ record t0 { owned = without_ports (map (λ (p : Port). p.0) (take (i + 1) ports)) t0.owned }
given-next t t0 t2 ports items i d same h was is =
    is ∙ ap (λ (u : Table). let v : Table = record u { owned = without_port (get_or items i d).0 u.owned } in v) was
    ∙ ap (λ (z : List ℕ). let v : Table = record t0 { owned = z } in v) (sym (given-step ports items i d t0.owned same h))

-- ---- gained

gained-append : (xs ys : List ℕ) (b : Book) → with_gained b (xs ++ ys) ≡ with_gained (with_gained b xs) ys
gained-append [] ys b = refl
gained-append (x ∷ xs) ys b = gained-append xs ys (cond (is_gained b x) (record b { owned = own_in x b.owned }) b)

gained-more : (ports : List Port) (i : ℕ) (d : Port) (b : Book) → i < length ports → with_gained b (map (λ (p : Port). p.0) (take (i + 1) ports)) ≡ with_gained (with_gained b (map (λ (p : Port). p.0) (take i ports))) ((get_or ports i d).0 ∷ [])
gained-more ports i d b h = ap (with_gained b) (one-more ports i d h) ∙ gained-append (map (λ (p : Port). p.0) (take i ports)) ((get_or ports i d).0 ∷ []) b

gained-step : (ports items : List Port) (i : ℕ) (d : Port) (b : Book) → items ≡ ports → i < length items → with_gained b (map (λ (p : Port). p.0) (take (i + 1) ports)) ≡ with_gained (with_gained b (map (λ (p : Port). p.0) (take i ports))) ((get_or items i d).0 ∷ [])
gained-step ports items i d b same h = subst (λ (z : List Port). with_gained b (map (λ (p : Port). p.0) (take (i + 1) z)) ≡ with_gained (with_gained b (map (λ (p : Port). p.0) (take i z))) ((get_or items i d).0 ∷ [])) same (gained-more items i d b h)

-- gaining ports changes the owned ports alone
pub gained-rest : (b : Book) (xs : List ℕ) → with_gained b xs ≡ record b { owned = (with_gained b xs).owned }
gained-rest b [] = refl
gained-rest b (x ∷ xs) = at (is_gained b x) (gained-rest (record b { owned = own_in x b.owned }) xs) (gained-rest b xs)
  where
    at : (g : Bool) → with_gained (record b { owned = own_in x b.owned }) xs ≡ record b { owned = (with_gained (record b { owned = own_in x b.owned }) xs).owned } → with_gained b xs ≡ record b { owned = (with_gained b xs).owned }
        → with_gained (cond g (record b { owned = own_in x b.owned }) b) xs ≡ record b { owned = (with_gained (cond g (record b { owned = own_in x b.owned }) b) xs).owned }
    at true more same = more
    at false more same = same

pub gained-next : (t t0 t2 : Table) (ports items : List Port) (i : ℕ) (d : Port) → items ≡ ports → i < length items
    → t ≡ record t0 { owned = (with_gained (table_book t0) (map (λ (p : Port). p.0) (take i ports))).owned }
    → t2 ≡ record t { owned = (with_gained (table_book t) ((get_or items i d).0 ∷ [])).owned }
    → t2 ≡ record t0 { owned = (with_gained (table_book t0) (map (λ (p : Port). p.0) (take (i + 1) ports))).owned }
gained-next t t0 t2 ports items i d same h was is =
    is
    ∙ ap (λ (u : Table). let v : Table = record u { owned = (with_gained (table_book u) ((get_or items i d).0 ∷ [])).owned } in v) was
    ∙ ap (λ (b : Book). let v : Table = record t0 { owned = (with_gained b ((get_or items i d).0 ∷ [])).owned } in v) (sym (gained-rest (table_book t0) (map (λ (p : Port). p.0) (take i ports))))
    ∙ ap (λ (b : Book). let v : Table = record t0 { owned = b.owned } in v) (sym (gained-step ports items i d (table_book t0) same h))

pub gained-between : (t t0 : Table) (owned : List ℕ) (bounds : Bounds) → t ≡ record t0 { owned = owned } → IsBetween t0 bounds → IsBetween t bounds
gained-between t t0 owned bounds same is = record { zero = ap (λ (z : Table). z.zero) same ∙ is.zero; one = ap (λ (z : Table). z.one) same ∙ is.one }

pub gained-table : (now : ℕ) (t : Table) (g : Granted) → record t { owned = (with_gained (table_book t) (numbers_of g)).owned } ≡ table_after now (Gain g) t
gained-table now t g = ap (λ (b : Book). let u : Table = record t { entries = b.entries; owned = (with_gained (table_book t) (numbers_of g)).owned } in u) (sym (gained-rest (table_book t) (numbers_of g)))
