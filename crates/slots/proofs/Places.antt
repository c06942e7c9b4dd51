-- Cells and keys: each cell has a key of its own, and their order is that of the cells.
use Rattle.std.proofs.Common.{◌≡◌, ℕ, ◌+◌, ◌-◌, ◌*◌, ◌<◌, ◌≤◌, Bool, true, false, cond, nat_lt, ◌⊎◌, inl, inr, refl, ap, sym, ◌∙◌, arith}
use Rattle.std.proofs.lemmas.Bool.{ltb-true, ltb-false, lt-ltb, le-ltb, cases_lt, cases_eq}
use Rattle.addresses.specs.declared.transport.Protocol.{Protocol}
use Rattle.addresses.specs.declared.transport.Protocol.TheVariants.{Icmp, Tcp, Udp}
use Rattle.addresses.specs.Transport.{protocol_number}
use Rattle.nat_types.specs.Same.{same_key}
use Rattle.nat_types.proofs.Offered.{key-false}
use Rattle.slots.specs.Rows.{key_place}
use Rattle.slots.specs.Cells.{first_cell, key_at}

-- the place of a cell: the blocks of cells are in the order of their protocols' numbers
abbrev IsPlace : ℕ → ℕ → Type 0
IsPlace c place =
    ((c < 65536) × (place ≡ 65536 + c))
    ⊎ (((65536 ≤ c) × ((c < 131072) × (place ≡ 327680 + c))) ⊎ ((131072 ≤ c) × (place ≡ 983040 + c)))

abbrev place_in : ℕ → Protocol → ℕ
place_in c x = 65536 * protocol_number x + (c - first_cell x)

-- the place of a cell's key
place_at : (c : ℕ) → IsPlace c (key_place (key_at c))
place_at c = by (nat_lt c 65536) (nat_lt c 131072) refl refl
  where
    by : (a b : Bool) → nat_lt c 65536 ≡ a → nat_lt c 131072 ≡ b → IsPlace c (place_in c (cond a Icmp (cond b Tcp Udp)))
    by true b e f = inl (ltb-true c 65536 e, omega arith)
    by false true e f = inr (inl (ltb-false c 65536 e, (ltb-true c 131072 f, omega (arith, ltb-false c 65536 e))))
    by false false e f = inr (inr (ltb-false c 131072 f, omega (arith, ltb-false c 131072 f)))

-- the places of later cells are greater
rising : (c d p q : ℕ) → c < d → IsPlace c p → IsPlace d q → p < q
rising c d p q h (inl a) (inl b) = let e = a.1 in let f = b.1 in omega (arith, h, e, f)
rising c d p q h (inl a) (inr (inl b)) = let e = a.1 in let f = b.1.1 in omega (arith, h, e, f)
rising c d p q h (inl a) (inr (inr b)) = let e = a.1 in let f = b.1 in omega (arith, h, e, f)
rising c d p q h (inr (inl a)) (inl b) = let e = a.0 in let f = b.0 in absurd (omega (arith, h, e, f))
rising c d p q h (inr (inl a)) (inr (inl b)) = let e = a.1.1 in let f = b.1.1 in omega (arith, h, e, f)
rising c d p q h (inr (inl a)) (inr (inr b)) = let e = a.1.1 in let f = b.1 in omega (arith, h, e, f)
rising c d p q h (inr (inr a)) (inl b) = let e = a.0 in let f = b.0 in absurd (omega (arith, h, e, f))
rising c d p q h (inr (inr a)) (inr (inl b)) = let e = a.0 in let f = b.1.0 in absurd (omega (arith, h, e, f))
rising c d p q h (inr (inr a)) (inr (inr b)) = let e = a.1 in let f = b.1 in omega (arith, h, e, f)

pub places_rise : (c d : ℕ) → c < d → key_place (key_at c) < key_place (key_at d)
places_rise c d h = rising c d (key_place (key_at c)) (key_place (key_at d)) h (place_at c) (place_at d)

pub place_order : (c d : ℕ) → nat_lt (key_place (key_at c)) (key_place (key_at d)) ≡ nat_lt c d
place_order c d =
    elim (cases_lt c d) [
      | inl h ↦ lt-ltb _ _ (places_rise c d h) ∙ sym (lt-ltb c d h)
      | inr h ↦ le-ltb _ _ (back h) ∙ sym (le-ltb c d h)
    ]
  where
    back : d ≤ c → key_place (key_at d) ≤ key_place (key_at c)
    back h =
        elim (cases_eq d c) [
          | inl e ↦ (let f = ap (λ n. key_place (key_at n)) e in omega (arith, f))
          | inr n ↦ (let f = places_rise d c (omega (arith, h, n)) in omega (arith, f))
        ]

-- no two cells have one key
pub one_key : (c d : ℕ) → key_at c ≡ key_at d → c ≡ d
one_key c d e =
    elim (cases_eq c d) [
      | inl same ↦ same
      | inr differs ↦ absurd (elim (cases_lt c d) [
        | inl h ↦ (let f = places_rise c d h in let g = ap key_place e in omega (arith, f, g))
        | inr h ↦ (let f = places_rise d c (omega (arith, h, differs)) in let g = ap key_place e in omega (arith, f, g))
      ])
    ]

pub other_key : (c d : ℕ) → (c ≡ d → ⊥) → same_key (key_at c) (key_at d) ≡ false
other_key c d differs = key-false (key_at c) (key_at d) (λ e. differs (one_key c d e))
