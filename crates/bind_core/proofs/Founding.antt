-- The ports of a range, owned one by one.
use Rattle.std.proofs.Common.{◌≡◌, ℕ, zero, suc, ◌+◌, ◌-◌, ◌≤◌, false, ◌==◌, nat_lt, List, [], ◌∷◌, refl, ap, ◌∙◌, arith}
use Rattle.std.specs.List.{range_with_len}
use Rattle.std.proofs.lemmas.Bool.{cond-false, le-ltb, ne_eqb, or_from}
use Rattle.port_range.specs.Ports.{is_listed}
use Rattle.bindings.specs.Runs.{own_in}
use Rattle.bindings.specs.Table.{Table}

own-end : (a n : ℕ) → own_in (a + n) (range_with_len a n) ≡ range_with_len a (suc n)
own-end a zero = ap (λ (x : ℕ). x ∷ []) (let e : a + 0 ≡ a = omega arith in e)
own-end a (suc n) =
    cond-false (nat_lt (a + suc n) a) ((a + suc n) ∷ a ∷ range_with_len (a + 1) n) (a ∷ own_in (a + suc n) (range_with_len (a + 1) n)) (le-ltb (a + suc n) a (omega arith))
    ∙ ap (λ (x : ℕ). a ∷ own_in x (range_with_len (a + 1) n)) (let e : a + suc n ≡ a + 1 + n = omega arith in e)
    ∙ ap (λ (z : List ℕ). a ∷ z) (own-end (a + 1) n)

pub not-yet : (a n q : ℕ) → a + n ≤ q → is_listed q (range_with_len a n) ≡ false
not-yet a zero q h = refl
not-yet a (suc n) q h = or_from (a == q) (is_listed q (range_with_len (a + 1) n)) (ne_eqb a q (λ e. absurd (omega (arith, h, e)))) (not-yet (a + 1) n q (omega (arith, h)))

-- one more port is owned
pub owned-next : (t t0 t2 : Table) (a p : ℕ) → a ≤ p → t ≡ record t0 { owned = range_with_len a (p - a) } → t2.owned ≡ own_in p t.owned → t2 ≡ record t { owned = t2.owned } → t2 ≡ record t0 { owned = range_with_len a (p + 1 - a) }
owned-next t t0 t2 a p h was is same =
    let e : p ≡ a + (p - a) = omega (arith, h) in
    let s : suc (p - a) ≡ p + 1 - a = omega (arith, h) in
    let owned : t2.owned ≡ range_with_len a (p + 1 - a) =
    is ∙ ap (λ (u : Table). own_in p u.owned) was ∙ ap (λ (x : ℕ). own_in x (range_with_len a (p - a))) e ∙ own-end a (p - a) ∙ ap (range_with_len a) s in
    same ∙ ap (λ (u : Table). let v : Table = record u { owned = t2.owned } in v) was ∙ ap (λ (z : List ℕ). let v : Table = record t0 { owned = z } in v) owned
