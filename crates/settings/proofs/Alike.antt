-- When two values are the same.
use Rattle.std.proofs.Common.{◌≡◌, ℕ, ◌==◌, ◌&&◌, true, refl}
use Rattle.std.proofs.lemmas.Bool.{and_parts, and_from, eqb-true, eq-eqb}
use Rattle.settings.specs.declared.values.Values.{Values}
use Rattle.settings.specs.Values.{same_networks, same_ranges, same_values}

pub values-same : (v w : Values) → same_values v w ≡ true → v ≡ w
unfolding same_values
values-same v w e =
    let parts = and_parts (same_ranges v w) (same_networks v w) e in
    let r4 = and_parts ((v.zero_lowest.0 == w.zero_lowest.0) && (v.zero_highest.0 == w.zero_highest.0) && (v.one_lowest.0 == w.one_lowest.0)) (v.one_highest.0 == w.one_highest.0) parts.0 in
    let r3 = and_parts ((v.zero_lowest.0 == w.zero_lowest.0) && (v.zero_highest.0 == w.zero_highest.0)) (v.one_lowest.0 == w.one_lowest.0) r4.0 in
    let r2 = and_parts (v.zero_lowest.0 == w.zero_lowest.0) (v.zero_highest.0 == w.zero_highest.0) r3.0 in
    let n4 = and_parts ((v.inside_virtual.0 == w.inside_virtual.0) && (v.outside_virtual.0 == w.outside_virtual.0) && (v.inside_prefix == w.inside_prefix)) (v.outside_prefix == w.outside_prefix) parts.1 in
    let n3 = and_parts ((v.inside_virtual.0 == w.inside_virtual.0) && (v.outside_virtual.0 == w.outside_virtual.0)) (v.inside_prefix == w.inside_prefix) n4.0 in
    let n2 = and_parts (v.inside_virtual.0 == w.inside_virtual.0) (v.outside_virtual.0 == w.outside_virtual.0) n3.0 in
    λ i. record {
      zero_lowest = record { 0 = eqb-true _ _ r2.0 i };
      zero_highest = record { 0 = eqb-true _ _ r2.1 i };
      one_lowest = record { 0 = eqb-true _ _ r3.1 i };
      one_highest = record { 0 = eqb-true _ _ r4.1 i };
      inside_virtual = record { 0 = eqb-true _ _ n2.0 i };
      outside_virtual = record { 0 = eqb-true _ _ n2.1 i };
      inside_prefix = eqb-true _ _ n3.1 i;
      outside_prefix = eqb-true _ _ n4.1 i;
    }

four : (a b c d : ℕ) → ((a == a) && (b == b) && (c == c) && (d == d)) ≡ true
four a b c d =
    and_from ((a == a) && (b == b) && (c == c)) (d == d)
    (and_from ((a == a) && (b == b)) (c == c) (and_from (a == a) (b == b) (eq-eqb a a refl) (eq-eqb b b refl)) (eq-eqb c c refl))
    (eq-eqb d d refl)

pub values-self : (v : Values) → same_values v v ≡ true
unfolding same_values
values-self v = and_from (same_ranges v v) (same_networks v v)
    (four v.zero_lowest.0 v.zero_highest.0 v.one_lowest.0 v.one_highest.0)
    (four v.inside_virtual.0 v.outside_virtual.0 v.inside_prefix v.outside_prefix)
