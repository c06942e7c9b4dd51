-- The values of a header, read and written.
use Rattle.std.proofs.Common.{◌≡◌, ℕ, ◌+◌, ◌^◌, ◌<◌, ◌≤◌, List, [], ◌∷◌, ◌++◌, length, drop, slice_index, refl, ap, ◌∙◌, append_assoc, arith}
use Rattle.std.proofs.lemmas.List.{drop-drop, length-drop}
use Rattle.byteorder.specs.Endian.{big_number, big_bytes}
use Rattle.byteorder.specs.Numbers.{big_number-reads_back, big_from-lt}
use Rattle.settings.specs.Values.{AreInWidth}
use Rattle.settings.specs.declared.values.Values.{Values}
use Rattle.link.specs.Grammar.{port_bytes, values_bytes}
use Rattle.link.specs.Reading.{values_at}
use Rattle.link.proofs.Fields.{IsBytes, IsBytes-drop, wide2, wide4, byte_from, number_from}

shape : (b t2 t4 t6 t8 t12 t16 t17 t18 one two three four five six : List ℕ) (p q : ℕ) → b ≡ one ++ t2 → t2 ≡ two ++ t4 → t4 ≡ three ++ t6 → t6 ≡ four ++ t8 → t8 ≡ five ++ t12 → t12 ≡ six ++ t16 → t16 ≡ p ∷ t17 → t17 ≡ q ∷ t18
    → b ≡ (one ++ (two ++ (three ++ (four ++ (five ++ (six ++ (p ∷ q ∷ []))))))) ++ t18
shape b t2 t4 t6 t8 t12 t16 t17 t18 one two three four five six p q e0 e2 e4 e6 e8 e12 e16 e17 =
    rw (e0, e2, e4, e6, e8, e12, e16, e17, append_assoc one, append_assoc two, append_assoc three, append_assoc four, append_assoc five, append_assoc six) refl

-- 18 bytes and more are the values' bytes and the rest
values_spelled : (b : List ℕ) → 18 ≤ length b → IsBytes b → b ≡ values_bytes (values_at b) ++ drop 18 b
values_spelled b long fits =
    shape b (drop 2 b) (drop 4 b) (drop 6 b) (drop 8 b) (drop 12 b) (drop 16 b) (drop 17 b) (drop 18 b)
    (big_bytes 2 (big_number 2 b)) (big_bytes 2 (big_number 2 (drop 2 b))) (big_bytes 2 (big_number 2 (drop 4 b))) (big_bytes 2 (big_number 2 (drop 6 b)))
    (big_bytes 4 (big_number 4 (drop 8 b))) (big_bytes 4 (big_number 4 (drop 12 b)))
    (slice_index b 16) (slice_index b 17)
    (number_from 2 wide2 0 2 b refl (omega arith) fits)
    (number_from 2 wide2 2 4 b refl (omega arith) fits)
    (number_from 2 wide2 4 6 b refl (omega arith) fits)
    (number_from 2 wide2 6 8 b refl (omega arith) fits)
    (number_from 4 wide4 8 12 b refl (omega arith) fits)
    (number_from 4 wide4 12 16 b refl (omega arith) fits)
    (byte_from 16 b (omega arith))
    (byte_from 17 b (omega arith))

-- the bytes from an offset on are the values' bytes and the others
pub values_from : (i k : ℕ) (b : List ℕ) → k ≡ i + 18 → k ≤ length b → IsBytes b → drop i b ≡ values_bytes (values_at (drop i b)) ++ drop k b
values_from i k b place h fits =
    values_spelled (drop i b) (omega (arith, length-drop i b)) (IsBytes-drop i b fits)
    ∙ ap (λ (t : List ℕ). values_bytes (values_at (drop i b)) ++ t) (rw place (drop-drop 18 i b))

two_fit : (b : List ℕ) → IsBytes b → big_number 2 b < 2 ^ 16
two_fit b fits = omega (arith, big_from-lt 0 2 b fits)

four_fit : (b : List ℕ) → IsBytes b → big_number 4 b < 2 ^ 32
four_fit b fits = omega (arith, big_from-lt 0 4 b fits)

fit : (b : List ℕ) → IsBytes b → AreInWidth (values_at b)
fit b fits = record {
  zero_lowest = two_fit b fits;
  zero_highest = two_fit (drop 2 b) (IsBytes-drop 2 b fits);
  one_lowest = two_fit (drop 4 b) (IsBytes-drop 4 b fits);
  one_highest = two_fit (drop 6 b) (IsBytes-drop 6 b fits);
  inside_virtual = four_fit (drop 8 b) (IsBytes-drop 8 b fits);
  outside_virtual = four_fit (drop 12 b) (IsBytes-drop 12 b fits);
  inside_prefix = fits 16;
  outside_prefix = fits 17;
}

pub values_fit : (i : ℕ) (b : List ℕ) → IsBytes b → AreInWidth (values_at (drop i b))
values_fit i b fits = fit (drop i b) (IsBytes-drop i b fits)

-- ---- writing

pub values_again : (v : Values) (rest : List ℕ) → AreInWidth v → values_at (values_bytes v ++ rest) ≡ v
values_again v rest fits =
    let t16 : List ℕ = v.inside_prefix ∷ v.outside_prefix ∷ rest in
    let t12 : List ℕ = big_bytes 4 v.outside_virtual.0 ++ t16 in
    let t8 : List ℕ = big_bytes 4 v.inside_virtual.0 ++ t12 in
    let t6 : List ℕ = port_bytes v.one_highest ++ t8 in
    let t4 : List ℕ = port_bytes v.one_lowest ++ t6 in
    let t2 : List ℕ = port_bytes v.zero_highest ++ t4 in
    let w : Values = values_at (values_bytes v ++ rest) in
    let e1 : w.zero_lowest.0 ≡ v.zero_lowest.0 = big_number-reads_back 2 v.zero_lowest.0 t2 (omega (arith, fits.zero_lowest)) in
    let e2 : w.zero_highest.0 ≡ v.zero_highest.0 = big_number-reads_back 2 v.zero_highest.0 t4 (omega (arith, fits.zero_highest)) in
    let e3 : w.one_lowest.0 ≡ v.one_lowest.0 = big_number-reads_back 2 v.one_lowest.0 t6 (omega (arith, fits.one_lowest)) in
    let e4 : w.one_highest.0 ≡ v.one_highest.0 = big_number-reads_back 2 v.one_highest.0 t8 (omega (arith, fits.one_highest)) in
    let e5 : w.inside_virtual.0 ≡ v.inside_virtual.0 = big_number-reads_back 4 v.inside_virtual.0 t12 (omega (arith, fits.inside_virtual)) in
    let e6 : w.outside_virtual.0 ≡ v.outside_virtual.0 = big_number-reads_back 4 v.outside_virtual.0 t16 (omega (arith, fits.outside_virtual)) in
    λ i. record {
      zero_lowest = record { 0 = e1 i };
      zero_highest = record { 0 = e2 i };
      one_lowest = record { 0 = e3 i };
      one_highest = record { 0 = e4 i };
      inside_virtual = record { 0 = e5 i };
      outside_virtual = record { 0 = e6 i };
      inside_prefix = v.inside_prefix;
      outside_prefix = v.outside_prefix;
    }
