-- Two numbers fall into one bucket under few factors.
use Rattle.std.proofs.Common.{◌≡◌, ℕ, ◌+◌, ◌-◌, ◌*◌, ◌/◌, ◌%◌, ◌<◌, ◌≤◌, inl, inr, arith, sym, ◌∙◌, ap, subst}
use Rattle.std.proofs.Math.Nat.{div-add-mod, div-mul-le_self, dvd-mul_right, mod-mod_of_dvd, mul-sub}
use Rattle.std.specs.Int.{◌∣◌}
use Rattle.std.proofs.lemmas.Nat.{le-div, mul-le}
use Rattle.std.proofs.lemmas.Bool.{cases_lt}
use Rattle.slots.specs.KeyedHashing.{FallTogether, hash_by}

-- the product of a factor and a greater number is the product and the rest
further : (a x z s : ℕ) → a * (x + z) + s ≡ a * x + s + a * z
further a x z s = omega arith

wider : (a e z : ℕ) → (a + e) * z ≡ a * z + e * z
wider a e z = omega arith

-- 2^96 for each bucket that is passed, with less than that on either side
record IsNear (u passed : ℕ) : Type 0 where
  over : 79228162514264337593543950336 * passed < u + 79228162514264337593543950336
  below : u < 79228162514264337593543950336 * passed + 79228162514264337593543950336

-- how often the upper parts go round the buckets between two products
abbrev turns : ℕ → ℕ → ℕ → ℕ
turns m p q = q / 79228162514264337593543950336 / m - p / 79228162514264337593543950336 / m

apart : (m x y : ℕ) → 0 < m → x ≤ y → x % m ≡ y % m → y ≡ x + m * (y / m - x / m)
apart m x y some le same =
    let front = div-mul-le_self x m in
    let rounds : x / m ≤ y / m = le-div (x / m) y m some (omega (arith, front, le)) in
    let least : m * (x / m) ≤ m * (y / m) = mul-le m (x / m) m (y / m) (omega arith) rounds in
    let first = div-add-mod x m in
    let second = div-add-mod y m in
    let between = mul-sub m (y / m) (x / m) in
    omega (arith, least, first, second, between, same)

near : (m p q u : ℕ) → 0 < m → q ≡ p + u → p / 79228162514264337593543950336 % m ≡ q / 79228162514264337593543950336 % m → IsNear u (m * turns m p q)
near m p q u some step same =
    let up = apart m (p / 79228162514264337593543950336) (q / 79228162514264337593543950336) some (omega (arith, step)) same in
    record { over = omega (arith, step, up); below = omega (arith, step, up) }

-- a step that is longer by less than a turn, and near to whole turns as well, is longer by little
little : (m u d t r : ℕ) → IsNear u (m * t) → IsNear (u + d) (m * r) → d + 158456325028528675187087900672 ≤ 79228162514264337593543950336 * m → d < 158456325028528675187087900672
little m u d t r first second short =
    let a = first.over in
    let b = first.below in
    let c = second.over in
    let e = second.below in
    elim (cases_lt t r) [
      | inl more ↦ (let k : m * (t + 1) ≤ m * r = mul-le m (t + 1) m r (omega arith) (omega (arith, more)) in omega (arith, a, b, c, e, k, short))
      | inr less ↦ (let no : m * r ≤ m * t = mul-le m r m t (omega arith) less in omega (arith, a, b, c, e, no))
    ]

-- the bucket of a number by the whole product
bucket : (m k a s x : ℕ) → m * k ≡ 4294967296 → hash_by a s x % m ≡ (a * x + s) / 79228162514264337593543950336 % m
bucket m k a s x whole =
    let upper : hash_by a s x ≡ (a * x + s) / 79228162514264337593543950336 % 4294967296 = omega arith in
    ap (λ (h : ℕ). h % m) upper ∙ mod-mod_of_dvd m ((a * x + s) / 79228162514264337593543950336) (subst (λ (n : ℕ). m ∣ n) whole (dvd-mul_right m k))

pub rare : (m k s x z a e : ℕ) → m * k ≡ 4294967296 → e * z + 158456325028528675187087900672 ≤ 79228162514264337593543950336 * m → FallTogether m a s x (x + z) → FallTogether m (a + e) s x (x + z) → e * z < 158456325028528675187087900672
rare m k s x z a e whole short first second =
    let some : 0 < m = (let none = whole in elim (cases_lt 0 m) [ inl h ↦ h | inr h ↦ (let no : m ≡ 0 = omega (arith, h) in let gone = ap (λ (n : ℕ). n * k) no in omega (arith, gone, whole)) ]) in
    let one = sym (bucket m k a s x whole) ∙ first ∙ bucket m k a s (x + z) whole in
    let two = sym (bucket m k (a + e) s x whole) ∙ second ∙ bucket m k (a + e) s (x + z) whole in
    let p = near m (a * x + s) (a * (x + z) + s) (a * z) some (further a x z s) one in
    let q = near m ((a + e) * x + s) ((a + e) * (x + z) + s) (a * z + e * z) some (further (a + e) x z s ∙ ap (λ (t : ℕ). (a + e) * x + s + t) (wider a e z)) two in
    little m (a * z) (e * z) (turns m (a * x + s) (a * (x + z) + s)) (turns m ((a + e) * x + s) ((a + e) * (x + z) + s)) p q short
