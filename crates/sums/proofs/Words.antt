-- Sums of words of a list in parts, and of a list with one word replaced.
use Rattle.std.proofs.Common.{◌≡◌, ℕ, ◌+◌, ◌-◌, ◌*◌, ◌%◌, ◌<◌, ◌≤◌, List, [], ◌∷◌, ◌++◌, length, take, drop, arith, ap, ap₂, sym, ◌∙◌, length-drop}
use Rattle.std.proofs.lemmas.List.{take-append-drop, length-take-le, drop-drop}
use Rattle.sums.specs.Sum.{word_sum, ones_sum}

-- the words of two lists, the first of even length, add up to the words of both, one list after the other
pub word_sum-append : (xs ys : List ℕ) (h : ℕ) → length xs ≡ 2 * h → word_sum (xs ++ ys) ≡ word_sum xs + word_sum ys
word_sum-append [] ys h e = omega arith
word_sum-append (x ∷ []) ys h e = absurd (omega arith)
word_sum-append (x ∷ y ∷ xs) ys h e =
    let shorter : length xs ≡ 2 * (h - 1) = omega arith in
    omega (arith, word_sum-append xs ys (h - 1) shorter)

-- the first word and the words after it add up to all words
pub word_sum-split : (xs : List ℕ) → 2 ≤ length xs → word_sum xs ≡ word_sum (take 2 xs) + word_sum (drop 2 xs)
word_sum-split [] h = absurd (omega arith)
word_sum-split (x ∷ []) h = absurd (omega arith)
word_sum-split (x ∷ y ∷ xs) h = omega arith

-- where the word at an even place is replaced by the bytes a and b, the sum changes by the difference
pub word_sum-replace : (h : ℕ) (xs : List ℕ) (a b : ℕ) → 2 * h + 2 ≤ length xs → word_sum (take (2 * h) xs ++ (a ∷ b ∷ [] ++ drop (2 * h + 2) xs)) + word_sum (take 2 (drop (2 * h) xs)) ≡ word_sum xs + (256 * a + b)
word_sum-replace h xs a b fits =
    let front : length (take (2 * h) xs) ≡ 2 * h = length-take-le (2 * h) xs (omega arith) in
    let new = word_sum-append (take (2 * h) xs) (a ∷ b ∷ [] ++ drop (2 * h + 2) xs) h front in
    let old = word_sum-append (take (2 * h) xs) (drop (2 * h) xs) h front in
    let whole : word_sum xs ≡ word_sum (take (2 * h) xs ++ drop (2 * h) xs) = ap word_sum (sym (take-append-drop (2 * h) xs)) in
    let long : 2 ≤ length (drop (2 * h) xs) = simp length-drop (omega arith) in
    let rest : drop 2 (drop (2 * h) xs) ≡ drop (2 * h + 2) xs = drop-drop 2 (2 * h) xs in
    let two : word_sum (drop (2 * h) xs) ≡ word_sum (take 2 (drop (2 * h) xs)) + word_sum (drop (2 * h + 2) xs) = rw rest at (word_sum-split (drop (2 * h) xs) long) in
    omega (arith, new, old, whole, two)

-- a one's complement sum may be taken of the words so far, and then go on with the others
pub ones_sum-more : (m n : ℕ) → ones_sum (ones_sum m + n) ≡ ones_sum (m + n)
ones_sum-more m n = omega arith

-- the field that makes a whole sum 0 modulo 65535 is the complement of the other words' sum
pub ones_sum-complement : (u s : ℕ) → u < 65535 → 0 < s → (u + s) % 65535 ≡ 0 → u ≡ 65535 - ones_sum s
ones_sum-complement u s small some whole = omega arith

-- after a part's words are added to a one's complement sum, it goes on with the other words to the sum of all
part-added : (t f s p r u : ℕ) → f ≡ ones_sum s → ones_sum s ≡ ones_sum p → u ≡ ones_sum (t + f) → ones_sum (u + r) ≡ ones_sum (t + (p + r))
part-added t f s p r u is_f same is_u = omega arith

-- the words of a front of even length and of the bytes after it add up to the words of all bytes
words-of-parts : (n h : ℕ) (bytes : List ℕ) → n ≡ 2 * h → n ≤ length bytes → word_sum (take n bytes) + word_sum (drop n bytes) ≡ word_sum bytes
words-of-parts n h bytes even within =
    let front : length (take n bytes) ≡ 2 * h = length-take-le n bytes within ∙ even in
    sym (word_sum-append (take n bytes) (drop n bytes) h front) ∙ ap word_sum (take-append-drop n bytes)

-- after the words of a front of even length are added, the sum goes on with the bytes after it to the sum of all
pub goes-on : (n h : ℕ) (t f s u : ℕ) (bytes part behind : List ℕ) → n ≡ 2 * h → n ≤ length bytes → part ≡ take n bytes → behind ≡ drop n bytes → f ≡ ones_sum s → ones_sum s ≡ ones_sum (word_sum part) → u ≡ ones_sum (t + f) → ones_sum (u + word_sum behind) ≡ ones_sum (t + word_sum bytes)
goes-on n h t f s u bytes part behind even within is_part is_behind is_f same is_u =
    let whole : word_sum part + word_sum behind ≡ word_sum bytes = ap₂ (λ (a b : List ℕ). word_sum a + word_sum b) is_part is_behind ∙ words-of-parts n h bytes even within in
    part-added t f s (word_sum part) (word_sum behind) u is_f same is_u ∙ ap (λ (x : ℕ). ones_sum (t + x)) whole
