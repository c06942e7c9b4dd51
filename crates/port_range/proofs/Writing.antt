-- What a loop that writes places one after another makes of them.
use Rattle.std.proofs.Common.{◌≡◌, ℕ, ◌+◌, ◌*◌, ◌/◌, ◌%◌, ◌<◌, ◌≤◌, nat_le, Bool, true, false, cond, ◌||◌, inl, inr, List, get_or, refl, sym, ap, ◌∙◌, subst, arith}
use Rattle.std.proofs.lemmas.Bool.{cases_eq, cases_lt, both_ways, cond-true, cond-false, and_from, and_left, and_right, le-leb, lt-leb}
use Rattle.port_range.specs.Ports.{is_within}
use Rattle.port_range.specs.Words.{is_set, has_bit}
use Rattle.port_range.proofs.Bits.{has_bit-of}

-- the places from the first up to one are as they are to be, none of them is past the last, and all others are as before
pub record AreWritten {A : Type 0} (Done : ℕ → A → Type 0) (old now : ℕ → A) (first last index : ℕ) : Type 0 where
  pub done : (at : ℕ) → first ≤ at → at < index → Done at (now at)
  pub rest : (at : ℕ) → (first ≤ at → index ≤ at) → now at ≡ old at
  pub limit : (at : ℕ) → first ≤ at → at < index → at ≤ last

-- no place is written at the start
pub written-none : {A : Type 0} (Done : ℕ → A → Type 0) (old : ℕ → A) (first last : ℕ) → AreWritten Done old old first last first
written-none Done old first last = record {
  done = λ at low high. absurd (omega (arith, low, high));
  rest = λ at out. refl;
  limit = λ at low high. absurd (omega (arith, low, high));
}

-- one more place is written
pub written-more : {A : Type 0} (Done : ℕ → A → Type 0) (old now next : ℕ → A) (first last index : ℕ) → first ≤ index → index ≤ last → Done index (next index)
    → ((at : ℕ) → (at ≡ index → ⊥) → next at ≡ now at) → AreWritten Done old now first last index → AreWritten Done old next first last (index + 1)
written-more Done old now next first last index from to here others is = record {
  done = λ at low high. elim (cases_eq at index) [
    | inl same ↦ subst (λ (n : ℕ). Done n (next n)) (sym same) here
    | inr other ↦ subst (Done at) (sym (others at other)) (is.done at low (omega (arith, high, other)))
  ];
  rest = λ at out. others at (λ same. let past = out (omega (arith, from, same)) in omega (arith, past, same)) ∙ is.rest at (λ low. let past = out low in omega (arith, past));
  limit = λ at low high. elim (cases_eq at index) [
    | inl same ↦ omega (arith, same, to)
    | inr other ↦ is.limit at low (omega (arith, high, other))
  ];
}

-- where all places are written, each has its new value where it lies between first and last, else the old one
pub written-all : {A : Type 0} (value old now : ℕ → A) (first last index : ℕ) → last < index → AreWritten (λ n x. x ≡ value n) old now first last index
    → (n : ℕ) → now n ≡ cond (is_within first last n) (value n) (old n)
written-all value old now first last index end is n =
    elim (cases_lt n first) [
      | inl below ↦ (is.rest n (λ low. absurd (omega (arith, below, low)))
          ∙ sym (cond-false (is_within first last n) (value n) (old n) (and_left (nat_le first n) (nat_le n last) (lt-leb first n below))))
      | inr from ↦ elim (cases_lt last n) [
        | inl past ↦ (is.rest n (λ low. behind past low)
            ∙ sym (cond-false (is_within first last n) (value n) (old n) (and_right (nat_le first n) (nat_le n last) (lt-leb n last past))))
        | inr to ↦ (is.done n from (omega (arith, end, to))
            ∙ sym (cond-true (is_within first last n) (value n) (old n) (and_from (nat_le first n) (nat_le n last) (le-leb first n from) (le-leb n last to))))
      ]
    ]
  where
    behind : last < n → first ≤ n → index ≤ n
    behind past low =
        elim (cases_lt n index) [
          | inl before ↦ (let to = is.limit n low before in absurd (omega (arith, past, to)))
          | inr after ↦ after
        ]

-- ---- bits that are set from one number to another

-- a word has its old bits, and those of the numbers between two
abbrev pub IsSetIn : List ℕ → ℕ → ℕ → ℕ → ℕ → Type 0
IsSetIn old lowest highest at word = (i : ℕ) → i < 64 → is_set word i ≡ (is_set (get_or old at 0) i || is_within lowest highest (at * 64 + i))

abbrev pub word_in : List ℕ → ℕ → ℕ
word_in words at = get_or words at 0

or-none : (b c : Bool) → c ≡ false → (b || c) ≡ b
or-none true c h = refl
or-none false c h = h

-- once the words are written, each number has its old bit or lies between the two
pub set-bits : (old new : List ℕ) (lowest highest index : ℕ) → highest / 64 < index → AreWritten (IsSetIn old lowest highest) (word_in old) (word_in new) (lowest / 64) (highest / 64) index
    → (n : ℕ) → has_bit new n ≡ (has_bit old n || is_within lowest highest n)
set-bits old new lowest highest index end is n =
    elim (cases_lt (n / 64) (lowest / 64)) [
      | inl below ↦ unchanged (λ low. absurd (omega (arith, below, low))) (and_left (nat_le lowest n) (nat_le n highest) (lt-leb lowest n (omega (arith, below))))
      | inr from ↦ elim (cases_lt (n / 64) index) [
        | inl before ↦ (has_bit-of new (n / 64) n refl ∙ is.done (n / 64) from before (n % 64) (omega arith)
            ∙ ap (λ b. b || is_within lowest highest (n / 64 * 64 + n % 64)) (sym (has_bit-of old (n / 64) n refl))
            ∙ ap (λ (m : ℕ). has_bit old n || is_within lowest highest m) (let e : n / 64 * 64 + n % 64 ≡ n = omega arith in e))
        | inr past ↦ unchanged (λ low. past) (and_right (nat_le lowest n) (nat_le n highest) (lt-leb n highest (omega (arith, end, past))))
      ]
    ]
  where
    unchanged : (lowest / 64 ≤ n / 64 → index ≤ n / 64) → is_within lowest highest n ≡ false → has_bit new n ≡ (has_bit old n || is_within lowest highest n)
    unchanged out fails =
        has_bit-of new (n / 64) n refl ∙ ap (λ (w : ℕ). is_set w (n % 64)) (is.rest (n / 64) out) ∙ sym (has_bit-of old (n / 64) n refl)
        ∙ sym (or-none (has_bit old n) (is_within lowest highest n) fails)

-- the words outside those that are written stay
pub set-others : (old new : List ℕ) (lowest highest index : ℕ) → AreWritten (IsSetIn old lowest highest) (word_in old) (word_in new) (lowest / 64) (highest / 64) index
    → (at : ℕ) → is_within (lowest / 64) (highest / 64) at ≡ false → get_or new at 0 ≡ get_or old at 0
set-others old new lowest highest index is at outside =
    is.rest at (λ low. elim (cases_lt at index) [
      | inl before ↦ absurd (both_ways (is_within (lowest / 64) (highest / 64) at) outside
          (and_from (nat_le (lowest / 64) at) (nat_le at (highest / 64)) (le-leb (lowest / 64) at low) (le-leb at (highest / 64) (is.limit at low before))))
      | inr past ↦ past
    ])
