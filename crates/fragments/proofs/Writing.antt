-- The headers of a whole frame, written over a frame's first bytes.
use Rattle.std.proofs.Common.{◌≡◌, ℕ, ◌+◌, ◌≤◌, List, [], ◌++◌, length, take, drop, refl, ap, ap₂, ◌∙◌, sym, arith, append_assoc, length-append}
use Rattle.std.proofs.Math.Seq.{drop-append-add}
use Rattle.std.proofs.lemmas.List.{take_at}
use Rattle.frames.specs.Bytes.{Puts}
use Rattle.ipv4.specs.Header.{header_of}
use Rattle.fragments.specs.Fragment.{ipv4_in}
use Rattle.fragments.specs.Whole.{first_fragment, first_header_length, payload_end, whole_length}
use Rattle.fragments.proofs.Filling.{length-put}

-- the length of a whole packet, by its first fragment
pub length-is : (fs : List (List ℕ)) (first : List ℕ) → first ≡ first_fragment fs → (header_of (ipv4_in first)).header_length + payload_end fs ≡ whole_length fs
unfolding first_header_length
length-is fs first is = ap (λ (f : List ℕ). (header_of (ipv4_in f)).header_length + payload_end fs) is

-- bytes written right behind others
put-behind : (front bytes rest old new : List ℕ) (at : ℕ) → length front ≡ at → old ≡ front ++ rest → Puts at bytes old new → new ≡ front ++ bytes ++ drop (length bytes) rest
put-behind front bytes rest old new at long is put =
    put
    ∙ ap₂ (λ (xs ys : List ℕ). xs ++ bytes ++ ys) (ap (take at) is ∙ take_at front rest at long)
    (ap (drop (at + length bytes)) is ∙ ap (λ (n : ℕ). drop (n + length bytes) (front ++ rest)) (sym long) ∙ drop-append-add front rest (length bytes))

-- three parts, one behind the other
pub record AreFront (e h o old new : List ℕ) (n : ℕ) : Type 0 where
  pub front : take n new ≡ e ++ (h ++ o)
  pub len : length new ≡ length old

pub fronts : (e h o old a b new : List ℕ) (n : ℕ) → length e ≡ 14 → length h ≡ 20 → n ≡ 34 + length o → n ≤ length old → Puts 0 e old a → Puts 14 h a b → Puts 34 o b new → AreFront e h o old new n
fronts e h o old a b new n fourteen twenty size within one two three =
    let first : a ≡ e ++ drop (length e) old = put-behind [] e old old a 0 refl refl one in
    let second : b ≡ e ++ h ++ drop (length h) (drop (length e) old) = put-behind e h (drop (length e) old) a b 14 fourteen first two in
    let both : length (e ++ h) ≡ 34 = omega (arith, length-append e h, fourteen, twenty) in
    let third = put-behind (e ++ h) o (drop (length h) (drop (length e) old)) b new 34 both second three in
    let all : length (e ++ h ++ o) ≡ n = omega (arith, length-append (e ++ h) o, both, size) in
    let was : length a ≡ length old = ap length one ∙ length-put 0 e old (omega (arith, fourteen, within, size)) in
    let then : length b ≡ length a = ap length two ∙ length-put 14 h a (omega (arith, twenty, within, size, was)) in
    record {
      front = ap (take n) third ∙ take_at (e ++ h ++ o) (drop (length o) (drop (length h) (drop (length e) old))) n all ∙ append_assoc e h o;
      len = ap length three ∙ length-put 34 o b (omega (arith, within, size, was, then)) ∙ then ∙ was;
    }
