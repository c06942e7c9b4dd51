-- The string at an index of a pile, and the frame at an index of an output.
use Rattle.std.proofs.Common.{◌≡◌, ℕ, zero, suc, ◌+◌, ◌≤◌, ◌<◌, List, [], ◌∷◌, ◌++◌, Some, unwrap_or, IfSome, length, take, drop, sum, slice_get, slice_index, slice_index_or, refl, ap, ap₂, ◌∙◌, sym, subst, arith}
use Rattle.std.proofs.Math.Seq.{take-add, take-append_seam, drop-append_seam}
use Rattle.std.proofs.lemmas.List.{append_assoc, drop-drop, length-take-le, length-drop}
use Rattle.nat_types.specs.declared.gateways.Side.{Side}
use Rattle.output.specs.Output.{Sent, sent, changed_at, octet_count}
use Rattle.output.specs.Piles.{cut, changed_string, bytes_in}
use Rattle.output.proofs.Cut.{sum-cons}

-- the first strings and the next one are within all of them
pub start_within : (sizes : List ℕ) (k : ℕ) → k < length sizes → sum (take k sizes) + slice_index sizes k ≤ sum sizes
start_within [] k there = absurd (omega arith)
start_within (s ∷ sizes) zero there = omega (arith, sum-cons s sizes)
start_within (s ∷ sizes) (suc k) there =
    omega (arith, sum-cons s sizes, sum-cons s (take k sizes), start_within sizes k (omega arith))

-- the string at an index
pub string_is : (sizes bytes : List ℕ) (k : ℕ) → k < length sizes
    → slice_get (cut sizes bytes) k ≡ Some (take (slice_index sizes k) (drop (sum (take k sizes)) bytes))
string_is [] bytes k there = absurd (omega arith)
string_is (s ∷ sizes) bytes zero there = refl
string_is (s ∷ sizes) bytes (suc k) there =
    string_is sizes (drop s bytes) k (omega arith)
    ∙ ap (λ xs. Some (take (slice_index sizes k) xs)) (drop-drop (sum (take k sizes)) s bytes)
    ∙ ap (λ n. Some (take (slice_index sizes k) (drop n bytes))) (sym (sum-cons s (take k sizes)))

-- the first string is known by its size
cut-first : (s : ℕ) (sizes first rest : List ℕ) → length first ≡ s → cut (s ∷ sizes) (first ++ rest) ≡ first ∷ cut sizes rest
cut-first s sizes first rest size =
    let taken : take s (first ++ rest) ≡ first = subst (λ n. take n (first ++ rest) ≡ first) size (take-append_seam first rest) in
    let left : drop s (first ++ rest) ≡ rest = subst (λ n. drop n (first ++ rest) ≡ rest) size (drop-append_seam first rest) in
    ap₂ (λ xs ys. xs ∷ cut sizes ys) taken left

-- other bytes in place of the string at an index
pub string-changes : (change : List ℕ → List ℕ) (sizes bytes new : List ℕ) (k start end : ℕ) → k < length sizes
    → start ≡ sum (take k sizes) → end ≡ start + slice_index sizes k → end ≤ length bytes → length new ≡ slice_index sizes k
    → new ≡ change (take (slice_index sizes k) (drop start bytes))
    → cut sizes (take start bytes ++ new ++ drop end bytes) ≡ changed_string k change (cut sizes bytes)
string-changes change [] bytes new k start end there from to within size is = absurd (omega arith)
string-changes change (s ∷ sizes) bytes new zero start end there from to within size is =
    let none : start ≡ 0 = from in
    let all : end ≡ s = omega (arith, to, none) in
    let is_new : new ≡ change (take s bytes) = is ∙ ap (λ n. change (take s (drop n bytes))) none in
    ap₂ (λ a b. cut (s ∷ sizes) (take a bytes ++ new ++ drop b bytes)) none all
    ∙ cut-first s sizes new (drop s bytes) size
    ∙ ap (λ xs. xs ∷ cut sizes (drop s bytes)) is_new
string-changes change (s ∷ sizes) bytes new (suc k) start end there from to within size is =
    let a : ℕ = sum (take k sizes) in
    let b : ℕ = a + slice_index sizes k in
    let rest : List ℕ = drop s bytes in
    let begins : start ≡ s + a = from ∙ sum-cons s (take k sizes) in
    let ends : end ≡ s + b = omega (arith, to, begins) in
    let in_rest : b ≤ length rest = omega (arith, ends, within, length-drop s bytes) in
    let is_new : new ≡ change (take (slice_index sizes k) (drop a rest)) =
    is ∙ ap (λ n. change (take (slice_index sizes k) (drop n bytes))) begins
    ∙ ap (λ xs. change (take (slice_index sizes k) xs)) (sym (drop-drop a s bytes)) in
    let parts : take start bytes ++ new ++ drop end bytes ≡ take s bytes ++ (take a rest ++ new ++ drop b rest) =
    ap₂ (λ n m. take n bytes ++ new ++ drop m bytes) begins ends
    ∙ ap₂ (λ xs ys. xs ++ new ++ ys) (take-add s a bytes) (sym (drop-drop b s bytes))
    ∙ ap (λ xs. xs ++ drop b rest) (append_assoc (take s bytes) (take a rest) new)
    ∙ append_assoc (take s bytes) (take a rest ++ new) (drop b rest) in
    ap (cut (s ∷ sizes)) parts
    ∙ cut-first s sizes (take s bytes) (take a rest ++ new ++ drop b rest) (length-take-le s bytes (omega (arith, ends, within)))
    ∙ ap (λ xs. take s bytes ∷ xs) (string-changes change sizes rest new k a b (omega arith) refl refl in_rest size is_new)

-- all bytes are in strings
pub bytes-in-cut : (sizes bytes : List ℕ) → sum sizes ≡ length bytes → bytes_in (cut sizes bytes) ≡ length bytes
bytes-in-cut [] bytes fills = fills
bytes-in-cut (s ∷ sizes) bytes fills =
    let all = sum-cons s sizes in
    let rest = bytes-in-cut sizes (drop s bytes) (omega (arith, all, length-drop s bytes)) in
    omega (arith, rest, length-drop s bytes, length-take-le s bytes (omega (arith, all)))

-- ---- frames
pub sent-count : (sides : List Side) (strings : List (List ℕ)) → length sides ≡ length strings → length (sent sides strings) ≡ length sides
sent-count [] strings same = refl
sent-count (x ∷ sides) [] same = absurd (omega arith)
sent-count (x ∷ sides) (s ∷ strings) same = ap suc (sent-count sides strings (omega arith))

pub sent-octets : (sides : List Side) (strings : List (List ℕ)) → length sides ≡ length strings → octet_count (sent sides strings) ≡ bytes_in strings
sent-octets [] [] same = refl
sent-octets [] (s ∷ strings) same = absurd (omega arith)
sent-octets (x ∷ sides) [] same = absurd (omega arith)
sent-octets (x ∷ sides) (s ∷ strings) same = ap (λ n. length s + n) (sent-octets sides strings (omega arith))

-- the frame at an index has the side and the string there
pub sent-at : (sides : List Side) (strings : List (List ℕ)) (k : ℕ) (side : Side) (bytes : List ℕ) → length sides ≡ length strings → k < length sides
    → side ≡ slice_index_or sides k side → slice_get strings k ≡ Some bytes → slice_get (sent sides strings) k ≡ Some (record { side = side; bytes = bytes })
sent-at [] strings k side bytes same there one two = absurd (omega arith)
sent-at (x ∷ sides) [] k side bytes same there one two = absurd (omega arith)
sent-at (x ∷ sides) (s ∷ strings) zero side bytes same there one two =
    ap₂ (λ a b. let f : Sent = record { side = a; bytes = b } in Some f) (sym one) (ap (λ o. unwrap_or o bytes) two)
sent-at (x ∷ sides) (s ∷ strings) (suc k) side bytes same there one two = sent-at sides strings k side bytes (omega arith) (omega arith) one two

-- what holds of the bytes of the frame at an index holds of the string there
pub string-ready : (P : List ℕ → Type 0) (sides : List Side) (strings : List (List ℕ)) (k : ℕ) → length sides ≡ length strings
    → IfSome (slice_get (sent sides strings) k) (λ f. P f.bytes) → IfSome (slice_get strings k) P
string-ready P [] [] k same holds = holds
string-ready P [] (s ∷ strings) k same holds = absurd (omega arith)
string-ready P (x ∷ sides) [] k same holds = absurd (omega arith)
string-ready P (x ∷ sides) (s ∷ strings) zero same holds = holds
string-ready P (x ∷ sides) (s ∷ strings) (suc k) same holds = string-ready P sides strings k (omega arith) holds

-- the frames, where the string at an index is changed
pub sent-changes : (change : List ℕ → List ℕ) (sides : List Side) (strings : List (List ℕ)) (k : ℕ) → length sides ≡ length strings
    → sent sides (changed_string k change strings) ≡ changed_at k change (sent sides strings)
sent-changes change [] [] k same = refl
sent-changes change [] (s ∷ strings) k same = absurd (omega arith)
sent-changes change (x ∷ sides) [] k same = absurd (omega arith)
sent-changes change (x ∷ sides) (s ∷ strings) zero same = refl
sent-changes change (x ∷ sides) (s ∷ strings) (suc k) same =
    ap (λ (fs : List Sent). record { side = x; bytes = s } ∷ fs) (sent-changes change sides strings k (omega arith))

-- there are as many strings as before
pub changed-count : (change : List ℕ → List ℕ) (strings : List (List ℕ)) (k : ℕ) → length (changed_string k change strings) ≡ length strings
changed-count change [] k = refl
changed-count change (s ∷ strings) zero = refl
changed-count change (s ∷ strings) (suc k) = ap suc (changed-count change strings k)
