-- A buffer that is filled part by part.
use Rattle.std.proofs.Common.{◌≡◌, ℕ, ◌+◌, ◌-◌, ◌≤◌, List, ◌++◌, length, take, drop, sym, ◌∙◌, ap, arith}
use Rattle.std.proofs.Math.Path.{ap₂}
use Rattle.std.proofs.Math.Seq.{take-add, take-append-add}
use Rattle.std.proofs.lemmas.List.{length-take, take_all, take-append-le}
use Rattle.std.proofs.lemmas.Slice.{take-put_mid_below}
use borrow.Rule.Slice.PartMut.{post_of, put_mid}

-- k bytes more, behind those that are there
pub front_more : (n k : ℕ) (buffer part : List ℕ) → n ≤ length buffer → k ≤ length part → take (n + k) (put_mid n (32 - n) buffer part) ≡ take n buffer ++ take k part
front_more n k buffer part fits few =
    let rest = part ++ post_of n (32 - n) buffer in
    let size : length (take n buffer) ≡ n = omega (arith, length-take n buffer) in
    ap (λ (m : ℕ). take (m + k) (take n buffer ++ rest)) (sym size)
    ∙ take-append-add (take n buffer) rest k
    ∙ ap (λ (l : List ℕ). take n buffer ++ l) (take-append-le k part (post_of n (32 - n) buffer) few)

-- of a file's bytes
pub filled_more : (n k : ℕ) (buffer part bytes : List ℕ) → n ≤ length buffer → k ≤ length part → take n buffer ≡ take n bytes → take k part ≡ take k (drop n bytes) → take (n + k) (put_mid n (32 - n) buffer part) ≡ take (n + k) bytes
filled_more n k buffer part bytes fits few front back =
    front_more n k buffer part fits few
    ∙ ap₂ (λ (l m : List ℕ). l ++ m) front back
    ∙ sym (take-add n k bytes)

-- where the file ends
pub filled_whole : (n : ℕ) (buffer part bytes : List ℕ) → n ≤ 32 → n ≤ length buffer → length bytes ≤ n → take n buffer ≡ take n bytes → take n (put_mid n (32 - n) buffer part) ≡ take 32 bytes
filled_whole n buffer part bytes low fits ends front =
    take-put_mid_below n (32 - n) buffer part n (omega arith) fits ∙ front ∙ take_all n bytes ends ∙ sym (take_all 32 bytes (omega arith))
