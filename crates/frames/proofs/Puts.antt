-- What is read from bytes after a write into them.
use Rattle.std.proofs.Common.{◌≡◌, ℕ, ◌+◌, ◌≤◌, List, ◌++◌, length, take, drop, ap, ◌∙◌, sym, arith, append_assoc, length-append}
use Rattle.std.proofs.lemmas.List.{take-append-le, length-take-le, take-append-drop}
use Rattle.std.proofs.lemmas.Slice.{drop-append-drop}
use Rattle.std.proofs.Math.Seq.{drop-append_seam, take-append_seam}
use Rattle.frames.specs.Bytes.{Puts}

-- the bytes before the place are as they were
pub take-before : (at n : ℕ) (bytes old new : List ℕ) → n ≤ at → at ≤ length old → Puts at bytes old new → take n new ≡ take n old
take-before at n bytes old new low fits puts =
    let len : length (take at old) ≡ at = length-take-le at old fits in
    let front : n ≤ length (take at old) = omega arith in
    let whole : n ≤ length (take at old ++ bytes) = omega (arith, length-append (take at old) bytes) in
    ap (take n) puts
    ∙ take-append-le n (take at old ++ bytes) (drop (at + length bytes) old) whole
    ∙ take-append-le n (take at old) bytes front
    ∙ sym (take-append-le n (take at old) (drop at old) front)
    ∙ ap (take n) (take-append-drop at old)

-- from the place on, there are the written bytes, and after them the old ones
pub drop-here : (at : ℕ) (bytes old new : List ℕ) → at ≤ length old → Puts at bytes old new → drop at new ≡ bytes ++ drop (at + length bytes) old
drop-here at bytes old new fits puts =
    let len : length (take at old) ≡ at = length-take-le at old fits in
    ap (drop at) (puts ∙ append_assoc (take at old) bytes (drop (at + length bytes) old))
    ∙ ap (λ (k : ℕ). drop k (take at old ++ (bytes ++ drop (at + length bytes) old))) (sym len)
    ∙ drop-append_seam (take at old) (bytes ++ drop (at + length bytes) old)

-- the part at the place is what was written
pub part-here : (at n : ℕ) (bytes old new : List ℕ) → n ≡ length bytes → at ≤ length old → Puts at bytes old new → take n (drop at new) ≡ bytes
part-here at n bytes old new size fits puts =
    ap (λ (k : ℕ). take k (drop at new)) size
    ∙ ap (take (length bytes)) (drop-here at bytes old new fits puts)
    ∙ take-append_seam bytes (drop (at + length bytes) old)

-- the bytes after the written ones are as they were
pub drop-after : (at p : ℕ) (bytes old new : List ℕ) → at + length bytes ≤ p → at ≤ length old → Puts at bytes old new → drop p new ≡ drop p old
drop-after at p bytes old new high fits puts =
    let len : length (take at old) ≡ at = length-take-le at old fits in
    let front : length (take at old ++ bytes) ≡ at + length bytes = omega (arith, length-append (take at old) bytes) in
    ap (drop p) puts ∙ drop-append-drop (at + length bytes) old (take at old ++ bytes) p high front
