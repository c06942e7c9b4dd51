-- A loop that moves the packets whose wait is over to another list.
use Rattle.std.proofs.Common.{◌≡◌, ℕ, suc, ◌≤◌, ◌<◌, Bool, true, false, not, List, [], ◌∷◌, ◌++◌, length, take, drop, refl, sym, ap, ◌∙◌, arith, append_assoc, length-append}
use Rattle.std.proofs.Math.Seq.{take-append_seam, drop-append_seam}
use Rattle.std.proofs.lemmas.List.{length-take-le}
use Rattle.std.specs.List.{filter}
use Rattle.waiting.specs.declared.waits.Ended.{Ended}
use Rattle.waiting.specs.Waits.{ends}
use Rattle.waiting.specs.Packets.{HeldPacket, ended_by, left_by}

-- the packets passed stayed or were moved; those ahead are as they were
pub record IsMoving (ended : Ended) (all before kept list : List HeldPacket) (at : ℕ) : Type 0 where
  pub within : at ≤ length kept
  pub left : left_by ended all ≡ take at kept ++ left_by ended (drop at kept)
  pub taken : before ++ ended_by ended all ≡ list ++ ended_by ended (drop at kept)

filter-yes : (p : HeldPacket → Bool) (w : HeldPacket) (ws : List HeldPacket) → p w ≡ true → filter p (w ∷ ws) ≡ w ∷ filter p ws
filter-yes p w ws is = rw is refl

filter-no : (p : HeldPacket → Bool) (w : HeldPacket) (ws : List HeldPacket) → p w ≡ false → filter p (w ∷ ws) ≡ filter p ws
filter-no p w ws isnt = rw isnt refl

-- the list without its packet at an index
abbrev without_at : List HeldPacket → ℕ → List HeldPacket
without_at kept at = take at kept ++ drop (suc at) kept

front-same : (kept : List HeldPacket) (at : ℕ) → at < length kept → take at (without_at kept at) ≡ take at kept
front-same kept at below =
    let long : length (take at kept) ≡ at = length-take-le at kept (omega arith) in
    ap (λ n. take n (without_at kept at)) (sym long) ∙ take-append_seam (take at kept) (drop (suc at) kept)

back-same : (kept : List HeldPacket) (at : ℕ) → at < length kept → drop at (without_at kept at) ≡ drop (suc at) kept
back-same kept at below =
    let long : length (take at kept) ≡ at = length-take-le at kept (omega arith) in
    ap (λ n. drop n (without_at kept at)) (sym long) ∙ drop-append_seam (take at kept) (drop (suc at) kept)

within-same : (kept : List HeldPacket) (at : ℕ) → at < length kept → at ≤ length (without_at kept at)
within-same kept at below =
    let long : length (take at kept) ≡ at = length-take-le at kept (omega arith) in
    omega (arith, long, length-append (take at kept) (drop (suc at) kept))

-- the packet at the index is moved to the other list
pub moving-takes : (ended : Ended) (all before kept list : List HeldPacket) (at : ℕ) (w : HeldPacket) → at < length kept → drop at kept ≡ w ∷ drop (suc at) kept
    → ends ended w.wait ≡ true → IsMoving ended all before kept list at → IsMoving ended all before (without_at kept at) (list ++ w ∷ []) at
moving-takes ended all before kept list at w below here is was =
    let rest = drop (suc at) kept in
    let no : not (ends ended w.wait) ≡ false = ap not is in
    let left_here : left_by ended (drop at kept) ≡ left_by ended rest =
    ap (left_by ended) here ∙ filter-no (λ (v : HeldPacket). not (ends ended v.wait)) w rest no in
    let taken_here : ended_by ended (drop at kept) ≡ w ∷ ended_by ended rest =
    ap (ended_by ended) here ∙ filter-yes (λ (v : HeldPacket). ends ended v.wait) w rest is in
    record {
      within = within-same kept at below;
      left = was.left ∙ ap (λ ws. take at kept ++ ws) left_here ∙ rw (front-same kept at below, back-same kept at below) refl;
      taken = was.taken ∙ ap (λ ws. list ++ ws) taken_here ∙ sym (rw (back-same kept at below) (append_assoc list (w ∷ []) (ended_by ended rest)));
    }

-- the packet at the index stays
pub moving-passes : (ended : Ended) (all before kept list : List HeldPacket) (at : ℕ) (w : HeldPacket) → at < length kept → drop at kept ≡ w ∷ drop (suc at) kept
    → take (suc at) kept ≡ take at kept ++ w ∷ [] → ends ended w.wait ≡ false → IsMoving ended all before kept list at → IsMoving ended all before kept list (suc at)
moving-passes ended all before kept list at w below here more isnt was =
    let rest = drop (suc at) kept in
    let yes : not (ends ended w.wait) ≡ true = ap not isnt in
    let left_here : left_by ended (drop at kept) ≡ w ∷ left_by ended rest =
    ap (left_by ended) here ∙ filter-yes (λ (v : HeldPacket). not (ends ended v.wait)) w rest yes in
    let taken_here : ended_by ended (drop at kept) ≡ ended_by ended rest =
    ap (ended_by ended) here ∙ filter-no (λ (v : HeldPacket). ends ended v.wait) w rest isnt in
    record {
      within = omega arith;
      left = was.left ∙ ap (λ ws. take at kept ++ ws) left_here ∙ sym (ap (λ ws. ws ++ left_by ended rest) more ∙ append_assoc (take at kept) (w ∷ []) (left_by ended rest));
      taken = was.taken ∙ ap (λ ws. list ++ ws) taken_here;
    }
