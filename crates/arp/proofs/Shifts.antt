-- A list in which one item is removed and another inserted, by moving the items between them.
use Rattle.std.proofs.Common.{◌≡◌, ◌≢◌, ◌≤◌, ◌<◌, ◌+◌, ◌-◌, ℕ, List, length, get_or, set, subst, arith}
use Rattle.std.specs.List.{insert, remove, CopiedTo, SameBelow, SameFrom}
use Rattle.std.proofs.lemmas.List.{length-set, get_or-set_same, get_or-set_other, same_lists}
use Rattle.std.proofs.lemmas.List.Edits.{length-insert, get_or-insert_below, get_or-insert_at, get_or-insert_above, length-remove, get_or-remove_below, get_or-remove_above}

module _ {X : Type 0} (xs ys : List X) (out at : ℕ) (s : X) (there : out < length xs) (same_length : length ys ≡ length xs) where
  abbrev rest : List X
  rest = remove xs out

  length_rest : length rest + 1 ≡ length xs
  length_rest = length-remove xs out there

  module _ (to : ℕ) (within : to ≤ length rest) (k : ℕ) (d : X) where
    put : k ≡ to → get_or (insert rest to s) k d ≡ s
    put here = rw here (get_or-insert_at rest to s d within)

    put_below : k < to → get_or (insert rest to s) k d ≡ get_or rest k d
    put_below lt = get_or-insert_below rest to s d k lt within

    put_above : to < k → get_or (insert rest to s) k d ≡ get_or rest (k - 1) d
    put_above lt = subst (λ q. get_or (insert rest to s) q d ≡ get_or rest (k - 1) d) {x = k - 1 + 1} (omega (arith, lt)) (get_or-insert_above rest to s d (k - 1) (omega (arith, lt)) within)

    written : k ≡ to → k < length ys → get_or (set ys to s) k d ≡ s
    written here lt = rw here (get_or-set_same ys to s d (omega (arith, here, lt)))

    unwritten : k ≢ to → get_or (set ys to s) k d ≡ get_or ys k d
    unwritten other = get_or-set_other ys to k s d other

  module _ (k : ℕ) (d : X) where
    left_below : k < out → get_or rest k d ≡ get_or xs k d
    left_below lt = get_or-remove_below xs out d k lt there

    left_above : out < k → get_or rest (k - 1) d ≡ get_or xs k d
    left_above lt = subst (λ q. get_or rest (k - 1) d ≡ get_or xs q d) {x = k - 1 + 1} (omega (arith, lt)) (get_or-remove_above xs out d (k - 1) (omega (arith, lt)) there)

    left_next : out ≤ k → get_or rest k d ≡ get_or xs (k + 1) d
    left_next le = get_or-remove_above xs out d k le there

  -- the items between them move down
  pub moved-down : out < at → at ≤ length xs → CopiedTo xs ys (out + 1) out (at - (out + 1)) → SameBelow xs ys out → SameFrom xs ys (out + (at - (out + 1))) → set ys (at - 1) s ≡ insert rest (at - 1) s
  moved-down before within copied low high = same_lists (set ys (at - 1) s) (insert rest (at - 1) s)
      (omega (arith, length-set ys (at - 1) s, length-insert rest (at - 1) s inside, length_rest, same_length))
      (λ k d lt.
      let lt' : k < length ys = omega (arith, lt, length-set ys (at - 1) s) in
      let between : out ≤ k → k < at - 1 → get_or ys k d ≡ get_or xs (k + 1) d = λ le less. subst (λ q. get_or ys k d ≡ get_or xs q d) {x = out + 1 + (k - out)} (omega (arith, le)) (copied k d le (omega (arith, less, before))) in
      let above : at - 1 < k → get_or ys k d ≡ get_or xs k d = λ less. high k d (omega (arith, less, before)) in
      grind (arith, low k d, between, above, put (at - 1) inside k d, put_below (at - 1) inside k d, put_above (at - 1) inside k d, written (at - 1) inside k d, unwritten (at - 1) inside k d, left_below k d, left_above k d, left_next k d))
    where
      inside : at - 1 ≤ length rest
      inside = omega (arith, within, before, length_rest)

  -- the items between them move up
  pub moved-up : at ≤ out → CopiedTo xs ys at (at + 1) (out - at) → SameBelow xs ys (at + 1) → SameFrom xs ys (at + 1 + (out - at)) → set ys at s ≡ insert rest at s
  moved-up before copied low high = same_lists (set ys at s) (insert rest at s)
      (omega (arith, length-set ys at s, length-insert rest at s inside, length_rest, same_length))
      (λ k d lt.
      let lt' : k < length ys = omega (arith, lt, length-set ys at s) in
      let between : at < k → k ≤ out → get_or ys k d ≡ get_or xs (k - 1) d = λ less le. subst (λ q. get_or ys k d ≡ get_or xs q d) {x = at + (k - (at + 1))} (omega (arith, less)) (copied k d (omega (arith, less)) (omega (arith, less, le))) in
      let above : out < k → get_or ys k d ≡ get_or xs k d = λ less. high k d (omega (arith, less, before)) in
      let left_before : k ≤ out → at < k → get_or rest (k - 1) d ≡ get_or xs (k - 1) d = λ le less. left_below (k - 1) d (omega (arith, le, less)) in
      grind (arith, low k d, between, above, put at inside k d, put_below at inside k d, put_above at inside k d, written at inside k d, unwritten at inside k d, left_below k d, left_above k d, left_before))
    where
      inside : at ≤ length rest
      inside = omega (arith, before, there, length_rest)
