-- One more cell in the loops of a modelled disk.
use Rattle.std.proofs.Common.{◌≡◌, ℕ, zero, suc, ◌+◌, ◌<◌, ◌≤◌, List, [], ◌∷◌, ◌++◌, length, get_or, take, drop, set, map, refl, sym, ◌∙◌, ap, arith, append_assoc, length-append}
use Rattle.std.proofs.lemmas.List.{append-nil, drop_all, drop_more, length-map, length-take, map-append, take_more}
use Rattle.boot_store.specs.declared.disk.Cell.{Cell}
use Rattle.boot_store.specs.Moment.{Moment, bytes_of, loose_cell, put, written, synced, left_by_crash}
use Rattle.boot_store.proofs.Leaves.{synced-loose}
use Rattle.boot_store.specs.Cells.{each_with}

-- setting the item after a front
pub set_behind : {X : Type 0} (front rest : List X) (old new : X) → set (front ++ old ∷ rest) (length front) new ≡ front ++ new ∷ rest
set_behind [] rest old new = refl
set_behind (x ∷ front) rest old new = ap (λ l. x ∷ l) (set_behind front rest old new)

pub put_more : {X : Type 0} (at k : ℕ) (xs old : List X) (y d : X) → at + length xs < length old → k ≡ at + length xs → set (put at xs old) k y ≡ put at (xs ++ y ∷ []) old
put_more at k xs old y d within is =
    let front = take at old ++ xs in
    let size : length front ≡ k = omega (arith, length-append (take at old) xs, length-take at old) in
    let opened : drop (at + length xs) old ≡ get_or old (at + length xs) d ∷ drop (at + length xs + 1) old = drop_more old (at + length xs) d within in
    let last : at + length xs + 1 ≡ at + length (xs ++ y ∷ []) = omega (arith, length-append xs (y ∷ [])) in
    ap (λ l. set (front ++ l) k y) opened
    ∙ ap (λ n. set (front ++ get_or old (at + length xs) d ∷ drop (at + length xs + 1) old) n y) (sym size)
    ∙ set_behind front (drop (at + length xs + 1) old) (get_or old (at + length xs) d) y
    ∙ sym (append_assoc front (y ∷ []) (drop (at + length xs + 1) old))
    ∙ ap (λ l. l ++ drop (at + length xs + 1) old) (append_assoc (take at old) xs (y ∷ []))
    ∙ ap (λ n. (take at old ++ (xs ++ y ∷ [])) ++ drop n old) last

pub write_more : (at i : ℕ) (bytes : List ℕ) (s : Moment) (d : ℕ) → at + length bytes ≤ length s → i < length bytes → set (written at (take i bytes) s) (at + i) (loose_cell (get_or bytes i d)) ≡ written at (take (i + 1) bytes) s
write_more at i bytes s d within more =
    let size : length (map loose_cell (take i bytes)) ≡ i = omega (arith, length-map (take i bytes) loose_cell, length-take i bytes) in
    put_more at (at + i) (map loose_cell (take i bytes)) s (loose_cell (get_or bytes i d)) (loose_cell 0) (omega (arith, size)) (omega (arith, size))
    ∙ ap (λ l. put at l s) (sym (map-append loose_cell (take i bytes) (get_or bytes i d ∷ [])) ∙ ap (map loose_cell) (sym (take_more bytes i d more)))

-- one more cell is changed
pub map_more : (f : Cell → Cell) (s : Moment) (i : ℕ) (d : Cell) → i < length s → set (map f (take i s) ++ drop i s) i (f (get_or (map f (take i s) ++ drop i s) i d)) ≡ map f (take (suc i) s) ++ drop (suc i) s
map_more f [] i d h = absurd (omega arith)
map_more f (cell ∷ s) zero d h = refl
map_more f (cell ∷ s) (suc i) d h = ap (λ (l : Moment). f cell ∷ l) (map_more f s i d (omega arith))

-- one more cell is changed with the byte at its place
pub each_more : (f : ℕ → Cell → Cell) (any : List ℕ) (s : Moment) (i n : ℕ) (d : Cell) → i < length s → i < length any → set (each_with f (take i any) s) i (f (get_or any i n) (get_or (each_with f (take i any) s) i d)) ≡ each_with f (take (suc i) any) s
each_more f [] s i n d h k = absurd (omega arith)
each_more f (b ∷ any) [] i n d h k = absurd (omega arith)
each_more f (b ∷ any) (cell ∷ s) zero n d h k = refl
each_more f (b ∷ any) (cell ∷ s) (suc i) n d h k = ap (λ (l : Moment). f b cell ∷ l) (each_more f any s i n d (omega arith) (omega arith))

pub read_more : (s : Moment) (room : List ℕ) (i : ℕ) (d : Cell) → i < length s → length room ≡ length s → set (bytes_of (take i s) ++ drop i room) i (get_or s i d).byte ≡ bytes_of (take (suc i) s) ++ drop (suc i) room
read_more [] room i d h e = absurd (omega arith)
read_more (cell ∷ s) [] i d h e = absurd (omega arith)
read_more (cell ∷ s) (b ∷ room) zero d h e = refl
read_more (cell ∷ s) (b ∷ room) (suc i) d h e = ap (λ (l : List ℕ). cell.byte ∷ l) (read_more s room i d (omega arith) (omega arith))

-- a file that was written whole and synced is kept
pub synced_whole : (file : List ℕ) (s : Moment) → length s ≡ length file → synced (written 0 file s) ≡ left_by_crash file
synced_whole file s same =
    let rest : drop (0 + length (map loose_cell file)) s ≡ [] = drop_all (0 + length (map loose_cell file)) s (omega (arith, same, length-map file loose_cell)) in
    ap (λ (l : Moment). synced (map loose_cell file ++ l)) rest ∙ ap synced (append-nil (map loose_cell file)) ∙ synced-loose file
