-- The bytes that a crash may leave, in part and as a whole.
use Rattle.std.proofs.Common.{◌≡◌, ◌≢◌, ℕ, zero, suc, ◌+◌, ◌≤◌, List, [], ◌∷◌, ◌++◌, length, take, drop, map, refl, sym, ◌∙◌, ap, subst, arith, append_assoc, length-append, length-drop}
use Rattle.std.proofs.Math.Path.{ap₂}
use Rattle.std.proofs.lemmas.List.{drop-map, take-map, length-map, length-take, map-append, take_at, drop_at}
use Rattle.boot_store.specs.declared.disk.Cell.{Cell}
use Rattle.boot_store.specs.declared.disk.Hold.{Hold}
use Rattle.boot_store.specs.declared.disk.Hold.TheVariants.{Kept, Loose, Lost}
use Rattle.boot_store.specs.Moment.{Moment, bytes_of, MayLeave, MayShow, put, loose_cell, kept_cell, left_by_crash, written, synced, synced_cell, synced_hold, StillKept, AfterRead}

pub as_read : (s : Moment) → MayLeave s (bytes_of s)
as_read [] = tt
as_read (cell ∷ s) = ((λ _. refl), as_read s)

pub leaves_length : (s : Moment) (c : List ℕ) → MayLeave s c → length c ≡ length s
leaves_length [] [] l = refl
leaves_length [] (b ∷ c) l = absurd l
leaves_length (cell ∷ s) [] l = absurd l
leaves_length (cell ∷ s) (b ∷ c) l = ap suc (leaves_length s c l.1)

pub leaves_take : (n : ℕ) (s : Moment) (c : List ℕ) → MayLeave s c → MayLeave (take n s) (take n c)
leaves_take zero s c l = tt
leaves_take (suc n) [] [] l = tt
leaves_take (suc n) [] (b ∷ c) l = absurd l
leaves_take (suc n) (cell ∷ s) [] l = absurd l
leaves_take (suc n) (cell ∷ s) (b ∷ c) l = (l.0, leaves_take n s c l.1)

pub leaves_drop : (n : ℕ) (s : Moment) (c : List ℕ) → MayLeave s c → MayLeave (drop n s) (drop n c)
leaves_drop zero s c l = l
leaves_drop (suc n) [] [] l = tt
leaves_drop (suc n) [] (b ∷ c) l = absurd l
leaves_drop (suc n) (cell ∷ s) [] l = absurd l
leaves_drop (suc n) (cell ∷ s) (b ∷ c) l = leaves_drop n s c l.1

-- a crash leaves the bytes that are kept in front
pub leaves_front : (x : List ℕ) (t : Moment) (c : List ℕ) → MayLeave (left_by_crash x ++ t) c → (rest : List ℕ) × (c ≡ x ++ rest)
leaves_front [] t c l = (c, refl)
leaves_front (b ∷ x) t [] l = absurd l
leaves_front (b ∷ x) t (d ∷ c) l =
    let more = leaves_front x t c l.1 in
    (more.0, ap₂ (λ (y : ℕ) (ys : List ℕ). y ∷ ys) (l.0 refl) more.1)

-- a crash leaves what is kept
pub kept_leaves : (file c : List ℕ) → MayLeave (left_by_crash file) c → c ≡ file
kept_leaves [] [] l = refl
kept_leaves [] (b ∷ c) l = absurd l
kept_leaves (x ∷ file) [] l = absurd l
kept_leaves (x ∷ file) (b ∷ c) l = ap₂ (λ (y : ℕ) (ys : List ℕ). y ∷ ys) (l.0 refl) (kept_leaves file c l.1)

pub steady_leaves : (s : Moment) (c : List ℕ) → left_by_crash (bytes_of s) ≡ s → MayLeave s c → c ≡ bytes_of s
steady_leaves s c steady l = kept_leaves (bytes_of s) c (subst (λ t. MayLeave t c) (sym steady) l)

-- after a sync a crash leaves nothing that it couldn't leave before
synced_cell_leaves : (h : Hold) (b byte : ℕ) → (synced_hold h ≡ Kept → b ≡ byte) → h ≡ Kept → b ≡ byte
synced_cell_leaves Kept b byte l is = l refl
synced_cell_leaves Loose b byte l is = cc
synced_cell_leaves Lost b byte l is = cc

pub synced_leaves : (s : Moment) (c : List ℕ) → MayLeave (synced s) c → MayLeave s c
synced_leaves [] c l = l
synced_leaves (cell ∷ s) [] l = absurd l
synced_leaves (cell ∷ s) (b ∷ c) l = (synced_cell_leaves cell.hold b cell.byte l.0, synced_leaves s c l.1)

-- after a call that left what was kept, a crash leaves nothing that it couldn't leave before
pub still_leaves : (s t : Moment) (c : List ℕ) → StillKept s t → MayLeave t c → MayLeave s c
still_leaves [] [] c k l = l
still_leaves [] (after ∷ t) c k l = absurd k
still_leaves (cell ∷ s) [] c k l = absurd k
still_leaves (cell ∷ s) (after ∷ t) [] k l = absurd l
still_leaves (cell ∷ s) (after ∷ t) (b ∷ c) k l =
    ((λ is. l.0 (ap (λ x. x.hold) (k.0 is) ∙ is) ∙ ap (λ x. x.byte) (k.0 is)), still_leaves s t c k.1 l.1)

read_still : (h : Hold) (cell after : Cell) → (h ≢ Lost → after ≡ cell) → h ≡ Kept → after ≡ cell
read_still Kept cell after same is = same (λ e. cc)
read_still Loose cell after same is = cc
read_still Lost cell after same is = cc

-- a read leaves what was kept
pub read_keeps : (s t : Moment) → AfterRead s t → StillKept s t
read_keeps [] [] r = tt
read_keeps [] (after ∷ t) r = absurd r
read_keeps (cell ∷ s) [] r = absurd r
read_keeps (cell ∷ s) (after ∷ t) r = (read_still cell.hold cell after r.0, read_keeps s t r.2)

-- a cell after a sync and then a read shows what it may
settled_cell : (h : Hold) (byte : ℕ) (after : Cell) → (synced_hold h ≢ Lost → after ≡ record { byte = byte; hold = synced_hold h }) → (synced_hold h ≡ Lost → after.hold ≡ Kept)
    → (h ≢ Lost → after.byte ≡ byte) × (kept_cell after.byte ≡ after)
settled_cell Kept byte after same lost =
    let is : after ≡ kept_cell byte = same (λ e. cc) in
    ((λ _. ap (λ x. x.byte) is), ap (λ x. kept_cell x.byte) is ∙ sym is)
settled_cell Loose byte after same lost =
    let is : after ≡ kept_cell byte = same (λ e. cc) in
    ((λ _. ap (λ x. x.byte) is), ap (λ x. kept_cell x.byte) is ∙ sym is)
settled_cell Lost byte after same lost =
    ((λ not. absurd (not refl)), ap (λ h. record { byte = after.byte; hold = h }) (sym (lost refl)))

-- a disk that was synced and then read shows what it may, and all of it is kept
pub settled_shows : (s t : Moment) → AfterRead (synced s) t → MayShow s (bytes_of t)
settled_shows [] [] r = tt
settled_shows [] (after ∷ t) r = absurd r
settled_shows (cell ∷ s) [] r = absurd r
settled_shows (cell ∷ s) (after ∷ t) r = ((settled_cell cell.hold cell.byte after r.0 r.1).0, settled_shows s t r.2)

pub settled_kept : (s t : Moment) → AfterRead (synced s) t → left_by_crash (bytes_of t) ≡ t
settled_kept [] [] r = refl
settled_kept [] (after ∷ t) r = absurd r
settled_kept (cell ∷ s) [] r = absurd r
settled_kept (cell ∷ s) (after ∷ t) r =
    ap₂ (λ (y : Cell) (ys : Moment). y ∷ ys) (settled_cell cell.hold cell.byte after r.0 r.1).1 (settled_kept s t r.2)

-- the bytes of kept cells
pub bytes-kept : (file : List ℕ) → bytes_of (left_by_crash file) ≡ file
bytes-kept [] = refl
bytes-kept (b ∷ file) = ap (λ (ys : List ℕ). b ∷ ys) (bytes-kept file)

pub bytes-synced : (s : Moment) → bytes_of (synced s) ≡ bytes_of s
bytes-synced [] = refl
bytes-synced (cell ∷ s) = ap (λ (ys : List ℕ). cell.byte ∷ ys) (bytes-synced s)

pub bytes-loose : (xs : List ℕ) → bytes_of (map loose_cell xs) ≡ xs
bytes-loose [] = refl
bytes-loose (x ∷ xs) = ap (λ (ys : List ℕ). x ∷ ys) (bytes-loose xs)

pub synced-loose : (xs : List ℕ) → synced (map loose_cell xs) ≡ left_by_crash xs
synced-loose [] = refl
synced-loose (x ∷ xs) = ap (λ (ys : Moment). kept_cell x ∷ ys) (synced-loose xs)

pub synced-kept : (file : List ℕ) → synced (left_by_crash file) ≡ left_by_crash file
synced-kept [] = refl
synced-kept (x ∷ file) = ap (λ (ys : Moment). kept_cell x ∷ ys) (synced-kept file)

-- mapping commutes with a write
pub map-put : {X Y : Type 0} (f : X → Y) (at : ℕ) (xs old : List X) → map f (put at xs old) ≡ put at (map f xs) (map f old)
map-put f at xs old =
    map-append f (take at old ++ xs) (drop (at + length xs) old)
    ∙ ap₂ (λ a b. a ++ b) (map-append f (take at old) xs ∙ ap (λ a. a ++ map f xs) (sym (take-map f at old)))
    (sym (drop-map f (at + length xs) old) ∙ ap (λ n. drop (at + n) (map f old)) (sym (length-map xs f)))

-- the bytes after a write
pub bytes-written : (at : ℕ) (xs : List ℕ) (s : Moment) → bytes_of (written at xs s) ≡ put at xs (bytes_of s)
bytes-written at xs s = map-put (λ cell. cell.byte) at (map loose_cell xs) s ∙ ap (λ (l : List ℕ). put at l (bytes_of s)) (bytes-loose xs)

-- a write that was synced, over what was kept
pub synced-written : (at : ℕ) (xs : List ℕ) (s : Moment) → left_by_crash (bytes_of s) ≡ s → synced (written at xs s) ≡ left_by_crash (put at xs (bytes_of s))
synced-written at xs s steady =
    map-put synced_cell at (map loose_cell xs) s
    ∙ ap₂ (λ (l t : Moment). put at l t) (synced-loose xs) (ap synced (sym steady) ∙ synced-kept (bytes_of s))
    ∙ sym (map-put kept_cell at xs (bytes_of s))

pub length-put : {X : Type 0} (at : ℕ) (xs old : List X) → at + length xs ≤ length old → length (put at xs old) ≡ length old
length-put at xs old h =
    let a = length-append (take at old ++ xs) (drop (at + length xs) old) in
    let b = length-append (take at old) xs in
    omega (arith, a, b, length-take at old, length-drop (at + length xs) old)

-- after the bytes of a write, the old ones remain
pub drop-put : {X : Type 0} (at : ℕ) (xs old : List X) (n : ℕ) → at + length xs ≤ length old → n ≡ at + length xs → drop n (put at xs old) ≡ drop n old
drop-put at xs old n h e =
    let size : length (take at old ++ xs) ≡ n = omega (arith, length-append (take at old) xs, length-take at old) in
    drop_at (take at old ++ xs) (drop (at + length xs) old) n size ∙ ap (λ k. drop k old) (sym e)

-- before the bytes of a write, the old ones remain
pub take-put : {X : Type 0} (at : ℕ) (xs old : List X) → at ≤ length old → take at (put at xs old) ≡ take at old
take-put at xs old h =
    let size : length (take at old) ≡ at = omega (arith, length-take at old) in
    ap (take at) (append_assoc (take at old) xs (drop (at + length xs) old)) ∙ take_at (take at old) (xs ++ drop (at + length xs) old) at size

-- a call that left what was kept, after a sync, leaves what was kept before it
synced_cell_still : (h : Hold) (byte : ℕ) (after : Cell) → (synced_hold h ≡ Kept → after ≡ record { byte = byte; hold = synced_hold h }) → h ≡ Kept → after ≡ record { byte = byte; hold = h }
synced_cell_still Kept byte after same is = same refl
synced_cell_still Loose byte after same is = cc
synced_cell_still Lost byte after same is = cc

pub synced_still : (s t : Moment) → StillKept (synced s) t → StillKept s t
synced_still [] [] k = tt
synced_still [] (after ∷ t) k = absurd k
synced_still (cell ∷ s) [] k = absurd k
synced_still (cell ∷ s) (after ∷ t) k = (synced_cell_still cell.hold cell.byte after k.0, synced_still s t k.1)

pub drop_still : (n : ℕ) (s t : Moment) → StillKept s t → StillKept (drop n s) (drop n t)
drop_still zero s t k = k
drop_still (suc n) [] [] k = tt
drop_still (suc n) [] (after ∷ t) k = absurd k
drop_still (suc n) (cell ∷ s) [] k = absurd k
drop_still (suc n) (cell ∷ s) (after ∷ t) k = drop_still n s t k.1

-- after a write at the beginning, the rest is as before
pub drop-written : (xs : List ℕ) (s : Moment) (n : ℕ) → length xs ≡ n → drop n (written 0 xs s) ≡ drop n s
drop-written xs s n size =
    let same : length (map loose_cell xs) ≡ n = length-map xs loose_cell ∙ size in
    let behind : 0 + length (map loose_cell xs) ≡ n = omega (arith, same) in
    drop_at (map loose_cell xs) (drop (0 + length (map loose_cell xs)) s) n same ∙ ap (λ k. drop k s) behind
