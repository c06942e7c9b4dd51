-- The idle pairs of a tick.
use Rattle.std.proofs.Common.{◌≡◌, ℕ, zero, suc, ◌+◌, ◌<◌, ◌≤◌, Bool, true, false, cond, not, nat_lt, nat_le, ◌==◌, ◌-◌, ◌&&◌, ◌||◌, ◌⊎◌, inl, inr, List, [], ◌∷◌, ◌++◌, length, get_or, drop, refl, sym, ap, subst, ◌∙◌, arith, append_assoc, slice_get, Option, Some, None}
use Rattle.std.proofs.lemmas.Option.{get_or_from_slice_get, slice_get_within}
use Rattle.std.proofs.lemmas.List.{length-append}
use Rattle.std.proofs.lemmas.List.Sums.{sum_by-cons}
use Rattle.std.proofs.Math.Seq.{drop-cons}
use Rattle.std.specs.List.{filter}
use Rattle.nat_types.specs.Same.{same_key}
use Rattle.nat_types.specs.declared.notes.Note.{Note}
use Rattle.link.specs.Link.{Link}
use Rattle.spec_binding.specs.Rows.{dropping, idle_row, after, answered, changed, noted_by, numbers_of, quiet, release_row, released_row}
use Rattle.spec_binding.specs.Ledgers.{Ledger, LetGo, is_reached, ledger_after, release_all, may_ask}
use Rattle.nat_types.specs.declared.records.Record.{Record}
use Rattle.spec_pair.specs.Box.{Letter}
use Rattle.spec_binding.specs.declared.setups.Stage.{Stage}
use Rattle.spec_binding.specs.declared.setups.Stage.TheVariants.{Unsynced, Paired, Lone}
use Rattle.spec_binding.specs.Books.{Book, is_apart, is_lone, is_paired, is_synced}
use Rattle.spec_binding.specs.declared.changes.Change.{Change}
use Rattle.spec_binding.specs.declared.changes.Change.TheVariants.{Keep, Add, Turn, Renew, Drop, Yield, Want, Give, Gain}
use Rattle.spec_binding.specs.declared.changes.Transition.{Transition}
use Rattle.bind_core.proofs.Porting.{gained-rest}
use Rattle.spec_binding.specs.Machine.{Stands, Works}
use Rattle.nat_types.specs.declared.pairs.EntryState.{EntryState}
use Rattle.nat_types.specs.declared.pairs.EntryState.TheVariants.{Pending, Doomed, Live, Closing, Alone, Held}
use Rattle.nat_types.specs.declared.pairs.Key.{Key}
use Rattle.nat_types.specs.declared.pairs.Pair.{Pair}
use Rattle.activity.specs.Lives.{Activity}
use Rattle.bindings.specs.declared.entries.Entry.{Entry}
use Rattle.bindings.specs.Entries.{has_key, is_alone, is_alone_by, slot_of, state_count}
use Rattle.bindings.specs.Lists.{without}
use Rattle.bindings.proofs.Offered.{few-passing, find-some, length-keep, slot-key, slot-without}
use Rattle.std.proofs.lemmas.Bool.{and_parts, ltb-false}
use Rattle.bindings.specs.Lives.{idle_keys_in, is_idle_row}
use Rattle.bindings.specs.Table.{alone_keys_of, idle_keys_of, is_alone_at}
use Rattle.bind_core.specs.Cores.{Core, book_of, ledger_of, looked_at, may_end}

-- no more keys are idle than the table has entries
pub few-idle : (lone : Bool) (now : ℕ) (es : List Entry) (ls : List Activity) → length (idle_keys_in lone now es ls) ≤ length es
few-idle lone now [] ls = omega arith
few-idle lone now (e ∷ es) [] = omega arith
few-idle lone now (e ∷ es) (l ∷ ls) = at (is_idle_row lone now e l) (few-idle lone now es ls)
  where
    at : (b : Bool) → length (idle_keys_in lone now es ls) ≤ length es → length (cond b (e.pair.key ∷ idle_keys_in lone now es ls) (idle_keys_in lone now es ls)) ≤ suc (length es)
    at true h = omega arith
    at false h = omega arith

-- the row of one key is carried out
pub record IsReleased (now : ℕ) (k : Key) (l : Ledger) (e : Link) (ns : List Note) (l2 : Ledger) (e2 : Link) (ns2 : List Note) : Type 0 where
  pub ledger : l2 ≡ ledger_after now (idle_row l.book (may_ask now l.book e) k).change l
  pub link : e2 ≡ answered e (idle_row l.book (may_ask now l.book e) k).answer
  pub notes : ns2 ≡ ns ++ noted_by l.book.id now (idle_row l.book (may_ask now l.book e) k).what

-- releasing the keys from i on is releasing one and then those from i + 1 on
pub record IsOneMore (now : ℕ) (i : ℕ) (keys : List Key) (l : Ledger) (e : Link) (ns : List Note) (l2 : Ledger) (e2 : Link) (ns2 : List Note) : Type 0 where
  pub ledger : (release_all now (drop i keys) l e).ledger ≡ (release_all now (drop (i + 1) keys) l2 e2).ledger
  pub link : (release_all now (drop i keys) l e).link ≡ (release_all now (drop (i + 1) keys) l2 e2).link
  pub notes : ns ++ (release_all now (drop i keys) l e).notes ≡ ns2 ++ (release_all now (drop (i + 1) keys) l2 e2).notes

head-first : (now : ℕ) (k : Key) (ks : List Key) (l : Ledger) (e : Link) (ns : List Note) (l2 : Ledger) (e2 : Link) (ns2 : List Note) → IsReleased now k l e ns l2 e2 ns2
    → ((release_all now (k ∷ ks) l e).ledger ≡ (release_all now ks l2 e2).ledger) × ((release_all now (k ∷ ks) l e).link ≡ (release_all now ks l2 e2).link) × (ns ++ (release_all now (k ∷ ks) l e).notes ≡ ns2 ++ (release_all now ks l2 e2).notes)
head-first now k ks l e ns l2 e2 ns2 is = rw (is.ledger, is.link, is.notes) (
  refl,
  refl,
  sym (append_assoc ns (noted_by l.book.id now (idle_row l.book (may_ask now l.book e) k).what) (release_all now ks (ledger_after now (idle_row l.book (may_ask now l.book e) k).change l) (answered e (idle_row l.book (may_ask now l.book e) k).answer)).notes),
)

one-more : (now : ℕ) (i : ℕ) (keys : List Key) (d : Key) (l : Ledger) (e : Link) (ns : List Note) (l2 : Ledger) (e2 : Link) (ns2 : List Note) → i < length keys → IsReleased now (get_or keys i d) l e ns l2 e2 ns2 → IsOneMore now i keys l e ns l2 e2 ns2
one-more now i keys d l e ns l2 e2 ns2 h is =
    let parts = head-first now (get_or keys i d) (drop (suc i) keys) l e ns l2 e2 ns2 is in
    let here : drop i keys ≡ get_or keys i d ∷ drop (suc i) keys = drop-cons keys i d h in
    let next : suc i ≡ i + 1 = omega arith in
    record {
      ledger = ap (λ (z : List Key). (release_all now z l e).ledger) here ∙ parts.0 ∙ ap (λ (n : ℕ). (release_all now (drop n keys) l2 e2).ledger) next;
      link = ap (λ (z : List Key). (release_all now z l e).link) here ∙ parts.1 ∙ ap (λ (n : ℕ). (release_all now (drop n keys) l2 e2).link) next;
      notes = ap (λ (z : List Key). ns ++ (release_all now z l e).notes) here ∙ parts.2 ∙ ap (λ (n : ℕ). ns2 ++ (release_all now (drop n keys) l2 e2).notes) next;
    }

all-done : (i : ℕ) (keys : List Key) → length keys ≤ i → drop i keys ≡ []
all-done zero [] h = refl
all-done (suc i) [] h = refl
all-done zero (k ∷ ks) h = absurd (omega (arith, h))
all-done (suc i) (k ∷ ks) h = all-done i ks (omega (arith, h))

-- after the last key, nothing is released
pub gone : (now i : ℕ) (keys : List Key) (l : Ledger) (e : Link) → length keys ≤ i → release_all now (drop i keys) l e ≡ record { ledger = l; link = e; notes = [] }
gone now i keys l e past = ap (λ (ks : List Key). release_all now ks l e) (all-done i keys past)

pub one-more-at : (now : ℕ) (i : ℕ) (keys : List Key) (k : Key) (l : Ledger) (e : Link) (ns : List Note) (l2 : Ledger) (e2 : Link) (ns2 : List Note) → slice_get keys i ≡ Some k → IsReleased now k l e ns l2 e2 ns2 → IsOneMore now i keys l e ns l2 e2 ns2
one-more-at now i keys k l e ns l2 e2 ns2 h is =
    one-more now i keys k l e ns l2 e2 ns2 (slice_get_within keys i k h) (subst (λ (z : Key). IsReleased now z l e ns l2 e2 ns2) (sym (get_or_from_slice_get keys i k k h)) is)

-- ---- where no pair may be released

released-quiet : (p : Pair) (s : EntryState) → is_alone s ≡ false → released_row false false p s ≡ quiet
released-quiet p (Pending m) h = refl
released-quiet p Doomed h = refl
released-quiet p Live h = refl
released-quiet p (Closing m) h = refl
released-quiet p Alone h = cc
released-quiet p Held h = refl

-- where none is counted, no entry passes
uncounted : (es : List Entry) (k : Key) (x : Entry) → state_count is_alone es ≡ 0 → slot_of es k ≡ Some x → is_alone x.state ≡ false
uncounted [] k x none found = cc
uncounted (y ∷ ys) k x none found =
    let count = sum_by-cons (λ (e : Entry). cond (is_alone e.state) 1 0) y ys in
    elim (find-some (has_key k y) y (slot_of ys k) x found) [
      | inl w ↦ ap (λ (z : Entry). is_alone z.state) (sym w.1) ∙ first (is_alone y.state) count
      | inr w ↦ uncounted ys k x (rest (is_alone y.state) count) w.1
    ]
  where
    first : (b : Bool) → state_count is_alone (y ∷ ys) ≡ cond b 1 0 + state_count is_alone ys → b ≡ false
    first true n = absurd (omega (arith, n, none))
    first false n = refl

    rest : (b : Bool) → state_count is_alone (y ∷ ys) ≡ cond b 1 0 + state_count is_alone ys → state_count is_alone ys ≡ 0
    rest true n = absurd (omega (arith, n, none))
    rest false n = omega (arith, n, none)

unalone : (es : List Entry) (k : Key) → state_count is_alone es ≡ 0 → is_alone_by (slot_of es k) ≡ false
unalone es k none = at (slot_of es k) refl
  where
    at : (o : Option Entry) → slot_of es k ≡ o → is_alone_by o ≡ false
    at None found = refl
    at (Some x) found = uncounted es k x none found

idle-quiet : (b : Book) (ask : Bool) (k : Key) → is_lone b.stage ≡ false → ask ≡ false → is_alone_by (slot_of b.entries k) ≡ false → idle_row b ask k ≡ quiet
idle-quiet b ask k lone mute none = at (is_synced b.stage) (is_lone b.stage) ask (slot_of b.entries k) none lone mute
  where
    at : (t lone ask : Bool) (o : Option Entry) → is_alone_by o ≡ false → lone ≡ false → ask ≡ false → (let r : Transition = cond t (release_row lone ask o) quiet in r) ≡ quiet
    at false lone ask o other h g = refl
    at true true ask o other h g = cc
    at true false true o other h g = cc
    at true false false None other h g = refl
    at true false false (Some x) other h g = released-quiet x.pair x.state other

-- a quiet row leaves the rest
left-out : (now : ℕ) (k : Key) (ks : List Key) (l : Ledger) (e : Link) → idle_row l.book (may_ask now l.book e) k ≡ quiet → release_all now (k ∷ ks) l e ≡ release_all now ks l e
left-out now k ks l e h =
    ap (λ (r : Transition). let rest : LetGo = release_all now ks (ledger_after now r.change l) (answered e r.answer) in let all : LetGo = record rest { notes = noted_by l.book.id now r.what ++ rest.notes } in all) h

-- a gateway that isn't lone, may not ask, and has made no pair alone, releases none
none-from : (now : ℕ) (ks : List Key) (l : Ledger) (e : Link) → is_lone l.book.stage ≡ false → may_ask now l.book e ≡ false → state_count is_alone l.book.entries ≡ 0 → release_all now ks l e ≡ record { ledger = l; link = e; notes = [] }
none-from now [] l e lone mute none = refl
none-from now (k ∷ ks) l e lone mute none = left-out now k ks l e (idle-quiet l.book (may_ask now l.book e) k lone mute (unalone l.book.entries k none)) ∙ none-from now ks l e lone mute none

neither : (a b : Bool) → (a || b) ≡ false → (a ≡ false) × (b ≡ false)
neither true b h = cc
neither false b h = (refl, h)

pub none-go : (now : ℕ) (ks : List Key) (l : Ledger) (e : Link) → ((is_lone l.book.stage || may_ask now l.book e) || nat_lt 0 (state_count is_alone l.book.entries)) ≡ false → release_all now ks l e ≡ record { ledger = l; link = e; notes = [] }
none-go now ks l e h =
    let count = state_count is_alone l.book.entries in
    let parts = neither (is_lone l.book.stage || may_ask now l.book e) (nat_lt 0 count) h in
    let both = neither (is_lone l.book.stage) (may_ask now l.book e) parts.0 in
    let few = ltb-false 0 count parts.1 in
    none-from now ks l e both.0 both.1 (omega (arith, few))

-- ---- where only Alone pairs may be released

-- after the row, the gateway still isn't lone and may not ask, and no other pair is Alone
abbrev StaysMute : ℕ → Ledger → Link → Transition → Type 0
StaysMute now l e r =
    (is_lone (after l.book r).stage ≡ false) × (may_ask now (after l.book r) (answered e r.answer) ≡ false)
    × ((q : Key) → is_alone_by (slot_of l.book.entries q) ≡ false → is_alone_by (slot_of (after l.book r).entries q) ≡ false)

quiet-mute : (now : ℕ) (l : Ledger) (e : Link) → is_lone l.book.stage ≡ false → may_ask now l.book e ≡ false → StaysMute now l e quiet
quiet-mute now l e lone mute = (lone, mute, λ q other. other)

drop-mute : (now : ℕ) (l : Ledger) (e : Link) (p : Pair) → is_lone l.book.stage ≡ false → may_ask now l.book e ≡ false → StaysMute now l e (dropping p)
drop-mute now l e p lone mute = (lone, mute, λ q other. ap is_alone_by (slot-without p.key l.book.entries q) ∙ at q (same_key p.key q) other)
  where
    at : (q : Key) (b : Bool) → is_alone_by (slot_of l.book.entries q) ≡ false → is_alone_by (let o : Option Entry = cond b None (slot_of l.book.entries q) in o) ≡ false
    at q true other = refl
    at q false other = other

-- an idle pair is left then, or dropped
left-or-dropped : (p : Pair) (s : EntryState) → (released_row false false p s ≡ quiet) ⊎ (released_row false false p s ≡ dropping p)
left-or-dropped p (Pending m) = inl refl
left-or-dropped p Doomed = inl refl
left-or-dropped p Live = inl refl
left-or-dropped p (Closing m) = inl refl
left-or-dropped p Alone = inr refl
left-or-dropped p Held = inl refl

idle-mute : (now : ℕ) (l : Ledger) (e : Link) (k : Key) → is_lone l.book.stage ≡ false → may_ask now l.book e ≡ false → StaysMute now l e (idle_row l.book (may_ask now l.book e) k)
idle-mute now l e k lone mute = at (is_synced l.book.stage) (is_lone l.book.stage) (may_ask now l.book e) (slot_of l.book.entries k) lone mute
  where
    at : (t own ask : Bool) (o : Option Entry) → own ≡ false → ask ≡ false → StaysMute now l e (let r : Transition = cond t (release_row own ask o) quiet in r)
    at false own ask o h g = quiet-mute now l e lone mute
    at true true ask o h g = absurd (cc)
    at true false true o h g = absurd (cc)
    at true false false None h g = quiet-mute now l e lone mute
    at true false false (Some x) h g =
        elim (left-or-dropped x.pair x.state) [
          | inl left ↦ subst (StaysMute now l e) (sym left) (quiet-mute now l e lone mute)
          | inr dropped ↦ subst (StaysMute now l e) (sym dropped) (drop-mute now l e x.pair lone mute)
        ]

-- the keys that pass a test are enough, where each other key's pair isn't Alone
passing-from : (now : ℕ) (p : Key → Bool) (ks : List Key) (l : Ledger) (e : Link) → is_lone l.book.stage ≡ false → may_ask now l.book e ≡ false → ((q : Key) → p q ≡ false → is_alone_by (slot_of l.book.entries q) ≡ false)
    → release_all now ks l e ≡ release_all now (filter p ks) l e
passing-from now p [] l e lone mute others = refl
passing-from now p (k ∷ ks) l e lone mute others = at (p k) refl (passing-from now p ks)
  where
    row : Transition
    row = idle_row l.book (may_ask now l.book e) k

    at : (b : Bool) → p k ≡ b
        → ((m : Ledger) (f : Link) → is_lone m.book.stage ≡ false → may_ask now m.book f ≡ false → ((q : Key) → p q ≡ false → is_alone_by (slot_of m.book.entries q) ≡ false) → release_all now ks m f ≡ release_all now (filter p ks) m f)
        → release_all now (k ∷ ks) l e ≡ release_all now (let zs : List Key = cond b (k ∷ filter p ks) (filter p ks) in zs) l e
    at true h rest =
        let stays = idle-mute now l e k lone mute in
        ap (λ (g : LetGo). let all : LetGo = record g { notes = noted_by l.book.id now row.what ++ g.notes } in all)
        (rest (ledger_after now row.change l) (answered e row.answer) stays.0 stays.1 (λ q fails. stays.2 q (others q fails)))
    at false h rest = left-out now k ks l e (idle-quiet l.book (may_ask now l.book e) k lone mute (others k h)) ∙ rest l e lone mute others

-- the pairs that a tick looks at are enough
pub looked-all : (c : Core) (e : Link) (now : ℕ) → release_all now (looked_at c e now) (ledger_of c) e ≡ release_all now (idle_keys_of c.table (is_lone c.stage) now) (ledger_of c) e
looked-all c e now = at (may_end c e now) refl
  where
    at : (b : Bool) → may_end c e now ≡ b
        → release_all now (let ks : List Key = cond b (idle_keys_of c.table (is_lone c.stage) now) (alone_keys_of c.table now) in ks) (ledger_of c) e ≡ release_all now (idle_keys_of c.table (is_lone c.stage) now) (ledger_of c) e
    at true h = refl
    at false h =
        let parts = neither (is_lone c.stage) (may_ask now (book_of c) e) h in
        sym (passing-from now (is_alone_at c.table) (idle_keys_of c.table false now) (ledger_of c) e parts.0 parts.1 (λ q other. other))
        ∙ ap (λ (lone : Bool). release_all now (idle_keys_of c.table lone now) (ledger_of c) e) (sym parts.0)

-- no more pairs are looked at than the table has entries
pub few-looked : (c : Core) (e : Link) (now : ℕ) → length (looked_at c e now) ≤ length c.table.entries
few-looked c e now = at (may_end c e now)
  where
    at : (b : Bool) → length (let ks : List Key = cond b (idle_keys_of c.table (is_lone c.stage) now) (alone_keys_of c.table now) in ks) ≤ length c.table.entries
    at true = few-idle (is_lone c.stage) now c.table.entries c.table.lives
    at false = few-passing (is_alone_at c.table) false now c.table.entries c.table.lives

-- ---- a gateway that is apart

-- the entries without that of a key are fewer
fewer : (k : Key) (es : List Entry) (x : Entry) → slot_of es k ≡ Some x → suc (length (without k es)) ≤ length es
fewer k [] x found = absurd (cc)
fewer k (y ∷ ys) x found = at (has_key k y) found (length-keep (λ (e : Entry). not (has_key k e)) ys) (λ there. fewer k ys x there)
  where
    at : (b : Bool) → cond b (Some y) (slot_of ys k) ≡ Some x → length (without k ys) ≤ length ys → (slot_of ys k ≡ Some x → suc (length (without k ys)) ≤ length ys) → suc (length (let zs : List Entry = cond (not b) (y ∷ without k ys) (without k ys) in zs)) ≤ suc (length ys)
    at true found kept more = omega (arith, kept)
    at false found kept more = let rest = more found in omega (arith, rest)

-- a row makes no more notes than entries leave
abbrev IsFew : Book → ℕ → Transition → Type 0
IsFew b now r = length (noted_by b.id now r.what) + length (after b r).entries ≤ length b.entries

released-few : (b : Book) (now : ℕ) (x : Entry) (s : EntryState) → slot_of b.entries x.pair.key ≡ Some x → IsFew b now (released_row false false x.pair s)
released-few b now x (Pending m) found = omega arith
released-few b now x Doomed found = omega arith
released-few b now x Live found = omega arith
released-few b now x (Closing m) found = omega arith
released-few b now x Alone found = let left = fewer x.pair.key b.entries x found in omega (arith, left)
released-few b now x Held found = omega arith

-- the row of an idle pair, at a gateway that isn't lone and may not ask
idle-few : (b : Book) (now : ℕ) (k : Key) → is_lone b.stage ≡ false → IsFew b now (idle_row b false k)
idle-few b now k lone = at (is_synced b.stage) (is_lone b.stage) (slot_of b.entries k) refl lone
  where
    at : (t lone : Bool) (o : Option Entry) → slot_of b.entries k ≡ o → lone ≡ false → IsFew b now (let r : Transition = cond t (release_row lone false o) quiet in r)
    at false lone o there h = omega arith
    at true true o there h = absurd (cc)
    at true false None there h = omega arith
    at true false (Some x) there h = released-few b now x x.state (ap (slot_of b.entries) (slot-key b.entries k x there) ∙ there)

paired-lone : (s : Stage) → is_paired s ≡ true → is_lone s ≡ false
paired-lone Unsynced h = refl
paired-lone Paired h = refl
paired-lone Lone h = cc

-- a gateway that is apart has room for as many notes more as entries have left, at least
pub still-few : (now : ℕ) (k : Key) (l : Ledger) (e : Link) (ns : List Note) (l2 : Ledger) (e2 : Link) (ns2 : List Note) → IsReleased now k l e ns l2 e2 ns2 → is_apart l.book e now ≡ true → length ns2 + length l2.book.entries ≤ length ns + length l.book.entries
still-few now k l e ns l2 e2 ns2 is apart =
    let lone = paired-lone l.book.stage (and_parts (is_paired l.book.stage) (not (l.book.alone == 0) && nat_le l.book.alone (now - e.answered)) apart).0 in
    let asks : may_ask now l.book e ≡ false = ap (λ (t : Bool). not t && is_reached now e) apart in
    let row = idle_row l.book (may_ask now l.book e) k in
    let few : IsFew l.book now row = subst (λ (ask : Bool). IsFew l.book now (idle_row l.book ask k)) (sym asks) (idle-few l.book now k lone) in
    let made : length ns2 ≡ length ns + length (noted_by l.book.id now row.what) = ap length is.notes ∙ length-append ns (noted_by l.book.id now row.what) in
    let left : length l2.book.entries ≡ length (after l.book row).entries = ap (λ (x : Ledger). length x.book.entries) is.ledger in
    omega (arith, few, made, left)

-- no change of the book, and no answer, makes the gateway apart or ends that
book-apart : (ch : Change) (b : Book) (e : Link) (now : ℕ) → is_apart (changed ch b) e now ≡ is_apart b e now
book-apart Keep b e now = refl
book-apart (Add x) b e now = refl
book-apart (Turn k s) b e now = refl
book-apart (Renew k) b e now = refl
book-apart (Drop k) b e now = refl
book-apart (Yield q p) b e now = refl
book-apart Want b e now = refl
book-apart (Give g) b e now = refl
book-apart (Gain g) b e now = ap (λ (x : Book). is_apart x e now) (gained-rest b (numbers_of g))

link-apart : (b : Book) (e : Link) (o : Option Record) (now : ℕ) → is_apart b (answered e o) now ≡ is_apart b e now
link-apart b e None now = refl
link-apart b e (Some r) now = refl

pub still-apart : (now : ℕ) (k : Key) (l : Ledger) (e : Link) (ns : List Note) (l2 : Ledger) (e2 : Link) (ns2 : List Note) → IsReleased now k l e ns l2 e2 ns2 → is_apart l2.book e2 now ≡ is_apart l.book e now
still-apart now k l e ns l2 e2 ns2 is =
    let row = idle_row l.book (may_ask now l.book e) k in
    ap (λ (x : Ledger). is_apart x.book e2 now) is.ledger
    ∙ ap (λ (x : Link). is_apart (changed row.change l.book) x now) is.link
    ∙ link-apart (changed row.change l.book) e row.answer now
    ∙ book-apart row.change l.book e now

-- ---- acts

pub record TickLaws : Type 0 where
  pub idle : (now : ℕ) (b : Book) (e : Link) (n : ℕ) (h : List Record) (ask : Bool) (k : Key) → Stands b e h
      → Works now [] [] b e n (after b (idle_row b ask k)) (answered e (idle_row b ask k).answer) n (noted_by b.id now (idle_row b ask k).what) h
  pub join : (now : ℕ) (letters : List Letter) (words : List ℕ) (b b2 b3 : Book) (e e2 e3 : Link) (n n2 n3 : ℕ) (ns ns2 : List Note) (h : List Record)
      → (a : Works now letters words b e n b2 e2 n2 ns h) → Works now letters words b2 e2 n2 b3 e3 n3 ns2 a.history → Works now letters words b e n b3 e3 n3 (ns ++ ns2) h
  pub nothing : (now : ℕ) (letters : List Letter) (words : List ℕ) (b : Book) (e : Link) (n : ℕ) (h : List Record) → Stands b e h → Works now letters words b e n b e n [] h

pub released-works : (laws : TickLaws) (now : ℕ) (keys : List Key) (l : Ledger) (e : Link) (n : ℕ) (h : List Record) → Stands l.book e h
    → Works now [] [] l.book e n (release_all now keys l e).ledger.book (release_all now keys l e).link n (release_all now keys l e).notes h
released-works laws now [] l e n h stands = laws.nothing now [] [] l.book e n h stands
released-works laws now (k ∷ ks) l e n h stands =
    let row = idle_row l.book (may_ask now l.book e) k in
    let l2 = ledger_after now row.change l in
    let e2 = answered e row.answer in
    let first : Works now [] [] l.book e n l2.book e2 n (noted_by l.book.id now row.what) h = laws.idle now l.book e n h (may_ask now l.book e) k stands in
    laws.join now [] [] l.book l2.book (release_all now ks l2 e2).ledger.book e e2 (release_all now ks l2 e2).link n n n (noted_by l.book.id now row.what) (release_all now ks l2 e2).notes h first
    (released-works laws now ks l2 e2 n first.history first.agrees)
