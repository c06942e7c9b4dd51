-- What a tick marks, or tells the peer of.
use Rattle.std.proofs.Common.{◌≡◌, ℕ, zero, suc, ◌+◌, ◌<◌, ◌≤◌, Bool, true, false, cond, List, [], ◌∷◌, map, ◌++◌, length, get_or, drop, refl, sym, ap, subst, ◌∙◌, arith, append_assoc, slice_get, Option, Some, None}
use Rattle.std.specs.List.{filter}
use Rattle.std.proofs.lemmas.Option.{get_or_from_slice_get, slice_get_within}
use Rattle.std.proofs.Math.Seq.{drop-cons}
use Rattle.nat_types.specs.declared.gateways.GatewayId.{GatewayId}
use Rattle.nat_types.specs.declared.notes.Note.{Note}
use Rattle.nat_types.specs.declared.notes.NoteKind.{NoteKind}
use Rattle.nat_types.specs.declared.pairs.Key.{Key}
use Rattle.nat_types.specs.declared.records.Record.{Record}
use Rattle.bindings.specs.declared.entries.Entry.{Entry}
use Rattle.link.specs.Link.{Link}
use Rattle.spec_pair.specs.Box.{Letter}
use Rattle.spec_binding.specs.Books.{Book}
use Rattle.spec_binding.specs.Rows.{alone_row, is_full, after, answered, noted_by}
use Rattle.spec_binding.specs.Ledgers.{Ledger, ledger_after, go_on_all, is_sought, sought_keys}
use Rattle.spec_binding.specs.Machine.{Stands, Works}
use Rattle.bind_core.proofs.Deciding.{alone-still}

-- no more keys are sought than the table has entries
pub few-sought : (apart : Bool) (es : List Entry) → length (sought_keys apart es) ≤ length es
few-sought apart [] = omega arith
few-sought apart (e ∷ es) = at (is_sought apart e.state) (few-sought apart es)
  where
    at : (b : Bool) → length (sought_keys apart es) ≤ length es → length (map (λ (x : Entry). x.pair.key) (cond b (e ∷ filter (λ x. is_sought apart x.state) es) (filter (λ x. is_sought apart x.state) es))) ≤ suc (length es)
    at true h = omega (arith, h)
    at false h = omega (arith, h)

-- the row of one key is carried out
pub record WentOn (apart : Bool) (now : ℕ) (k : Key) (l : Ledger) (e : Link) (ns : List Note) (l2 : Ledger) (e2 : Link) (ns2 : List Note) : Type 0 where
  pub ledger : l2 ≡ ledger_after now (alone_row l.book apart (is_full e) k).change l
  pub link : e2 ≡ answered e (alone_row l.book apart (is_full e) k).answer
  pub notes : ns2 ≡ ns ++ noted_by l.book.id now (alone_row l.book apart (is_full e) k).what

-- going on with the keys from i on is going on with one and then with those from i + 1 on
pub record IsOneMore (apart : Bool) (now : ℕ) (i : ℕ) (keys : List Key) (l : Ledger) (e : Link) (ns : List Note) (l2 : Ledger) (e2 : Link) (ns2 : List Note) : Type 0 where
  pub ledger : (go_on_all apart now (drop i keys) l e).ledger ≡ (go_on_all apart now (drop (i + 1) keys) l2 e2).ledger
  pub link : (go_on_all apart now (drop i keys) l e).link ≡ (go_on_all apart now (drop (i + 1) keys) l2 e2).link
  pub notes : ns ++ (go_on_all apart now (drop i keys) l e).notes ≡ ns2 ++ (go_on_all apart now (drop (i + 1) keys) l2 e2).notes

head-first : (apart : Bool) (now : ℕ) (k : Key) (ks : List Key) (l : Ledger) (e : Link) (ns : List Note) (l2 : Ledger) (e2 : Link) (ns2 : List Note) → WentOn apart now k l e ns l2 e2 ns2
    → ((go_on_all apart now (k ∷ ks) l e).ledger ≡ (go_on_all apart now ks l2 e2).ledger) × ((go_on_all apart now (k ∷ ks) l e).link ≡ (go_on_all apart now ks l2 e2).link) × (ns ++ (go_on_all apart now (k ∷ ks) l e).notes ≡ ns2 ++ (go_on_all apart now ks l2 e2).notes)
head-first apart now k ks l e ns l2 e2 ns2 is = rw (is.ledger, is.link, is.notes) (
  refl,
  refl,
  sym (append_assoc ns (noted_by l.book.id now (alone_row l.book apart (is_full e) k).what) (go_on_all apart now ks (ledger_after now (alone_row l.book apart (is_full e) k).change l) (answered e (alone_row l.book apart (is_full e) k).answer)).notes),
)

one-more : (apart : Bool) (now : ℕ) (i : ℕ) (keys : List Key) (d : Key) (l : Ledger) (e : Link) (ns : List Note) (l2 : Ledger) (e2 : Link) (ns2 : List Note) → i < length keys → WentOn apart now (get_or keys i d) l e ns l2 e2 ns2 → IsOneMore apart now i keys l e ns l2 e2 ns2
one-more apart now i keys d l e ns l2 e2 ns2 h is =
    let parts = head-first apart now (get_or keys i d) (drop (suc i) keys) l e ns l2 e2 ns2 is in
    let here : drop i keys ≡ get_or keys i d ∷ drop (suc i) keys = drop-cons keys i d h in
    let next : suc i ≡ i + 1 = omega arith in
    record {
      ledger = ap (λ (z : List Key). (go_on_all apart now z l e).ledger) here ∙ parts.0 ∙ ap (λ (n : ℕ). (go_on_all apart now (drop n keys) l2 e2).ledger) next;
      link = ap (λ (z : List Key). (go_on_all apart now z l e).link) here ∙ parts.1 ∙ ap (λ (n : ℕ). (go_on_all apart now (drop n keys) l2 e2).link) next;
      notes = ap (λ (z : List Key). ns ++ (go_on_all apart now z l e).notes) here ∙ parts.2 ∙ ap (λ (n : ℕ). ns2 ++ (go_on_all apart now (drop n keys) l2 e2).notes) next;
    }

all-done : (i : ℕ) (keys : List Key) → length keys ≤ i → drop i keys ≡ []
all-done zero [] h = refl
all-done (suc i) [] h = refl
all-done zero (k ∷ ks) h = absurd (omega (arith, h))
all-done (suc i) (k ∷ ks) h = all-done i ks (omega (arith, h))

-- after the last key, nothing is marked or told
pub gone : (apart : Bool) (now i : ℕ) (keys : List Key) (l : Ledger) (e : Link) → length keys ≤ i → go_on_all apart now (drop i keys) l e ≡ record { ledger = l; link = e; notes = [] }
gone apart now i keys l e past = ap (λ (ks : List Key). go_on_all apart now ks l e) (all-done i keys past)

pub one-more-at : (apart : Bool) (now : ℕ) (i : ℕ) (keys : List Key) (k : Key) (l : Ledger) (e : Link) (ns : List Note) (l2 : Ledger) (e2 : Link) (ns2 : List Note) → slice_get keys i ≡ Some k → WentOn apart now k l e ns l2 e2 ns2 → IsOneMore apart now i keys l e ns l2 e2 ns2
one-more-at apart now i keys k l e ns l2 e2 ns2 h is =
    one-more apart now i keys k l e ns l2 e2 ns2 (slice_get_within keys i k h) (subst (λ (z : Key). WentOn apart now z l e ns l2 e2 ns2) (sym (get_or_from_slice_get keys i k k h)) is)

-- ---- acts

pub record AloneLaws : Type 0 where
  pub alone : (now : ℕ) (b : Book) (e : Link) (n : ℕ) (h : List Record) (apart full : Bool) (k : Key) → Stands b e h
      → Works now [] [] b e n (after b (alone_row b apart full k)) (answered e (alone_row b apart full k).answer) n (noted_by b.id now (alone_row b apart full k).what) h
  pub join : (now : ℕ) (letters : List Letter) (words : List ℕ) (b b2 b3 : Book) (e e2 e3 : Link) (n n2 n3 : ℕ) (ns ns2 : List Note) (h : List Record)
      → (a : Works now letters words b e n b2 e2 n2 ns h) → Works now letters words b2 e2 n2 b3 e3 n3 ns2 a.history → Works now letters words b e n b3 e3 n3 (ns ++ ns2) h
  pub nothing : (now : ℕ) (letters : List Letter) (words : List ℕ) (b : Book) (e : Link) (n : ℕ) (h : List Record) → Stands b e h → Works now letters words b e n b e n [] h

pub went-works : (laws : AloneLaws) (apart : Bool) (now : ℕ) (keys : List Key) (l : Ledger) (e : Link) (n : ℕ) (h : List Record) → Stands l.book e h
    → Works now [] [] l.book e n (go_on_all apart now keys l e).ledger.book (go_on_all apart now keys l e).link n (go_on_all apart now keys l e).notes h
went-works laws apart now [] l e n h stands = laws.nothing now [] [] l.book e n h stands
went-works laws apart now (k ∷ ks) l e n h stands =
    let row = alone_row l.book apart (is_full e) k in
    let l2 = ledger_after now row.change l in
    let e2 = answered e row.answer in
    let first : Works now [] [] l.book e n l2.book e2 n (noted_by l.book.id now row.what) h = laws.alone now l.book e n h apart (is_full e) k stands in
    laws.join now [] [] l.book l2.book (go_on_all apart now ks l2 e2).ledger.book e e2 (go_on_all apart now ks l2 e2).link n n n (noted_by l.book.id now row.what) (go_on_all apart now ks l2 e2).notes h first
    (went-works laws apart now ks l2 e2 n first.history first.agrees)

-- ---- notes

noted-one : (i : GatewayId) (now : ℕ) (what : Option NoteKind) → length (noted_by i now what) ≤ 1
noted-one i now None = omega arith
noted-one i now (Some what) = omega arith

-- a mark notes once, and a Tell not at all
pub noted-most : (b : Book) (apart full : Bool) (k : Key) (now : ℕ) → length (noted_by b.id now (alone_row b apart full k).what) ≤ cond apart 1 0
noted-most b true full k now = noted-one b.id now (alone_row b true full k).what
noted-most b false full k now = let none = ap (λ (what : Option NoteKind). length (noted_by b.id now what)) (alone-still b full k) in omega (arith, none)

pub one-at-most : (b : Bool) (n m k : ℕ) → n ≤ m + cond b 1 0 → m ≤ k → n ≤ k + 1
one-at-most true n m k h g = omega (arith, h, g)
one-at-most false n m k h g = omega (arith, h, g)

pub no-more : (b : Bool) (n m : ℕ) → b ≡ false → n ≤ m + cond b 1 0 → n ≤ m
no-more true n m off h = absurd (cc)
no-more false n m off h = omega (arith, h)

-- there is room for one more note: while apart there was room for a note of each key, and else none was made
pub room-for-one : (apart : Bool) (notes start i count entries capacity : ℕ) → i < count → count ≤ entries → notes ≤ start + i → (apart ≡ false → notes ≤ start) → start < capacity → (apart ≡ true → start + entries < capacity) → notes < capacity
room-for-one true notes start i count entries capacity before few len still reserved marks = let room = marks refl in omega (arith, before, few, len, room)
room-for-one false notes start i count entries capacity before few len still reserved marks = let none = still refl in omega (arith, none, reserved)
