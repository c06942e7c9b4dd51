-- What a tick notes while the gateway is apart: no more than one note for each entry that it had.
use Rattle.std.proofs.Common.{◌≡◌, ◌≤◌, ℕ, suc, ◌+◌, ◌-◌, ◌==◌, Bool, true, false, cond, not, ◌&&◌, nat_le, List, [], ◌∷◌, length, Option, Some, None, inl, inr, refl, ap, ◌∙◌, arith}
use Rattle.std.specs.List.{filter}
use Rattle.std.proofs.lemmas.Bool.{and_parts}
use Rattle.std.proofs.lemmas.List.{length-append, length-map}
use Rattle.std.proofs.lemmas.List.Filters.{length-filter_both}
use Rattle.nat_types.specs.declared.gateways.GatewayId.{GatewayId}
use Rattle.nat_types.specs.declared.pairs.EntryState.{EntryState}
use Rattle.nat_types.specs.declared.pairs.EntryState.TheVariants as state
use Rattle.nat_types.specs.declared.pairs.Key.{Key}
use Rattle.nat_types.specs.declared.records.Record.{Record}
use Rattle.bindings.specs.declared.entries.Entry.{Entry}
use Rattle.bindings.specs.Entries.{has_key, slot_of}
use Rattle.bindings.specs.Lists.{without}
use Rattle.bindings.specs.Lives.{idle_keys_in}
use Rattle.bindings.proofs.Offered.{find-some}
use Rattle.link.specs.Link.{Link}
use Rattle.spec_binding.specs.declared.changes.Transition.{Transition}
use Rattle.spec_binding.specs.declared.setups.Stage.{Stage}
use Rattle.spec_binding.specs.declared.setups.Stage.TheVariants.{Unsynced, Paired, Lone}
use Rattle.spec_binding.specs.Books.{Book, is_apart as is_book_apart, is_lone, is_paired, is_synced}
use Rattle.spec_binding.specs.Ledgers.{is_reached, keys_in, may_ask, sought_keys}
use Rattle.spec_binding.specs.Rows.{after, alone_row, answered, idle_row, is_full, noted_by, quiet, release_row, released_row, sought_row, telling_row}
use Rattle.spec_binding.proofs.Offered.{at-key, change-leaves}
use Rattle.spec_step.specs.Parts.{all_idle_done, all_sought_done, by_row, idle_done, idle_taken, sought_done}
use Rattle.spec_step.specs.Shown.{GatewayAndOutput, Shown, id_of, is_apart}

-- ---- whether a gateway is apart

pub apart-book : (b b2 : Book) (e e2 : Link) (now : ℕ) → b2.stage ≡ b.stage → b2.alone ≡ b.alone → e2.answered ≡ e.answered → is_book_apart b2 e2 now ≡ is_book_apart b e now
apart-book b b2 e e2 now stage alone heard =
    ap (λ (x : Stage). is_paired x && (not (b2.alone == 0) && nat_le b2.alone (now - e2.answered))) stage
    ∙ ap (λ (n : ℕ). is_paired b.stage && (not (n == 0) && nat_le n (now - e2.answered))) alone
    ∙ ap (λ (n : ℕ). is_paired b.stage && (not (b.alone == 0) && nat_le b.alone (now - n))) heard

pub apart-same : (g g2 : Shown) → g2.ledger.book.stage ≡ g.ledger.book.stage → g2.ledger.book.alone ≡ g.ledger.book.alone → g2.link.answered ≡ g.link.answered → g2.moment ≡ g.moment → is_apart g2 ≡ is_apart g
apart-same g g2 stage alone heard now =
    ap (λ (n : ℕ). is_book_apart g2.ledger.book g2.link n) now ∙ apart-book g.ledger.book g2.ledger.book g.link g2.link g.moment stage alone heard

pub answered-as : (e : Link) (o : Option Record) → (answered e o).answered ≡ e.answered
answered-as e None = refl
answered-as e (Some r) = refl

-- a row leaves it
pub row-apart : (s : GatewayAndOutput) (r : Transition) → is_apart (by_row s r).shown ≡ is_apart s.shown
row-apart s r =
    let beside = change-leaves s.shown.ledger.book r.change in
    apart-same s.shown (by_row s r).shown beside.stage beside.alone (answered-as s.shown.link r.answer) refl

pub all-idle-apart : (s : GatewayAndOutput) (ks : List Key) → is_apart (all_idle_done s ks).shown ≡ is_apart s.shown
all-idle-apart s [] = refl
all-idle-apart s (k ∷ ks) = all-idle-apart (idle_done s k) ks ∙ row-apart s (idle_row s.shown.ledger.book (may_ask s.shown.moment s.shown.ledger.book s.shown.link) k)

pub idle-apart : (s : GatewayAndOutput) → is_apart (idle_taken s).shown ≡ is_apart s.shown
idle-apart s = let l = s.shown.ledger in all-idle-apart s (idle_keys_in (is_lone l.book.stage) s.shown.moment l.book.entries l.lives)

pub all-sought-apart : (apart : Bool) (s : GatewayAndOutput) (ks : List Key) → is_apart (all_sought_done apart s ks).shown ≡ is_apart s.shown
all-sought-apart apart s [] = refl
all-sought-apart apart s (k ∷ ks) = all-sought-apart apart (sought_done apart s k) ks ∙ row-apart s (alone_row s.shown.ledger.book apart (is_full s.shown.link) k)

-- a gateway that is apart is synced and not lone
pub apart-paired : (g : Shown) → is_apart g ≡ true → is_paired g.ledger.book.stage ≡ true
apart-paired g apart =
    let b = g.ledger.book in
    (and_parts (is_paired b.stage) (not (b.alone == 0) && nat_le b.alone (g.moment - g.link.answered)) apart).0

pub paired-is : (s : Stage) → is_paired s ≡ true → (is_synced s ≡ true) × (is_lone s ≡ false)
paired-is Unsynced is = absurd (cc)
paired-is Paired is = (refl, refl)
paired-is Lone is = absurd (cc)

-- ---- idle pairs while apart: each that is noted leaves the table

without-fewer : (es : List Entry) (k : Key) (x : Entry) → slot_of es k ≡ Some x → suc (length (without k es)) ≤ length es
without-fewer [] k x is = absurd (cc)
without-fewer (y ∷ ys) k x is =
    elim (find-some (has_key k y) y (slot_of ys k) x is) [
      | inl here ↦ first (has_key k y) here.0
      | inr more ↦ rest (has_key k y) (without-fewer ys k x more.1)
    ]
  where
    fewer : length (without k ys) ≤ length ys
    fewer = omega (arith, length-filter_both (λ (e : Entry). not (has_key k e)) (λ (e : Entry). not (not (has_key k e))) (λ e. refl) ys)

    first : (b : Bool) → b ≡ true → suc (length (let zs : List Entry = cond (not b) (y ∷ without k ys) (without k ys) in zs)) ≤ suc (length ys)
    first true is = omega (arith, fewer)
    first false is = absurd (cc)

    rest : (b : Bool) → suc (length (without k ys)) ≤ length ys → suc (length (let zs : List Entry = cond (not b) (y ∷ without k ys) (without k ys) in zs)) ≤ suc (length ys)
    rest true few = omega (arith, few)
    rest false few = omega (arith, few)

-- the notes of a row, with the entries that it leaves, are no more than the entries before
abbrev FewRow : Book → Transition → Type 0
FewRow b r = (i : GatewayId) (now : ℕ) → length (noted_by i now r.what) + length (after b r).entries ≤ length b.entries

released-few : (b : Book) (x : Entry) → slot_of b.entries x.pair.key ≡ Some x → (s : EntryState) → FewRow b (released_row false false x.pair s)
released-few b x found (state.Pending m) = λ i now. omega arith
released-few b x found state.Doomed = λ i now. omega arith
released-few b x found state.Live = λ i now. omega arith
released-few b x found (state.Closing m) = λ i now. omega arith
released-few b x found state.Alone = λ i now. let few = without-fewer b.entries x.pair.key x found in omega (arith, few)
released-few b x found state.Held = λ i now. omega arith

slot-few : (b : Book) (k : Key) (o : Option Entry) → slot_of b.entries k ≡ o → FewRow b (release_row false false o)
slot-few b k None is = λ i now. omega arith
slot-few b k (Some x) is = released-few b x (at-key b.entries k x is) x.state

idle-row-few : (b : Book) (ask : Bool) (k : Key) → is_lone b.stage ≡ false → ask ≡ false → FewRow b (idle_row b ask k)
idle-row-few b ask k lone quiet_ask = at (is_synced b.stage) (is_lone b.stage) ask lone quiet_ask
  where
    at : (t l a : Bool) → l ≡ false → a ≡ false → FewRow b (let r : Transition = cond t (release_row l a (slot_of b.entries k)) quiet in r)
    at true false false one two = slot-few b k (slot_of b.entries k) refl
    at true false true one two = absurd (cc)
    at true true a one two = absurd (cc)
    at false l a one two = λ i now. omega arith

abbrev pub Few : GatewayAndOutput → GatewayAndOutput → Type 0
Few s s2 = length s2.told.notes + length s2.shown.ledger.book.entries ≤ length s.told.notes + length s.shown.ledger.book.entries

idle-few : (s : GatewayAndOutput) (k : Key) → is_apart s.shown ≡ true → Few s (idle_done s k)
idle-few s k apart =
    let g = s.shown in let b = g.ledger.book in
    let ask = may_ask g.moment b g.link in
    let no : ask ≡ false = ap (λ (t : Bool). not t && is_reached g.moment g.link) apart in
    let few = idle-row-few b ask k (paired-is b.stage (apart-paired g apart)).1 no (id_of g) g.moment in
    omega (arith, few, length-append s.told.notes (noted_by (id_of g) g.moment (idle_row b ask k).what))

all-idle-few : (s : GatewayAndOutput) (ks : List Key) → is_apart s.shown ≡ true → Few s (all_idle_done s ks)
all-idle-few s [] apart = omega arith
all-idle-few s (k ∷ ks) apart =
    let g = s.shown in
    let first = idle-few s k apart in
    let rest = all-idle-few (idle_done s k) ks (row-apart s (idle_row g.ledger.book (may_ask g.moment g.ledger.book g.link) k) ∙ apart) in
    omega (arith, first, rest)

pub idle-taken-few : (s : GatewayAndOutput) → is_apart s.shown ≡ true → Few s (idle_taken s)
idle-taken-few s apart = let l = s.shown.ledger in all-idle-few s (idle_keys_in (is_lone l.book.stage) s.shown.moment l.book.entries l.lives) apart

-- ---- marking and telling

few-keys : (test : EntryState → Bool) (es : List Entry) → length (keys_in test es) ≤ length es
few-keys test es = omega (
  arith,
  length-map (filter (λ (x : Entry). test x.state) es) (λ (x : Entry). x.pair.key),
  length-filter_both (λ (x : Entry). test x.state) (λ (x : Entry). not (test x.state)) (λ e. refl) es,
)

pub few-sought : (apart : Bool) (es : List Entry) → length (sought_keys apart es) ≤ length es
few-sought apart es = few-keys _ es

-- telling notes nothing
telling-silent : (full : Bool) (x : Entry) (s : EntryState) → (telling_row full x.pair s).what ≡ None
telling-silent full x (state.Pending m) = refl
telling-silent full x state.Doomed = refl
telling-silent full x state.Live = refl
telling-silent full x (state.Closing m) = refl
telling-silent true x state.Alone = refl
telling-silent false x state.Alone = refl
telling-silent full x state.Held = refl

pub tell-silent : (b : Book) (full : Bool) (k : Key) → (alone_row b false full k).what ≡ None
tell-silent b full k = at (is_paired b.stage) (slot_of b.entries k)
  where
    at : (t : Bool) (o : Option Entry) → (let r : Transition = cond t (sought_row false full o) quiet in r).what ≡ None
    at true None = refl
    at true (Some x) = telling-silent full x x.state
    at false o = refl
