use Rattle.std.proofs.Common.{◌≡◌, ◌-◌, ◌<◌, ◌≤◌, ◌==◌, nat_le, Bool, not, ◌&&◌, List, ◌++◌, [], Some, slice_get, length, vec_len, vec_capacity, refl, sym, ap, ◌∙◌, arith}
use Rattle.std.proofs.lemmas.List.{append-nil}
use Rattle.spec_binding.specs.Ledgers.{Ledger, LetGo, go_on_all, sought_keys}
use Rattle.std.proofs.lemmas.Bool.{and_parts}
use Rattle.bindings.specs.declared.entries.Entry.{Entry}
use Rattle.bindings.specs.Entries.{slot_of}
use Rattle.spec_binding.specs.Books.{is_apart, is_paired}
use Rattle.bind_core.specs.Cores.{Core, book_of, ledger_of}
use Rattle.bind_core.proofs.Performing.{works-as}
use Rattle.bind_core.proofs.GoingOn.{few-sought, no-more, one-at-most, room-for-one, one-more-at, gone, AloneLaws, went-works}
use Rattle.bind_core.proofs.cores.Core.mark_or_tell.Goals as goal

pub returns-clause-len : goal.returns-clause-len
returns-clause-len c =
    let few = few-sought c.is_apart-apart.result c.args.self.now.table.entries in
    let end = c.idle_count-i-end.ensures in
    let keys = ap (λ (k : Core). length k.idle) c.list_sought.ensures in
    let len = c.loop-i.invariant.len in
    omega (arith, few, end, keys, len)

pub go_on-requires : goal.go_on-requires
go_on-requires c =
    let keys = sought_keys c.is_apart-apart.result c.args.self.now.table.entries in
    let few = few-sought c.is_apart-apart.result c.args.self.now.table.entries in
    let end = c.idle_count-i-end.ensures in
    let sizes = ap (λ (k : Core). length k.idle) c.list_sought.ensures in
    let below = c.loop-i-test.true in
    let before : c.loop-i.i < length keys = omega (arith, end, sizes, below) in
    let room = room-for-one c.is_apart-apart.result (vec_len c.loop-i.notes) (vec_len c.args.notes.now) c.loop-i.i (length keys) (length c.args.self.now.table.entries) (vec_capacity c.args.notes.now) before few c.loop-i.invariant.len c.loop-i.invariant.still c.requires.reserved (λ apart. c.requires.marks (sym c.is_apart-apart.ensures ∙ apart)) in
    let capacity = c.loop-i.invariant.capacity in
    record { reserved = omega (arith, room, capacity) }

pub loop-i-preserved : goal.loop-i-preserved
loop-i-preserved c =
    let keys = sought_keys c.is_apart-apart.result c.args.self.now.table.entries in
    let found : slice_get keys c.loop-i.i ≡ Some c.idle_key_at-key.result = sym (ap (λ ks. slice_get ks c.loop-i.i) c.loop-i.invariant.idle) ∙ c.idle_key_at-key.ensures in
    let more = one-more-at c.is_apart-apart.result c.args.now c.loop-i.i keys c.idle_key_at-key.result (ledger_of c.loop-i.self) c.loop-i.link c.loop-i.notes.items (ledger_of c.go_on.new.self) c.go_on.new.link c.go_on.new.notes.items found
    record { ledger = c.go_on.ensures.ledger; link = c.go_on.ensures.link; notes = c.go_on.ensures.notes } in
    let len = c.loop-i.invariant.len in
    let longer = c.go_on.ensures.len in
    record {
      ledger = sym more.ledger ∙ c.loop-i.invariant.ledger;
      link = sym more.link ∙ c.loop-i.invariant.link;
      notes = sym more.notes ∙ c.loop-i.invariant.notes;
      ready = c.go_on.ensures.ready ∙ c.loop-i.invariant.ready;
      idle = c.go_on.ensures.idle ∙ c.loop-i.invariant.idle;
      len = (let one = one-at-most c.is_apart-apart.result _ _ _ longer len in omega (arith, one));
      still = λ together. let none = no-more c.is_apart-apart.result _ _ together longer in let before = c.loop-i.invariant.still together in omega (arith, none, before);
      capacity = c.go_on.ensures.capacity ∙ c.loop-i.invariant.capacity;
    }

-- before the first key, only the list of idle keys has changed
pub loop-i-init : goal.loop-i-init
loop-i-init c =
    let keys = sought_keys c.is_apart-apart.result c.args.self.now.table.entries in
    let same = ap ledger_of c.list_sought.ensures in
    record {
      ledger = ap (λ (l : Ledger). (go_on_all c.is_apart-apart.result c.args.now keys l c.args.link.now).ledger) same;
      link = ap (λ (l : Ledger). (go_on_all c.is_apart-apart.result c.args.now keys l c.args.link.now).link) same;
      notes = ap (λ (l : Ledger). c.args.notes.now.items ++ (go_on_all c.is_apart-apart.result c.args.now keys l c.args.link.now).notes) same;
      ready = ap (λ (k : Core). k.table.ready) c.list_sought.ensures;
      idle = ap (λ (k : Core). k.idle) c.list_sought.ensures;
      len = omega arith;
      still = λ together. omega arith;
      capacity = refl;
    }

-- no key is left
none-left : (c : goal.After-loop-i) → length (sought_keys c.is_apart-apart.result c.args.self.now.table.entries) ≤ c.loop-i.i
none-left c =
    let sizes = ap (λ (k : Core). length k.idle) c.list_sought.ensures in
    let end = c.idle_count-i-end.ensures in
    let past = c.loop-i-test.false in
    omega (arith, sizes, end, past)

pub returns-clause-ledger : goal.returns-clause-ledger
returns-clause-ledger c =
    sym (ap (λ (g : LetGo). g.ledger) (gone c.is_apart-apart.result c.args.now c.loop-i.i _ (ledger_of c.loop-i.self) c.loop-i.link (none-left c)))
    ∙ c.loop-i.invariant.ledger
    ∙ ap (λ (b : Bool). (go_on_all b c.args.now (sought_keys b c.args.self.now.table.entries) (ledger_of c.args.self.now) c.args.link.now).ledger) c.is_apart-apart.ensures

pub returns-clause-link : goal.returns-clause-link
returns-clause-link c =
    sym (ap (λ (g : LetGo). g.link) (gone c.is_apart-apart.result c.args.now c.loop-i.i _ (ledger_of c.loop-i.self) c.loop-i.link (none-left c)))
    ∙ c.loop-i.invariant.link
    ∙ ap (λ (b : Bool). (go_on_all b c.args.now (sought_keys b c.args.self.now.table.entries) (ledger_of c.args.self.now) c.args.link.now).link) c.is_apart-apart.ensures

pub returns-clause-notes : goal.returns-clause-notes
returns-clause-notes c =
    sym (ap (λ (g : LetGo). c.loop-i.notes.items ++ g.notes) (gone c.is_apart-apart.result c.args.now c.loop-i.i _ (ledger_of c.loop-i.self) c.loop-i.link (none-left c)) ∙ append-nil c.loop-i.notes.items)
    ∙ c.loop-i.invariant.notes
    ∙ ap (λ (b : Bool). c.args.notes.now.items ++ (go_on_all b c.args.now (sought_keys b c.args.self.now.table.entries) (ledger_of c.args.self.now) c.args.link.now).notes) c.is_apart-apart.ensures

pub returns-clause-works : goal.returns-clause-works
returns-clause-works c = λ h n stands.
    let apart = is_apart (book_of c.args.self.now) c.args.link.now c.args.now in
    let keys = sought_keys apart c.args.self.now.table.entries in
    let laws : AloneLaws = record { alone = c.alone_works.ensures; join = c.works_join.ensures; nothing = c.works_nothing.ensures } in
    works-as c.args.now [] [] (book_of c.args.self.now) c.args.link.now n _ (book_of c.loop-i.self) _ c.loop-i.link n _ h
    (ap (λ (l : Ledger). l.book) (returns-clause-ledger c)) (returns-clause-link c)
    (went-works laws apart c.args.now keys (ledger_of c.args.self.now) c.args.link.now n h stands)

-- while apart, what waited is marked
pub returns-clause-translate : goal.returns-clause-translate
returns-clause-translate c = λ apart k x found pair.
    let b = book_of c.args.self.now in
    let paired = (and_parts (is_paired b.stage) (not (b.alone == 0) && nat_le b.alone (c.args.now - c.args.link.now.answered)) apart).0 in
    let entries = ap (λ (l : Ledger). l.book.entries) (returns-clause-ledger c)
    ∙ ap (λ (t : Bool). (go_on_all t c.args.now (sought_keys t c.args.self.now.table.entries) (ledger_of c.args.self.now) c.args.link.now).ledger.book.entries) apart in
    c.alone_waits_for_nobody.ensures.translate c.args.now (ledger_of c.args.self.now) c.args.link.now k x c.recall.ensures.book paired (sym (ap (λ (es : List Entry). slot_of es k) entries) ∙ found) pair
