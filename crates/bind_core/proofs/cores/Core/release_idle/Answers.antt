use Rattle.std.proofs.Common.{◌≡◌, ◌≤◌, ◌++◌, [], Some, slice_get, length, refl, sym, ap, ◌∙◌, arith}
use Rattle.std.proofs.lemmas.List.{append-nil}
use Rattle.bindings.specs.Table.{idle_keys_of}
use Rattle.spec_binding.specs.Books.{is_apart, is_lone}
use Rattle.spec_binding.specs.Ledgers.{Ledger, LetGo, release_all}
use Rattle.bind_core.specs.Cores.{Core, book_of, ledger_of, looked_at}
use Rattle.bind_core.proofs.Performing.{works-as}
use Rattle.bind_core.proofs.Releasing.{IsReleased, few-looked, looked-all, one-more-at, gone, still-apart, still-few, TickLaws, released-works}
use Rattle.bind_core.proofs.cores.Core.release_idle.Goals as goal

pub returns-clause-len : goal.returns-clause-len
returns-clause-len c =
    let few = few-looked c.args.self.now c.args.link.now c.args.now in
    let end = c.idle_count-i-end.ensures in
    let keys = ap (λ (k : Core). length k.idle) c.list_looked_at.ensures in
    let len = c.loop-i.invariant.len in
    omega (arith, few, end, keys, len)

pub release-requires : goal.release-requires
release-requires c =
    let few = few-looked c.args.self.now c.args.link.now c.args.now in
    let end = c.idle_count-i-end.ensures in
    let keys = ap (λ (k : Core). length k.idle) c.list_looked_at.ensures in
    let len = c.loop-i.invariant.len in
    let capacity = c.loop-i.invariant.capacity in
    let reserved = c.requires in
    let before = c.loop-i-test.true in
    record { reserved = omega (arith, few, end, keys, len, capacity, reserved, before) }

pub loop-i-preserved : goal.loop-i-preserved
loop-i-preserved c =
    let keys = looked_at c.args.self.now c.args.link.now c.args.now in
    let found : slice_get keys c.loop-i.i ≡ Some c.idle_key_at-key.result = sym (ap (λ ks. slice_get ks c.loop-i.i) c.loop-i.invariant.idle) ∙ c.idle_key_at-key.ensures in
    let released : IsReleased c.args.now c.idle_key_at-key.result (ledger_of c.loop-i.self) c.loop-i.link c.loop-i.notes.items (ledger_of c.release.new.self) c.release.new.link c.release.new.notes.items =
    record { ledger = c.release.ensures.ledger; link = c.release.ensures.link; notes = c.release.ensures.notes } in
    let more = one-more-at c.args.now c.loop-i.i keys c.idle_key_at-key.result (ledger_of c.loop-i.self) c.loop-i.link c.loop-i.notes.items (ledger_of c.release.new.self) c.release.new.link c.release.new.notes.items found released in
    let apart = still-apart c.args.now c.idle_key_at-key.result (ledger_of c.loop-i.self) c.loop-i.link c.loop-i.notes.items (ledger_of c.release.new.self) c.release.new.link c.release.new.notes.items released in
    let few = still-few c.args.now c.idle_key_at-key.result (ledger_of c.loop-i.self) c.loop-i.link c.loop-i.notes.items (ledger_of c.release.new.self) c.release.new.link c.release.new.notes.items released in
    let had = c.loop-i.notes.ok.0 in
    let has = c.release.new.notes.ok.0 in
    let len = c.loop-i.invariant.len in
    let longer = c.release.ensures.len in
    record {
      ledger = sym more.ledger ∙ c.loop-i.invariant.ledger;
      link = sym more.link ∙ c.loop-i.invariant.link;
      notes = sym more.notes ∙ c.loop-i.invariant.notes;
      ready = c.release.ensures.ready ∙ c.loop-i.invariant.ready;
      idle = c.release.ensures.idle ∙ c.loop-i.invariant.idle;
      len = omega (arith, len, longer);
      capacity = c.release.ensures.capacity ∙ c.loop-i.invariant.capacity;
      apart = apart ∙ c.loop-i.invariant.apart;
      few = λ is. let before = c.loop-i.invariant.few is in let left = few (c.loop-i.invariant.apart ∙ is) in omega (arith, before, left, had, has);
    }

-- before the first key, only the list of idle keys has changed
pub loop-i-init : goal.loop-i-init
loop-i-init c =
    let keys = looked_at c.args.self.now c.args.link.now c.args.now in
    let same = ap ledger_of c.list_looked_at.ensures in
    record {
      ledger = ap (λ (l : Ledger). (release_all c.args.now keys l c.args.link.now).ledger) same;
      link = ap (λ (l : Ledger). (release_all c.args.now keys l c.args.link.now).link) same;
      notes = ap (λ (l : Ledger). c.args.notes.now.items ++ (release_all c.args.now keys l c.args.link.now).notes) same;
      ready = ap (λ (k : Core). k.table.ready) c.list_looked_at.ensures;
      idle = ap (λ (k : Core). k.idle) c.list_looked_at.ensures;
      len = omega arith;
      capacity = refl;
      apart = ap (λ (k : Core). is_apart (book_of k) c.args.link.now c.args.now) c.list_looked_at.ensures;
      few = λ is. let left = ap (λ (k : Core). length k.table.entries) c.list_looked_at.ensures in omega (arith, left);
    }

-- no key is left
none-left : (c : goal.After-loop-i) → length (looked_at c.args.self.now c.args.link.now c.args.now) ≤ c.loop-i.i
none-left c =
    let sizes = ap (λ (k : Core). length k.idle) c.list_looked_at.ensures in
    let end = c.idle_count-i-end.ensures in
    let past = c.loop-i-test.false in
    omega (arith, sizes, end, past)

pub returns-clause-ledger : goal.returns-clause-ledger
returns-clause-ledger c = sym (ap (λ (g : LetGo). g.ledger) (gone c.args.now c.loop-i.i _ (ledger_of c.loop-i.self) c.loop-i.link (none-left c))) ∙ c.loop-i.invariant.ledger ∙ ap (λ (g : LetGo). g.ledger) (looked-all c.args.self.now c.args.link.now c.args.now)

pub returns-clause-link : goal.returns-clause-link
returns-clause-link c = sym (ap (λ (g : LetGo). g.link) (gone c.args.now c.loop-i.i _ (ledger_of c.loop-i.self) c.loop-i.link (none-left c))) ∙ c.loop-i.invariant.link ∙ ap (λ (g : LetGo). g.link) (looked-all c.args.self.now c.args.link.now c.args.now)

pub returns-clause-notes : goal.returns-clause-notes
returns-clause-notes c =
    sym (ap (λ (g : LetGo). c.loop-i.notes.items ++ g.notes) (gone c.args.now c.loop-i.i _ (ledger_of c.loop-i.self) c.loop-i.link (none-left c)) ∙ append-nil c.loop-i.notes.items)
    ∙ c.loop-i.invariant.notes ∙ ap (λ (g : LetGo). c.args.notes.now.items ++ g.notes) (looked-all c.args.self.now c.args.link.now c.args.now)

pub returns-clause-apart : goal.returns-clause-apart
returns-clause-apart c = c.loop-i.invariant.apart

pub returns-clause-few : goal.returns-clause-few
returns-clause-few c = c.loop-i.invariant.few

pub returns-clause-works : goal.returns-clause-works
returns-clause-works c = λ h n stands.
    let keys = idle_keys_of c.args.self.now.table (is_lone c.args.self.now.stage) c.args.now in
    let laws : TickLaws = record { idle = c.idle_works.ensures; join = c.works_join.ensures; nothing = c.works_nothing.ensures } in
    works-as c.args.now [] [] (book_of c.args.self.now) c.args.link.now n _ (book_of c.loop-i.self) _ c.loop-i.link n _ h
    (ap (λ (l : Ledger). l.book) (returns-clause-ledger c)) (returns-clause-link c)
    (released-works laws c.args.now keys (ledger_of c.args.self.now) c.args.link.now n h stands)
