use Rattle.std.proofs.Common.{◌≡◌, ◌<◌, ◌++◌, Option, false, refl, subst, sym, ap, ◌∙◌, arith}
use Rattle.bindings.specs.Table.{Table}
use Rattle.resync.specs.Loading.{Load, Progress, loaded}
use Rattle.resync.specs.Loading as progress
use Rattle.spec_binding.specs.Books.{IsBook, is_synced, load_of}
use Rattle.spec_binding.specs.Ledgers.{lives_loaded}
use Rattle.spec_binding.specs.Rows.{noted_by, unsynced_after, unsynced_what}
use Rattle.bind_core.specs.Cores.{Core, book_of}
use Rattle.bind_core.specs.View.{core_of}
use Rattle.bind_core.proofs.Performing.{load-book, load-comes, load-kept, load-noted, refused-book, refused-noted, still-between, whole-stage}
use Rattle.bind_core.proofs.cores.Core.load.Goals as goal

pub take-requires-clause-ready : goal.take-requires-clause-ready
take-requires-clause-ready c = λ put. subst (λ (x : Core). 0 < x.table.ready) (sym c.self.view_is) c.requires.ready

pub invariant_of-self : goal.invariant_of-self
invariant_of-self c =
    let k = core_of c.self.inside in
    let unsynced = subst (λ (x : Core). is_synced x.stage ≡ false) (sym c.self.view_is) c.requires.unsynced in
    let same = c.in-Ok.ensures.same in
    let zero = ap (λ (t : Table). t.zero) same in
    let one = ap (λ (t : Table). t.one) same in
    let places = ap (λ (t : Table). t.capacity) same in
    let room = c.self.invariant.room in
    let comes = load-comes k c.self.inside.cursor c.take.new.table unsynced c.self.invariant.book refl in
    let book = load-book k c.args.entry c.take.new.table c.take.new.self c.stage_after-self-inside.result _ c.in-Ok.ensures.ok (c.stage_after-self-inside.ensures ∙ whole-stage c.self.inside.stage _ _ c.loading_of-loads.ensures.whole) comes zero one in
    record {
      book = subst IsBook (sym book) (load-kept (book_of k) c.args.entry unsynced (c.books_keep.ensures.taken (book_of k) false c.args.entry c.self.invariant.book c.requires.formed));
      bounds = still-between c.self.inside.table c.take.new.table c.self.inside.bounds zero one c.self.invariant.bounds;
      zero = ap (λ (p : Progress). p.zero) c.take.ensures.progress ∙ c.self.invariant.zero ∙ sym zero;
      one = ap (λ (p : Progress). p.one) c.take.ensures.progress ∙ c.self.invariant.one ∙ sym one;
      room = omega (arith, room, places);
    }

pub returns-in-Ok-clause-book : goal.returns-in-Ok-clause-book
returns-in-Ok-clause-book c =
    let k = core_of c.self.inside in
    let unsynced = subst (λ (x : Core). is_synced x.stage ≡ false) (sym c.self.view_is) c.requires.unsynced in
    let same = c.in-Ok.ensures.same in
    let comes = load-comes k c.self.inside.cursor c.take.new.table unsynced c.self.invariant.book refl in
    load-book k c.args.entry c.take.new.table c.take.new.self c.stage_after-self-inside.result _ c.in-Ok.ensures.ok (c.stage_after-self-inside.ensures ∙ whole-stage c.self.inside.stage _ _ c.loading_of-loads.ensures.whole) comes (ap (λ (t : Table). t.zero) same) (ap (λ (t : Table). t.one) same)
    ∙ ap (λ (x : Core). unsynced_after (book_of x) c.args.entry) c.self.view_is

pub returns-in-Ok-clause-notes : goal.returns-in-Ok-clause-notes
returns-in-Ok-clause-notes c =
    let k = core_of c.self.inside in
    load-noted (book_of k) c.args.entry (progress.load_of c.take.new.self c.take.new.table) c.loading_of-loads.result.what c.args.now c.args.notes.now.items c.note.new.notes.items c.in-Ok.ensures.ok c.loading_of-loads.ensures.what c.note.ensures.items
    ∙ ap (λ (x : Core). c.args.notes.now.items ++ noted_by x.id c.args.now (unsynced_what (book_of x) c.args.entry)) c.self.view_is

pub returns-in-Ok-clause-lives : goal.returns-in-Ok-clause-lives
returns-in-Ok-clause-lives c =
    c.in-Ok.ensures.lives
    ∙ sym (ap (λ (l : Option Load). lives_loaded c.args.now c.args.entry c.self.inside.table.entries c.self.inside.table.lives l) c.in-Ok.ensures.ok)
    ∙ ap (λ (x : Core). lives_loaded c.args.now c.args.entry x.table.entries x.table.lives (loaded (load_of (book_of x)) c.args.entry)) c.self.view_is

pub returns-in-Err-clause-book : goal.returns-in-Err-clause-book
returns-in-Err-clause-book c =
    refused-book c.self.inside c.args.entry c.take.new.table c.take.new.self c.in-Err.ensures.refused c.in-Err.ensures.err c.in-Err.ensures.kept
    ∙ ap (λ (x : Core). unsynced_after (book_of x) c.args.entry) c.self.view_is

pub returns-in-Err-clause-notes : goal.returns-in-Err-clause-notes
returns-in-Err-clause-notes c =
    refused-noted (book_of (core_of c.self.inside)) c.args.entry c.args.now c.args.notes.now.items c.in-Err.ensures.refused
    ∙ ap (λ (x : Core). c.args.notes.now.items ++ noted_by x.id c.args.now (unsynced_what (book_of x) c.args.entry)) c.self.view_is

pub returns-in-Err-clause-lives : goal.returns-in-Err-clause-lives
returns-in-Err-clause-lives c =
    ap (λ (t : Table). t.lives) c.in-Err.ensures.err
    ∙ sym (ap (λ (l : Option Load). lives_loaded c.args.now c.args.entry c.self.inside.table.entries c.self.inside.table.lives l) c.in-Err.ensures.refused)
    ∙ ap (λ (x : Core). lives_loaded c.args.now c.args.entry x.table.entries x.table.lives (loaded (load_of (book_of x)) c.args.entry)) c.self.view_is
