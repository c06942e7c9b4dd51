use Rattle.std.proofs.Common.{◌≡◌, Bool, cond, List, [], ◌∷◌, ◌++◌, length, subst, sym, ap, ◌∙◌}
use Rattle.std.proofs.lemmas.List.{append-nil}
use Rattle.nat_types.specs.declared.notes.Note.{Note}
use Rattle.link.specs.Link.{with_promised}
use Rattle.bindings.specs.Revivals.{revived_entries}
use Rattle.resync.specs.Batch.{HasNoPending, batch_of}
use Rattle.resync.specs.declared.cursor.Cursor.{Cursor}
use Rattle.spec_binding.specs.declared.setups.Stage.TheVariants.{Paired}
use Rattle.spec_binding.specs.Books.{Book, IsBook}
use Rattle.spec_binding.specs.Ledgers.{Ledger}
use Rattle.spec_binding.specs.Resets.{back_in, restarted, restart_link, retaken}
use Rattle.bind_core.specs.Cores.{book_of, revived_with}
use Rattle.bind_core.proofs.Performing.{works-as, restarted-synced, restarted-bare, restarted-ledger, bare-ledger, link-synced, link-bare}
use Rattle.bind_core.proofs.cores.Core.peer_restarted.Goals as goal

pub revive-requires-clause-kept : goal.revive-requires-clause-kept
revive-requires-clause-kept c =
    subst (λ (cursor : Cursor). IsBook (revived_with Paired cursor c.args.self.now)) (sym c.new.ensures.start)
    (subst IsBook (restarted-synced (book_of c.args.self.now) (sym c.is_synced.ensures ∙ c.if-is_synced.true)) (c.books_keep.ensures.restarted (book_of c.args.self.now) c.recall.ensures.book))

pub promise-requires-clause-settled : goal.promise-requires-clause-settled
promise-requires-clause-settled c =
    let b = book_of c.args.self.now in
    let same : (restarted b).entries ≡ revived_entries b.entries = ap (λ (k : Book). k.entries) (restarted-synced b (sym c.is_synced.ensures ∙ c.if-is_synced.true)) in
    subst HasNoPending (same ∙ sym (ap (λ (k : Book). k.entries) c.revive.ensures.book)) (λ k x h. (c.books_keep.ensures.agreed b c.recall.ensures.book k x h).0)

-- ---- a synced gateway promises its table

promised : (c : goal.After-promise) → book_of c.revive.new.self ≡ restarted (book_of c.args.self.now)
promised c =
    c.revive.ensures.book ∙ ap (λ (cursor : Cursor). revived_with Paired cursor c.args.self.now) c.new.ensures.start
    ∙ sym (restarted-synced (book_of c.args.self.now) (sym c.is_synced.ensures ∙ c.if-is_synced.true))

pub returns-then-is_synced-clause-ledger : goal.returns-then-is_synced-clause-ledger
returns-then-is_synced-clause-ledger c = restarted-ledger c.args.self.now c.revive.new.self (sym c.is_synced.ensures ∙ c.if-is_synced.true) (promised c) c.revive.ensures.lives c.revive.ensures.refresh c.revive.ensures.hashers

pub returns-then-is_synced-clause-link : goal.returns-then-is_synced-clause-link
returns-then-is_synced-clause-link c =
    c.promise.ensures ∙ ap (λ (k : Book). with_promised c.args.link.now (length (batch_of k.owned k.entries))) c.revive.ensures.book
    ∙ sym (link-synced (book_of c.args.self.now) c.args.link.now (sym c.is_synced.ensures ∙ c.if-is_synced.true))

pub returns-then-is_synced-clause-notes : goal.returns-then-is_synced-clause-notes
returns-then-is_synced-clause-notes c =
    c.revive.ensures.notes
    ∙ sym (ap (λ (t : Bool). let ns : List Note = cond t (retaken c.args.self.now.id c.args.now (back_in c.args.self.now.table.entries)) [] in c.args.notes.now.items ++ ns) (sym c.is_synced.ensures ∙ c.if-is_synced.true))

pub returns-then-is_synced-clause-works : goal.returns-then-is_synced-clause-works
returns-then-is_synced-clause-works c = λ e h n l agrees boot greater from.
    let b = book_of c.args.self.now in
    works-as c.args.now (l ∷ []) [] b e n (restarted b) (book_of c.revive.new.self) (restart_link b c.args.link.now) c.promise.new.link 0 _ h (promised c) (returns-then-is_synced-clause-link c)
    (c.restart_works.ensures c.args.now b e c.args.link.now n h l c.recall.ensures.book agrees boot greater from)

-- ---- a gateway that isn't synced empties its table

pub returns-else-is_synced-clause-ledger : goal.returns-else-is_synced-clause-ledger
returns-else-is_synced-clause-ledger c =
    let bare = sym c.is_synced.ensures ∙ c.if-is_synced.false in
    bare-ledger c.args.self.now c.forget.new.self bare (c.forget.ensures.book ∙ sym (restarted-bare (book_of c.args.self.now) bare)) c.forget.ensures.lives c.forget.ensures.refresh c.forget.ensures.hashers

pub returns-else-is_synced-clause-link : goal.returns-else-is_synced-clause-link
returns-else-is_synced-clause-link c = sym (link-bare (book_of c.args.self.now) c.args.link.now (sym c.is_synced.ensures ∙ c.if-is_synced.false))

pub returns-else-is_synced-clause-notes : goal.returns-else-is_synced-clause-notes
returns-else-is_synced-clause-notes c =
    sym (ap (λ (t : Bool). let ns : List Note = cond t (retaken c.args.self.now.id c.args.now (back_in c.args.self.now.table.entries)) [] in c.args.notes.now.items ++ ns) (sym c.is_synced.ensures ∙ c.if-is_synced.false)
    ∙ append-nil c.args.notes.now.items)

pub returns-else-is_synced-clause-works : goal.returns-else-is_synced-clause-works
returns-else-is_synced-clause-works c = λ e h n l agrees boot greater from.
    let b = book_of c.args.self.now in
    works-as c.args.now (l ∷ []) [] b e n (restarted b) (book_of c.forget.new.self) (restart_link b c.args.link.now) c.args.link.now 0 _ h (ap (λ (g : Ledger). g.book) (returns-else-is_synced-clause-ledger c)) (returns-else-is_synced-clause-link c)
    (c.restart_works.ensures c.args.now b e c.args.link.now n h l c.recall.ensures.book agrees boot greater from)
