use Rattle.std.proofs.Common.{List, sym, subst, ◌∙◌}
use Rattle.std.specs.List.{AllByRecursion}
use Rattle.nat_types.specs.declared.records.Record.{Record}
use Rattle.link.specs.Grammar.{IsWellFormedRecord}
use Rattle.resync.specs.Cursor.{coming}
use Rattle.bind_core.specs.Cores.{book_of}
use Rattle.bind_core.specs.View.{core_of}
use Rattle.bind_core.proofs.Performing.{fed-works, drawn-first, drawn-split}
use Rattle.bind_core.proofs.cores.Core.draw_for.Goals as goal

pub draw-requires-clause-sent : goal.draw-requires-clause-sent
draw-requires-clause-sent c = record { highest = c.self.invariant.book.highest; pairs = c.self.invariant.book.formed }

pub feed-requires-clause-formed : goal.feed-requires-clause-formed
feed-requires-clause-formed c =
    subst (λ (rs : List Record). AllByRecursion IsWellFormedRecord rs) (sym c.as_slice.ensures.value)
    (c.draw.ensures.formed (subst (λ (rs : List Record). AllByRecursion IsWellFormedRecord rs) (sym c.new-records.ensures) tt))

pub invariant_of-self : goal.invariant_of-self
invariant_of-self c = record {
  book = c.books_keep.ensures.fed (book_of (core_of c.self.inside)) c.draw.new.out.items (coming c.draw.new.self c.self.inside.table) c.self.invariant.book
      (drawn-split c.wanted.result (coming c.self.inside.cursor c.self.inside.table) _ _ c.new-records.ensures c.draw.ensures.drawn c.draw.ensures.left);
  bounds = c.self.invariant.bounds;
  zero = c.self.invariant.zero;
  one = c.self.invariant.one;
  room = c.self.invariant.room;
}

pub returns-clause-works : goal.returns-clause-works
returns-clause-works c = rw (← c.self.view_is) (λ now h n stands.
    fed-works now (core_of c.self.inside) (coming c.draw.new.self c.self.inside.table) c.as_slice.result.now c.args.link.now c.feed.new.self n h c.wanted.result
    (c.as_slice.ensures.value ∙ drawn-first _ _ _ c.new-records.ensures c.draw.ensures.drawn) c.draw.ensures.left c.feed.ensures.after
    (c.feed_works.ensures now (book_of (core_of c.self.inside)) c.args.link.now n h c.as_slice.result.now (coming c.draw.new.self c.self.inside.table) c.self.invariant.book stands))
