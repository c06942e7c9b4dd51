use Rattle.std.proofs.Common.{subst, sym, ap, ◌∙◌, arith}
use Rattle.bindings.specs.Table.{Table}
use Rattle.spec_binding.specs.Books.{IsBook}
use Rattle.bind_core.specs.Cores.{Core, revived_with}
use Rattle.bind_core.specs.View.{core_of}
use Rattle.bind_core.proofs.Performing.{revived-book, still-between}
use Rattle.bind_core.proofs.cores.Core.revive.Goals as goal

pub note_back-requires-clause-sent : goal.note_back-requires-clause-sent
note_back-requires-clause-sent c = record { highest = c.self.invariant.book.highest; pairs = c.self.invariant.book.formed }

pub invariant_of-self : goal.invariant_of-self
invariant_of-self c =
    let same = c.revive.ensures.same in
    let zero = ap (λ (t : Table). t.zero) same in
    let one = ap (λ (t : Table). t.one) same in
    let places = ap (λ (t : Table). t.capacity) same in
    let room = c.self.invariant.room in
    record {
      book = subst IsBook (sym (revived-book (core_of c.self.inside) c.revive.new.self c.args.stage c.args.cursor same c.revive.ensures.entries))
          (subst (λ (k : Core). IsBook (revived_with c.args.stage c.args.cursor k)) (sym c.self.view_is) c.requires.kept);
      bounds = still-between c.self.inside.table c.revive.new.self c.self.inside.bounds zero one c.self.invariant.bounds;
      zero = c.self.invariant.zero ∙ sym zero;
      one = c.self.invariant.one ∙ sym one;
      room = omega (arith, room, places);
    }

pub returns-clause-book : goal.returns-clause-book
returns-clause-book c = rw (← c.self.view_is) (revived-book (core_of c.self.inside) c.revive.new.self c.args.stage c.args.cursor c.revive.ensures.same c.revive.ensures.entries)
