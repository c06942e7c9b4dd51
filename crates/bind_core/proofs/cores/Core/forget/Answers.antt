use Rattle.std.proofs.Common.{subst, sym, ap, ◌∙◌, arith}
use Rattle.bindings.specs.Table.{Table}
use Rattle.resync.specs.Loading.{Progress}
use Rattle.spec_binding.specs.Books.{IsBook, emptied}
use Rattle.bind_core.specs.Cores.{Core, book_of}
use Rattle.bind_core.specs.View.{core_of}
use Rattle.bind_core.proofs.Performing.{forgotten, still-between}
use Rattle.bind_core.proofs.cores.Core.forget.Goals as goal

pub invariant_of-self : goal.invariant_of-self
invariant_of-self c =
    let same = c.clear.ensures in
    let zero = ap (λ (t : Table). t.zero) same in
    let one = ap (λ (t : Table). t.one) same in
    let places = ap (λ (t : Table). t.capacity) same in
    let room = c.self.invariant.room in
    let between = c.self.invariant.bounds in
    record {
      book = subst IsBook (sym (forgotten (core_of c.self.inside) c.clear.new.self c.new-self-inside.result _ _ same between.zero between.one c.new-self-inside.ensures))
          (subst (λ (k : Core). IsBook (emptied (book_of k))) (sym c.self.view_is) c.requires.kept);
      bounds = still-between c.self.inside.table c.clear.new.self c.self.inside.bounds zero one between;
      zero = ap (λ (p : Progress). p.zero) c.new-self-inside.ensures ∙ sym between.zero ∙ sym zero;
      one = ap (λ (p : Progress). p.one) c.new-self-inside.ensures ∙ sym between.one ∙ sym one;
      room = omega (arith, room, places);
    }

pub returns-clause-book : goal.returns-clause-book
returns-clause-book c = rw (← c.self.view_is) (forgotten (core_of c.self.inside) c.clear.new.self c.new-self-inside.result _ _ c.clear.ensures c.self.invariant.bounds.zero c.self.invariant.bounds.one c.new-self-inside.ensures)
