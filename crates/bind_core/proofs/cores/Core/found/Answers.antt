use Rattle.std.proofs.Common.{◌≡◌, refl, subst, sym, ap, ◌∙◌, arith}
use Rattle.nat_types.specs.declared.gateways.GatewayId.TheVariants.{Zero}
use Rattle.bindings.specs.Table.{Table}
use Rattle.spec_binding.specs.Books.{Book, IsBook, empty_book}
use Rattle.bind_core.specs.Cores.{Core, book_of, rules_of}
use Rattle.bind_core.specs.View.{core_of}
use Rattle.bind_core.proofs.Performing.{founded-is, still-between}
use Rattle.bind_core.proofs.cores.Core.found.Goals as goal

pub own_range-requires-clause-none : goal.own_range-requires-clause-none
own_range-requires-clause-none c = ap (λ (k : Core). k.table.owned) c.self.view_is ∙ ap (λ (b : Book). b.owned) c.requires.empty

pub invariant_of-self : goal.invariant_of-self
invariant_of-self c =
    let k = core_of c.self.inside in
    let empty : book_of k ≡ empty_book Zero c.args.bounds.zero c.args.bounds.one (rules_of k) =
    subst (λ (x : Core). book_of x ≡ empty_book Zero c.args.bounds.zero c.args.bounds.one (rules_of x)) (sym c.self.view_is) c.requires.empty in
    let same = c.own_range.ensures in
    let zero = ap (λ (t : Table). t.zero) same in
    let one = ap (λ (t : Table). t.one) same in
    let places = ap (λ (t : Table). t.capacity) same in
    let room = c.self.invariant.room in
    let low0 = c.requires.zero.low in
    let low1 = c.requires.one.low in
    let order0 = c.requires.zero.order in
    let order1 = c.requires.one.order in
    record {
      book = subst IsBook (sym (founded-is k c.self.inside.cursor c.own_range.new.table c.args.bounds.zero c.args.bounds.one refl empty same))
          (c.books_begin.ensures.founded c.args.bounds.zero c.args.bounds.one (rules_of k) c.requires.zero c.requires.one (omega (arith, low0, order0), c.recall_port.ensures) (omega (arith, low1, order1), c.recall_port-2.ensures));
      bounds = still-between c.self.inside.table c.own_range.new.table c.self.inside.bounds zero one c.self.invariant.bounds;
      zero = c.self.invariant.zero ∙ sym zero;
      one = c.self.invariant.one ∙ sym one;
      room = omega (arith, room, places);
    }
