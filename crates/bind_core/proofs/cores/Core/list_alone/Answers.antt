use Rattle.std.proofs.Common.{false, arith, sym, ap, ◌∙◌, subst}
use Rattle.bindings.specs.Table.{Table, is_alone_at}
use Rattle.bindings.proofs.Offered.{few-passing}
use Rattle.bind_core.specs.Changes.{IsBetween}
use Rattle.bind_core.specs.View.{core_of}
use Rattle.bind_core.proofs.Performing.{same-book}
use Rattle.bind_core.proofs.cores.Core.list_alone.Goals as goal

pub unreachable-requires : goal.unreachable-requires
unreachable-requires c =
    let few = few-passing (is_alone_at c.self.inside.table) false c.args.now c.self.inside.table.entries c.self.inside.table.lives in
    let within = c.recall.ensures.within in
    let room = c.self.invariant.room in
    let len = c.clear.ensures.len in
    let capacity = c.clear.ensures.capacity in
    let no = c.in-Err.ensures.room (omega (arith, few, within, room, len, capacity)) in
    cc

pub invariant_of-self : goal.invariant_of-self
invariant_of-self c =
    let same = c.alone_keys.ensures.same in
    let room = c.self.invariant.room in
    let places = ap (λ (t : Table). t.capacity) same in
    let capacity = c.clear.ensures.capacity in
    let more = c.alone_keys.ensures.capacity in
    record {
      book = same-book (core_of c.self.inside) c.self.inside.cursor c.self.inside.table c.alone_keys.new.self same c.self.invariant.book;
      bounds = subst (λ (t : Table). IsBetween t c.self.inside.bounds) (sym same) c.self.invariant.bounds;
      zero = c.self.invariant.zero ∙ sym (ap (λ (t : Table). t.zero) same);
      one = c.self.invariant.one ∙ sym (ap (λ (t : Table). t.one) same);
      room = omega (arith, room, places, capacity, more);
    }
