use Rattle.std.proofs.Common.{◌++◌, ◌∷◌, [], List, take, drop, sym, ap, ◌∙◌, subst, arith, append_assoc}
use Rattle.std.specs.List.{AllByRecursion}
use Rattle.bindings.specs.Runs.{first_of}
use Rattle.nat_types.specs.declared.records.Record.{Record}
use Rattle.link.specs.Grammar.{IsWellFormedRecord}
use Rattle.resync.specs.Cursor.{coming}
use Rattle.resync.proofs.Drawing.{one-more, one-on, first-none, all-drawn, none-left, all-push}
use Rattle.resync.proofs.cursor.Cursor.draw.Goals as goal

pub returns-in-None-clause-drawn : goal.returns-in-None-clause-drawn
returns-in-None-clause-drawn c =
    let all = coming c.args.self.now c.args.table.now in
    let none = sym c.loop.invariant.left ∙ first-none (coming c.loop.self c.args.table.now) (sym c.next.ensures.first ∙ c.in-None.is) in
    c.loop.invariant.drawn ∙ ap (λ (rs : List Record). c.args.out.now.items ++ rs) (sym (all-drawn c.loop.counter c.args.n all none c.loop.auto.counter-end))

pub returns-in-None-clause-left : goal.returns-in-None-clause-left
returns-in-None-clause-left c =
    let all = coming c.args.self.now c.args.table.now in
    let empty = first-none (coming c.loop.self c.args.table.now) (sym c.next.ensures.first ∙ c.in-None.is) in
    c.next.ensures.rest ∙ ap (λ (rs : List Record). drop 1 rs) empty ∙ sym (none-left c.loop.counter c.args.n all (sym c.loop.invariant.left ∙ empty) c.loop.auto.counter-end)

pub loop-preserved : goal.loop-preserved
loop-preserved c =
    let all = coming c.args.self.now c.args.table.now in
    let next = ap (λ (rs : List Record). first_of rs) (sym c.loop.invariant.left) ∙ sym c.next.ensures.first ∙ c.in-Some.is in
    let len = c.loop.invariant.len in
    let longer = c.push.ensures.len in
    record {
      len = omega (arith, len, longer);
      drawn =
          c.push.ensures.items ∙ ap (λ (rs : List Record). rs ++ c.in-Some.item ∷ []) c.loop.invariant.drawn
          ∙ append_assoc c.args.out.now.items (take c.loop.counter all) (c.in-Some.item ∷ [])
          ∙ ap (λ (rs : List Record). c.args.out.now.items ++ rs) (sym (one-more c.loop.counter all c.in-Some.item next));
      left = c.next.ensures.rest ∙ ap (λ (rs : List Record). drop 1 rs) c.loop.invariant.left ∙ one-on c.loop.counter all;
      formed = λ old. subst (λ (rs : List Record). AllByRecursion IsWellFormedRecord rs) (sym c.push.ensures.items) (all-push IsWellFormedRecord c.loop.out.items c.in-Some.item (c.loop.invariant.formed old) c.in-Some.ensures.formed);
    }
