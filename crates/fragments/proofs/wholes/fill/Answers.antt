use Rattle.std.proofs.Common.{◌≤◌, ℕ, List, length, sym, subst, arith, ap, ◌∙◌}
use Rattle.std.specs.List.{AllByRecursion}
use Rattle.fragments.specs.Fragment.{carried, end_of, first_of}
use Rattle.fragments.proofs.Filling.{filled-all, length-put, within-both}
use Rattle.fragments.proofs.wholes.fill.Goals as goal

pub put-requires : goal.put-requires
put-requires c = omega (arith, c.requires.long, (within-both _ c.args.there.now c.args.new.now.frame.now c.requires.ready.within).last)

pub put_all-requires : goal.put_all-requires
put_all-requires c =
    let was = c.args.payload.now in
    let new = c.args.new.now.frame.now in
    let both = within-both _ c.args.there.now new c.requires.ready.within in
    subst (λ (n : ℕ). AllByRecursion (λ (f : List ℕ). end_of f ≤ n) c.args.there.now)
    (sym (ap length c.put.ensures ∙ length-put (first_of new) (carried new) was (omega (arith, c.requires.long, both.last)) ∙ c.requires.long)) both.each

pub returns : goal.returns
returns c =
    let new = c.args.new.now.frame.now in
    let both = within-both _ c.args.there.now new c.requires.ready.within in
    filled-all c.args.payload.now c.put.new.payload c.put_all.new.payload new c.args.there.now c.requires.ready c.requires.long (omega (arith, c.requires.long, both.last)) c.put.ensures c.put_all.ensures
