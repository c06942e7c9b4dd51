use Rattle.std.proofs.Common.{List, ℕ, ap, subst, arith}
use Rattle.frames.specs.Bytes.{Puts}
use Rattle.fragments.specs.Fragment.{carried, end_of, first_of}
use Rattle.fragments.proofs.Filling.{fill-begins, fill-ends, fill-goes, fill-long, fill-within}
use Rattle.fragments.proofs.wholes.put_all.Goals as goal

pub loop-fragment-init : goal.loop-fragment-init
loop-fragment-init c = fill-begins c.args.payload.now c.args.fragments.now

pub put-requires : goal.put-requires
put-requires c =
    let was = c.args.payload.now in
    let all = c.args.fragments.now in
    let left = c.loop-fragment.left.now in
    let f = c.in-Some.fragment.now in
    let within = fill-within was all left c.in-Some.before.now f c.loop-fragment.payload c.requires c.loop-fragment.invariant c.in-Some.ensures.cases.0 in
    omega (arith, within, fill-long was all left c.loop-fragment.payload c.loop-fragment.invariant, ap (λ (g : List ℕ). end_of g) c.view.ensures)

pub loop-fragment-preserved : goal.loop-fragment-preserved
loop-fragment-preserved c =
    let was = c.args.payload.now in
    let all = c.args.fragments.now in
    let left = c.loop-fragment.left.now in
    let f = c.in-Some.fragment.now in
    let old = c.loop-fragment.payload in
    let new = c.put.new.payload in
    fill-goes was all left c.in-Some.before.now f old new c.requires c.loop-fragment.invariant c.in-Some.ensures.cases.0
    (subst (λ (g : List ℕ). Puts (first_of g) (carried g) old new) c.view.ensures c.put.ensures)

pub returns : goal.returns
returns c = fill-ends c.args.payload.now c.args.fragments.now c.loop-fragment.left.now c.loop-fragment.payload c.loop-fragment.invariant c.in_default.ensures.cases
