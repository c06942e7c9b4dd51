use Rattle.std.proofs.Common.{◌≡◌, ◌∙◌, ◌-◌, ap, arith}
use Rattle.std.proofs.lemmas.Bool.Decides.{nat_tests}
use Rattle.std.specs.List.{insert, remove}
use Rattle.arp.specs.Log.{place_without}
use Rattle.arp.proofs.Shifts.{moved-down, moved-up}
use Rattle.arp.proofs.learnt.put_for.Goals as goal

pub returns-then-out-at-clause-items : goal.returns-then-out-at-clause-items
returns-then-out-at-clause-items c =
    let by = c.copy_within.ensures.by_index in
    let to : c.args.at - 1 ≡ place_without c.args.out c.args.at = grind (arith, nat_tests, c.if-out-at.true) in
    moved-down c.args.index.now.items c.copy_within.new.self.items c.args.out c.args.at c.args.spot c.requires.out (omega (arith, c.copy_within.ensures.len)) c.if-out-at.true c.requires.at by.0 by.1 by.2
    ∙ ap (λ i. insert (remove c.args.index.now.items c.args.out) i c.args.spot) to

pub returns-else-out-at-clause-items : goal.returns-else-out-at-clause-items
returns-else-out-at-clause-items c =
    let by = c.copy_within-else-out-at.ensures.by_index in
    let to : c.args.at ≡ place_without c.args.out c.args.at = grind (arith, nat_tests, c.if-out-at.false) in
    moved-up c.args.index.now.items c.copy_within-else-out-at.new.self.items c.args.out c.args.at c.args.spot c.requires.out (omega (arith, c.copy_within-else-out-at.ensures.len)) (omega (arith, c.if-out-at.false)) by.0 by.1 by.2
    ∙ ap (λ i. insert (remove c.args.index.now.items c.args.out) i c.args.spot) to
