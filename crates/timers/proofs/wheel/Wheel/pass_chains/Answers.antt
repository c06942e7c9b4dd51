use Rattle.std.proofs.Common.{ℕ, ◌+◌, ◌%◌, ◌∙◌, subst, arith}
use borrow.Author.Count.{below_more}
use Rattle.timers.specs.Chains.{moments}
use Rattle.timers.specs.Steps.{HasNoneDue}
use Rattle.timers.proofs.Taking.{taken_more}
use Rattle.timers.proofs.Turning.{stays_none, none_left}
use Rattle.timers.proofs.wheel.Wheel.pass_chains.Goals as goal

pub loop-passed-preserved : goal.loop-passed-preserved
loop-passed-preserved g c =
    let e = c.pass_chain.ensures in
    let i = c.loop-passed.invariant in
    let now = c.args.now in
    let turns = c.args.self.now.turns in
    let links = g.S.Slots.all c.loop-passed.slots in
    let after = g.S.Slots.all c.pass_chain.new.slots in
    let P : ℕ → Type 0 = λ k. HasNoneDue turns ((turns % 1024 + k) % 1024) now after in
    let Q : ℕ → Type 0 = λ n. HasNoneDue n ((turns % 1024 + c.loop-passed.passed) % 1024) now after in
    record {
      linked = e.linked;
      turns = e.turns ∙ i.turns;
      none = below_more P c.loop-passed.passed (λ k below. stays_none turns ((turns % 1024 + k) % 1024) now links after c.loop-passed.out.items c.pass_chain.new.out.items e.taken (i.none k below)) (subst Q (e.turns ∙ i.turns) e.passed);
      taken = taken_more now (moments (g.S.Slots.all c.args.slots.now)) (moments links) (moments after) c.args.out.now.items c.loop-passed.out.items c.pass_chain.new.out.items i.taken e.taken;
      room = e.room;
      capacity = e.capacity ∙ i.capacity;
      rest = e.rest ∙ i.rest;
    }

pub returns-clause-passed : goal.returns-clause-passed
returns-clause-passed g c =
    none_left c.args.self.now.turns c.args.now (g.S.Slots.all c.loop-passed.slots) (λ k below. c.loop-passed.invariant.none k (omega (arith, below, c.chains_until-passed-end.ensures, c.loop-passed-test.false)))
