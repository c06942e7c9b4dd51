use Rattle.std.proofs.Common.{◌-◌, ◌/◌, arith}
use Rattle.bindings.specs.Ports.{is_spare_in}
use Rattle.bindings.proofs.Owning.{last-here, last-earlier}
use Rattle.bindings.proofs.ports.Ports.spare_below.Goals as goal

pub loop-rest-init : goal.loop-rest-init
loop-rest-init c = record {
  within = omega arith;
  none = λ q from below. absurd (omega (arith, from, below));
}

pub returns-in-Some-clause-some : goal.returns-in-Some-clause-some
returns-in-Some-clause-some c =
    let end = c.requires in
    let within = c.loop-rest.invariant.within in
    let last = c.in-Some.ensures.some in
    last-here (is_spare_in c.args.self.now) c.args.end c.loop-rest.rest ((c.loop-rest.rest - 1) / 64) c.spare_word.result c.in-Some.bit (omega arith) (omega arith) within c.spare_word.ensures last c.loop-rest.invariant.none

pub loop-rest-preserved : goal.loop-rest-preserved
loop-rest-preserved c =
    let within = c.loop-rest.invariant.within in
    let none = rw c.in_default.is at c.highest_below.ensures.none in
    record {
      within = omega (arith, within);
      none = last-earlier (is_spare_in c.args.self.now) c.args.end c.loop-rest.rest ((c.loop-rest.rest - 1) / 64) c.spare_word.result (omega arith) (omega arith) c.spare_word.ensures none c.loop-rest.invariant.none;
    }

pub returns-clause-none : goal.returns-clause-none
returns-clause-none c = λ port below. c.loop-rest.invariant.none port (omega arith) below
