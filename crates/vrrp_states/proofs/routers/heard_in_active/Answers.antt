use Rattle.std.proofs.Common.{◌≤◌, arith}
use Rattle.std.proofs.lemmas.Bool.{both_ways}
use Rattle.vrrp_states.proofs.Lines.{active_yields, active_stays}
use Rattle.vrrp_states.proofs.routers.heard_in_active.Goals as goal
use Rattle.vrrp_states.proofs.routers.heard_in_active.Goals.{else-advert-gt0-via-then-advert-gt0+else-outranks, else-advert-gt0-via-else-advert-gt0}

pub returns-then-outranks : goal.returns-then-outranks
returns-then-outranks c = rw c.behind.ensures (active_yields c.args.own c.args.status c.args.advert.priority c.args.advert.interval c.args.from.0 c.args.now c.requires.state c.if-advert-gt0.true (c.outranks.ensures.0 c.if-outranks.true))

pub returns-else-advert-gt0 : goal.returns-else-advert-gt0
returns-else-advert-gt0 c = rw c.ahead.ensures (active_stays c.args.own c.args.status c.args.advert.priority c.args.advert.interval c.args.from.0 c.args.now c.requires.state (λ some outranks. elim c.else-advert-gt0.branch [
  | else-advert-gt0-via-then-advert-gt0+else-outranks w ↦ both_ways _ w.if-outranks.false (w.outranks.ensures.1 outranks)
  | else-advert-gt0-via-else-advert-gt0 w ↦ let none : c.args.advert.priority ≤ 0 = w.if-advert-gt0.false in absurd (omega arith)
]))
