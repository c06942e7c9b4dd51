use Rattle.std.proofs.Common.{◌≡◌, ◌<◌, ◌∙◌, arith}
use Rattle.std.proofs.lemmas.Bool.{both_ways}
use Rattle.vrrp_states.specs.Table.{skew_time}
use Rattle.vrrp_states.proofs.Lines.{backup_priority_zero, backup_follows, backup_other}
use Rattle.vrrp_states.proofs.routers.heard_in_backup.Goals as goal

pub returns-then-advert-eq0 : goal.returns-then-advert-eq0
returns-then-advert-eq0 c source =
    let skew : c.from-skew_time.result ≡ skew_time c.args.own.priority c.args.status.active_interval = c.from-skew_time.ensures ∙ c.skew_time.ensures in
    rw skew (backup_priority_zero c.args.own c.args.status c.args.advert.priority c.args.advert.interval source c.args.now c.requires.state c.if-advert-eq0.true)

pub returns-then-is_followed : goal.returns-then-is_followed
returns-then-is_followed c source =
    let some : 0 < c.args.advert.priority = omega arith in
    rw c.behind.ensures (backup_follows c.args.own c.args.status c.args.advert.priority c.args.advert.interval source c.args.now c.requires.state some (c.is_followed.ensures.0 c.if-is_followed.true))

pub returns-else-is_followed : goal.returns-else-is_followed
returns-else-is_followed c source =
    let some : 0 < c.args.advert.priority = omega arith in
    backup_other c.args.own c.args.status c.args.advert.priority c.args.advert.interval source c.args.now c.requires.state some (λ follows. both_ways _ c.if-is_followed.false (c.is_followed.ensures.1 follows))
