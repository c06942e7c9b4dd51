use Rattle.std.proofs.Common.{sym, subst}
use Rattle.activity.specs.Lives.{Activity, Agrees, with_packet}
use Rattle.activity.specs.Packed.{moment_in, sessions_in}
use Rattle.activity.proofs.Pasts.{kept-tcp, agrees-carried}
use Rattle.activity.proofs.life.Activity.carried.Goals as goal

pub returns-in-Tcp-clause-exact : goal.returns-in-Tcp-clause-exact
returns-in-Tcp-clause-exact c =
    let i = c.self.inside in
    let life : Activity = record { last = moment_in i.last; is_unused = i.is_unused; has_carried = i.has_carried; is_crowded = i.is_crowded; sessions = sessions_in i.count i.places } in
    rw (c.in-Tcp.is, ← c.self.view_is)
    (kept-tcp life c.args.packet c.is_loose-is_loose.result c.sets_last-sets_last.result c.follow_unless-nowhere.result _ _
    (rw c.from.ensures at c.is_loose-is_loose.ensures) (rw c.in-Tcp.is at c.sets_last-sets_last.ensures) c.later-self-inside.ensures c.follow_unless-nowhere.ensures.sessions c.follow_unless-nowhere.ensures.nowhere)

pub returns-in-Tcp-clause-agrees : goal.returns-in-Tcp-clause-agrees
returns-in-Tcp-clause-agrees c =
    λ past agrees. subst (Agrees c.args.protocol (with_packet c.args.packet past)) (sym (returns-in-Tcp-clause-exact c)) (agrees-carried c.args.protocol past c.args.self.now c.args.packet agrees)
