use Rattle.activity.proofs.Pasts.{counts-is}
use Rattle.activity.proofs.Strangers.{stranger-loose, passive-idle, inward-idle, loose-courses, loose-crowded, kept-idle, kept-sessions}
use Rattle.addresses.specs.declared.transport.Protocol.TheVariants.{Tcp}
use Rattle.activity.proofs.laws.stranger_keeps_nothing.Goals as goal

pub returns : goal.returns
returns c = record {
  loose = λ past packet. stranger-loose past.packets packet;
  segment = λ past packet now off loose. passive-idle Tcp past packet now off loose;
  datagram = inward-idle;
  sessions = λ past packet. loose-courses past.packets packet;
  crowded = λ past packet. loose-crowded past.packets packet;
  kept_idle = kept-idle;
  kept_sessions = kept-sessions;
  kept_counts = counts-is;
}
