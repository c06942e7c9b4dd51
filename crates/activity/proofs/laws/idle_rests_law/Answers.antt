use Rattle.std.proofs.Common.{refl}
use Rattle.activity.proofs.Resting.{idle-rests, unused-rests, later-rests, both-rest}
use Rattle.activity.proofs.laws.idle_rests_law.Goals as goal

pub returns : goal.returns
returns c = record {
  idle = idle-rests;
  unused = unused-rests;
  earlier = later-rests;
  together = both-rest;
  query_rest = refl;
  udp_rest = refl;
  transitory_rest = refl;
  established_rest = refl;
  max_sessions = refl;
}
