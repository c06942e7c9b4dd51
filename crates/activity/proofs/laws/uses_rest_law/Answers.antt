use Rattle.activity.proofs.Resting.{accounts-came, accounts-renewed, accounts-anew, accounts-later, accounts-more, accounts-idle, accounts-unused, rested-later}
use Rattle.activity.proofs.laws.uses_rest_law.Goals as goal

pub returns : goal.returns
returns c = record {
  comes = accounts-came;
  carried = accounts-more;
  renewed = accounts-renewed;
  anew = accounts-anew;
  later = accounts-later;
  idle = accounts-idle;
  unused = accounts-unused;
  rested = rested-later;
}
