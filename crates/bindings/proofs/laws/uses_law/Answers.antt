use Rattle.bindings.proofs.Uses.{uses-begin, uses-carried, uses-renewed, uses-anew, uses-kept, uses-idle, uses-listed, uses-unused}
use Rattle.bindings.proofs.laws.uses_law.Goals as goal

pub returns : goal.returns
returns c = record {
  begins = uses-begin;
  carried = uses-carried;
  renewed = uses-renewed;
  anew = uses-anew;
  kept = uses-kept;
  idle = uses-idle;
  listed = uses-listed;
  unused = uses-unused;
}
