use Rattle.vrrp_states.proofs.Truths as laws
use Rattle.vrrp_states.proofs.laws.own_values_stay.Goals as goal

pub returns : goal.returns
returns c = record {
  priority = λ r s e now a step. (laws.own_stay r s e now a step).priority;
  interval = λ r s e now a step. (laws.own_stay r s e now a step).interval;
  preempt = λ r s e now a step. (laws.own_stay r s e now a step).preempt;
  address = λ r s e now a step. (laws.own_stay r s e now a step).address;
}
