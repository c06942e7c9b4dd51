use Rattle.vrrp_states.proofs.Unique as laws
use Rattle.vrrp_states.proofs.laws.exactly_one_line.Goals as goal

pub returns : goal.returns
returns c = record { some = laws.some_step; line = laws.one_line; outcome = laws.one_step }
