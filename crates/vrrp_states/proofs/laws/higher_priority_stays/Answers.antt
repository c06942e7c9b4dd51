use Rattle.vrrp_states.proofs.Truths as laws
use Rattle.vrrp_states.proofs.laws.higher_priority_stays.Goals as goal

pub returns : goal.returns
returns c = record { stays = laws.higher_stays; yields = laws.lower_yields }
