use Rattle.vrrp_states.proofs.Truths as laws
use Rattle.vrrp_states.proofs.laws.stopped_stays.Goals as goal

pub returns : goal.returns
returns c = record { stopped = laws.stopped; stays = laws.stays; silent = laws.silent }
