use Rattle.vrrp_states.proofs.Truths as laws
use Rattle.vrrp_states.proofs.laws.greater_address_stays.Goals as goal

pub returns : goal.returns
returns c = record { stays = laws.greater_stays; yields = laws.lesser_yields }
