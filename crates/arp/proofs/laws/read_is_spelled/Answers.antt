use Rattle.arp.proofs.Spelt.{read_spells}
use Rattle.arp.proofs.laws.read_is_spelled.Goals as goal

pub returns : goal.returns
returns c = read_spells
