use Rattle.icmp.specs.Ask.{has_no_ask}
use Rattle.icmp.specs.declared.faults.IcmpFault.TheVariants.{NotAsked}
use Rattle.icmp.proofs.Told.{one-clear, clear-one, ask-told, told-ask}
use Rattle.icmp.proofs.asks.ask_grammar.Goals as goal

pub returns : goal.returns
returns c = λ message. (
  λ e. ask-told message (one-clear NotAsked (has_no_ask message) e),
  λ g. clear-one NotAsked (has_no_ask message) (told-ask message g),
)
