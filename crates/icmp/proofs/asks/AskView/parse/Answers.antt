use Rattle.std.proofs.Common.{◌∙◌, sym}
use Rattle.icmp.proofs.Told.{ask-told}
use Rattle.icmp.proofs.asks.AskView.parse.Goals as goal

pub invariant_of-result : goal.invariant_of-result
invariant_of-result c = record { right = ask-told c.args.message.now (sym c.no_ask.ensures ∙ c.if-no_ask.false) }
