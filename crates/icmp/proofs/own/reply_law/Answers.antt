use Rattle.icmp.proofs.Saying.{answers, is_query}
use Rattle.icmp.proofs.own.reply_law.Goals as goal

pub returns-clause-reply : goal.returns-clause-reply
returns-clause-reply c = answers

pub returns-clause-query : goal.returns-clause-query
returns-clause-query c = is_query
