use Rattle.icmp.specs.Query.{begins_with, has_no_identifier}
use Rattle.icmp.specs.declared.faults.IcmpFault.TheVariants.{NotQuery, BadQuery}
use Rattle.icmp.proofs.Told.{two-clear, clear-two, query-told, told-begins, told-identified}
use Rattle.icmp.proofs.queries.query_grammar.Goals as goal

pub returns-clause-grammar : goal.returns-clause-grammar
returns-clause-grammar c = λ kind message. (
  λ e. let p = two-clear NotQuery BadQuery (begins_with kind message) (has_no_identifier message) e in query-told kind message p.0 p.1,
  λ g. clear-two NotQuery BadQuery (begins_with kind message) (has_no_identifier message) (told-begins kind message g) (told-identified kind message g),
)
