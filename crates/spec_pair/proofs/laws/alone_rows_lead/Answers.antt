use Rattle.spec_pair.proofs.AloneRuns as laws
use Rattle.spec_pair.proofs.laws.alone_rows_lead.Goals as goal

pub returns-clause-met : goal.returns-clause-met
returns-clause-met c = laws.meeting_leads

pub returns-clause-two_ports : goal.returns-clause-two_ports
returns-clause-two_ports c = laws.reloading_leads

pub returns-clause-tell_crosses : goal.returns-clause-tell_crosses
returns-clause-tell_crosses c = laws.crosses_leads

pub returns-clause-go_on : goal.returns-clause-go_on
returns-clause-go_on c = laws.going_leads

pub returns-clause-taken_back : goal.returns-clause-taken_back
returns-clause-taken_back c = laws.taking_leads

pub returns-clause-untold : goal.returns-clause-untold
returns-clause-untold c = laws.dying_leads
