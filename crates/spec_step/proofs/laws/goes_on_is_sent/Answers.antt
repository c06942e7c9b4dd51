use Rattle.spec_step.proofs.GoingOn.{begun-sent, error-sent, host-limit, no-port, packet-sent, sent-by-own}
use Rattle.spec_step.proofs.laws.goes_on_is_sent.Goals as goal

pub returns-clause-packet : goal.returns-clause-packet
returns-clause-packet c = packet-sent

pub returns-clause-error : goal.returns-clause-error
returns-clause-error c = error-sent

pub returns-clause-no_port : goal.returns-clause-no_port
returns-clause-no_port c = no-port

pub returns-clause-host_limit : goal.returns-clause-host_limit
returns-clause-host_limit c = host-limit

pub returns-clause-own : goal.returns-clause-own
returns-clause-own c = sent-by-own

pub returns-clause-alone : goal.returns-clause-alone
returns-clause-alone c = begun-sent
