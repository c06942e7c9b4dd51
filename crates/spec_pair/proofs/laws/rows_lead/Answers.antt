use Rattle.spec_pair.proofs.MoreRuns as more
use Rattle.spec_pair.proofs.Runs as laws
use Rattle.spec_pair.proofs.laws.rows_lead.Goals as goal

pub returns-clause-loaded : goal.returns-clause-loaded
returns-clause-loaded c = laws.loading_leads

pub returns-clause-used : goal.returns-clause-used
returns-clause-used c = laws.using_leads

pub returns-clause-crossed : goal.returns-clause-crossed
returns-clause-crossed c = laws.crossing_leads

pub returns-clause-asked_yes : goal.returns-clause-asked_yes
returns-clause-asked_yes c = laws.yes_leads

pub returns-clause-asked_no : goal.returns-clause-asked_no
returns-clause-asked_no c = laws.no_leads

pub returns-clause-revived : goal.returns-clause-revived
returns-clause-revived c = laws.revival_leads

pub returns-clause-peer_off : goal.returns-clause-peer_off
returns-clause-peer_off c = laws.off_leads

pub returns-clause-doomed : goal.returns-clause-doomed
returns-clause-doomed c = laws.doomed_leads

pub returns-clause-lone : goal.returns-clause-lone
returns-clause-lone c = more.lone_leads

pub returns-clause-promised : goal.returns-clause-promised
returns-clause-promised c = more.promising_leads

pub returns-clause-named : goal.returns-clause-named
returns-clause-named c = more.naming_leads

pub returns-clause-returned : goal.returns-clause-returned
returns-clause-returned c = more.returning_leads
