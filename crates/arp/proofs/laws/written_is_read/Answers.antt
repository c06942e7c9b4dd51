use Rattle.arp.proofs.Reading.{spelled_reads}
use Rattle.arp.proofs.laws.written_is_read.Goals as goal

pub returns : goal.returns
returns c = spelled_reads
