use Rattle.icmp.specs.Packet.{error_flow}
use Rattle.rewrite.specs.PassedOn.{error_from}
use Rattle.rewrite.proofs.Shows.{passed-source, passed-destination}
use Rattle.rewrite.proofs.laws.hides_inside.Goals as goal

pub returns-clause-source : goal.returns-clause-source
returns-clause-source c = λ packet from port ip fits. passed-source (error_from from port (error_flow packet)) packet ip fits

pub returns-clause-destination_inside : goal.returns-clause-destination_inside
returns-clause-destination_inside c = λ packet from port ip e fits.
    passed-destination (error_from from port (error_flow packet)) packet ip e fits
