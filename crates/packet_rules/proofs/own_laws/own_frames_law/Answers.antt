use Rattle.std.proofs.Common.{refl}
use Rattle.arp.specs.Packet.{reply_packet, request_packet}
use Rattle.packet_rules.specs.Networks.{broadcast_mac}
use Rattle.packet_rules.proofs.ErrorSorts.{passed-is_error}
use Rattle.packet_rules.proofs.OwnSorts.{advert-is_not_own, answer-is_own, arp-is_not_own, complaint-is_own, gratuitous-is_not_own, passed-is_not_own, sent-is_not_own}
use Rattle.packet_rules.proofs.Sorts.{sent-is_translation}
use Rattle.packet_rules.proofs.own_laws.own_frames_law.Goals as goal

pub returns-clause-answer : goal.returns-clause-answer
returns-clause-answer c = answer-is_own c.own_packet_law.ensures.packet

pub returns-clause-complaint : goal.returns-clause-complaint
returns-clause-complaint c = complaint-is_own c.own_packet_law.ensures.packet

pub returns-clause-sent : goal.returns-clause-sent
returns-clause-sent c = λ networks side t next bytes wired placed six f kind are goes.
    sent-is_not_own networks side t next bytes wired placed six f are goes (sent-is_translation networks side t next bytes wired six f kind goes)

pub returns-clause-passed : goal.returns-clause-passed
returns-clause-passed c = λ networks side t next bytes wired placed six f are goes.
    passed-is_not_own networks side t next bytes wired placed six f are goes (passed-is_error networks t next bytes wired six f)

pub returns-clause-arp : goal.returns-clause-arp
returns-clause-arp c = λ networks side network p mac own sender. arp-is_not_own networks side p.sender_mac.0 network.own_mac.0 (reply_packet mac p) sender own

pub returns-clause-request : goal.returns-clause-request
returns-clause-request c = λ networks side network ip own. arp-is_not_own networks side broadcast_mac network.own_mac.0 (request_packet network.own_mac network.own_ip ip) refl own

pub returns-clause-gratuitous : goal.returns-clause-gratuitous
returns-clause-gratuitous c = gratuitous-is_not_own

pub returns-clause-advert : goal.returns-clause-advert
returns-clause-advert c = advert-is_not_own
