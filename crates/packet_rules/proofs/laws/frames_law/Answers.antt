use Rattle.std.proofs.Common.{refl}
use Rattle.arp.specs.Packet.{request_packet, reply_packet}
use Rattle.packet_rules.specs.Networks.{broadcast_mac}
use Rattle.packet_rules.proofs.ErrorSorts.{passed-is_error, passed-is_none, arp-is_no_error, gratuitous-is_no_error, advert-is_no_error}
use Rattle.packet_rules.proofs.Sorts.{sent-is_translation, arp-is_none, gratuitous-is_none, advert-is_none}
use Rattle.packet_rules.proofs.laws.frames_law.Goals as goal

pub returns-clause-sent : goal.returns-clause-sent
returns-clause-sent c = sent-is_translation

pub returns-clause-answer : goal.returns-clause-answer
returns-clause-answer c = λ exit network p mac own sender. arp-is_none exit p.sender_mac.0 network.own_mac.0 (reply_packet mac p) sender own

pub returns-clause-request : goal.returns-clause-request
returns-clause-request c = λ exit network ip own. arp-is_none exit broadcast_mac network.own_mac.0 (request_packet network.own_mac network.own_ip ip) refl own

pub returns-clause-gratuitous : goal.returns-clause-gratuitous
returns-clause-gratuitous c = gratuitous-is_none

pub returns-clause-advert : goal.returns-clause-advert
returns-clause-advert c = advert-is_none

pub returns-clause-passed : goal.returns-clause-passed
returns-clause-passed c = passed-is_error

pub returns-clause-passed_apart : goal.returns-clause-passed_apart
returns-clause-passed_apart c = passed-is_none

pub returns-clause-answer_no_error : goal.returns-clause-answer_no_error
returns-clause-answer_no_error c = λ network p mac own sender. arp-is_no_error p.sender_mac.0 network.own_mac.0 (reply_packet mac p) sender own

pub returns-clause-request_no_error : goal.returns-clause-request_no_error
returns-clause-request_no_error c = λ network ip own. arp-is_no_error broadcast_mac network.own_mac.0 (request_packet network.own_mac network.own_ip ip) refl own

pub returns-clause-gratuitous_no_error : goal.returns-clause-gratuitous_no_error
returns-clause-gratuitous_no_error c = gratuitous-is_no_error

pub returns-clause-advert_no_error : goal.returns-clause-advert_no_error
returns-clause-advert_no_error c = advert-is_no_error
