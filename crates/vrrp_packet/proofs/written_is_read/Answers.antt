use Rattle.std.proofs.Common.{ap, ◌∙◌}
use Rattle.sums.specs.Sum.{checksum_of}
use Rattle.vrrp_packet.specs.Message.{advert_of, message_bytes}
use Rattle.vrrp_packet.proofs.Written.{advert_of-message_bytes, IsAdvert-written}
use Rattle.vrrp_packet.proofs.written_is_read.Goals as goal

pub returns : goal.returns
returns c = λ packet advert fits hop carried. (
  IsAdvert-written packet advert fits hop carried,
  ap advert_of carried ∙ advert_of-message_bytes advert (checksum_of (message_bytes advert 0)) fits,
)
