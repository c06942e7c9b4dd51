use Rattle.std.proofs.Common.{◌&&◌, length}
use Rattle.ipv4.specs.Header.{header_of, payload_of, has_wrong_sum}
use Rattle.vrrp_packet.specs.Message.{message_of, size_of, summed, summed_with_pseudo}
use Rattle.vrrp_packet.proofs.Grammar.{refusal-none, none-passes, one_right, not_both_wrong}
use Rattle.vrrp_packet.proofs.advert_grammar.Goals as goal

pub returns : goal.returns
returns c = λ packet.
    let m = message_of (payload_of packet) in
    let wrong = has_wrong_sum (summed packet) && has_wrong_sum (summed_with_pseudo packet) in (
      λ e.
          let p = refusal-none (header_of packet).ttl (length (payload_of packet)) m.version m.kind m.count (size_of m) m.interval wrong e in
          record {
            one_hop = p.one_hop;
            long = p.whole;
            version = p.version_three;
            kind = p.kind_one;
            some_address = p.some_address;
            there = p.there;
            sum = one_right (summed packet) (summed_with_pseudo packet) p.sum;
            interval = p.some_interval;
          },
      λ g. none-passes (header_of packet).ttl (length (payload_of packet)) m.version m.kind m.count (size_of m) m.interval wrong (record {
        one_hop = g.one_hop;
        whole = g.long;
        version_three = g.version;
        kind_one = g.kind;
        some_address = g.some_address;
        there = g.there;
        sum = not_both_wrong (summed packet) (summed_with_pseudo packet) g.sum;
        some_interval = g.interval;
      }),
    )
