use Rattle.std.proofs.Common.{rules, refl}
use Rattle.vrrp_packet.specs.Message.{IsAdvert, summed, summed_with_pseudo}
use Rattle.vrrp_packet.proofs.Grammar.{one_right}
use Rattle.vrrp_packet.proofs.parse.Goals as goal

pub returns-clause-ok : goal.returns-clause-ok
returns-clause-ok c =
    let packet = c.args.packet.now.bytes.now in
    let right = one_right (summed packet) (summed_with_pseudo packet) (search rules) in
    let taken : IsAdvert packet = record {
      one_hop = search rules;
      long = search rules;
      version = search rules;
      kind = search rules;
      some_address = search rules;
      there = search rules;
      sum = right;
      interval = search rules;
    } in
    (λ _. taken, λ _. refl)
