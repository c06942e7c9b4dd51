use Rattle.packet_rules.proofs.errors.pass_body.Goals as goal

pub pass-requires-clause-ipv4 : goal.pass-requires-clause-ipv4
pass-requires-clause-ipv4 c = rw c.split_at_mut-header.ensures.back c.requires.ipv4

pub pass-requires-clause-error : goal.pass-requires-clause-error
pass-requires-clause-error c = rw c.split_at_mut-header.ensures.back c.requires.error
