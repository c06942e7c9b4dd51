use Rattle.packet_rules.proofs.translations.translate_body.Goals as goal

pub translate-requires-clause-ipv4 : goal.translate-requires-clause-ipv4
translate-requires-clause-ipv4 c = rw c.split_at_mut-header.ensures.back c.requires.ipv4

pub translate-requires-clause-translatable : goal.translate-requires-clause-translatable
translate-requires-clause-translatable c = rw c.split_at_mut-header.ensures.back c.requires.translatable
