use Rattle.bind_core.proofs.cores.Core.put_lone.Goals as goal

pub revive-requires-clause-kept : goal.revive-requires-clause-kept
revive-requires-clause-kept c = c.requires.kept
