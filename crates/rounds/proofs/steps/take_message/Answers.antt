use Rattle.rounds.proofs.steps.take_message.Goals as goal

pub returns : goal.returns
returns g c = record { taken = (_, ((_, (c.read_message-response.ensures.event, c.take_any-is_done.ensures.taken)), c.reply.ensures.quiet)) }
