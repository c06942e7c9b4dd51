use Rattle.std.proofs.Common.{◌++◌, ap, ◌∙◌}
use Rattle.frames.proofs.Offered.{three-appended}
use Rattle.packet_rules.proofs.adverts.append_advert.Goals as goal

pub returns-clause-items : goal.returns-clause-items
returns-clause-items c =
    three-appended c.args.list.now.items _ _ _ c.append_reserved.new.list.items c.append_reserved-2.new.list.items c.append_reserved-3.new.list.items
    (c.append_reserved.ensures.items ∙ ap (λ xs. c.args.list.now.items ++ xs) c.frame_header.ensures)
    (c.append_reserved-2.ensures.items ∙ ap (λ xs. c.append_reserved.new.list.items ++ xs) c.summed_header.ensures)
    (c.append_reserved-3.ensures.items ∙ ap (λ xs. c.append_reserved-2.new.list.items ++ xs) c.message.ensures)
