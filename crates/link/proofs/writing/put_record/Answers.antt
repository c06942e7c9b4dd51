use Rattle.std.proofs.Common.{ℕ, ◌++◌, ◌∷◌, [], ap, ◌∙◌}
use Rattle.link.proofs.Lists.{record_written}
use Rattle.link.proofs.writing.put_record.Goals as goal

pub returns-clause-items : goal.returns-clause-items
returns-clause-items c =
    record_written c.args.entry.now c.args.out.now.items c.put.new.out.items c.put_body.new.out.items
    (c.put.ensures ∙ ap (λ (n : ℕ). c.args.out.now.items ++ n ∷ []) c.tag_of.ensures) c.put_body.ensures.items
