use Rattle.std.proofs.Common.{arith, ◌∙◌}
use Rattle.rewrite.proofs.Moved.{InRange, query-moved}
use Rattle.rewrite.proofs.segments.rewrite_query.Goals as goal

pub returns : goal.returns
returns c =
    let fits : InRange c.args.new = record { source = omega arith; destination = omega arith; source_port = omega arith; destination_port = omega arith } in
    c.rewrite_identifier.ensures ∙ query-moved c.args.old c.args.new c.args.message.now fits c.requires.long c.requires.identifier
