use Rattle.std.proofs.Common.{◌∙◌, sym}
use Rattle.icmp.proofs.Told.{query-told}
use Rattle.icmp.proofs.queries.QueryView.parse.Goals as goal

pub invariant_of-result : goal.invariant_of-result
invariant_of-result c =
    let begins = sym c.is_begun.ensures ∙ c.if-not-is_begun.false in
    let sound = sym c.no_identifier.ensures ∙ c.if-no_identifier.false in
    record { right = query-told c.args.kind c.args.message.now begins sound }
