use Rattle.std.proofs.Common.{◌∙◌, sym}
use Rattle.icmp.proofs.Told.{error-told}
use Rattle.icmp.proofs.errors.ErrorView.parse.Goals as goal

pub invariant_of-result : goal.invariant_of-result
invariant_of-result c =
    let kind = sym c.is_error_message.ensures ∙ c.if-not-is_error_message.false in
    let sound = sym c.no_error.ensures ∙ c.if-no_error.false in
    record { right = error-told c.args.message.now kind sound }
