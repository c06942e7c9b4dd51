use Rattle.std.proofs.Common.{◌++◌, drop, ap, ◌∙◌}
use Rattle.packet_rules.specs.Errors.{passed_by}
use Rattle.packet_rules.specs.Frames.{sent_header}
use Rattle.packet_rules.proofs.Cut.{drop_kept}
use Rattle.packet_rules.proofs.errors.pass_frame.Goals as goal

pub returns-clause-bytes : goal.returns-clause-bytes
returns-clause-bytes c =
    let header = sent_header c.args.networks.now c.args.translation.now c.args.next_mac in
    let body = passed_by c.args.networks.now c.args.translation.now (drop 14 c.args.frame.now) in
    c.readdress.ensures.bytes
    ∙ ap (λ xs. header ++ drop 14 xs) c.pass_body.ensures
    ∙ ap (λ xs. header ++ xs) (drop_kept c.args.frame.now body c.requires.whole)
