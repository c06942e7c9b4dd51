use Rattle.std.proofs.Common.{sym, subst}
use Rattle.icmp.specs.Quoted.{IsQuoted}
use Rattle.icmp.proofs.Told.{take-rest}
use Rattle.icmp.proofs.errors.ErrorView.inside.Goals as goal

pub invariant_of-result : goal.invariant_of-result
invariant_of-result c =
    let message = c.args.self.now.bytes.now in
    record { right = subst IsQuoted (sym (take-rest 8 message)) c.args.self.now.right.inside }

pub returns : goal.returns
returns c = take-rest 8 c.args.self.now.bytes.now
