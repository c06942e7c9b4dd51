use Rattle.std.proofs.Common.{subst}
use Rattle.link.specs.Grammar.{IsWellFormed}
use Rattle.link.specs.Link.{Link, datagram_of}
use Rattle.link.specs.View.{link_of}
use Rattle.link.proofs.Ends.{formed, carries}
use Rattle.link.proofs.session.Link.write_next.Goals as goal

pub returns-clause-carries : goal.returns-clause-carries
returns-clause-carries c = λ h rest agrees. carries h rest c.args.self.now c.args.status c.requires.wanted agrees

pub returns-clause-formed : goal.returns-clause-formed
returns-clause-formed c =
    subst (λ (e : Link). IsWellFormed (datagram_of c.args.status e)) c.self.view_is (formed (link_of c.self.inside) c.args.status c.self.invariant)
