use Rattle.std.proofs.Common.{ap, ◌∙◌}
use Rattle.link.specs.Link.{Link, is_restart}
use Rattle.link.specs.View.{link_of}
use Rattle.link.proofs.Readings.{restart-named}
use Rattle.link.proofs.session.Link.may_restart.Goals as goal

pub returns-in-Ok-clause-restarts : goal.returns-in-Ok-clause-restarts
returns-in-Ok-clause-restarts c = λ d read.
    restart-named (link_of c.self.inside) c.args.bytes.now _ d c.in-Ok.ensures.exact read
    ∙ ap (λ (e : Link). is_restart e d) c.self.view_is

pub returns-in-Err-clause-restarts : goal.returns-in-Err-clause-restarts
returns-in-Err-clause-restarts c = λ d read. restart-named c.args.self.now c.args.bytes.now _ d c.in-Err.ensures.exact read
