use Rattle.std.proofs.Common.{◌≤◌, min, sym, subst}
use Rattle.link.specs.Link.{Link, free_places}
use Rattle.spec_binding.specs.Books.{is_apart}
use Rattle.bind_core.specs.Cores.{book_of}
use Rattle.forwarder.proofs.Wishing.{wish-leaves}
use Rattle.forwarder.proofs.forwarders.Forwarder.wish.Goals as goal

pub returns-clause-places : goal.returns-clause-places
returns-clause-places c =
    subst (λ (l : Link). min 64 (free_places c.args.self.now.link) ≤ free_places l) (sym c.want-given.ensures.link) (wish-leaves (book_of c.args.self.now.core) (is_apart (book_of c.args.self.now.core) c.args.self.now.link c.args.self.now.moment) c.args.self.now.link c.args.endpoint)
