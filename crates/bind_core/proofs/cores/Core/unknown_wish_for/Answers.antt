use Rattle.std.proofs.Common.{sym, ◌∙◌}
use Rattle.bind_core.specs.Cores.{book_of}
use Rattle.bind_core.proofs.Asking.{looked-wish}
use Rattle.bind_core.proofs.cores.Core.unknown_wish_for.Goals as goal

pub returns-then-is_some : goal.returns-then-is_some
returns-then-is_some c =
    c.new_wish_for.ensures
    ∙ looked-wish (book_of c.args.self.now) c.args.apart c.args.full c.args.endpoint c.args.looked (sym c.is_some.ensures ∙ c.if-is_some.true) c.requires
