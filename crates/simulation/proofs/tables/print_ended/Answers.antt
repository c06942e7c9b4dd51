use Rattle.std.proofs.Common.{◌∙◌, sym}
use Rattle.std.proofs.KnownBytes.{Appends-nil}
use Rattle.simulation.proofs.tables.print_ended.Goals as goal

pub returns-then-follows : goal.returns-then-follows
returns-then-follows g c = rw (sym c.follows.ensures ∙ c.if-follows.true) (Appends-nil (g.W.Write.contents c.args.output.now))
