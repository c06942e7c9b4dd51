use Rattle.std.proofs.Common.{subst, ◌∙◌, ap}
use Rattle.bindings.specs.Ports.{AreBounds}
use Rattle.spec_gateway.specs.State.{GatewayState}
use Rattle.frame_sim.proofs.Turning.{founded-zero, founding-sound}
use Rattle.frame_sim.proofs.worlds.World.of.Goals as goal

pub invariant_of-result : goal.invariant_of-result
invariant_of-result c =
    let settings = c.args.settings.now in
    let bounds = subst AreBounds (ap (λ (g : GatewayState). g.shown.ledger.book.zero) c.in_ok-gateway.ensures.begins ∙ founded-zero settings) c.recall.ensures.gateway.shown.book.zero in
    rw (c.in_ok-gateway.ensures.begins, c.new.ensures.items, c.new-2.ensures.items, c.new-3.ensures.items)
    (founding-sound c.begins.ensures c.books_begin.ensures.founder c.beginnings_account.ensures.founded c.parts_stay_bytes.ensures.begun settings c.args.settings_one.now bounds c.requires.values)
