use Rattle.std.proofs.Common.{◌≡◌, ◌+◌, ◌-◌, ap, sym, ◌∙◌, arith}
use Rattle.bindings.specs.Ports.{in_either}
use Rattle.resync.proofs.Giving.{all-in-on, all-in-not, all-in-last}
use Rattle.resync.proofs.loading.lie_in_ranges.Goals as goal

pub returns-then-not-lies_in_ranges : goal.returns-then-not-lies_in_ranges
returns-then-not-lies_in_ranges c =
    sym (c.loop-port.invariant
    ∙ all-in-not c.args.zero c.args.one c.loop-port.port (c.args.last.0 + 1 - c.loop-port.port) (c.args.last.0 - c.loop-port.port) (omega arith) (sym c.lies_in_ranges.ensures ∙ c.if-not-lies_in_ranges.true))

pub loop-port-preserved : goal.loop-port-preserved
loop-port-preserved c =
    c.loop-port.invariant
    ∙ all-in-on c.args.zero c.args.one c.loop-port.port (c.args.last.0 + 1 - c.loop-port.port) (c.args.last.0 + 1 - (c.loop-port.port + 1)) (omega arith) (sym c.lies_in_ranges.ensures ∙ c.if-not-lies_in_ranges.false)

pub returns : goal.returns
returns c =
    let here : c.loop-port.port ≡ c.args.last.0 = omega (arith, c.loop-port.auto.port-end) in
    c.lies_in_ranges-2.ensures
    ∙ sym (c.loop-port.invariant ∙ all-in-last c.args.zero c.args.one c.loop-port.port (c.args.last.0 + 1 - c.loop-port.port) (omega arith) ∙ ap (λ n. in_either c.args.zero c.args.one n) here)
