use Rattle.std.proofs.Common.{sym, ◌∙◌}
use Rattle.spec_binding.specs.Rows.{is_gained}
use Rattle.bind_core.specs.Changes.{table_book}
use Rattle.bind_core.proofs.Asking.{any-here, any-on}
use Rattle.bind_core.proofs.deeds.gains_any.Goals as goal

pub loop-port-preserved : goal.loop-port-preserved
loop-port-preserved c = record {
  ports = c.ports-port-items.ensures;
  left = any-on (is_gained (table_book c.args.table.now)) c.args.granted.ports c.ports-port-items.result.now c.loop-port.port-index record { 0 = 0 } _ c.ports-port-items.ensures c.loop-port-test.true (sym c.is_gained.ensures ∙ c.if-is_gained.false) c.loop-port.invariant.left;
}

pub returns-then-is_gained : goal.returns-then-is_gained
returns-then-is_gained c =
    sym (any-here (is_gained (table_book c.args.table.now)) c.args.granted.ports c.ports-port-items.result.now c.loop-port.port-index record { 0 = 0 } _ c.ports-port-items.ensures c.loop-port-test.true (sym c.is_gained.ensures ∙ c.if-is_gained.true) c.loop-port.invariant.left)
