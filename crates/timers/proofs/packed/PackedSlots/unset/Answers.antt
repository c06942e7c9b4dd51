use Rattle.std.proofs.Common.{refl, ap, ◌∙◌}
use Rattle.timers.specs.Packed.{all_unpacked}
use Rattle.timers.proofs.Packing.{all-unset}
use Rattle.timers.proofs.packed.PackedSlots.unset.Goals as goal

pub returns-clause-unset : goal.returns-clause-unset
returns-clause-unset c = ap all_unpacked c.in_ok-list.ensures.items ∙ all-unset _ c.args.count refl
