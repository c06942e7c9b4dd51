use Rattle.std.proofs.Common.{slice_set, ap, ◌∙◌}
use Rattle.std.proofs.lemmas.List.{map-set}
use Rattle.timers.specs.Packed.{unpacked, all_unpacked}
use Rattle.timers.proofs.packed.PackedSlotsSlots.set_links.Goals as goal

pub returns-clause-all : goal.returns-clause-all
returns-clause-all c =
    map-set unpacked c.args.self.now.list.items c.args.slot c.pack.result ∙ ap (λ links. slice_set (all_unpacked c.args.self.now.list.items) c.args.slot links) c.pack.ensures
