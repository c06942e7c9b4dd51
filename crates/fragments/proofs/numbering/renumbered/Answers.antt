use Rattle.std.proofs.Common.{ℕ, arith}
use Rattle.fragments.proofs.Sizes.{word-fits}
use Rattle.fragments.proofs.numbering.renumbered.Goals as goal

pub invariant_of-view : goal.invariant_of-view
invariant_of-view c = record { right = c.requires }

pub overflow_cast-fields : goal.overflow_cast-fields
overflow_cast-fields c =
    let fits = word-fits 2 c.args.packet.now (λ (i : ℕ). omega (arith, c.type_inv.packet i)) in
    omega (arith, fits, c.total_length.ensures.value)
