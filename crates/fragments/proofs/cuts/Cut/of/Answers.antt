use Rattle.std.proofs.Common.{ℕ, arith}
use Rattle.fragments.proofs.Sizes.{word-fits}
use Rattle.fragments.proofs.cuts.Cut.of.Goals as goal

pub invariant_of-result-2 : goal.invariant_of-result-2
invariant_of-result-2 c = record {
  limits = c.requires.mtu;
  short = word-fits 2 c.args.packet.now (λ (i : ℕ). omega (arith, c.type_inv.packet i));
}
