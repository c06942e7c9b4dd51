use Rattle.std.proofs.Common.{◌+◌, ap, take}
use Rattle.fragments.specs.Fragment.{trimmed}
use Rattle.fragments.proofs.Trimming.{trimmed-fragment}
use Rattle.fragments.proofs.views.FragmentView.trimmed.Goals as goal

pub invariant_of-result : goal.invariant_of-result
unfolding trimmed
invariant_of-result c = record {
  fragment = rw c.total_length.ensures.value (trimmed-fragment c.args.self.now.frame.now c.args.self.now.fragment);
}

pub returns : goal.returns
unfolding trimmed
returns c = ap (λ n. take (14 + n) c.args.self.now.frame.now) c.total_length.ensures.value
