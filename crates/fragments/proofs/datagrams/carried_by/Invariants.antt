use Rattle.std.proofs.Common.{◌≡◌, ◌≤◌, ◌*◌, length, take}
use Rattle.std.specs.List.{sum_by}
use Rattle.fragments.specs.Fragment.{carried}
use Rattle.fragments.proofs.datagrams.carried_by.Given as goal

abbrev pub invariant-loop-fragment : goal.invariant-loop-fragment
invariant-loop-fragment l = record {
  so_far : l.count ≡ sum_by (λ f. length (carried f)) (take l.fragment-index l.there);
  most : l.count ≤ 65535 * l.fragment-index;
}
