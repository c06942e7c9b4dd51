use Rattle.std.proofs.Common.{◌≡◌, ℕ, ◌+◌, ◌*◌, ◌<◌, length, slice_index}
use Rattle.port_range.specs.Words.{has_bit}
use Rattle.port_range.specs.Counts.{count_below}
use Rattle.port_range.proofs.words.ends_of.Given as goal

-- the bits up to each word so far are counted
abbrev pub invariant-loop-index : goal.invariant-loop-index
invariant-loop-index l = record {
  size : length l.ends ≡ 16;
  counted : l.count ≡ count_below (has_bit l.words) (64 * l.index);
  each : (i : ℕ) → i < l.index → slice_index l.ends i ≡ count_below (has_bit l.words) (64 * (i + 1));
}
