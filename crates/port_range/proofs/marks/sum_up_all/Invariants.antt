use Rattle.std.proofs.Common.{◌≡◌, ℕ, ◌<◌, length, nat_lt}
use Rattle.port_range.specs.Words.{has_bit}
use Rattle.port_range.specs.Marks.{open_word}
use Rattle.port_range.proofs.marks.sum_up_all.Given as goal

-- the summary is right for the words so far
abbrev pub invariant-loop-index : goal.invariant-loop-index
invariant-loop-index l = record {
  size : length l.summary ≡ 16;
  each : (n : ℕ) → n < l.index → has_bit l.summary n ≡ nat_lt 0 (open_word l.parity l.free l.owned n);
}
