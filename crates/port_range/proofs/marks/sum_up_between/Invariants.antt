use Rattle.std.proofs.Common.{◌≡◌, length, nat_lt}
use Rattle.port_range.specs.Words.{has_bit}
use Rattle.port_range.specs.Marks.{open_word}
use Rattle.port_range.proofs.Writing.{AreWritten}
use Rattle.port_range.proofs.marks.sum_up_between.Given as goal

-- the summary is right for the words so far
abbrev pub invariant-loop-index : goal.invariant-loop-index
invariant-loop-index l = record {
  size : length l.summary ≡ 16;
  bits : AreWritten (λ n b. b ≡ nat_lt 0 (open_word l.parity l.free l.owned n)) (has_bit l.fn.summary) (has_bit l.summary) l.first l.last l.index;
}
