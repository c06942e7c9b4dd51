use Rattle.std.proofs.Common.{◌≡◌, ◌/◌, length}
use Rattle.port_range.proofs.Writing.{AreWritten, IsSetIn, word_in}
use Rattle.port_range.proofs.words.set_between.Given as goal

-- the words so far have the bits too
abbrev pub invariant-loop-index : goal.invariant-loop-index
invariant-loop-index l = record {
  size : length l.words ≡ length l.fn.words;
  bits : AreWritten (IsSetIn l.fn.words l.lowest l.highest) (word_in l.fn.words) (word_in l.words) (l.lowest / 64) (l.highest / 64) l.index;
}
