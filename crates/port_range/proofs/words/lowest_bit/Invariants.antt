use Rattle.std.proofs.Common.{◌≡◌, ℕ, ◌*◌, ◌<◌, false}
use Rattle.port_range.specs.Words.{has_bit}
use Rattle.port_range.proofs.words.lowest_bit.Given as goal

-- no word so far has a bit
abbrev pub invariant-loop-index : goal.invariant-loop-index
invariant-loop-index l = (n : ℕ) → n < 64 * l.index → has_bit l.words n ≡ false
