use Rattle.std.proofs.Common.{◌≡◌, ℕ, ◌*◌, ◌<◌, ◌&&◌}
use Rattle.port_range.specs.Ports.{is_within}
use Rattle.port_range.specs.Words.{has_bit}
use Rattle.port_range.proofs.words.fill_between.Given as goal

-- the words so far are filled
abbrev pub invariant-loop-index : goal.invariant-loop-index
invariant-loop-index l = (n : ℕ) → n < 64 * l.index → has_bit l.words n ≡ (l.flag && is_within l.lowest l.highest n)
