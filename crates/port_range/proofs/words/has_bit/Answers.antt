use Rattle.std.proofs.Common.{◌/◌, ◌%◌, ◌==◌, get_or, ap}
use Rattle.std.proofs.lemmas.Nat.Bits.{shr_and_one}
use Rattle.port_range.specs.Words.{is_set, has_bit}
use Rattle.port_range.proofs.words.has_bit.Goals as goal

pub returns : goal.returns
unfolding has_bit is_set
returns c = ap (λ b. b == 1) (shr_and_one (get_or c.args.words.now (c.args.number / 64) 0) (c.args.number % 64))
