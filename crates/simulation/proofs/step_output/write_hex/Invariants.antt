use Rattle.std.proofs.Common.{length}
use Rattle.hex.specs.Hex.{encode_lower}
use Rattle.simulation.proofs.Parts.{IsPart}
use Rattle.simulation.proofs.step_output.write_hex.Given as goal

abbrev pub invariant-loop-rest : goal.invariant-loop-rest
invariant-loop-rest g l = IsPart (g.W.Write.contents l.fn.output) (g.W.Write.contents l.output) (encode_lower l.bytes) (encode_lower l.rest)

abbrev pub decreases-loop-rest : goal.decreases-loop-rest
decreases-loop-rest g l = length l.rest
