use Rattle.std.proofs.Common.{◌≡◌, ◌++◌}
use Rattle.spec_gateway.specs.Sendings.{all_pieces}
use Rattle.sendings.proofs.pieces.pieces_of.Given as goal

abbrev pub invariant-loop-frame : goal.invariant-loop-frame
invariant-loop-frame l =
    l.list.items ++ all_pieces l.networks l.frame-iterator ≡ all_pieces l.networks l.out.frames
