use Rattle.std.proofs.Common.{◌≡◌, ◌++◌, drop}
use Rattle.fragments.specs.Cut.{pieces}
use Rattle.sendings.specs.Pieces.{at_side}
use Rattle.sendings.proofs.pieces.append_pieces.Given as goal

abbrev pub invariant-loop-k : goal.invariant-loop-k
invariant-loop-k l =
    l.list.items ++ at_side l.frame.side (drop l.k (pieces l.mtu l.frame.bytes.now))
    ≡ l.fn.list.items ++ at_side l.frame.side (pieces l.mtu l.frame.bytes.now)
