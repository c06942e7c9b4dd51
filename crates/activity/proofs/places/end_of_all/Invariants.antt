use Rattle.std.proofs.Common.{◌≡◌, max, drop}
use Rattle.activity.specs.Dues.{clipped}
use Rattle.activity.specs.Packed.{end_of}
use Rattle.activity.proofs.places.end_of_all.Given as goal

-- the end is that of the sessions so far, and of those that are left
abbrev pub invariant-loop-session : goal.invariant-loop-session
invariant-loop-session l = max l.end (clipped (end_of (drop l.session-index l.kept))) ≡ clipped (end_of l.kept)
