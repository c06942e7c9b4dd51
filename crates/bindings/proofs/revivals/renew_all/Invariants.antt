use Rattle.std.proofs.Common.{◌≡◌, length, map}
use Rattle.activity.specs.Lives.{life_renewed}
use Rattle.bindings.proofs.Walks.{behind}
use Rattle.bindings.proofs.Renewed.{lives_behind}
use Rattle.bindings.proofs.revivals.renew_all.Given as goal

-- the lives that are left will begin anew, and then all have
abbrev pub invariant-loop-entry : goal.invariant-loop-entry
invariant-loop-entry l = record {
  renewed : lives_behind (life_renewed l.now) l.last l.store.entries l.store.lives ≡ map (life_renewed l.now) l.fn.store.lives;
  same : l.store ≡ record l.fn.store { lives = l.store.lives };
}

abbrev pub decreases-loop-entry : goal.decreases-loop-entry
decreases-loop-entry l = length (behind l.last l.store.entries)
