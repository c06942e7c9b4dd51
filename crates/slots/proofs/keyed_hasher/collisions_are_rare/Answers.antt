use Rattle.std.proofs.Common.{◌≡◌, ◌+◌, ◌-◌, arith}
use Rattle.slots.proofs.Rare.{rare}
use Rattle.slots.proofs.keyed_hasher.collisions_are_rare.Goals as goal

pub returns : goal.returns
returns c = λ buckets k s x y a b whole greater wider short first second.
    let up : x + (y - x) ≡ y = omega (arith, greater) in
    let on : a + (b - a) ≡ b = omega (arith, wider) in
    rare buckets k s x (y - x) a (b - a) whole short (rw up first) (rw (up, on) second)
