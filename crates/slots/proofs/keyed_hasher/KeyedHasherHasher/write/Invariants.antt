use Rattle.std.proofs.Common.{◌≡◌, take}
use Rattle.slots.specs.KeyedHashing.{written_from}
use Rattle.slots.proofs.keyed_hasher.KeyedHasherHasher.write.Given as goal

abbrev pub invariant-loop-byte : goal.invariant-loop-byte
invariant-loop-byte l = l.number ≡ written_from l.initial.number (take l.byte-index l.bytes)
