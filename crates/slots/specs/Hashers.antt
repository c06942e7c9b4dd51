-- The hasher that each choice makes.
use Rattle.std.specs.Prelude.{Bool, true, false}
use Rattle.slots.specs.declared.keyed_hasher.KeyedHasher.{KeyedHasher}
use Rattle.slots.specs.declared.hashers.Hashers.{Hashers}
use Rattle.slots.specs.declared.hashers.Hashers.TheVariants.{Fixed, Drawn}
use Rattle.slots.specs.KeyedHashing.{fixed_keys, new_hasher}

-- the keys of these hashers were drawn
abbrev pub is_drawn : Hashers → Bool
is_drawn Fixed = false
is_drawn (Drawn keys) = true

abbrev pub hasher_of : Hashers → KeyedHasher
hasher_of Fixed = new_hasher fixed_keys
hasher_of (Drawn keys) = new_hasher keys
