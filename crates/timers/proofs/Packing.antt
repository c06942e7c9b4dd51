-- Packed links, as the links that they stand for.
use Rattle.std.proofs.Common.{◌≡◌, ℕ, zero, suc, refl, replicate}
use Rattle.timers.specs.declared.packed.Packed.{Packed}
use Rattle.timers.specs.Chains.{unset_links}
use Rattle.timers.specs.Packed.{unpacked, all_unpacked}

-- packed slots that aren't set are links that aren't set
pub all-unset : (packed : Packed) (count : ℕ) → unpacked packed ≡ unset_links → all_unpacked (replicate count packed) ≡ replicate count unset_links
all-unset packed zero unset = refl
all-unset packed (suc count) unset = cc (unset, all-unset packed count unset)
