-- Refused memory: how large an item of a list may be, and a name for a refusal.
use Rattle.std.specs.Prelude.{◌≤◌, ℕ}
use denote.Param.{layout}
use denote.RattleType.{RattleType}
use prog.Memory.{size}

-- An item of this type takes at most 256 bytes. Memory is counted in items, and only in items of such types: with
-- larger items, a few could take as much memory as there is.
abbrev pub IsSmall : RattleType → Type 0
IsSmall T = size (layout T) ≤ 256

-- The allocator refused memory for `count` more items. No clause can say when it does so; hence the definition holds of
-- every number, and is a name. The functions of this crate state it, each in the line that allocates, and so does a
-- caller that allocates something other than a list.
unfoldable pub WasRefused : ℕ → Type 0
WasRefused count = Unit {0}
