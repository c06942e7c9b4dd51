-- What the rule of idle pairs says to callers that see uses and releases alone.
use Rattle.std.specs.Prelude.{◌≡◌, ℕ, ◌+◌, ◌≤◌, ◌⊎◌, true, List, [], ◌∷◌, if◌then◌else◌}
use Rattle.addresses.specs.declared.transport.Protocol.{Protocol}
use Rattle.activity.specs.declared.packets.Packet.{Packet}
use Rattle.activity.specs.Lives.{History, counts, least_rest}

-- the packets, newest first, were carried at moments that never ran back, none after this one
abbrev pub CameBy : ℕ → List Packet → Type 0
CameBy now [] = Unit {0}
CameBy now (p ∷ older) = (p.at ≤ now) × CameBy p.at older

-- those of these packets, newest first, whose uses count
abbrev pub counted : Protocol → List Packet → List Packet
counted protocol [] = []
counted protocol (p ∷ older) = (if counts protocol older p then p ∷ counted protocol older else counted protocol older)

-- each packet was carried at least `rest` before `now`
abbrev pub AllRested : ℕ → ℕ → List Packet → Type 0
AllRested rest now [] = Unit {0}
AllRested rest now (p ∷ older) = (p.at + rest ≤ now) × AllRested rest now older

-- each of these moments is at least `rest` before `now`
abbrev pub AllBefore : ℕ → ℕ → List ℕ → Type 0
AllBefore rest now [] = Unit {0}
AllBefore rest now (moment ∷ moments) = (moment + rest ≤ now) × AllBefore rest now moments

-- ---- uses, for those who know no packets: a list of moments

-- one of these moments is this one
abbrev pub IsAmong : ℕ → List ℕ → Type 0
IsAmong moment [] = ⊥
IsAmong moment (m ∷ ms) = (moment ≡ m) ⊎ IsAmong moment ms

-- a packet was carried at that moment
abbrev pub WasCarried : ℕ → List Packet → Type 0
WasCarried moment [] = ⊥
WasCarried moment (p ∷ older) = (moment ≡ p.at) ⊎ WasCarried moment older

-- each use is at least `rest` before a moment
abbrev pub HaveRested : ℕ → ℕ → List ℕ → Type 0
HaveRested rest now uses = (use_at : ℕ) → IsAmong use_at uses → use_at + rest ≤ now

-- A use is before the beginning of a past: not later; and where the pair came by Install and may still end unused, the
-- use had rested by then.
pub record LiesBehind (protocol : Protocol) (past : History) (use_at : ℕ) : Type 0 where
  pub behind : use_at ≤ past.since
  pub rested : past.by_install ≡ true → use_at + least_rest protocol ≤ past.since

-- the packets, newest first, were carried at moments that never ran back, none before `since` and none after `now`
abbrev pub CameBetween : ℕ → ℕ → List Packet → Type 0
CameBetween since now [] = since ≤ now
CameBetween since now (p ∷ older) = (p.at ≤ now) × CameBetween since p.at older

-- A past accounts for uses: each of them carried one of its packets that count, or is before its beginning. The packets
-- came in order, none before the past began or after this moment.
pub record AccountsFor (protocol : Protocol) (now : ℕ) (past : History) (uses : List ℕ) : Type 0 where
  pub packets : CameBetween past.since now past.packets
  pub accounted : (use_at : ℕ) → IsAmong use_at uses → WasCarried use_at (counted protocol past.packets) ⊎ LiesBehind protocol past use_at

-- the uses that count after one more packet
abbrev pub with_use : Protocol → Packet → History → List ℕ → List ℕ
with_use protocol p past uses = (if counts protocol past.packets p then p.at ∷ uses else uses)
