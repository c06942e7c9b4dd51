-- How many slots the endpoints of each inside address have.
use Rattle.std.specs.Prelude.{ℕ, Bool, ◌==◌, ◌<◌, List, All, unwrap_or, if◌then◌else◌}
use Rattle.std.specs.Map.{lookup}
use Rattle.addresses.specs.declared.internet.Ip.{Ip}

-- the addresses whose endpoints have slots, each with its count, and how many more addresses fit without more memory
pub record AddressCounts : Type 0 where
  pub entries : List (Ip × ℕ)
  pub spare : ℕ

abbrev pub is_address : Ip → Ip → Bool
is_address a b = a.0 == b.0

-- the count of an address; 0 where it has none
abbrev pub count_at : List (Ip × ℕ) → Ip → ℕ
count_at counts address = unwrap_or (lookup (is_address address) counts) 0

-- each address that is listed has a slot
abbrev pub AreHeld : List (Ip × ℕ) → Type 0
AreHeld counts = All (λ e. 0 < e.1) counts

-- 1 at this address, and 0 at each other one
abbrev pub one_at : Ip → Ip → ℕ
one_at address a = (if is_address address a then 1 else 0)
