-- The settings that a document holds, and the first reason for which it holds none.
use Rattle.std.specs.Prelude.{◌≡◌, ◌==◌, ◌&&◌, ◌||◌, nat_le, ℕ, Bool, false, string_bytes, if◌then◌else◌, List, [], ◌∷◌, map, Option, Some, None, option_map, option_and_then}
use Rattle.std.specs.List.{list_any}
use Rattle.std.specs.Str.{bytes_eq}
use Rattle.toml.specs.Data.{Members}
use Rattle.settings.specs.declared.whole.Settings.{Settings}
use Rattle.settings_file.specs.declared.keys.Section.{Section}
use Rattle.settings_file.specs.declared.keys.Section.TheVariants.{Ports, Inside, Outside, GatewayZero, GatewayOne}
use Rattle.settings_file.specs.declared.keys.Name.TheVariants.{Zero, One, Virtual, Router, InsideIp, InsideMac, OutsideIp, OutsideMac, Link, InsidePort, OutsidePort}
use Rattle.settings_file.specs.declared.keys.Key.{Key}
use Rattle.settings_file.specs.declared.faults.SettingFault.{SettingFault}
use Rattle.settings_file.specs.declared.faults.SettingFault.TheVariants as faults
use Rattle.settings_file.specs.Document.{number_at, address_at, mac_at, range_at}
use Rattle.settings_file.specs.Faults.{earlier}
use Rattle.settings_file.specs.Rows.{bad_ports, bad_inside, bad_outside, bad_icmp, bad_fragments, bad_vrrp, bad_gateway, network_at}
use Rattle.settings_file.specs.Neighbours.{neighbours_of, neighbour_in, bad_neighbours}
use Rattle.settings_file.specs.Values.{IsRange, IsLimit, IsAlone, IsRefreshed, IsChoice, IsAhead, IsInterface, IsIcmp, IsFragments, IsVrrp, IsGateway}
use Rattle.settings_file.specs.Missing.{first_missing}
use Rattle.settings_file.specs.Unknown.{first_unknown}
use Rattle.settings_file.specs.Works.{Works, all_that_cant, cant_work}
use Rattle.settings_file.specs.declared.examinations.Examination.{Examination}
use Rattle.settings_file.specs.declared.examinations.Examination.TheVariants as examinations

-- settings that stand at the keys of a document
pub record HoldsValues (t : Members) (settings : Settings) : Type 0 where
  pub zero_ports : IsRange t Zero settings.ports.zero
  pub one_ports : IsRange t One settings.ports.one
  pub limit_is : IsLimit t settings.ports.host_limit
  pub alone_is : IsAlone t settings.alone
  pub refresh_is : IsRefreshed t settings.inward_refresh
  pub choice_is : IsChoice t settings.choice
  pub ahead_is : IsAhead t settings.ahead
  pub inside_is : IsInterface t Inside settings.inside
  pub outside_is : IsInterface t Outside settings.outside
  pub router_is : address_at t Outside Router ≡ Some settings.router.0
  pub icmp_is : IsIcmp t settings.icmp
  pub fragments_are : IsFragments t settings.fragments
  pub vrrp_is : IsVrrp t settings.vrrp
  pub zero_is : IsGateway t GatewayZero settings.zero
  pub one_is : IsGateway t GatewayOne settings.one
  pub neighbours_are : option_map (map neighbour_in) (neighbours_of t) ≡ Some (map (λ n. Some n) settings.neighbours.items)

-- the first key whose value is bad, in the order of the text
unfoldable pub first_bad_value : Members → Option Key
first_bad_value t =
    let inside = network_at t Inside in
    let outside = network_at t Outside in
    earlier (bad_ports t)
    (earlier (bad_inside t)
    (earlier (bad_outside inside outside t)
    (earlier (bad_icmp t)
    (earlier (bad_fragments t)
    (earlier (bad_vrrp t)
    (earlier (bad_gateway inside outside t GatewayZero)
    (earlier (bad_gateway inside outside t GatewayOne)
    (bad_neighbours inside outside t))))))))

-- two ranges share a port
abbrev pub overlap : Option (ℕ × ℕ) → Option (ℕ × ℕ) → Bool
overlap (Some a) (Some b) = nat_le a.0 b.1 && nat_le b.0 a.1
overlap (Some a) None = false
overlap None b = false

unfoldable pub shares_port : Members → Bool
shares_port t = overlap (range_at t Ports Zero) (range_at t Ports One)

abbrev pub same_number : Option ℕ → Option ℕ → Bool
same_number (Some a) (Some b) = a == b
same_number (Some a) None = false
same_number None b = false

abbrev pub same_bytes : Option (List ℕ) → Option (List ℕ) → Bool
same_bytes (Some a) (Some b) = bytes_eq a b
same_bytes (Some a) None = false
same_bytes None b = false

-- one value of the first list is in the second
abbrev pub share : {X : Type 0} → (X → X → Bool) → List X → List X → Bool
share same xs ys = list_any (λ x. list_any (same x) ys) xs

-- what a gateway has for its own
abbrev pub addresses_at : Members → Section → List (Option ℕ)
addresses_at t s = address_at t s InsideIp ∷ address_at t s OutsideIp ∷ []

abbrev pub macs_at : Members → Section → List (Option (List ℕ))
macs_at t s = mac_at t s InsideMac ∷ mac_at t s OutsideMac ∷ []

-- a port that is left out is none
abbrev pub sockets_at : Members → Section → List (Option ℕ)
sockets_at t s = number_at 1 65535 t s Link ∷ number_at 1 65535 t s InsidePort ∷ number_at 1 65535 t s OutsidePort ∷ []

-- a gateway's own address is the virtual one
abbrev pub has_virtual : Members → Section → Bool
has_virtual t s =
    same_number (address_at t s InsideIp) (address_at t Inside Virtual)
    || same_number (address_at t s OutsideIp) (address_at t Outside Virtual)

-- the two gateways share an address, a MAC or a loopback port, or one of them has a virtual address
unfoldable pub shares_id : Members → Bool
shares_id t =
    share same_number (addresses_at t GatewayZero) (addresses_at t GatewayOne)
    || (share same_bytes (macs_at t GatewayZero) (macs_at t GatewayOne)
    || (share same_number (sockets_at t GatewayZero) (sockets_at t GatewayOne)
    || (has_virtual t GatewayZero || has_virtual t GatewayOne)))

-- why a document holds no settings
pub data Refusal : Type 0 where
  unknown_key : List ℕ → Refusal
  missing : Key → Refusal
  bad_value : Key → Refusal
  ranges_overlap : Refusal
  same_ids : Refusal

abbrev pub first_of : Option Refusal → Option Refusal → Option Refusal
first_of (Some r) rest = Some r
first_of None rest = rest

-- the first reason: unknown keys, missing keys, values, ranges, ids
unfoldable pub refusal_of : Members → Option Refusal
refusal_of t =
    first_of (option_map (λ path. unknown_key path) (first_unknown t))
    (first_of (option_map (λ k. missing k) (first_missing t))
    (first_of (option_map (λ k. bad_value k) (first_bad_value t))
    (if shares_port t then Some ranges_overlap else if shares_id t then Some same_ids else None)))

-- the settings that a document holds, whether they can work or not: there is no reason against it
abbrev pub IsHeld : Option Members → Settings → Type 0
IsHeld document settings = (t : Members) × (document ≡ Some t) × (refusal_of t ≡ None) × HoldsValues t settings

-- a fault tells the first reason, or else the first key that can't work, or want of memory
abbrev pub Tells : Option Members → SettingFault → Type 0
Tells document faults.NotToml = document ≡ None
Tells document (faults.UnknownKey path) = option_and_then refusal_of document ≡ Some (unknown_key (string_bytes path))
Tells document (faults.Missing k) = option_and_then refusal_of document ≡ Some (missing k)
Tells document (faults.BadValue k) = option_and_then refusal_of document ≡ Some (bad_value k)
Tells document faults.RangesOverlap = option_and_then refusal_of document ≡ Some ranges_overlap
Tells document faults.SameIds = option_and_then refusal_of document ≡ Some same_ids
Tells document (faults.CantWork k) = (settings : Settings) × IsHeld document settings × (cant_work settings ≡ Some k)
Tells document faults.NoMemory = Unit {0}

-- settings of a text: it holds them, and they can work
abbrev pub IsReadFrom : Option Members → Settings → Type 0
IsReadFrom document settings = IsHeld document settings × Works settings

-- an examination that found settings has those that the text holds, and all of their keys that can't work
abbrev pub HasRead : Option Members → Examination → Type 0
HasRead document (examinations.WellFormed settings unworkable) = IsHeld document settings × (unworkable.items ≡ all_that_cant settings)
HasRead document _ = Unit {0}
