-- The values of a document, and settings made of them.
use Rattle.std.specs.Prelude.{◌≡◌, Bool, true, false, Some, map, option_map}
use Rattle.toml.specs.Data.{Members}
use Rattle.settings.specs.declared.whole.Settings.{Settings}
use Rattle.settings_file.specs.declared.faults.SettingFault.{SettingFault}
use Rattle.settings_file.specs.declared.faults.SettingFault.TheVariants.{RangesOverlap, SameIds}
use Rattle.settings_file.specs.declared.values.Values.{Values}
use Rattle.settings_file.specs.declared.keys.Section.TheVariants.{Inside, Outside, GatewayZero, GatewayOne}
use Rattle.settings_file.specs.declared.keys.Name.TheVariants.{Zero, One, Router}
use Rattle.settings_file.specs.Document.{address_at}
use Rattle.settings_file.specs.Neighbours.{neighbours_of, neighbour_in}
use Rattle.settings_file.specs.Values.{IsRange, IsLimit, IsAlone, IsRefreshed, IsChoice, IsAhead, IsInterface, IsIcmp, IsFragments, IsVrrp, IsGateway}
use Rattle.settings_file.specs.Settings.{overlap}
use Rattle.settings_file.specs.Ids.{same_ids}

-- values that stand at the keys of a document
pub record AreValues (t : Members) (v : Values) : Type 0 where
  pub zero_ports : IsRange t Zero v.zero_ports
  pub one_ports : IsRange t One v.one_ports
  pub limit_is : IsLimit t v.host_limit
  pub alone_is : IsAlone t v.alone
  pub refresh_is : IsRefreshed t v.inward_refresh
  pub choice_is : IsChoice t v.choice
  pub ahead_is : IsAhead t v.ahead
  pub inside_is : IsInterface t Inside v.inside
  pub outside_is : IsInterface t Outside v.outside
  pub router_is : address_at t Outside Router ≡ Some v.router.0
  pub icmp_is : IsIcmp t v.icmp
  pub fragments_are : IsFragments t v.fragments
  pub vrrp_is : IsVrrp t v.vrrp
  pub zero_is : IsGateway t GatewayZero v.zero
  pub one_is : IsGateway t GatewayOne v.one
  pub neighbours_are : option_map (map neighbour_in) (neighbours_of t) ≡ Some (map (λ n. Some n) v.neighbours.items)

abbrev pub overlap_of : Values → Bool
overlap_of v = overlap (Some (v.zero_ports.lowest.0, v.zero_ports.highest.0)) (Some (v.one_ports.lowest.0, v.one_ports.highest.0))

abbrev pub same_ids_of : Values → Bool
same_ids_of v = same_ids v.zero v.one v.inside.virtual_ip.0 v.outside.virtual_ip.0

-- settings of values whose ranges and ids are distinct
pub record IsAssembled (v : Values) (s : Settings) : Type 0 where
  pub disjoint : overlap_of v ≡ false
  pub distinct : same_ids_of v ≡ false
  pub zero_ports : s.ports.zero ≡ v.zero_ports
  pub one_ports : s.ports.one ≡ v.one_ports
  pub host_limit : s.ports.host_limit ≡ v.host_limit
  pub alone : s.alone ≡ v.alone
  pub inward_refresh : s.inward_refresh ≡ v.inward_refresh
  pub choice : s.choice ≡ v.choice
  pub ahead : s.ahead ≡ v.ahead
  pub inside : s.inside ≡ v.inside
  pub outside : s.outside ≡ v.outside
  pub router : s.router ≡ v.router
  pub icmp : s.icmp ≡ v.icmp
  pub fragments : s.fragments ≡ v.fragments
  pub vrrp : s.vrrp ≡ v.vrrp
  pub zero : s.zero ≡ v.zero
  pub one : s.one ≡ v.one
  pub neighbours : s.neighbours ≡ v.neighbours

abbrev pub TellsValues : Values → SettingFault → Type 0
TellsValues v RangesOverlap = overlap_of v ≡ true
TellsValues v SameIds = (overlap_of v ≡ false) × (same_ids_of v ≡ true)
TellsValues v _ = ⊥
