-- Settings that stand at the keys of a document.
use Rattle.std.specs.Prelude.{◌≡◌, ℕ, Bool, true, false, Option, Some, string_bytes}
use Rattle.toml.specs.Data.{Members}
use Rattle.settings.specs.declared.ranges.PortRange.{PortRange}
use Rattle.settings.specs.declared.choice.Choice.{Choice}
use Rattle.settings.specs.declared.icmp_settings.IcmpSettings.{IcmpSettings}
use Rattle.settings.specs.declared.fragment_settings.FragmentSettings.{FragmentSettings}
use Rattle.settings.specs.declared.vrrp_settings.VrrpSettings.{VrrpSettings}
use Rattle.settings.specs.declared.interfaces.InterfaceSettings.{InterfaceSettings}
use Rattle.settings.specs.declared.gateway_settings.GatewaySettings.{GatewaySettings}
use Rattle.settings_file.specs.declared.keys.Section.{Section}
use Rattle.settings_file.specs.declared.keys.Name.{Name}
use Rattle.settings_file.specs.declared.keys.Section.TheVariants.{Ports, Icmp, Fragments, Vrrp}
use Rattle.settings_file.specs.declared.keys.Name.TheVariants.{HostLimit, Alone, InwardRefresh, Choice as ChoiceKey, Ahead, Virtual, Prefix, Vrid, Wire, Mtu, Echo, Errors, Pass, PeerOnly}
use Rattle.settings_file.specs.declared.keys.Name.TheVariants.{InsideIp, InsideMac, OutsideIp, OutsideMac, Priority, Interval, Preempt, BootFile, Link, InsidePort, OutsidePort}
use Rattle.settings_file.specs.Document.{number_at, number_or, zero_or, optional_at, flag_or, choice_at, text_at, address_at, mac_at, range_at}

-- a range of ports
abbrev pub IsRange : Members → Name → PortRange → Type 0
IsRange t name range = range_at t Ports name ≡ Some (range.lowest.0, range.highest.0)

-- the most pairs of an inside address: none where it is left out
abbrev pub IsLimit : Members → Option ℕ → Type 0
IsLimit t limit = optional_at 1 65535 t Ports HostLimit ≡ Some limit

-- after how many centiseconds without an answer a gateway makes pairs alone: 0, never, where it is left out
abbrev pub IsAlone : Members → ℕ → Type 0
IsAlone t alone = zero_or 50 65535 t Ports Alone ≡ Some alone

-- whether each packet inward keeps its pair: where it is left out, it does
abbrev pub IsRefreshed : Members → Bool → Type 0
IsRefreshed t refresh = flag_or true t Ports InwardRefresh ≡ Some refresh

-- how a port is chosen: the lowest one where it is left out
abbrev pub IsChoice : Members → Choice → Type 0
IsChoice t choice = choice_at t Ports ChoiceKey ≡ Some choice

-- how many ports are asked for ahead: none where it is left out
abbrev pub IsAhead : Members → ℕ → Type 0
IsAhead t ahead = number_or 0 0 1024 t Ports Ahead ≡ Some ahead

-- a network: where they are left out, mtu is 1500 and wire is none
pub record IsInterface (t : Members) (s : Section) (interface : InterfaceSettings) : Type 0 where
  pub virtual_is : address_at t s Virtual ≡ Some interface.virtual_ip.0
  pub prefix_is : number_at 8 30 t s Prefix ≡ Some interface.prefix_length
  pub vrid_is : number_at 1 255 t s Vrid ≡ Some interface.virtual_router
  pub wire_is : optional_at 1 65535 t s Wire ≡ Some interface.wire
  pub mtu_is : number_or 1500 576 1500 t s Mtu ≡ Some interface.mtu

-- what the gateways say by ICMP: nothing where it is left out
pub record IsIcmp (t : Members) (icmp : IcmpSettings) : Type 0 where
  pub echo_is : flag_or false t Icmp Echo ≡ Some icmp.echo
  pub errors_is : flag_or false t Icmp Errors ≡ Some icmp.errors

-- whether packets in fragments are taken: not where it is left out
abbrev pub IsFragments : Members → FragmentSettings → Type 0
IsFragments t fragments = flag_or false t Fragments Pass ≡ Some fragments.pass

-- whether the other gateway's advertisements alone count: where it is left out, everyone's do
abbrev pub IsVrrp : Members → VrrpSettings → Type 0
IsVrrp t vrrp = flag_or false t Vrrp PeerOnly ≡ Some vrrp.peer_only

-- a gateway: where they are left out, priority and interval are 100, preempt is true, and the ports are none
pub record IsGateway (t : Members) (s : Section) (gateway : GatewaySettings) : Type 0 where
  pub inside_ip_is : address_at t s InsideIp ≡ Some gateway.inside_ip.0
  pub inside_mac_is : mac_at t s InsideMac ≡ Some gateway.inside_mac.0
  pub outside_ip_is : address_at t s OutsideIp ≡ Some gateway.outside_ip.0
  pub outside_mac_is : mac_at t s OutsideMac ≡ Some gateway.outside_mac.0
  pub priority_is : number_or 100 1 254 t s Priority ≡ Some gateway.priority
  pub interval_is : number_or 100 1 4095 t s Interval ≡ Some gateway.interval
  pub preempt_is : flag_or true t s Preempt ≡ Some gateway.preempt
  pub boot_file_is : text_at t s BootFile ≡ Some (string_bytes gateway.boot_file)
  pub link_is : optional_at 1 65535 t s Link ≡ Some gateway.link
  pub inside_port_is : optional_at 1 65535 t s InsidePort ≡ Some gateway.inside_port
  pub outside_port_is : optional_at 1 65535 t s OutsidePort ≡ Some gateway.outside_port
