-- The keys of the settings, in the order of their text.
use Rattle.std.specs.Prelude.{ℕ, List, codes, Some, None}
use Rattle.settings_file.specs.declared.keys.Section.{Section}
use Rattle.settings_file.specs.declared.keys.Section.TheVariants.{Ports, Inside, Outside, Icmp, Fragments, Vrrp, GatewayZero, GatewayOne, Neighbour}
use Rattle.settings_file.specs.declared.keys.Name.{Name}
use Rattle.settings_file.specs.declared.keys.Name.TheVariants.{Zero, One, HostLimit, Alone, InwardRefresh, Choice, Ahead, Virtual, Prefix, Vrid, Wire, Router, Mtu, Echo, Errors, Pass, PeerOnly}
use Rattle.settings_file.specs.declared.keys.Name.TheVariants.{InsideIp, InsideMac, OutsideIp, OutsideMac, Priority, Interval, Preempt, BootFile, Link, InsidePort, OutsidePort}
use Rattle.settings_file.specs.declared.keys.Name.TheVariants.{Side, Ip, Mac}
use Rattle.settings_file.specs.declared.keys.Key.{Key}

-- the name of a table
abbrev pub section_text : Section → List ℕ
section_text Ports = codes "ports"
section_text Inside = codes "inside"
section_text Outside = codes "outside"
section_text Icmp = codes "icmp"
section_text Fragments = codes "fragments"
section_text Vrrp = codes "vrrp"
section_text GatewayZero = codes "gateway_0"
section_text GatewayOne = codes "gateway_1"
section_text Neighbour = codes "neighbour"

-- the text of a key
abbrev pub name_text : Name → List ℕ
name_text Zero = codes "zero"
name_text One = codes "one"
name_text HostLimit = codes "host_limit"
name_text Alone = codes "alone"
name_text InwardRefresh = codes "inward_refresh"
name_text Choice = codes "choice"
name_text Ahead = codes "ahead"
name_text Virtual = codes "virtual"
name_text Prefix = codes "prefix"
name_text Vrid = codes "vrid"
name_text Wire = codes "wire"
name_text Router = codes "router"
name_text Mtu = codes "mtu"
name_text Echo = codes "echo"
name_text Errors = codes "errors"
name_text Pass = codes "pass"
name_text PeerOnly = codes "peer_only"
name_text InsideIp = codes "inside_ip"
name_text InsideMac = codes "inside_mac"
name_text OutsideIp = codes "outside_ip"
name_text OutsideMac = codes "outside_mac"
name_text Priority = codes "priority"
name_text Interval = codes "interval"
name_text Preempt = codes "preempt"
name_text BootFile = codes "boot_file"
name_text Link = codes "link"
name_text InsidePort = codes "inside_port"
name_text OutsidePort = codes "outside_port"
name_text Side = codes "side"
name_text Ip = codes "ip"
name_text Mac = codes "mac"

-- a key in a section
abbrev pub key : Section → Name → Key
key section name = record { section = section; name = Some name }

-- the key of a whole section, of the list of neighbours too
abbrev pub whole : Section → Key
whole section = record { section = section; name = None }
