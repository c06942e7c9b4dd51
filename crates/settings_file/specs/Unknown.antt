-- Keys that settings don't have.
use Rattle.std.specs.Prelude.{ℕ, Bool, if◌then◌else◌, List, [], ◌∷◌, ◌++◌, Option, Some, None, codes}
use Rattle.std.specs.List.{list_any, find}
use Rattle.std.specs.Str.{bytes_eq}
use Rattle.std.specs.Ordering.{is_lt, nat_cmp}
use Rattle.std.specs.Cmp.Lexicographic.{slice_cmp}
use Rattle.toml.specs.Data.{Data, Members, no_members, member, as_table}
use Rattle.settings_file.specs.declared.keys.Section.{Section}
use Rattle.settings_file.specs.declared.keys.Section.TheVariants.{Ports, Inside, Outside, Icmp, Fragments, Vrrp, GatewayZero, GatewayOne, Neighbour}
use Rattle.settings_file.specs.declared.keys.Name.{Name}
use Rattle.settings_file.specs.declared.keys.Name.TheVariants.{Zero, One, HostLimit, Alone, InwardRefresh, Choice, Ahead, Virtual, Prefix, Vrid, Wire, Router, Mtu, Echo, Errors, Pass, PeerOnly}
use Rattle.settings_file.specs.declared.keys.Name.TheVariants.{InsideIp, InsideMac, OutsideIp, OutsideMac, Priority, Interval, Preempt, BootFile, Link, InsidePort, OutsidePort}
use Rattle.settings_file.specs.declared.keys.Name.TheVariants.{Side, Ip, Mac}
use Rattle.settings_file.specs.Keys.{section_text, name_text}
use Rattle.settings_file.specs.Neighbours.{tables_in}

-- the keys that a section has
abbrev pub names_of : Section → List Name
names_of Ports = Zero ∷ One ∷ HostLimit ∷ Alone ∷ InwardRefresh ∷ Choice ∷ Ahead ∷ []
names_of Inside = Virtual ∷ Prefix ∷ Vrid ∷ Wire ∷ Mtu ∷ []
names_of Outside = Virtual ∷ Prefix ∷ Vrid ∷ Wire ∷ Router ∷ Mtu ∷ []
names_of Icmp = Echo ∷ Errors ∷ []
names_of Fragments = Pass ∷ []
names_of Vrrp = PeerOnly ∷ []
names_of GatewayZero =
    InsideIp ∷ InsideMac ∷ OutsideIp ∷ OutsideMac ∷ Priority ∷ Interval ∷ Preempt ∷ BootFile ∷ Link ∷ InsidePort ∷ OutsidePort ∷ []
names_of GatewayOne =
    InsideIp ∷ InsideMac ∷ OutsideIp ∷ OutsideMac ∷ Priority ∷ Interval ∷ Preempt ∷ BootFile ∷ Link ∷ InsidePort ∷ OutsidePort ∷ []
names_of Neighbour = Side ∷ Ip ∷ Mac ∷ []

abbrev pub has_text : List ℕ → Name → Bool
has_text text name = bytes_eq (name_text name) text

-- the section has a key of that text
unfoldable pub is_known : Section → List ℕ → Bool
is_known section text = list_any (has_text text) (names_of section)

abbrev pub is_titled : List ℕ → Section → Bool
is_titled text section = bytes_eq text (section_text section)

abbrev pub sections : List Section
sections = Ports ∷ Inside ∷ Outside ∷ Icmp ∷ Fragments ∷ Vrrp ∷ GatewayZero ∷ GatewayOne ∷ Neighbour ∷ []

-- the section of that name
unfoldable pub section_named : List ℕ → Option Section
section_named text = find (is_titled text) sections

-- the path of a key, as `ports.colour`
abbrev pub path : Section → List ℕ → List ℕ
path section text = section_text section ++ codes "." ++ text

-- the paths of a table's keys that its section doesn't have
abbrev pub unknown_in : Section → Members → List (List ℕ)
unknown_in section no_members = []
unknown_in section (member text d rest) =
    if is_known section text then unknown_in section rest else path section text ∷ unknown_in section rest

-- where there is a table
unfoldable pub unknown_at : Section → Option Members → List (List ℕ)
unknown_at section None = []
unknown_at section (Some t) = unknown_in section t

-- of the tables of a list
abbrev pub unknown_from : List Data → List (List ℕ)
unknown_from [] = []
unknown_from (d ∷ rest) = unknown_at Neighbour (as_table d) ++ unknown_from rest

unfoldable pub unknown_neighbour : Option (List Data) → List (List ℕ)
unknown_neighbour None = []
unknown_neighbour (Some ds) = unknown_from ds

-- of the value at a key of the document
unfoldable pub unknown_under : List ℕ → Data → Option Section → List (List ℕ)
unknown_under text d None = text ∷ []
unknown_under text d (Some Ports) = unknown_at Ports (as_table d)
unknown_under text d (Some Inside) = unknown_at Inside (as_table d)
unknown_under text d (Some Outside) = unknown_at Outside (as_table d)
unknown_under text d (Some Icmp) = unknown_at Icmp (as_table d)
unknown_under text d (Some Fragments) = unknown_at Fragments (as_table d)
unknown_under text d (Some Vrrp) = unknown_at Vrrp (as_table d)
unknown_under text d (Some GatewayZero) = unknown_at GatewayZero (as_table d)
unknown_under text d (Some GatewayOne) = unknown_at GatewayOne (as_table d)
unknown_under text d (Some Neighbour) = unknown_neighbour (tables_in (Some d))

-- the paths of all keys that settings don't have
abbrev pub unknown_of : Members → List (List ℕ)
unknown_of no_members = []
unknown_of (member text d rest) = unknown_under text d (section_named text) ++ unknown_of rest

-- the lesser of two paths by their bytes
abbrev pub lesser : Option (List ℕ) → List ℕ → Option (List ℕ)
lesser None p = Some p
lesser (Some least) p = if is_lt (slice_cmp nat_cmp p least) then Some p else Some least

-- the least of some paths, and of one that is there already
abbrev pub least_from : Option (List ℕ) → List (List ℕ) → Option (List ℕ)
least_from least [] = least
least_from least (p ∷ rest) = least_from (lesser least p) rest

-- the least path of a key that settings don't have
unfoldable pub first_unknown : Members → Option (List ℕ)
first_unknown t = least_from None (unknown_of t)
