-- Keys that can't be left out.
use Rattle.std.specs.Prelude.{Bool, List, [], ◌∷◌, ◌++◌, filter, Option, is_none, unwrap_or, option_and_then}
use Rattle.toml.specs.Data.{Members}
use Rattle.settings_file.specs.declared.keys.Section.TheVariants.{Ports, Inside, Outside, GatewayZero, GatewayOne}
use Rattle.settings_file.specs.declared.keys.Name.TheVariants.{Zero, One, Virtual, Prefix, Vrid, Router}
use Rattle.settings_file.specs.declared.keys.Name.TheVariants.{InsideIp, InsideMac, OutsideIp, OutsideMac, BootFile}
use Rattle.settings_file.specs.declared.keys.Key.{Key}
use Rattle.settings_file.specs.Keys.{key}
use Rattle.settings_file.specs.Document.{value_of}
use Rattle.settings_file.specs.Faults.{first}
use Rattle.settings_file.specs.Neighbours.{all_missing_from, neighbours_of}

-- the keys of the sections that can't be left out, in the order of their text: all but host_limit, alone, inward_refresh, choice, ahead, mtu,
-- echo, errors, pass, peer_only, priority, interval, preempt and the loopback ports
abbrev pub required : List Key
required =
    key Ports Zero ∷ key Ports One
    ∷ key Inside Virtual ∷ key Inside Prefix ∷ key Inside Vrid
    ∷ key Outside Virtual ∷ key Outside Prefix ∷ key Outside Vrid ∷ key Outside Router
    ∷ key GatewayZero InsideIp ∷ key GatewayZero InsideMac ∷ key GatewayZero OutsideIp ∷ key GatewayZero OutsideMac
    ∷ key GatewayZero BootFile
    ∷ key GatewayOne InsideIp ∷ key GatewayOne InsideMac ∷ key GatewayOne OutsideIp ∷ key GatewayOne OutsideMac
    ∷ key GatewayOne BootFile
    ∷ []

-- nothing stands at the key
unfoldable pub lacks : Members → Key → Bool
lacks t k = is_none (option_and_then (value_of t k.section) k.name)

-- all keys that are missing: of the sections, and then of the neighbours. What isn't a list of tables lacks no key
unfoldable pub all_missing : Members → List Key
all_missing t = filter (lacks t) required ++ all_missing_from (unwrap_or (neighbours_of t) [])

-- the first key that is missing
unfoldable pub first_missing : Members → Option Key
first_missing t = first (all_missing t)
