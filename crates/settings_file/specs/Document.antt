-- The values at the keys of a document, each read as its type and within its limits.
use Rattle.std.specs.Prelude.{ℕ, pos, ◌-◌, ◌/◌, ◌^◌, ◌==◌, ◌&&◌, nat_le, min, not, Bool, false, true, if◌then◌else◌, List, [], ◌∷◌, codes, Option, Some, None, is_some, option_map, option_and_then}
use Rattle.std.specs.Option.{option_or}
use Rattle.std.specs.Str.{bytes_eq}
use Rattle.addresses.specs.Address.{IsIn}
use Rattle.addresses.specs.declared.internet.Prefix.{Prefix}
use Rattle.toml.specs.Data.{Data, integer, Items, no_items, item, Members, get_member, as_str, as_bool, as_table, as_array}
use Rattle.settings.specs.declared.choice.Choice.{Choice}
use Rattle.settings.specs.declared.choice.Choice.TheVariants.{Lowest, Drawn}
use Rattle.settings_file.specs.declared.keys.Section.{Section}
use Rattle.settings_file.specs.declared.keys.Name.{Name}
use Rattle.settings_file.specs.Keys.{section_text, name_text}
use Rattle.settings_file.specs.Texts.{address_of, mac_of}

-- the value at a key of a section: a section that isn't a table has no keys
unfoldable pub value_of : Members → Section → Name → Option Data
value_of t section name =
    option_and_then (get_member (name_text name)) (option_and_then as_table (get_member (section_text section) t))

abbrev pub is_table : Data → Bool
is_table d = is_some (as_table d)

abbrev pub is_table_or_left_out : Option Data → Bool
is_table_or_left_out None = true
is_table_or_left_out (Some d) = is_table d

-- a section that may be left out is a table where it is there
unfoldable pub is_section : Members → Section → Bool
is_section t section = is_table_or_left_out (get_member (section_text section) t)

-- a whole number in limits
abbrev pub number_in : ℕ → ℕ → Data → Option ℕ
number_in low high (integer (pos n)) = if nat_le low n && nat_le n high then Some n else None
number_in low high _ = None

-- a whole number in limits, or else 0
abbrev pub zero_or_in : ℕ → ℕ → Data → Option ℕ
zero_or_in low high d = option_or (number_in low high d) (number_in 0 0 d)

-- what a value is read as, or the default where there is none
abbrev pub or_default : {X : Type 0} → X → (Data → Option X) → Option Data → Option X
or_default default read None = Some default
or_default default read (Some d) = read d

-- the number, flag, text and addresses at a key
unfoldable pub number_at : ℕ → ℕ → Members → Section → Name → Option ℕ
number_at low high t section name = option_and_then (number_in low high) (value_of t section name)

unfoldable pub number_or : ℕ → ℕ → ℕ → Members → Section → Name → Option ℕ
number_or default low high t section name = or_default default (number_in low high) (value_of t section name)

-- the number at a key that may be 0 too, and is 0 where it is left out
unfoldable pub zero_or : ℕ → ℕ → Members → Section → Name → Option ℕ
zero_or low high t section name = or_default 0 (zero_or_in low high) (value_of t section name)

-- the number at a key that may be left out: `None` where it is
unfoldable pub optional_at : ℕ → ℕ → Members → Section → Name → Option (Option ℕ)
optional_at low high t section name =
    or_default None (λ d. option_map (λ n. Some n) (number_in low high d)) (value_of t section name)

unfoldable pub flag_or : Bool → Members → Section → Name → Option Bool
flag_or default t section name = or_default default as_bool (value_of t section name)

-- the choice of ports that a word names
abbrev pub choice_named : List ℕ → Option Choice
choice_named word =
    if bytes_eq word (codes "lowest") then Some Lowest else if bytes_eq word (codes "drawn") then Some Drawn else None

abbrev pub choice_in : Data → Option Choice
choice_in d = option_and_then choice_named (as_str d)

-- the choice at a key: the lowest port where it is left out
unfoldable pub choice_at : Members → Section → Name → Option Choice
choice_at t section name = or_default Lowest choice_in (value_of t section name)

unfoldable pub text_at : Members → Section → Name → Option (List ℕ)
text_at t section name = option_and_then as_str (value_of t section name)

unfoldable pub address_at : Members → Section → Name → Option ℕ
address_at t section name = option_and_then address_of (text_at t section name)

unfoldable pub mac_at : Members → Section → Name → Option (List ℕ)
mac_at t section name = option_and_then mac_of (text_at t section name)

-- a first and a last port, in that order
abbrev pub in_order : Option ℕ → Option ℕ → Option (ℕ × ℕ)
in_order (Some low) (Some high) = if nat_le low high then Some (low, high) else None
in_order (Some low) None = None
in_order None high = None

abbrev pub range_items : List Data → Option (ℕ × ℕ)
range_items (low ∷ high ∷ []) = in_order (number_in 1024 65535 low) (number_in 1024 65535 high)
range_items _ = None

-- the values of a list
abbrev pub list_of : Items → List Data
list_of no_items = []
list_of (item d rest) = d ∷ list_of rest

unfoldable pub list_in : Data → Option (List Data)
list_in d = option_map list_of (as_array d)

-- a list of two ports above the privileged ones
abbrev pub range_of : Data → Option (ℕ × ℕ)
range_of d = option_and_then range_items (list_in d)

unfoldable pub range_at : Members → Section → Name → Option (ℕ × ℕ)
range_at t section name = option_and_then range_of (value_of t section name)

-- an address and the length of a prefix: those addresses that share as many first bits with it (RFC 4632)
abbrev pub Network : Type 0
Network = ℕ × ℕ

unfoldable pub is_in : ℕ → ℕ → ℕ → Bool
is_in address network length = address / 2 ^ (32 - length) == network / 2 ^ (32 - length)

abbrev pub network_of_prefix : Prefix → Network
network_of_prefix prefix = (prefix.address.0, prefix.length)

-- the network of an address and a prefix's length, where both are there
abbrev pub network_with : Option ℕ → Option ℕ → Option Network
network_with (Some address) (Some length) = Some (address, length)
network_with (Some address) None = None
network_with None length = None

-- an address is there, and of the network, where that is known
abbrev pub is_host : Option Network → Option ℕ → Bool
is_host network None = false
is_host None (Some address) = true
is_host (Some network) (Some address) = is_in address network.0 network.1

-- a prefix is there that shares no address with the network, where that and its own address are known
abbrev pub is_apart : Option Network → Option ℕ → Option ℕ → Bool
is_apart network address None = false
is_apart None address (Some length) = true
is_apart (Some network) None (Some length) = true
is_apart (Some network) (Some address) (Some length) = not (is_in address network.0 (min network.1 length))

-- no address lies both in the network and in that of an address and a prefix's length
abbrev pub IsApart : Prefix → ℕ → ℕ → Type 0
IsApart network address length = (both : ℕ) → IsIn both address length → IsIn both network.address.0 network.length → ⊥
