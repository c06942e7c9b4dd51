-- What is asked of a gateway's state, and of which pairs.
use Rattle.std.specs.Prelude.{◌≡◌, ◌⊎◌, ℕ, Bool, true, false, List, codes, Option, Some, None, option_map, if◌then◌else◌}
use Rattle.std.specs.Str.{bytes_eq}
use Rattle.std.specs.Net.Addr.{ipv4_bits}
use Rattle.std.specs.Net.Grammar.{IsIpv4Text}
use Rattle.std.specs.declared.net.ipv4_addr.Ipv4Addr.{Ipv4Addr}
use Rattle.clap.specs.Words.{Row, Text, first_of}
use Rattle.addresses.specs.declared.internet.Ip.{Ip}
use Rattle.addresses.specs.declared.transport.Port.{Port}
use Rattle.addresses.specs.declared.transport.Protocol.{Protocol}
use Rattle.addresses.specs.declared.transport.Protocol.TheVariants.{Icmp, Tcp, Udp}
use Rattle.nat_types.specs.declared.pairs.EntryState.{EntryState}
use Rattle.nat_types.specs.declared.pairs.EntryState.TheVariants.{Pending, Doomed, Live, Closing, Held, Alone}
use Rattle.command_line.specs.Values.{IsReadIf, flag_of}
use Rattle.command_line.specs.declared.words.StatusFormat.{StatusFormat}
use Rattle.command_line.specs.declared.words.StatusFormat.TheVariants.{Plain, Json, Prometheus}

-- ---- a state

-- the form that two flags say, if it is one
abbrev pub form_of : Bool → Bool → Option StatusFormat
form_of false false = Some Plain
form_of true false = Some Json
form_of false true = Some Prometheus
form_of true true = None

abbrev pub form_in : List Row → Option StatusFormat
form_in rows = form_of (flag_of (codes "json") rows) (flag_of (codes "prometheus") rows)

-- whether it is waited for, by the word at `--until`: only `synced` can be
abbrev pub wait_of : Option Text → Option Bool
wait_of None = Some false
wait_of (Some word) = if bytes_eq word (codes "synced") then Some true else None

abbrev pub wait_in : List Row → Option Bool
wait_in rows = wait_of (first_of (codes "until") rows)

-- the values of `status` say two forms, or another word to wait for
abbrev pub LacksStatus : List Row → Type 0
LacksStatus rows = (form_in rows ≡ None) ⊎ (wait_in rows ≡ None)

-- ---- pairs

-- what a word means, where one stands; nothing where its word means nothing
abbrev pub meant : {X : Type 0} → (Text → Option X) → Option Text → Option (Option X)
meant of None = Some None
meant of (Some word) = option_map (λ x. Some x) (of word)

abbrev pub protocol_of : Text → Option Protocol
protocol_of word =
    if bytes_eq word (codes "icmp") then Some Icmp else if bytes_eq word (codes "tcp") then Some Tcp
    else if bytes_eq word (codes "udp") then Some Udp else None

abbrev pub protocol_in : List Row → Option (Option Protocol)
protocol_in rows = meant protocol_of (first_of (codes "protocol") rows)

abbrev pub entry_state_of : Text → Option EntryState
entry_state_of word =
    if bytes_eq word (codes "pending") then Some (Pending false) else if bytes_eq word (codes "doomed") then Some Doomed
    else if bytes_eq word (codes "live") then Some Live else if bytes_eq word (codes "closing") then Some (Closing false)
    else if bytes_eq word (codes "held") then Some Held else if bytes_eq word (codes "alone") then Some Alone
    else if bytes_eq word (codes "pending_marked") then Some (Pending true)
    else if bytes_eq word (codes "closing_marked") then Some (Closing true) else None

abbrev pub entry_state_in : List Row → Option (Option EntryState)
entry_state_in rows = meant entry_state_of (first_of (codes "state") rows)

-- the text writes an address, as 192.168.1.10
pub record IsAddressText (text : List ℕ) (ip : Ip) : Type 0 where
  pub address : Ipv4Addr
  pub written : IsIpv4Text text address
  pub bits : ip.0 ≡ ipv4_bits address

-- the address that a text writes, or none where none stands
abbrev pub IsAddressIf : Option Text → Option Ip → Type 0
IsAddressIf None None = Unit {0}
IsAddressIf None (Some ip) = ⊥
IsAddressIf (Some text) None = ⊥
IsAddressIf (Some text) (Some ip) = IsAddressText text ip

-- a text stands there that writes none
abbrev pub LacksAddress : Option Text → Type 0
LacksAddress None = ⊥
LacksAddress (Some text) = (ip : Ip) → ¬ (IsAddressText text ip)

-- the port of this number, or none where none stands
abbrev pub IsPortIf : Option Text → Option Port → Type 0
IsPortIf text port = IsReadIf 16 text (option_map (λ p. p.0) port)

-- the values of `pairs` name no protocol, no state or no address
abbrev pub LacksFilter : List Row → Type 0
LacksFilter rows =
    (protocol_in rows ≡ None) ⊎ ((entry_state_in rows ≡ None) ⊎ LacksAddress (first_of (codes "address") rows))
