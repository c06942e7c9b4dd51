-- The record table: what a record, a wish of the own side, an idle pair or a packet makes of a book, what is answered
-- and what is noted. A row is the decision on one of these (`Transition`).
use Rattle.std.specs.Prelude.{ℕ, ◌+◌, ◌-◌, ◌/◌, zero, suc, min, Bool, true, false, ◌&&◌, ◌||◌, not, is_none, nat_le, nat_lt, Option, Some, None, List, [], ◌∷◌, length, take, map, if◌then◌else◌}
use Rattle.std.specs.List.{filter, list_any}
use Rattle.addresses.specs.declared.internet.Ip.{Ip}
use Rattle.addresses.specs.declared.transport.Port.{Port}
use Rattle.addresses.specs.declared.transport.Protocol.{Protocol}
use Rattle.addresses.specs.declared.transport.Protocol.TheVariants.{Icmp, Tcp, Udp}
use Rattle.addresses.specs.Transport.{parity_of}
use Rattle.nat_types.specs.Same.{same}
use Rattle.nat_types.specs.Granted.{Granted}
use Rattle.nat_types.specs.declared.gateways.GatewayId.{GatewayId}
use Rattle.nat_types.specs.declared.gateways.GatewayId.TheVariants.{One}
use Rattle.nat_types.specs.declared.notes.NoteKind.{NoteKind}
use Rattle.nat_types.specs.declared.notes.NoteKind.TheVariants.{Used, Released, Retaken, Synced}
use Rattle.nat_types.specs.declared.notes.NoteKind.TheVariants as kinds
use Rattle.nat_types.specs.declared.notes.Note.{Note}
use Rattle.nat_types.specs.declared.pairs.Endpoint.{Endpoint}
use Rattle.nat_types.specs.declared.pairs.EntryState.{EntryState}
use Rattle.nat_types.specs.declared.pairs.EntryState.TheVariants.{Pending, Doomed, Live, Closing, Alone, Held}
use Rattle.nat_types.specs.declared.pairs.Key.{Key}
use Rattle.nat_types.specs.declared.pairs.Pair.{Pair}
use Rattle.nat_types.specs.declared.records.Record.{Record}
use Rattle.nat_types.specs.declared.records.Record.TheVariants as record_of
use Rattle.nat_types.specs.declared.records.Record.TheVariants.{Install, Accept, Refuse, Ask, Yes, No, Begin, Put, Done, Grant, Owner, Tell}
use Rattle.bindings.specs.declared.entries.Entry.{Entry}
use Rattle.bindings.specs.Entries.{slot_of, entry_of, held_entry_of, entry_in, pairs_of}
use Rattle.bindings.specs.Lists.{put_in, with_state, without}
use Rattle.bindings.specs.Numbers.{numbers_of as drawn_numbers}
use Rattle.bindings.specs.Ports.{chosen_port, drawn_port, is_vacant, is_spare, lowest_of, highest_of, open_ports}
use Rattle.bindings.specs.Runs.{own_in}
use Rattle.port_range.specs.Ports.{is_listed}
use Rattle.link.specs.Link.{Link, with_pushed, free_places}
use Rattle.resync.specs.Loading.{Load, loaded}
use Rattle.spec_binding.specs.declared.setups.Choice.{Choice}
use Rattle.spec_binding.specs.declared.setups.Choice.TheVariants.{Lowest, Drawn}
use Rattle.spec_binding.specs.declared.setups.Stage.{Stage}
use Rattle.spec_binding.specs.declared.setups.Stage.TheVariants.{Paired}
use Rattle.spec_binding.specs.declared.changes.Change.{Change}
use Rattle.spec_binding.specs.declared.changes.Change.TheVariants as change_of
use Rattle.spec_binding.specs.declared.changes.Change.TheVariants.{Keep, Add, Turn, Renew, Drop, Yield, Give, Gain}
use Rattle.spec_binding.specs.declared.changes.Transition.{Transition}
use Rattle.spec_binding.specs.declared.changes.Want as want
use Rattle.spec_binding.specs.declared.changes.Want.{Want}
use Rattle.spec_binding.specs.declared.changes.PortRequest.{PortRequest}
use Rattle.spec_binding.specs.Books.{Book, is_synced, is_lone, is_paired, is_promised, in_ranges, owns, load_of, with_load}

-- a row with this change, answer and note, by which no endpoint's wait ends
abbrev pub row : Change → Option Record → Option NoteKind → Transition
row change answer what = record { change = change; answer = answer; what = what; ended = None }

-- the row, by which the packets of the endpoint needn't wait any more
abbrev pub ending : Endpoint → Transition → Transition
ending e r = record r { ended = Some e }

-- the row that changes, answers and notes nothing
abbrev pub quiet : Transition
quiet = row Keep None None

-- the row that changes nothing and answers this record
abbrev pub answering : Record → Transition
answering answer = row Keep (Some answer) None

-- ---- Install, Tell, Accept, Refuse

-- whether the port is the sender's, or nobody's: it is in the ranges, and this gateway doesn't own it
abbrev pub is_theirs : Book → ℕ → Bool
is_theirs b port = in_ranges b port && not (owns b port)

-- whether an own pair gives way to the peer's proposal for the same endpoint: gateway 1's own proposal does, where it
-- isn't marked
abbrev pub gives_way : GatewayId → EntryState → Bool
gives_way i (Pending true) = false
gives_way i (Pending false) = same i One
gives_way i Doomed = false
gives_way i Live = false
gives_way i (Closing marked) = false
gives_way i Alone = false
gives_way i Held = false

-- the row by which the peer's pair is taken and accepted
abbrev pub taking : Pair → Transition
taking p = row (Add (entry_in Held p)) (Some (Accept p.key)) (Some (Retaken p))

-- the row of an Install that may be taken, by the own pair of its endpoint
abbrev pub proposed_row : Book → Pair → Option Entry → Transition
proposed_row b p None = taking p
proposed_row b p (Some x) =
    if gives_way b.id x.state
    then ending p.endpoint (row (Yield x.pair.key p) (Some (Accept p.key)) (Some (Retaken p)))
    else answering (Refuse p.key)

-- whether a pair of the peer's may be taken: its key is the sender's and has no entry, and its endpoint has no Held pair
abbrev pub is_takeable : Book → Pair → Bool
is_takeable b p =
    is_theirs b p.key.port.0
    && (is_none (slot_of b.entries p.key) && is_none (held_entry_of b.entries p.endpoint))

-- the row of an Install
abbrev pub install_row : Book → Pair → Transition
install_row b p =
    if is_takeable b p
    then proposed_row b p (entry_of b.entries p.endpoint)
    else answering (Refuse p.key)

-- the row of a Tell, whatever own pair its endpoint has
abbrev pub told_row : Book → Pair → Transition
told_row b p = (if is_takeable b p then taking p else answering (Refuse p.key))

-- the row of an Accept, by the state of the entry at its key
abbrev pub accepted_row : Pair → EntryState → Transition
accepted_row p (Pending true) = row (Turn p.key Live) None (Some (Retaken p))
accepted_row p (Pending false) = ending p.endpoint (row (Turn p.key Live) None (Some (Retaken p)))
accepted_row p Doomed = quiet
accepted_row p Live = quiet
accepted_row p (Closing marked) = quiet
accepted_row p Alone = quiet
accepted_row p Held = quiet

-- the row of an Accept, by the entry at its key
abbrev pub accept_row : Option Entry → Transition
accept_row None = quiet
accept_row (Some x) = accepted_row x.pair x.state

-- the row of a Refuse, by the state of the entry at its key: a marked pair goes on, and the peer has nothing of it
abbrev pub refused_row : Pair → EntryState → Transition
refused_row p (Pending true) = row (Turn p.key Alone) None None
refused_row p (Pending false) = ending p.endpoint (row (Drop p.key) None None)
refused_row p Doomed = row (Drop p.key) None None
refused_row p Live = quiet
refused_row p (Closing marked) = quiet
refused_row p Alone = quiet
refused_row p Held = quiet

-- the row of a Refuse, by the entry at its key
abbrev pub refuse_row : Option Entry → Transition
refuse_row None = quiet
refuse_row (Some x) = refused_row x.pair x.state

-- ---- Ask, Yes, No

-- the row of an Ask, by the state of the entry at its key; `rests` says that the pair is idle, or came by Install or
-- Tell and was never used here since
abbrev pub asked_row : Pair → Bool → EntryState → Transition
asked_row p rests (Pending marked) = answering (Yes p.key)
asked_row p rests Doomed = answering (Yes p.key)
asked_row p rests Live = answering (Yes p.key)
asked_row p rests (Closing marked) = answering (Yes p.key)
asked_row p rests Alone = answering (Yes p.key)
asked_row p rests Held =
    if rests
    then row (Drop p.key) (Some (Yes p.key)) (Some (Released p))
    else answering (No p.key)

-- the row of an Ask, by the entry at its key; an Ask for a pair that isn't there is answered by Yes
abbrev pub ask_row : Key → Bool → Option Entry → Transition
ask_row k rests None = answering (Yes k)
ask_row k rests (Some x) = asked_row x.pair rests x.state

-- the row of a Yes, by the state of the entry at its key: a marked pair goes on, and the peer has nothing of it
abbrev pub left_row : Pair → EntryState → Transition
left_row p (Pending marked) = quiet
left_row p Doomed = quiet
left_row p Live = quiet
left_row p (Closing true) = row (Turn p.key Alone) None None
left_row p (Closing false) = row (Drop p.key) None None
left_row p Alone = quiet
left_row p Held = quiet

-- the row of a Yes, by the entry at its key
abbrev pub yes_row : Option Entry → Transition
yes_row None = quiet
yes_row (Some x) = left_row x.pair x.state

-- the row of a No, by the state of the entry at its key
abbrev pub stayed_row : Pair → EntryState → Transition
stayed_row p (Pending marked) = quiet
stayed_row p Doomed = quiet
stayed_row p Live = quiet
stayed_row p (Closing marked) = row (Renew p.key) None (Some (Retaken p))
stayed_row p Alone = quiet
stayed_row p Held = quiet

-- the row of a No, by the entry at its key
abbrev pub no_row : Option Entry → Transition
no_row None = quiet
no_row (Some x) = stayed_row x.pair x.state

-- ---- Want, Grant

-- `count` ports from the highest down
abbrev pub falling : ℕ → ℕ → List ℕ
falling highest zero = []
falling highest (suc count) = highest ∷ falling (highest - 1) count

-- all ports from the highest of both ranges down to the lowest
abbrev pub ports_down : Book → List ℕ
ports_down b = falling (highest_of b.zero b.one) (highest_of b.zero b.one + 1 - lowest_of b.zero b.one)

-- the spare ports, owned and without an entry, in falling order
abbrev pub spares : Book → List ℕ
spares b = filter (is_spare b.entries b.owned) (ports_down b)

-- how many ports are granted of `f` spare ports: at most 16, and at most half of them
abbrev pub share : ℕ → ℕ
share f = min 16 (f / 2)

-- the ports that are granted: the greatest spare ones, in falling order; the gateway keeps `ahead` of them for itself
abbrev pub granted : Book → List ℕ
granted b = take (share (length (spares b) - b.ahead)) (spares b)

-- port numbers as the ports of a Grant
abbrev pub as_ports : List ℕ → Granted
as_ports ports = record { ports = map (λ p. record { 0 = p }) ports }

-- the port numbers of a Grant
abbrev pub numbers_of : Granted → List ℕ
numbers_of g = map (λ p. p.0) g.ports

-- the row of a Want
abbrev pub want_row : Book → Transition
want_row b = row (Give (as_ports (granted b))) (Some (Grant (as_ports (granted b)))) None

-- the row of a Grant; a Grant that comes without a Want open changes nothing
abbrev pub grant_row : Book → Granted → Transition
grant_row b g = (if b.wants then row (Gain g) None None else quiet)

-- ---- the row of a record at a synced gateway

-- the row of a record at a synced gateway that has no batch promised
abbrev pub synced_row : Book → Bool → Record → Transition
synced_row b rests (Install p) = install_row b p
synced_row b rests (Accept k) = accept_row (slot_of b.entries k)
synced_row b rests (Refuse k) = refuse_row (slot_of b.entries k)
synced_row b rests (Ask k) = ask_row k rests (slot_of b.entries k)
synced_row b rests (Yes k) = yes_row (slot_of b.entries k)
synced_row b rests (No k) = no_row (slot_of b.entries k)
synced_row b rests Begin = quiet
synced_row b rests (Put p) = quiet
synced_row b rests Done = quiet
synced_row b rests record_of.Want = want_row b
synced_row b rests (Grant g) = grant_row b g
synced_row b rests (Owner first last) = quiet
synced_row b rests (Tell p) = told_row b p

-- the row of a record at a synced gateway; while its batch is promised, a record changes nothing
abbrev pub row_of : Book → Bool → Record → Transition
row_of b rests r = (if is_promised b then quiet else synced_row b rests r)

-- ---- wishes of the own side

-- an answer to a packet, with its row
abbrev pub wish : Want → Transition → PortRequest
wish answer row = record { answer = answer; row = row }

-- the wish of a packet whose endpoint has an entry, by its state
abbrev pub known_wish : Pair → EntryState → PortRequest
known_wish p (Pending true) = wish (want.TheVariants.Port p.key.port) quiet
known_wish p (Pending false) = wish want.TheVariants.Wait quiet
known_wish p Doomed = wish want.TheVariants.NotNow quiet
known_wish p Live = wish (want.TheVariants.Port p.key.port) quiet
known_wish p (Closing true) = wish (want.TheVariants.Port p.key.port) quiet
known_wish p (Closing false) = wish want.TheVariants.NotNow quiet
known_wish p Alone = wish (want.TheVariants.Port p.key.port) quiet
known_wish p Held = wish (want.TheVariants.Port p.key.port) quiet

-- the pair of an endpoint on this outside port
abbrev pub new_pair : Endpoint → Port → Pair
new_pair e port = record { key = record { protocol = e.protocol; port = port }; endpoint = e }

-- whether the peer may be asked for ports: the gateway is synced and not lone, no Want is open and the link isn't full
abbrev pub may_want : Book → Bool → Bool
may_want b full = is_paired b.stage && (not b.wants && not full)

-- the row that asks the peer for ports, where it may be asked: where no port is free, and where ports are asked for ahead
abbrev pub wanting_row : Book → Bool → Transition
wanting_row b full = (if may_want b full then row change_of.Want (Some record_of.Want) None else quiet)

-- the row that proposes the pair to the peer
abbrev pub proposal : Pair → Transition
proposal p = row (Add (entry_in (Pending false) p)) (Some (Install p)) None

-- the wish of a packet whose endpoint gets this pair, at a gateway that isn't lone: one that is apart makes it alone,
-- and else it is proposed
abbrev pub paired_wish : Bool → Bool → Pair → PortRequest
paired_wish apart full p =
    if apart
    then wish (want.TheVariants.Port p.key.port) (row (Add (entry_in Alone p)) None (Some (kinds.Alone p)))
    else (if full
    then wish want.TheVariants.NotNow quiet
    else wish want.TheVariants.Wait (proposal p))

-- the wish of a packet whose endpoint has no pair, with the port that is free for it, or none
abbrev pub new_wish : Book → Bool → Bool → Endpoint → Option Port → PortRequest
new_wish b apart full e None = wish want.TheVariants.NoPort (wanting_row b full)
new_wish b apart full e (Some port) =
    if is_lone b.stage
    then wish (want.TheVariants.Port port) (row (Add (entry_in Live (new_pair e port))) None (Some (Retaken (new_pair e port))))
    else paired_wish apart full (new_pair e port)

-- the port that an endpoint without a pair gets by a choice, if one is free: the lowest one, or the one that is drawn by
-- the two numbers of the endpoint; of the inside port's parity, where one of it is free
abbrev pub port_by : Choice → Book → Endpoint → Option Port
port_by Lowest b e = chosen_port b.entries b.owned b.zero b.one e.protocol (parity_of e.port.0)
port_by (Drawn key) b e =
    drawn_port b.entries b.owned e.protocol (parity_of e.port.0) (drawn_numbers key e).0 (drawn_numbers key e).1

-- the port that an endpoint without a pair gets, if one is free
abbrev pub port_for : Book → Endpoint → Option Port
port_for b e = port_by b.choice b e

-- whether a number of pairs is the limit or more
abbrev pub reached : Option ℕ → ℕ → Bool
reached None pairs = false
reached (Some limit) pairs = nat_le limit pairs

-- whether an inside address has as many pairs as it may have, or more; the pairs of both gateways count
abbrev pub is_at_limit : Book → Ip → Bool
is_at_limit b address = reached b.limit (pairs_of address b.entries)

-- the wish of a packet whose endpoint has no pair: a pair is made, where its address isn't at the limit
abbrev pub unknown_wish : Book → Bool → Bool → Endpoint → PortRequest
unknown_wish b apart full e =
    if is_at_limit b e.address
    then wish want.TheVariants.HostLimit quiet
    else new_wish b apart full e (port_for b e)

-- the wish of a packet at a synced gateway, by the entry of its endpoint
abbrev pub wish_by : Book → Bool → Bool → Endpoint → Option Entry → PortRequest
wish_by b apart full e (Some x) = known_wish x.pair x.state
wish_by b apart full e None = unknown_wish b apart full e

-- the answer to a packet of an endpoint that wishes for a port, and its row; `apart` says that the gateway is apart,
-- `full` that the link is full
abbrev pub wish_of : Book → Bool → Bool → Endpoint → PortRequest
wish_of b apart full e =
    if is_synced b.stage
    then wish_by b apart full e (entry_of b.entries e)
    else wish want.TheVariants.NotNow quiet

-- ---- an idle pair, at a tick

-- the row that asks the peer whether the pair may be deleted
abbrev pub asking : Pair → Transition
asking p = row (Turn p.key (Closing false)) (Some (Ask p.key)) (Some (Released p))

-- the row by which a pair is dropped, and noted as released
abbrev pub dropping : Pair → Transition
dropping p = row (Drop p.key) None (Some (Released p))

-- The row of an idle pair: a lone gateway drops it, and else its owner asks the peer, where `ask` says that it may. A
-- pair of which the peer has nothing is dropped in any case.
abbrev pub released_row : Bool → Bool → Pair → EntryState → Transition
released_row lone ask p (Pending marked) = quiet
released_row lone ask p Doomed = quiet
released_row lone ask p Live =
    if lone
    then dropping p
    else (if ask then asking p else quiet)
released_row lone ask p (Closing marked) = quiet
released_row lone ask p Alone = dropping p
released_row lone ask p Held = (if lone then dropping p else quiet)

-- the row of an idle pair, by the entry at its key
abbrev pub release_row : Bool → Bool → Option Entry → Transition
release_row lone ask None = quiet
release_row lone ask (Some x) = released_row lone ask x.pair x.state

-- the row of the idle pair at a key
abbrev pub idle_row : Book → Bool → Key → Transition
idle_row b ask k = (if is_synced b.stage then release_row (is_lone b.stage) ask (slot_of b.entries k) else quiet)

-- ---- going on alone, at a tick

-- the row by which a pair goes on though an answer is awaited, by the state of its entry
abbrev pub marked_row : Pair → EntryState → Transition
marked_row p (Pending true) = quiet
marked_row p (Pending false) = ending p.endpoint (row (Turn p.key (Pending true)) None (Some (kinds.Alone p)))
marked_row p Doomed = quiet
marked_row p Live = quiet
marked_row p (Closing true) = quiet
marked_row p (Closing false) = row (Turn p.key (Closing true)) None (Some (kinds.Alone p))
marked_row p Alone = quiet
marked_row p Held = quiet

-- the row by which the peer is told of a pair that was made alone, where the link isn't full
abbrev pub telling_row : Bool → Pair → EntryState → Transition
telling_row full p (Pending marked) = quiet
telling_row full p Doomed = quiet
telling_row full p Live = quiet
telling_row full p (Closing marked) = quiet
telling_row full p Alone = (if full then quiet else row (Turn p.key (Pending true)) (Some (Tell p)) None)
telling_row full p Held = quiet

-- the row of an entry, or of none: a gateway that is apart marks it, and another one tells the peer of it
abbrev pub sought_row : Bool → Bool → Option Entry → Transition
sought_row apart full None = quiet
sought_row apart full (Some x) = (if apart then marked_row x.pair x.state else telling_row full x.pair x.state)

-- the row of a key between the idle pairs of a tick and the link; a lone gateway marks and tells nothing
abbrev pub alone_row : Book → Bool → Bool → Key → Transition
alone_row b apart full k = (if is_paired b.stage then sought_row apart full (slot_of b.entries k) else quiet)

-- ---- a packet that is translated

-- the row of a packet that is translated, by the state of its pair's entry
abbrev pub used_row : Pair → EntryState → Transition
used_row p (Pending true) = row Keep None (Some (Used p))
used_row p (Pending false) = quiet
used_row p Doomed = quiet
used_row p Live = row Keep None (Some (Used p))
used_row p (Closing true) = row Keep None (Some (Used p))
used_row p (Closing false) = quiet
used_row p Alone = row Keep None (Some (Used p))
used_row p Held = row Keep None (Some (Used p))

-- the row of a packet that is translated, by the entry of its pair
abbrev pub use_row : Option Entry → Transition
use_row None = quiet
use_row (Some x) = used_row x.pair x.state

-- the row of a packet that is translated with the pair of a key
abbrev pub carry_row : Book → Key → Transition
carry_row b k = (if is_synced b.stage then use_row (slot_of b.entries k) else quiet)

-- ---- what a row does

-- the owned ports without these
abbrev pub without_ports : List ℕ → List ℕ → List ℕ
without_ports ports owned = filter (λ p. not (is_listed p ports)) owned

-- whether a granted port becomes owned: it is in the ranges, isn't owned, and has no entry
abbrev pub is_gained : Book → ℕ → Bool
is_gained b port = is_theirs b port && is_vacant b.entries port

-- the book after these ports were granted to its gateway
abbrev pub with_gained : Book → List ℕ → Book
with_gained b [] = b
with_gained b (p ∷ ps) = with_gained (if is_gained b p then record b { owned = own_in p b.owned } else b) ps

-- the book after a change
abbrev pub changed : Change → Book → Book
changed Keep b = b
changed (Add e) b = record b { entries = put_in e b.entries }
changed (Turn k s) b = record b { entries = with_state k s b.entries }
changed (Renew k) b = record b { entries = with_state k Live b.entries }
changed (Drop k) b = record b { entries = without k b.entries }
changed (Yield q p) b = record b { entries = put_in (entry_in Held p) (with_state q Doomed b.entries) }
changed change_of.Want b = record b { wants = true }
changed (Give g) b = record b { owned = without_ports (numbers_of g) b.owned }
changed (Gain g) b = record (with_gained b (numbers_of g)) { wants = false }

-- the book after a row
abbrev pub after : Book → Transition → Book
after b r = changed r.change b

-- whether the link is full: it has fewer than 65 free places, so no pair is proposed or told, no pair's end is asked for
-- and no ports are wanted
abbrev pub is_full : Link → Bool
is_full e = nat_lt (free_places e) 65

-- the records that an answer pushes: one or none
abbrev pub pushed_by : Option Record → List Record
pushed_by None = []
pushed_by (Some r) = r ∷ []

-- the end of the link after an answer, or none, was pushed
abbrev pub answered : Link → Option Record → Link
answered e None = e
answered e (Some r) = with_pushed e r

-- the notes that a row makes at time `now`, one or none, with this mark: whether a use counts
abbrev pub noted_with : Bool → GatewayId → ℕ → Option NoteKind → List Note
noted_with counts i now None = []
noted_with counts i now (Some what) = (record { by = i; at = now; what = what; counts = counts }) ∷ []

-- the notes of a row that notes no use
abbrev pub noted_by : GatewayId → ℕ → Option NoteKind → List Note
noted_by = noted_with true

-- ---- ports that are asked for ahead

-- whether the gateway is short in a protocol: fewer than `ahead` of its owned ports are free in it
abbrev pub is_short : Book → Protocol → Bool
is_short b protocol = nat_lt (length (open_ports b.entries b.owned protocol)) b.ahead

-- whether the gateway is short in some protocol
abbrev pub is_short_in_any : Book → Bool
is_short_in_any b = is_short b Icmp || (is_short b Tcp || is_short b Udp)

-- whether a pair in this state is one that the gateway has just made
abbrev pub is_made : EntryState → Bool
is_made (Pending marked) = true
is_made Doomed = false
is_made Live = true
is_made (Closing marked) = false
is_made Alone = true
is_made Held = false

-- whether a change of this book is a cause to ask for ports ahead: a pair is made, or a granted port becomes owned
abbrev pub is_cause : Book → Change → Bool
is_cause b Keep = false
is_cause b (Add e) = is_made e.state
is_cause b (Turn k s) = false
is_cause b (Renew k) = false
is_cause b (Drop k) = false
is_cause b (Yield q p) = false
is_cause b change_of.Want = false
is_cause b (Give g) = false
is_cause b (Gain g) = list_any (is_gained b) (numbers_of g)

-- whether the gateway is short after a change: of a pair in its protocol, and else in some protocol
abbrev pub is_short_after : Book → Change → Bool
is_short_after b Keep = is_short_in_any b
is_short_after b (Add e) = is_short b e.pair.key.protocol
is_short_after b (Turn k s) = is_short_in_any b
is_short_after b (Renew k) = is_short_in_any b
is_short_after b (Drop k) = is_short_in_any b
is_short_after b (Yield q p) = is_short_in_any b
is_short_after b change_of.Want = is_short_in_any b
is_short_after b (Give g) = is_short_in_any b
is_short_after b (Gain g) = is_short_in_any b

-- the row behind the change of a book: ports are asked for, where the change is a cause and the gateway is short after it
abbrev pub ahead_row : Book → Bool → Change → Transition
ahead_row b full c = (if is_cause b c && is_short_after (changed c b) c then wanting_row (changed c b) full else quiet)

-- the row behind a row, once the row's answer is pushed
abbrev pub behind : Book → Link → Transition → Transition
behind b e r = ahead_row b (is_full (answered e r.answer)) r.change

-- ---- a record at a gateway that isn't synced

-- the stage after a record that loads: by Done the gateway is synced, and the peer has to agree to new pairs
abbrev pub stage_after : Stage → Record → Stage
stage_after s Done = Paired
stage_after s r = s

-- the book after a record was taken into the table that is loaded, or was out of place
abbrev pub load_taken : Book → Record → Option Load → Book
load_taken b r None = b
load_taken b r (Some l) = record (with_load b l) { stage = stage_after b.stage r }

-- the book of an unsynced gateway after a record; a record out of place changes nothing
abbrev pub unsynced_after : Book → Record → Book
unsynced_after b r = load_taken b r (loaded (load_of b) r)

-- the note of a record that was taken into the table that is loaded, if any
abbrev pub load_what : Record → Option Load → Option NoteKind
load_what (Put p) (Some l) = Some (Retaken p)
load_what (Tell p) (Some l) = Some (Retaken p)
load_what Done (Some l) = Some Synced
load_what r l = None

-- the note that an unsynced gateway makes at a record, if any
abbrev pub unsynced_what : Book → Record → Option NoteKind
unsynced_what b r = load_what r (loaded (load_of b) r)

-- ---- a record, wherever it comes

-- the book after a record is taken, at any gateway
abbrev pub taken_book : Book → Bool → Record → Book
taken_book b rests r = (if is_synced b.stage then after b (row_of b rests r) else unsynced_after b r)

-- the record that is pushed in answer, if any
abbrev pub taken_answer : Book → Bool → Record → Option Record
taken_answer b rests r = (if is_synced b.stage then (row_of b rests r).answer else None)

-- the note that is made, if any
abbrev pub taken_what : Book → Bool → Record → Option NoteKind
taken_what b rests r = (if is_synced b.stage then (row_of b rests r).what else unsynced_what b r)

-- the row behind a record: ports are asked for behind a Grant by which a port became owned, where the gateway is short
abbrev pub taken_behind : Book → Link → Bool → Record → Transition
taken_behind b e rests r = (if is_synced b.stage then behind b e (row_of b rests r) else quiet)

-- the endpoint whose packets needn't wait any more, if any
abbrev pub taken_ended : Book → Bool → Record → Option Endpoint
taken_ended b rests r = (if is_synced b.stage then (row_of b rests r).ended else None)
