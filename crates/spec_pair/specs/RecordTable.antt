-- The record table: what each record does where it is taken (docs/PROTOCOL.md), with a row on each line.
use Rattle.std.specs.Prelude.{Bool, IsTrue, List, None, Option, Some, [], cond, false, not, suc, true, ℕ, ◌&&◌, ◌∷◌, ◌≡◌, ◌↔◌}
use Rattle.addresses.specs.declared.transport.Protocol.{Protocol}
use Rattle.addresses.specs.declared.transport.Protocol.TheVariants.{Icmp, Tcp, Udp}
use Rattle.nat_types.specs.Same.{same}
use Rattle.nat_types.specs.declared.gateways.GatewayId.{GatewayId}
use Rattle.nat_types.specs.declared.gateways.GatewayId.TheVariants.{One}
use Rattle.nat_types.specs.declared.pairs.Endpoint.{Endpoint}
use Rattle.nat_types.specs.declared.pairs.Key.{Key}
use Rattle.spec_pair.specs.Acts.{Act, Take, Ignore, GrantPorts, TakePorts, LosePorts, LoadBegin, LoadOwner, LoadPut, LoadDone, LoadSkip, AreSpare, AreGot, MayAct, box_after, read_by}
use Rattle.spec_pair.specs.Box.{Box, Letter, Parcel}
use Rattle.spec_pair.specs.Ownership.{Ranges, keyed, IsRisingRun, AreDistinct}
use Rattle.spec_pair.specs.Talk.{Slot, Free, Pending, Doomed, Live, Closing, Held, Alone, MachineRecord, Install, Accept, Refuse, Ask, Yes, No, Begin, Put, Done, Want, Grant, Owner, Tell, Deed, Agree, Yield, Reject, Adopt, Decline, Agreed, Rejected, Rebuffed, Leave, Stay, Left, Parted, Stayed, Pass, Skip, IsUnbound, IsUnboundOn, pair_of}

-- where a table has an endpoint, proposals that were given up left out
pub data Finding : Type 0 where
  Absent : Finding
  -- the table has an own proposal for the endpoint, at this key, that isn't marked, and no Held pair of the endpoint
  Proposed : (at : Key) → Finding
  -- the table has the endpoint otherwise
  Bound : Finding

-- the finding is true of the table and the endpoint
abbrev pub Finds : (Key → Slot) → Endpoint → Finding → Type 0
Finds table e Absent = IsUnbound table e
Finds table e (Proposed at) = (table at ≡ Pending false e) × IsUnboundOn false table e
Finds table e Bound =
    (IsUnbound table e → ⊥)
    × ((at : Key) → table at ≡ Pending false e → IsUnboundOn false table e → ⊥)

-- the facts that a gateway finds out before it takes a record
pub record Facts : Type 0 where
  -- where its table has the endpoint of an Install or a Put
  pub found : Finding
  -- the table has no pair of the endpoint of a Tell on its side: at a synced gateway no Held one, and at one that loads
  -- none on ports of the same gateway
  pub clear : Bool
  -- the pair of an Ask is idle, or came by Install or Tell and was never used here since
  pub rests : Bool
  -- the gateway's table is empty; and the run of an Owner is in the ranges and above the last run named
  pub is_empty : Bool
  pub rises : Bool
  -- the ports to grant at a Want; and those of a Grant that become owned
  pub spare : List ℕ
  pub got : List ℕ

-- whether a slot is Free
abbrev pub is_free : Slot → Bool
is_free Free = true
is_free (Pending m e) = false
is_free (Doomed e) = false
is_free (Live e) = false
is_free (Closing m e) = false
is_free (Held e) = false
is_free (Alone e) = false

-- the key of a protocol and a port number
abbrev pub key_of : Protocol → ℕ → Key
key_of protocol p = record { protocol = protocol; port = record { 0 = p } }

-- the parcel of a Put, or of a Tell
abbrev pub parcel : Key → Endpoint → Bool → Parcel
parcel k e told = record { pair = pair_of k e; told = told }

-- A synced gateway's deed at an Accept, by the slot at the record's key. The deeds at Refuse, Ask, Yes and No follow.
abbrev pub accepted : Key → Slot → Deed
accepted k (Pending m e) = Agreed k e
accepted k s = Skip (Accept k)

-- a synced gateway's deed at a Refuse, by the slot at the record's key
abbrev pub refused : Key → Slot → Deed
refused k (Pending false e) = Rejected k
refused k (Pending true e) = Rebuffed k e
refused k (Doomed e) = Rejected k
refused k s = Skip (Refuse k)

-- a synced gateway's deed at an Ask, by the slot at its key; `rests` says that the pair is idle or unused
abbrev pub asked : Bool → Key → Slot → Deed
asked rests k (Held e) = cond rests (Leave k e) (Stay k e)
asked rests k s = Pass k

-- a synced gateway's deed at a Yes, by the slot at its key
abbrev pub agreed_to : Key → Slot → Deed
agreed_to k (Closing false e) = Left k e
agreed_to k (Closing true e) = Parted k e
agreed_to k s = Skip (Yes k)

-- a synced gateway's deed at a No, by the slot at its key
abbrev pub denied : Key → Slot → Deed
denied k (Closing m e) = Stayed k e
denied k s = Skip (No k)

-- The deed at an Install whose key is the sender's and has no entry. Absent: it is accepted. Proposed: gateway 1
-- accepts it and gives its own proposal up, and gateway 0 refuses it. Bound: it is refused.
abbrev pub proposed : GatewayId → Key → Endpoint → Finding → Deed
proposed i k e Absent = Agree k e
proposed i k e (Proposed at) = cond (same i One) (Yield k e at) (Reject k e)
proposed i k e Bound = Reject k e

module _ (r : Ranges) where
  -- the facts are true of the box, as far as the record needs them
  abbrev pub AreFacts : Box → MachineRecord → Facts → Type 0
  AreFacts a (Install k e) f = Finds a.table e f.found
  AreFacts a (Put k e) f = Finds a.table e f.found
  AreFacts a (Owner first last) f =
      (IsTrue f.is_empty ↔ ((k : Key) → a.table k ≡ Free))
      × (IsTrue f.rises ↔ IsRisingRun r.in_ranges a.named first last)
  AreFacts a (Tell k e) f =
      IsTrue f.clear ↔ IsUnboundOn (not a.synced && keyed a.owned k) a.table e
  AreFacts a Want f = AreDistinct f.spare × AreSpare a f.spare
  AreFacts a (Grant ports) f = AreGot r a ports f.got
  AreFacts a q f = Unit {0}

  -- whether the key is the sender's: its port is in the ranges, and the receiver doesn't own it
  abbrev pub is_senders : Box → Key → Bool
  is_senders a k = keyed r.in_ranges k && not (keyed a.owned k)

  -- the deed at an Install: where its key isn't the sender's or has an entry, it is refused
  abbrev pub installed : GatewayId → Box → Key → Endpoint → Finding → Deed
  installed i a k e found =
      cond (is_senders a k && is_free (a.table k)) (proposed i k e found) (Reject k e)

  -- the deed at a Tell: where its key isn't the sender's or has an entry, or its endpoint has a Held pair, it is
  -- refused
  abbrev pub told : Box → Key → Endpoint → Bool → Deed
  told a k e clear =
      cond ((is_senders a k && is_free (a.table k)) && clear) (Adopt k e) (Decline k e)

  -- whether no protocol has an entry at the port
  abbrev pub has_no_entry : Box → ℕ → Bool
  has_no_entry a p = is_free (a.table (key_of Icmp p)) && (is_free (a.table (key_of Tcp p)) && is_free (a.table (key_of Udp p)))

  -- whether a granted port becomes owned: it is in the ranges, isn't owned, and has no entry
  abbrev pub becomes_owned : Box → ℕ → Bool
  becomes_owned a p = (r.in_ranges p && not (a.owned p)) && has_no_entry a p

  module _ (i : GatewayId) (a : Box) (l : Letter) (n : ℕ) (f : Facts) where
    -- the act that takes a record at a synced gateway that isn't lone
    abbrev pub act_at_synced : MachineRecord → Act
    act_at_synced (Install k e) = Take l n (Install k e) (installed i a k e f.found)
    act_at_synced (Accept k) = Take l n (Accept k) (accepted k (a.table k))
    act_at_synced (Refuse k) = Take l n (Refuse k) (refused k (a.table k))
    act_at_synced (Ask k) = Take l n (Ask k) (asked f.rests k (a.table k))
    act_at_synced (Yes k) = Take l n (Yes k) (agreed_to k (a.table k))
    act_at_synced (No k) = Take l n (No k) (denied k (a.table k))
    act_at_synced Begin = Take l n Begin (Skip Begin)
    act_at_synced (Put k e) = Take l n (Put k e) (Skip (Put k e))
    act_at_synced Done = Take l n Done (Skip Done)
    act_at_synced Want = GrantPorts l n f.spare
    act_at_synced (Grant ports) = cond a.wants (TakePorts l n ports f.got) (LosePorts l n ports)
    act_at_synced (Owner first last) = Take l n (Owner first last) (Skip (Owner first last))
    act_at_synced (Tell k e) = Take l n (Tell k e) (told a k e f.clear)

    -- the act at a Put, after Begin, on a free key: the pair is loaded where the table has its endpoint nowhere, else
    -- it is passed over
    abbrev pub put_in : Key → Endpoint → Finding → Act
    put_in k e Absent = LoadPut l n (parcel k e false)
    put_in k e (Proposed at) = LoadSkip l n (Put k e)
    put_in k e Bound = LoadSkip l n (Put k e)

    -- the act that takes a record at an unsynced gateway
    abbrev pub act_at_unsynced : MachineRecord → Act
    act_at_unsynced Begin = LoadBegin l n
    act_at_unsynced (Put k e) =
        cond (a.loading && (keyed r.in_ranges k && is_free (a.table k)))
        (put_in k e f.found)
        (LoadSkip l n (Put k e))
    act_at_unsynced Done = cond a.loading (LoadDone l n) (LoadSkip l n Done)
    act_at_unsynced (Owner first last) =
        cond (a.loading && (f.is_empty && f.rises))
        (LoadOwner l n first last)
        (LoadSkip l n (Owner first last))
    act_at_unsynced (Tell k e) =
        cond (a.loading && ((keyed r.in_ranges k && is_free (a.table k)) && f.clear))
        (LoadPut l n (parcel k e true))
        (LoadSkip l n (Tell k e))
    act_at_unsynced q = LoadSkip l n q

    -- the act at a synced gateway: while its batch is promised, a record that comes changes nothing
    abbrev pub act_unless_promised : Option ℕ → MachineRecord → Act
    act_unless_promised None q = act_at_synced q
    act_unless_promised (Some m) q = Ignore l n q

    -- The act by which the record `q` is taken.
    abbrev pub act_by_table : MachineRecord → Act
    act_by_table q = cond a.synced (act_unless_promised a.promised q) (act_at_unsynced q)

  -- the gateway may do the act, which takes the next record of the letter
  abbrev pub DoesTake : GatewayId → Box → Letter → Act → Type 0
  DoesTake i a l x =
      MayAct r i a x × (read_by x ≡ l ∷ []) × ((box_after r i a x).taken ≡ suc a.taken)
