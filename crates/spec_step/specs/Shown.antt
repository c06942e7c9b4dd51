-- What a gateway shows of itself, and its output. A scene is a gateway with its output: the frames, the datagrams and
-- the notes that it has told so far. A later scene has the same output and more. A life lasts from a boot, or from the
-- founding, to the next boot.
use Rattle.std.specs.Prelude.{ℕ, Bool, not, ◌&&◌, List, ◌++◌}
use Rattle.nat_types.specs.declared.gateways.GatewayId.{GatewayId}
use Rattle.nat_types.specs.declared.gateways.Side.{Side}
use Rattle.nat_types.specs.declared.gateways.Side.TheVariants.{Inside, Outside}
use Rattle.nat_types.specs.declared.notes.Note.{Note}
use Rattle.link.specs.Link.{Link}
use Rattle.spec_binding.specs.Books.{is_apart as is_book_apart, is_synced}
use Rattle.spec_binding.specs.Ledgers.{Ledger}
use Rattle.packet_rules.specs.declared.networks.Networks.{Networks}
use Rattle.interfaces.specs.Cables.{is_in, is_whole as is_whole_at}
use Rattle.interfaces.specs.Stations.{Interface}
use Rattle.waiting.specs.Packets.{HeldPacket}
use Rattle.output.specs.Output.{Output}

-- The parts of a gateway that its contract speaks of: its networks, the time of its clock in centiseconds, whether it
-- was stopped, whether it is away (it gave way to the other gateway), its ledger (the book and the lives of its pairs),
-- its end of the link, its two interfaces, and the packets that wait.
pub record Shown : Type 0 where
  pub networks : Networks
  pub moment : ℕ
  pub stopped : Bool
  pub away : Bool
  pub ledger : Ledger
  pub link : Link
  pub inside : Interface
  pub outside : Interface
  pub kept : List HeldPacket

-- which of the two gateways it is
abbrev pub id_of : Shown → GatewayId
id_of g = g.ledger.book.id

-- whether the gateway takes frames: it is synced and wasn't stopped
abbrev pub is_up : Shown → Bool
is_up g = is_synced g.ledger.book.stage && not g.stopped

-- whether its routers run: it is up and isn't away
abbrev pub is_running : Shown → Bool
is_running g = is_up g && not g.away

-- whether the gateway is apart: it is synced and not lone, and for so long as its settings say the peer hasn't answered
abbrev pub is_apart : Shown → Bool
is_apart g = is_book_apart g.ledger.book g.link g.moment

-- whether the cable of one side or of both is out
abbrev pub has_side_out : Shown → Bool
has_side_out g = not (is_in g.inside.cable && is_in g.outside.cable)

-- whether both sides are whole
abbrev pub is_whole : Shown → Bool
is_whole g = is_whole_at g.inside.cable g.moment && is_whole_at g.outside.cable g.moment

-- whether it could serve on both sides, as its datagrams say
abbrev pub serves : Shown → Bool
serves g = is_synced g.ledger.book.stage && is_whole g

-- the interface on a side
abbrev pub station_on : Shown → Side → Interface
station_on g Inside = g.inside
station_on g Outside = g.outside

-- the gateway with another interface on a side
abbrev pub with_station : Shown → Side → Interface → Shown
with_station g Inside s = record g { inside = s }
with_station g Outside s = record g { outside = s }

-- a scene: a gateway with its output, which is what it has told
pub record GatewayAndOutput : Type 0 where
  pub shown : Shown
  pub told : Output

-- the scene of a gateway with this output
abbrev pub scene : Shown → Output → GatewayAndOutput
scene g told = record { shown = g; told = told }

-- the output with more notes
abbrev pub with_notes : Output → List Note → Output
with_notes told notes = record told { notes = told.notes ++ notes }
