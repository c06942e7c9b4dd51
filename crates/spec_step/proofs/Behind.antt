-- The scene after a packet was sent to a neighbour, by whether a request for it follows.
use Rattle.std.proofs.Common.{◌≡◌, Bool, cond, ap}
use Rattle.addresses.specs.declared.internet.Ip.{Ip}
use Rattle.nat_types.specs.declared.gateways.Side.{Side}
use Rattle.nat_types.specs.declared.gateways.Side.TheVariants.{Inside, Outside}
use Rattle.arp.specs.Neighbours.{Neighbours}
use Rattle.arp.proofs.Offered.{forgetful-sent, sent-six}
use Rattle.spec_step.specs.Parts.{framed, neighbour_sent, request_by}
use Rattle.spec_step.specs.Shown.{GatewayAndOutput, Shown, scene}
use Rattle.spec_step.specs.Truly.{IsSetUp, Known, known_of}

-- the scene after a packet was sent to a neighbour, and no request follows
abbrev pub sent_to : GatewayAndOutput → Side → Ip → GatewayAndOutput
sent_to s side hop = scene (neighbour_sent s.shown side hop) s.told

abbrev pub asked_behind : GatewayAndOutput → Side → Ip → Bool → GatewayAndOutput
asked_behind s side hop asks = cond asks (framed (sent_to s side hop) side (request_by s.shown side hop)) (sent_to s side hop)

-- what decides where packets go stays
pub known-sent : (g : Shown) (side : Side) (hop : Ip) → known_of (neighbour_sent g side hop) ≡ known_of g
known-sent g Inside hop = ap (λ (n : Neighbours). let k : Known = record (known_of g) { near_inside = n } in k) (forgetful-sent hop.0 g.moment g.inside.neighbours)
known-sent g Outside hop = ap (λ (n : Neighbours). let k : Known = record (known_of g) { near_outside = n } in k) (forgetful-sent hop.0 g.moment g.outside.neighbours)

-- all hardware addresses have six bytes still
pub wired-sent : (g : Shown) (side : Side) (hop : Ip) → IsSetUp g → IsSetUp (neighbour_sent g side hop)
wired-sent g Inside hop w = (w.0, (record { own = w.1.0.own; known = sent-six hop.0 g.moment g.inside.neighbours w.1.0.known }, w.1.1))
wired-sent g Outside hop w = (w.0, (w.1.0, record { own = w.1.1.own; known = sent-six hop.0 g.moment g.outside.neighbours w.1.1.known }))
