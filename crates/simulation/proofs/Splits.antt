-- Lines, as they are written part by part.
use Rattle.std.proofs.Common.{◌≡◌, ◌++◌, ◌∷◌, ℕ, List, [], flat_map, length, arith, refl, append_assoc}
use Rattle.addresses.specs.declared.transport.Port.{Port}
use Rattle.nat_types.specs.declared.events.WorldEvent.{WorldEvent}
use Rattle.nat_types.specs.declared.gateways.GatewayId.{GatewayId}
use Rattle.nat_types.specs.declared.gateways.GatewayId.TheVariants.{Zero, One}
use Rattle.nat_types.specs.declared.pairs.Pair.{Pair}
use Rattle.output.specs.Output.{Output}
use Rattle.packet_rules.specs.declared.networks.Networks.{Networks}
use Rattle.spec_gateway.specs.Sendings.{all_pieces}
use Rattle.bindings.specs.Entries.{is_pair}
use Rattle.frame_sim.specs.World.{World, gateway_at, owned_by, pairs_of}
use Rattle.frame_sim.specs.declared.events.Step.{Step}
use Rattle.simulation.specs.Lines.{BothNetworks, networks_by, answer_text, event_line, frame_line, gateway_lines, gateway_of, held_line, link_lines, note_line, one_more, owned_from, owned_lines, sent_by, state_line, step_lines, told_lines, with_sent}
use Rattle.simulation.specs.declared.lines.Counts.{Counts}

-- ---- the output of a step

pub told_split : (networks : Networks) (i : GatewayId) (sent : ℕ) (told : Output) → told_lines networks i sent told
    ≡ flat_map (frame_line i) (all_pieces networks told.frames) ++ (link_lines i sent told.datagrams ++ flat_map note_line told.notes)
told_split networks i sent told = append_assoc (flat_map (frame_line i) (all_pieces networks told.frames)) (link_lines i sent told.datagrams) (flat_map note_line told.notes)

-- ---- a step

pub events_kept : (i : GatewayId) (sent : ℕ) (counts : Counts) → (with_sent i sent counts).events ≡ counts.events
events_kept Zero sent counts = refl
events_kept One sent counts = refl

pub step_split : (both : BothNetworks) (counts : Counts) (e : WorldEvent) (s : Step) (id : GatewayId) (sent number : ℕ)
    → id ≡ gateway_of e → sent ≡ sent_by id counts → number ≡ one_more counts.events
    → step_lines both counts e s ≡ told_lines (networks_by both id) id sent s.out ++ event_line number (answer_text s.answer)
step_split both counts e s id sent number is_id is_sent is_number = rw (is_number, is_sent, is_id) refl

-- ---- a table

-- the first port, and those after it
pub owned_first : (i : GatewayId) (ps qs : List Port) (p : Port) → ps ≡ p ∷ qs → owned_lines i ps ≡ owned_from i p p qs
owned_first i ps qs p is = rw is refl

pub owned_none : (i : GatewayId) (ps : List Port) → length ps ≡ 0 → owned_lines i ps ≡ []
owned_none i [] is = refl
owned_none i (p ∷ ps) is = absurd (omega arith)

pub gateway_split : (w : World) (i : GatewayId) (ports : List Port) (pairs : List Pair)
    → ports ≡ owned_by (gateway_at w i) → pairs ≡ pairs_of is_pair (gateway_at w i)
    → gateway_lines w i ≡ state_line i (gateway_at w i) ++ (owned_lines i ports ++ flat_map (held_line i) pairs)
gateway_split w i ports pairs is_ports is_pairs = rw (is_ports, is_pairs) refl
