-- Errors passed on, and Own answers. The error frames of a step are, one for one and in order, errors at hand with
-- addresses and ports replaced, by pairs that translate there. An error sent outward hides inside addresses, and an
-- error is no use of its pairs.
use Rattle.std.specs.Prelude.{◌≡◌, Some, List, not, ◌&&◌, ◌++◌, map}
use Rattle.std.specs.List.{AllByRecursion, filter, flat_map}
use Rattle.std.specs.List.Sorted.{IsPermutation}
use Rattle.addresses.specs.declared.ethernet.Mac.{Mac}
use Rattle.nat_types.specs.declared.gateways.Side.TheVariants.{Inside, Outside}
use Rattle.nat_types.specs.declared.notes.Note.{Note}
use Rattle.nat_types.specs.declared.pairs.Pair.{Pair}
use Rattle.arp.specs.Neighbours.{mac_at}
use Rattle.packet_rules.specs.declared.networks.Networks.{Networks}
use Rattle.packet_rules.specs.declared.translations.Translation.{Translation}
use Rattle.packet_rules.specs.Errors.{HidesInside, is_error_frame, passed_frame}
use Rattle.packet_rules.specs.Flows.{error_flow_in}
use Rattle.packet_rules.specs.Frames.{hop_of, pairs_of}
use Rattle.output.specs.Output.{Sent}
use Rattle.spec_step.specs.Others.{IsErrorBy, MayGoBy}
use Rattle.spec_step.specs.OwnAnswers.{IsOwnOf, OwnFrame, own_frames, tallied}
use Rattle.spec_step.specs.Shown.{GatewayAndOutput, Shown}
use Rattle.spec_step.specs.Truly.{AreSent, AreServed, AtHand, Known, Sending, is_own, known_of, near_on, packets_of, translated_frames, used_pairs}
use Rattle.spec_step.specs.Verdict.{exit_by}

-- The frame is the error passed on: it goes the way that the rules say, by its pairs, by all of which packets may go,
-- to its next hop, at the side at which it leaves.
pub record IsPassedOn (k : Known) (may : Pair → Type 0) (packet : AtHand) (by : Translation) (sent : Sent) : Type 0 where
  pub goes : IsErrorBy k.networks packet by
  pub translate : AllByRecursion may (pairs_of by)
  pub side : sent.side ≡ exit_by by
  pub next : Mac
  pub hop : mac_at (hop_of k.networks by (error_flow_in packet.bytes).destination.0) k.moment (near_on k (exit_by by)) ≡ Some next
  pub bytes_are : sent.bytes ≡ passed_frame k.networks by next packet.bytes

-- each of these sendings is an error passed on
abbrev pub ArePassedOn : Known → (Pair → Type 0) → List Sending → Type 0
ArePassedOn k may passed = AllByRecursion (λ d. IsPassedOn k may d.packet d.by d.sent) passed

-- the frames that are errors, without the gateway's own
abbrev pub error_frames : Networks → List Sent → List Sent
error_frames networks frames = filter (λ f. not (is_own networks f) && is_error_frame f.bytes) frames

-- From a scene to a later one, with the packets `hand` at hand: what was added to the output, with the errors and the
-- gateway's own frames. `Tells` says it of the packets that were translated. The errors that were passed on, and the
-- packets that were answered or complained of, are others of those at hand or kept before, each once, and none is kept
-- afterwards. The gateway translated by the errors' pairs before, or takes them up in the step; outward an error goes by
-- its endpoint's pair, as a packet does. Each own frame is counted at its side.
pub record TellsAll (hand : List AtHand) (old new : GatewayAndOutput) : Type 0 where
  pub frames : List Sent
  pub frames_are : new.told.frames ≡ old.told.frames ++ frames
  pub notes : List Note
  pub notes_are : new.told.notes ≡ old.told.notes ++ notes
  pub done : List Sending
  pub translated : translated_frames new.shown.networks frames ≡ map (λ d. d.sent) done
  pub used : used_pairs notes ≡ flat_map (λ d. pairs_of d.by) done
  pub each : AreSent (known_of new.shown) done
  pub served : AreServed old done new
  pub passed : List Sending
  pub errors : error_frames new.shown.networks frames ≡ map (λ d. d.sent) passed
  pub each_error : ArePassedOn (known_of new.shown) (MayGoBy old.shown notes) passed
  pub served_errors : AreServed old passed new
  pub own : List OwnFrame
  pub own_are : own_frames new.shown.networks frames ≡ map (λ o. o.sent) own
  pub each_own : AllByRecursion (IsOwnOf (known_of new.shown)) own
  pub counted_inside : new.shown.inside.said ≡ tallied new.shown.moment Inside own old.shown.inside.said
  pub counted_outside : new.shown.outside.said ≡ tallied new.shown.moment Outside own old.shown.outside.said
  pub dropped : List AtHand
  pub once : IsPermutation (hand ++ packets_of old.shown.kept)
      (map (λ d. d.packet) done ++ (map (λ d. d.packet) passed
      ++ (map (λ o. o.packet) own ++ (dropped ++ packets_of new.shown.kept))))

-- in each error among these frames that was sent outward, the source, and the destination of the packet inside, are the
-- outside virtual address
abbrev pub HidesAllInside : Networks → List Sent → Type 0
HidesAllInside networks frames =
    AllByRecursion (λ f. f.side ≡ Outside → HidesInside networks.outside.interface.virtual_ip.0 f.bytes) (error_frames networks frames)

-- from a scene to a later one no pair is made, used, renewed or ended, and nothing is noted, pushed or sent to the peer
pub record LeavesPairs (old new : GatewayAndOutput) : Type 0 where
  pub ledger : new.shown.ledger ≡ old.shown.ledger
  pub link : new.shown.link ≡ old.shown.link
  pub notes : new.told.notes ≡ old.told.notes
  pub datagrams : new.told.datagrams ≡ old.told.datagrams

-- of a gateway only the counts of its own frames change, and to which neighbours packets were sent and when they were last
-- asked for
pub record ChangesLittle (old new : Shown) : Type 0 where
  pub known : known_of new ≡ known_of old
  pub stopped : new.stopped ≡ old.stopped
  pub away : new.away ≡ old.away
  pub ledger : new.ledger ≡ old.ledger
  pub link : new.link ≡ old.link
  pub kept : new.kept ≡ old.kept
  pub inside : new.inside ≡ record old.inside { neighbours = new.inside.neighbours; said = new.inside.said }
  pub outside : new.outside ≡ record old.outside { neighbours = new.outside.neighbours; said = new.outside.said }
