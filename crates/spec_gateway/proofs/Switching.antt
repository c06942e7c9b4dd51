-- A whole step with a frame that is not cut is the same with `pass` and without.
use Rattle.std.proofs.Common.{◌≡◌, ◌⊎◌, ℕ, Bool, true, false, cond, nat_lt, Result, Ok, Err, List, [], ◌∷◌, ◌++◌, length, refl, ap, ap₂, ◌∙◌, sym, subst}
use Rattle.std.specs.Borrow.{Bor}
use Rattle.nat_types.specs.declared.gateways.GatewayId.{GatewayId}
use Rattle.nat_types.specs.declared.gateways.Side.{Side}
use Rattle.nat_types.specs.declared.gateways.Side.TheVariants.{Inside, Outside}
use Rattle.frames.specs.Frame.{frame_of}
use Rattle.frames.specs.declared.ethernet.TheConstants.{LONGEST}
use Rattle.icmp.specs.declared.packets.ErrorPacket.{ErrorPacket}
use Rattle.ipv4.specs.declared.packets.Packet.{Packet as Datagram}
use Rattle.ipv4.specs.Header.{is_unbroken}
use Rattle.packet_rules.specs.declared.readings.Asked.{Asked as Echo}
use Rattle.fragments.specs.Cut.{identified}
use Rattle.interfaces.specs.Stations.{is_active}
use Rattle.output.specs.Output.{Output, Sent}
use Rattle.packet_rules.specs.declared.networks.Network.{Network}
use Rattle.packet_rules.specs.declared.networks.Networks.{Networks}
use Rattle.packet_rules.specs.declared.readings.Reading.{Reading}
use Rattle.packet_rules.specs.declared.readings.Reading.TheVariants.{Arp, Advert, Packet, Error, Asked}
use Rattle.packet_rules.specs.declared.reasons.Reason.{Reason}
use Rattle.packet_rules.specs.declared.reasons.Reason.TheVariants.{ShortFrame}
use Rattle.packet_rules.specs.Own.{is_own_frame}
use Rattle.packet_rules.specs.Steps.{Carries, reading_of}
use Rattle.vrrp_states.specs.Table as table
use Rattle.spec_step.specs.declared.events.Event.TheVariants.{Frame}
use Rattle.spec_step.specs.Parts.{size_in}
use Rattle.spec_step.specs.Routers.{RouterActs}
use Rattle.spec_step.specs.Shown.{GatewayAndOutput, Shown, id_of, is_up, scene, station_on}
use Rattle.spec_step.specs.Steps.{FrameDoes, IsStepOn}
use Rattle.spec_step.specs.Verdict.{outcome_by, outcome_read, outcome_reply, reading_on, verdict}
use Rattle.spec_gateway.specs.Arrivals.{Arrival, arrival, fragment_arrives, frame_arrives, is_gathered, is_part, nothing_arrives}
use Rattle.spec_gateway.specs.Sendings.{is_for_many, is_numbered, next_number, number_after, number_of, numbered}
use Rattle.spec_gateway.specs.State.{GatewayState}
use Rattle.spec_gateway.specs.Steps.{IsGatewayStep, Takes, frame_event, lent, outcome_of, whole_event}
use Rattle.spec_gateway.specs.Without.{FitsBoth, IsUncut, is_arp, without, without_pass}
use Rattle.spec_gateway.proofs.Doing.{acted-same, echo-same, ended-same, error-taken-same, flow-same, off, refused-same}
use Rattle.spec_gateway.proofs.Planning.{Allowed, echo-allowed, error-same, packet-allowed, plan-same, reply-same}

-- what is known of a frame by its reading, as packet_rules proves it
abbrev pub Readings : Type 0
Readings = (side : Side) (network : Network) (active up : Bool) (bytes : List ℕ) (reading : Reading) → reading_of side network active up bytes ≡ Ok reading → Carries side bytes reading

reading-same : (g : Shown) (side : Side) (bytes : List ℕ) → reading_on (without_pass g) side bytes ≡ reading_on g side bytes
reading-same g Inside bytes = refl
reading-same g Outside bytes = refl

-- what a packet's size may be, by its reading
abbrev IsFitting : Shown → List ℕ → Reading → Type 0
IsFitting g bytes (Arp p) = Unit {0}
IsFitting g bytes (Advert a from) = Unit {0}
IsFitting g bytes (Packet packet) = Allowed g.networks packet.size
IsFitting g bytes (Error packet) = Allowed g.networks packet.size
IsFitting g bytes (Asked echo) = Allowed g.networks echo.size

fitting : Readings → (g : Shown) (side : Side) (bytes : List ℕ) → (is_unbroken (frame_of bytes).body ≡ true) ⊎ FitsBoth g.networks (frame_of bytes).body → (r : Reading) → reading_on g side bytes ≡ Ok r → IsFitting g bytes r
fitting readings g side bytes fits r is = by r (readings side (station_on g side).network (is_active (station_on g side)) (is_up g) bytes r is)
  where
    by : (x : Reading) → Carries side bytes x → IsFitting g bytes x
    by (Arp p) known = tt
    by (Advert a from) known = tt
    by (Packet packet) known = subst (λ (p : Datagram). Allowed g.networks p.size) (sym known.1.0) (packet-allowed g.networks bytes fits)
    by (Error packet) known = subst (λ (p : ErrorPacket). Allowed g.networks p.size) (sym known.1) (packet-allowed g.networks bytes fits)
    by (Asked echo) known = subst (λ (e : Echo). Allowed g.networks e.size) (sym known.1) (echo-allowed g.networks (frame_of bytes).body known.0.frame.ipv4.holds_fields known.0.frame.ipv4.holds_header fits)

acts-same : (s : GatewayAndOutput) (side : Side) (event : table.Event) (s2 : GatewayAndOutput) → RouterActs s side event s2 → RouterActs (off s) side event (off s2)
acts-same s Inside event s2 acts = record { station = acts.station; action = acts.action; step = acts.step; is = ap off acts.is ∙ sym (acted-same s Inside acts.station acts.action) }
acts-same s Outside event s2 acts = record { station = acts.station; action = acts.action; step = acts.step; is = ap off acts.is ∙ sym (acted-same s Outside acts.station acts.action) }

does-same : (s : GatewayAndOutput) (side : Side) (bytes : List ℕ) (s2 : GatewayAndOutput) (r : Result Reading Reason)
    → is_arp r ≡ false → Allowed s.shown.networks (size_in bytes) → ((x : Reading) → r ≡ Ok x → IsFitting s.shown bytes x)
    → FrameDoes s side bytes r s2 → FrameDoes (off s) side bytes r (off s2)
does-same s side bytes s2 (Ok (Arp p)) arp size fits does = absurd (cc)
does-same s side bytes s2 (Ok (Advert a from)) arp size fits does = acts-same s side (table.Heard a.priority a.interval from.0) s2 does
does-same s side bytes s2 (Ok (Packet packet)) arp size fits does = ap off does ∙ sym (flow-same s side bytes packet.flow size)
does-same s side bytes s2 (Ok (Error packet)) arp size fits does = ap off does ∙ sym (error-taken-same s side bytes packet.flow size)
does-same s side bytes s2 (Ok (Asked echo)) arp size fits does = ap off does ∙ sym (echo-same s side bytes echo (fits (Asked echo) refl))
does-same s side bytes s2 (Err reason) arp size fits does = ap off does ∙ sym (refused-same s side side bytes reason)

step-same : Readings → (g : Shown) (told : Output) (side : Side) (bytes : Bor (List ℕ)) (g2 : Shown) (told2 : Output) → IsUncut g side bytes.now
    → IsStepOn (scene g told) (Frame side bytes) (scene g2 told2) → IsStepOn (scene (without_pass g) told) (Frame side bytes) (scene (without_pass g2) told2)
step-same readings g told side bytes g2 told2 uncut step = record {
  done = off step.done;
  does =
      subst (λ (r : Result Reading Reason). FrameDoes (off (scene g told)) side bytes.now r (off step.done)) (sym (reading-same g side bytes.now))
      (does-same (scene g told) side bytes.now step.done (reading_on g side bytes.now) uncut.arp (packet-allowed g.networks bytes.now uncut.fits)
      (λ x is. fitting readings g side bytes.now uncut.fits x is) step.does);
  sends = ap off step.sends ∙ sym (ended-same step.done);
}

-- ---- the outcome
outcome-same : (g : Shown) (side : Side) (bytes : List ℕ) (r : Result Reading Reason) → ((x : Reading) → r ≡ Ok x → IsFitting g bytes x) → outcome_read (without_pass g) side r ≡ outcome_read g side r
outcome-same g side bytes (Ok (Arp p)) fits = refl
outcome-same g side bytes (Ok (Advert a from)) fits = refl
outcome-same g side bytes (Ok (Packet packet)) fits = ap outcome_by (plan-same g side packet.flow packet.size (fits (Packet packet) refl))
outcome-same g side bytes (Ok (Error packet)) fits = ap outcome_by (error-same g side packet.flow packet.size (fits (Error packet) refl))
outcome-same g side bytes (Ok (Asked echo)) fits = ap outcome_reply (reply-same g side echo (fits (Asked echo) refl))
outcome-same g side bytes (Err reason) fits = refl

verdict-same : Readings → (g : Shown) (side : Side) (bytes : List ℕ) → IsUncut g side bytes → verdict (without_pass g) side bytes ≡ verdict g side bytes
verdict-same readings g side bytes uncut =
    ap (λ (r : Result Reading Reason). outcome_read (without_pass g) side r) (reading-same g side bytes)
    ∙ outcome-same g side bytes (reading_on g side bytes) (λ x is. fitting readings g side bytes uncut.fits x is)

-- ---- what arrives
abbrev plain_arrival : GatewayState → Side → List ℕ → Arrival
plain_arrival s side bytes = cond (nat_lt LONGEST (length bytes)) (nothing_arrives s ShortFrame) (frame_arrives s side bytes)

plain : (s : GatewayState) (side : Side) (bytes : List ℕ) → is_part (reading_on s.shown side bytes) ≡ false → arrival s side bytes ≡ plain_arrival s side bytes
unfolding arrival
plain s side bytes part =
    ap (λ (p : Bool). cond (nat_lt LONGEST (length bytes)) (nothing_arrives s ShortFrame) (cond p (fragment_arrives s side bytes (is_gathered s.shown side bytes)) (frame_arrives s side bytes))) part

plain-off : (s : GatewayState) (side : Side) (bytes : List ℕ) → is_part (reading_on s.shown side bytes) ≡ false → arrival (without s) side bytes ≡ plain_arrival (without s) side bytes
plain-off s side bytes part = plain (without s) side bytes (ap is_part (reading-same s.shown side bytes) ∙ part)

pub outcome-off : Readings → (s : GatewayState) (side : Side) (bytes : Bor (List ℕ)) → IsUncut s.shown side bytes.now → outcome_of (without s) (Frame side bytes) ≡ outcome_of s (Frame side bytes)
outcome-off readings s side bytes uncut =
    ap (λ (a : Arrival). a.outcome) (plain-off s side bytes.now uncut.part)
    ∙ by (nat_lt LONGEST (length bytes.now))
    ∙ ap (λ (a : Arrival). a.outcome) (sym (plain s side bytes.now uncut.part))
  where
    by : (b : Bool) → (cond b (nothing_arrives (without s) ShortFrame) (frame_arrives (without s) side bytes.now)).outcome ≡ (cond b (nothing_arrives s ShortFrame) (frame_arrives s side bytes.now)).outcome
    by true = refl
    by false = verdict-same readings s.shown side bytes.now uncut

-- ---- what is numbered
numbers-same : (networks : Networks) (f : Sent) → is_numbered (record networks { pass = false }) f ≡ is_numbered networks f
unfolding is_for_many is_own_frame
numbers-same networks f = by f.side f.bytes
  where
    by : (side : Side) (bytes : List ℕ) → is_numbered (record networks { pass = false }) (record { side = side; bytes = bytes }) ≡ is_numbered networks (record { side = side; bytes = bytes })
    by Inside bytes = refl
    by Outside bytes = refl

numbered-same : (networks : Networks) (id : GatewayId) (n : ℕ) (frames : List Sent) → numbered (record networks { pass = false }) id n frames ≡ numbered networks id n frames
numbered-same networks id n [] = refl
numbered-same networks id n (f ∷ frames) =
    ap (λ (b : Bool). cond b (record f { bytes = identified (number_of id n) f.bytes } ∷ numbered (record networks { pass = false }) id (next_number n) frames) (f ∷ numbered (record networks { pass = false }) id n frames)) (numbers-same networks f)
    ∙ ap₂ (λ (xs ys : List Sent). cond (is_numbered networks f) (record f { bytes = identified (number_of id n) f.bytes } ∷ xs) (f ∷ ys)) (numbered-same networks id (next_number n) frames) (numbered-same networks id n frames)

after-same : (networks : Networks) (n : ℕ) (frames : List Sent) → number_after (record networks { pass = false }) n frames ≡ number_after networks n frames
after-same networks n [] = refl
after-same networks n (f ∷ frames) =
    ap (λ (b : Bool). cond b (number_after (record networks { pass = false }) (next_number n) frames) (number_after (record networks { pass = false }) n frames)) (numbers-same networks f)
    ∙ ap₂ (λ (x y : ℕ). cond (is_numbered networks f) x y) (after-same networks (next_number n) frames) (after-same networks n frames)

-- ---- the whole
takes-same : Readings → (s : GatewayState) (told : Output) (side : Side) (bytes : Bor (List ℕ)) (g2 : Shown) (told2 : Output) → IsUncut s.shown side bytes.now
    → Takes s.shown told (whole_event s (Frame side bytes)) g2 told2 → Takes (without_pass s.shown) told (whole_event (without s) (Frame side bytes)) (without_pass g2) told2
takes-same readings s told side bytes g2 told2 uncut takes =
    subst (λ (a : Arrival). Takes (without_pass s.shown) told (frame_event side a.frame) (without_pass g2) told2) (sym (plain-off s side bytes.now uncut.part))
    (by (nat_lt LONGEST (length bytes.now))
    (subst (λ (a : Arrival). Takes s.shown told (frame_event side a.frame) g2 told2) (plain s side bytes.now uncut.part) takes))
  where
    by : (b : Bool) → Takes s.shown told (frame_event side (cond b (nothing_arrives s ShortFrame) (frame_arrives s side bytes.now)).frame) g2 told2
        → Takes (without_pass s.shown) told (frame_event side (cond b (nothing_arrives (without s) ShortFrame) (frame_arrives (without s) side bytes.now)).frame) (without_pass g2) told2
    by true takes = (ap without_pass takes.0, takes.1)
    by false takes = step-same readings s.shown told side (lent bytes.now) g2 told2 uncut takes

gathered-same : (s : GatewayState) (side : Side) (bytes : List ℕ) → is_part (reading_on s.shown side bytes) ≡ false → (arrival (without s) side bytes).gathered ≡ (arrival s side bytes).gathered
gathered-same s side bytes part =
    ap (λ (a : Arrival). a.gathered) (plain-off s side bytes part)
    ∙ by (nat_lt LONGEST (length bytes))
    ∙ ap (λ (a : Arrival). a.gathered) (sym (plain s side bytes part))
  where
    by : (b : Bool) → (cond b (nothing_arrives (without s) ShortFrame) (frame_arrives (without s) side bytes)).gathered ≡ (cond b (nothing_arrives s ShortFrame) (frame_arrives s side bytes)).gathered
    by true = refl
    by false = refl

pub step-off : Readings → (s : GatewayState) (told : Output) (side : Side) (bytes : Bor (List ℕ)) (s2 : GatewayState) (told2 : Output) → IsUncut s.shown side bytes.now
    → IsGatewayStep s told (Frame side bytes) s2 told2 → IsGatewayStep (without s) told (Frame side bytes) (without s2) told2
step-off readings s told side bytes s2 told2 uncut step = record {
  whole = step.whole;
  takes = takes-same readings s told side bytes s2.shown step.whole uncut step.takes;
  sent = step.sent;
  sent_are = step.sent_are;
  told_is = step.told_is ∙ ap (λ (xs : List Sent). let o : Output = record step.whole { frames = told.frames ++ xs } in o) (sym (numbered-same s.shown.networks (id_of s.shown) s.numbered step.sent));
  gathered_is = step.gathered_is ∙ sym (gathered-same s side bytes.now uncut.part);
  numbered_is = step.numbered_is ∙ sym (after-same s.shown.networks s.numbered step.sent);
}
