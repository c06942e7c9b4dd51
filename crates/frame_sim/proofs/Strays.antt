-- A stray changes nothing, so a sound world stays as it is.
use Rattle.std.proofs.Common.{◌≡◌, Bool, true, false, ℕ, List, ◌++◌, Option, Some, None, Result, Ok, Err, refl, sym, ap, subst, ◌∙◌}
use Rattle.std.specs.Borrow.{Bor}
use Rattle.std.specs.Prelude.{IfErr, IfOk, OnErr, OnOk}
use Rattle.nat_types.specs.declared.gateways.GatewayId.{GatewayId}
use Rattle.nat_types.specs.declared.gateways.GatewayId.TheVariants.{Zero, One}
use Rattle.nat_types.specs.declared.notes.Note.{Note}
use Rattle.settings.specs.declared.values.Values.{Values}
use Rattle.settings.specs.Values.{values_of}
use Rattle.link.specs.Link.{wanted}
use Rattle.link.specs.Strays.{IsStray}
use Rattle.output.specs.Output.{Output}
use Rattle.packet_rules.specs.declared.reasons.Reason.TheVariants.{BadDatagram}
use Rattle.spec_step.specs.declared.events.Event.TheVariants as given
use Rattle.spec_step.specs.declared.events.Outcome.{Outcome}
use Rattle.spec_step.specs.declared.events.Outcome.TheVariants.{Dropped}
use Rattle.spec_gateway.specs.State.{GatewayState}
use Rattle.spec_gateway.specs.Steps.{IsGatewayStep, lent, outcome_of}
use Rattle.frame_sim.specs.World.{Half, World, half, settings_of, shown_at, state_at, values_in, with_half}
use Rattle.nat_types.specs.declared.events.WorldEvent.{WorldEvent}
use Rattle.frame_sim.specs.declared.events.WorldFault.{WorldFault}
use Rattle.frame_sim.specs.declared.events.WorldFault.TheVariants.{NoMemory, PremiseBroken}
use Rattle.frame_sim.specs.Events.{ChangesNothing, Does, Strays, TakesAt, may_stray, outcome_of_stray, refusal, since, unless}
use Rattle.frame_sim.specs.Lacks.{IsUnheard, Lacks}
use Rattle.frame_sim.specs.Runs.{Answers, fault_of}
use Rattle.frame_sim.specs.Halves.{StepsAt}
use Rattle.frame_sim.specs.Scene.{GoesBy, IsSound}
use Rattle.frame_sim.proofs.Lending.{datagram-lent}
use Rattle.frame_sim.proofs.Mails.{none-since}
use Rattle.frame_sim.proofs.Taking.{hand-takes, same-world, sound-so, unmoved}

-- the laws of a gateway's step on a stray
abbrev pub StraysStay : Type 0
StraysStay = (s : GatewayState) (told : Output) (bytes : Bor (List ℕ)) (s2 : GatewayState) (told2 : Output) → IsGatewayStep s told (given.Datagram bytes) s2 told2 → IsStray s.shown.link.values bytes.now → s.shown.link.due ≡ false → wanted s.shown.link ≡ 0
    → (s2 ≡ s) × (told2 ≡ told)

abbrev pub StraysDrop : Type 0
StraysDrop = (s : GatewayState) (bytes : Bor (List ℕ)) → IsStray s.shown.link.values bytes.now → outcome_of s (given.Datagram bytes) ≡ Dropped BadDatagram

-- the values of both settings are those of the world
own-values : (w : World) (i : GatewayId) → IsSound w → values_of (settings_of w i) ≡ values_in w
own-values w Zero sound = refl
own-values w One sound = sound.values

-- a gateway that is up runs on the values of the world
runs-on : (w : World) (i : GatewayId) (g : GatewayState) → IsSound w → state_at w i ≡ Some g → g.shown.link.values ≡ values_in w
runs-on w i g sound up =
    let goes : GoesBy (settings_of w i) (Some g.shown) = subst (λ (o : Option GatewayState). GoesBy (settings_of w i) (shown_at o)) up (sound.by_settings.each i) in
    goes.1 ∙ own-values w i sound

stray-there : (w : World) (i : GatewayId) (g : GatewayState) (bytes : List ℕ) → IsSound w → state_at w i ≡ Some g → IsStray (values_in w) bytes → IsStray g.shown.link.values bytes
stray-there w i g bytes sound up is = subst (λ (v : Values). IsStray v bytes) (sym (runs-on w i g sound up)) is

-- the half of a gateway that is the same, and sent nothing
half-same : (w : World) (i : GatewayId) (g new : GatewayState) (told told2 : Output) → state_at w i ≡ Some g → new ≡ g → told2 ≡ told
    → (let h : Half = record (half w i) { gateway = Some new; sent = (half w i).sent ++ since told.datagrams told2.datagrams } in h) ≡ half w i
half-same w i g new told told2 up same silent =
    ap (λ (ds : List (List ℕ)). let h : Half = record (half w i) { gateway = Some new; sent = ds } in h) (none-since (half w i).sent told.datagrams told2.datagrams (ap (λ (o : Output). o.datagrams) silent))
    ∙ ap (λ (s : GatewayState). let h : Half = record (half w i) { gateway = Some s } in h) same
    ∙ ap (λ (o : Option GatewayState). let h : Half = record (half w i) { gateway = o } in h) (sym up)

trace-same : (w : World) (told told2 : Output) → told2 ≡ told → w.trace ++ since told.notes told2.notes ≡ w.trace
trace-same w told told2 silent = none-since w.trace told.notes told2.notes (ap (λ (o : Output). o.notes) silent)

module _ (stay : StraysStay) where
  -- after a step on a stray the half and the trace are as they were
  stray-still : (w : World) (i : GatewayId) (g : Option GatewayState) (bytes : Bor (List ℕ)) (told : Output) (o : Outcome) (told2 : Output) (h2 : Half) (trace2 : List Note) → IsSound w → state_at w i ≡ g → IsStray (values_in w) bytes.now
      → StepsAt (half w i) g w.trace (given.Datagram bytes) told o told2 h2 trace2 → (h2 ≡ half w i) × (trace2 ≡ w.trace)
  stray-still w i None bytes told o told2 h2 trace2 sound up is s = (s.2, s.3)
  stray-still w i (Some g) bytes told o told2 h2 trace2 sound up is s =
      let x = stay g told bytes s.new told2 s.step (stray-there w i g bytes.now sound up is) s.was.shown.settled.answered s.was.shown.fed in
      (s.half_is ∙ half-same w i g s.new told told2 up x.0 x.1, s.trace_is ∙ trace-same w told told2 x.1)

  pub stray-sound : {E : Type 0} (w : World) (i : GatewayId) (result : Result Outcome E) (bytes : Bor (List ℕ)) (told told2 : Output) (h2 : Half) (trace2 : List Note) → IsSound w → IsStray (values_in w) bytes.now
      → IfOk result (λ o. StepsAt (half w i) (state_at w i) w.trace (given.Datagram bytes) told o told2 h2 trace2) → OnErr result (h2 ≡ half w i) → OnErr result (trace2 ≡ w.trace) → IsSound (with_half w i h2 trace2)
  stray-sound w i (Ok o) bytes told told2 h2 trace2 sound is ok same noted =
      let x = stray-still w i (state_at w i) bytes told o told2 h2 trace2 sound refl is ok in
      sound-so w i (half w i) h2 w.trace trace2 x.0 x.1 (same-world w i sound)
  stray-sound w i (Err e) bytes told told2 h2 trace2 sound is ok same noted = sound-so w i (half w i) h2 w.trace trace2 same noted (same-world w i sound)

  -- ---- the law

  nothing-changes : StraysDrop → (w : World) (i : GatewayId) (g : Option GatewayState) (bytes : List ℕ) (told : Output) (o : Outcome) (told2 : Output) (w2 : World) → IsSound w → state_at w i ≡ g → IsStray (values_in w) bytes
      → TakesAt w i g (given.Datagram (lent bytes)) told o told2 w2 → ChangesNothing w i told o told2 w2
  nothing-changes drop w i None bytes told o told2 w2 sound up is t = record { answer = t.0 ∙ ap outcome_of_stray (sym up); silent = t.1; same = t.2 }
  nothing-changes drop w i (Some g) bytes told o told2 w2 sound up is t =
      let stray = stray-there w i g bytes sound up is in
      let x = stay g told (lent bytes) t.new told2 t.step stray t.was.shown.settled.answered t.was.shown.fed in
      record {
        answer = t.answer ∙ drop g (lent bytes) stray ∙ ap outcome_of_stray (sym up);
        silent = x.1;
        same = t.world ∙ unmoved w i _ _ (half-same w i g t.new told told2 up x.0 x.1) (trace-same w told told2 x.1);
      }

  pub strays-nothing : StraysDrop → (w : World) (i : GatewayId) (bytes : List ℕ) (told : Output) (o : Outcome) (told2 : Output) (w2 : World) → IsSound w → IsStray (values_in w) bytes → Strays w i bytes told o told2 w2 → ChangesNothing w i told o told2 w2
  strays-nothing drop w i bytes told o told2 w2 sound is t = nothing-changes drop w i (state_at w i) bytes told o told2 w2 sound refl is t

-- ---- the answer

lent-so : {E : Type 0} (w : World) (i : GatewayId) (result : Result Outcome E) (bytes : Bor (List ℕ)) (told told2 : Output) (w2 : World) → IfOk result (λ o. TakesAt w i (state_at w i) (given.Datagram bytes) told o told2 w2)
    → IfOk result (λ o. Strays w i bytes.now told o told2 w2)
lent-so w i (Ok o) bytes told told2 w2 t = datagram-lent w i (state_at w i) bytes told o told2 w2 t
lent-so w i (Err e) bytes told told2 w2 t = tt

pub stray-takes : {E : Type 0} (w : World) (i : GatewayId) (result : Result Outcome E) (bytes : Bor (List ℕ)) (told told2 : Output) (h2 : Half) (trace2 : List Note)
    → IfOk result (λ o. StepsAt (half w i) (state_at w i) w.trace (given.Datagram bytes) told o told2 h2 trace2) → IfOk result (λ o. Strays w i bytes.now told o told2 (with_half w i h2 trace2))
stray-takes w i result bytes told told2 h2 trace2 s = lent-so w i result bytes told told2 (with_half w i h2 trace2) (hand-takes w i result (given.Datagram bytes) told told2 h2 trace2 s)

-- the answer to an event that brings these bytes as a stray
pub stray-answers : (w : World) (i : GatewayId) (e : WorldEvent) (bytes : List ℕ) (told told2 : Output) (w2 : World) → refusal w e ≡ unless (may_stray w bytes) PremiseBroken → ((o : Outcome) → Strays w i bytes told o told2 w2 → Does w e told o told2 w2)
    → (IsUnheard (state_at w i) bytes → Lacks w e) → (result : Result Outcome WorldFault) → OnOk result (may_stray w bytes ≡ true) → IfOk result (λ o. Strays w i bytes told o told2 w2)
    → IfErr result (λ fault. fault ≡ fault_of (unless (may_stray w bytes) PremiseBroken)) → IfErr result (λ fault. fault ≡ NoMemory → IsUnheard (state_at w i) bytes)
    → OnErr result (w2 ≡ w) → OnErr result (told2 ≡ told) → Answers w e told result told2 w2
stray-answers w i e bytes told told2 w2 why does lacks (Ok o) may takes fault short same untold = (why ∙ ap (λ (b : Bool). unless b PremiseBroken) may, does o takes)
stray-answers w i e bytes told told2 w2 why does lacks (Err f) may takes fault short same untold = (fault ∙ ap fault_of (sym why), (λ none. lacks (short none)), untold, same)
