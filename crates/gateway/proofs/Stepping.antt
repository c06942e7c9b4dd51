-- A step: what was taken, and then numbered.
use Rattle.std.proofs.Common.{◌≡◌, ◌≤◌, ◌+◌, ℕ, List, ◌++◌, length, take, drop, sym, ap, ap₂, subst, ◌∙◌, arith, length-append}
use Rattle.std.proofs.Math.Seq.{take-append_seam, drop-append_seam}
use Rattle.nat_types.specs.declared.gateways.GatewayId.{GatewayId}
use Rattle.output.specs.Output.{Output, Sent, octet_count, with_frames}
use Rattle.packet_rules.specs.declared.networks.Networks.{Networks}
use Rattle.spec_step.specs.declared.events.Event.{Event}
use Rattle.spec_step.specs.Shown.{Shown, id_of}
use Rattle.spec_gateway.specs.State.{GatewayState}
use Rattle.spec_gateway.specs.Sendings.{number_after, numbered}
use Rattle.spec_gateway.specs.Steps.{IsGatewayStep, Takes, gathered_after, whole_event}
use Rattle.gateway.specs.Gateway.{FitsAtBoth, IsTaken}
use Rattle.gateway.specs.Numbers.{IsUncut}
use Rattle.gateway.proofs.Numbering.{number-short, numbered-short, octets-more}

-- where few bytes were sent, nothing is numbered
pub uncut-sent : (networks net2 : Networks) (id : GatewayId) (n longest first most : ℕ) (front sent all : List Sent) → FitsAtBoth longest networks → net2 ≡ networks → all ≡ front ++ sent
    → first ≡ length front → most ≡ octet_count front + longest → octet_count all ≤ most → IsUncut net2 id n (drop first all)
uncut-sent networks net2 id n longest first most front sent all fits same all_is first_is most_is short =
    let rest : drop first all ≡ sent = ap₂ (λ (k : ℕ) (xs : List Sent). drop k xs) first_is all_is ∙ drop-append_seam front sent in
    let few : octet_count sent ≤ longest = omega (arith, short, ap octet_count all_is, octets-more front sent, most_is) in
    let fits2 : FitsAtBoth longest net2 = subst (FitsAtBoth longest) (sym same) fits in
    subst (IsUncut net2 id n) (sym rest) (record { same = numbered-short longest net2 id n sent fits2 few; number_is = number-short longest net2 n sent fits2 few })

pub all-there : (first : ℕ) (front sent all : List Sent) → all ≡ front ++ sent → first ≡ length front → first ≤ length all
all-there first front sent all all_is first_is = omega (arith, first_is, ap length all_is, length-append front sent)

pub gateway-step : (s s2 s3 : GatewayState) (told told2 told3 : Output) (event : Event) (id : GatewayId) (first : ℕ) → IsTaken s told (whole_event s event) (gathered_after s event) s2 told2
    → id ≡ id_of s.shown → first ≡ length told.frames
    → told3 ≡ with_frames told2 (take first told2.frames ++ numbered s2.shown.networks id s2.numbered (drop first told2.frames))
    → s3.shown ≡ s2.shown → s3.gathered ≡ s2.gathered → s3.numbered ≡ number_after s2.shown.networks s2.numbered (drop first told2.frames)
    → IsGatewayStep s told event s3 told3
gateway-step s s2 s3 told told2 told3 event id first t id_is first_is made shown gathered number =
    let sent : List Sent = t.goes_on.sent in
    let front : take first told2.frames ≡ told.frames = ap₂ (λ (k : ℕ) (xs : List Sent). take k xs) first_is t.goes_on.sent_are ∙ take-append_seam told.frames sent in
    let rest : drop first told2.frames ≡ sent = ap₂ (λ (k : ℕ) (xs : List Sent). drop k xs) first_is t.goes_on.sent_are ∙ drop-append_seam told.frames sent in
    record {
      whole = told2;
      takes = subst (λ (g : Shown). Takes s.shown told (whole_event s event) g told2) (sym shown) t.takes;
      sent = sent;
      sent_are = t.goes_on.sent_are;
      told_is = made
          ∙ ap₂ (λ (xs ys : List Sent). with_frames told2 (xs ++ numbered s2.shown.networks id s2.numbered ys)) front rest
          ∙ ap₂ (λ (net : Networks) (n : ℕ). with_frames told2 (told.frames ++ numbered net id n sent)) t.goes_on.networks_are t.numbered_is
          ∙ ap (λ (i : GatewayId). with_frames told2 (told.frames ++ numbered s.shown.networks i s.numbered sent)) id_is;
      gathered_is = gathered ∙ t.gathered_is;
      numbered_is = number
          ∙ ap (λ (xs : List Sent). number_after s2.shown.networks s2.numbered xs) rest
          ∙ ap₂ (λ (net : Networks) (n : ℕ). number_after net n sent) t.goes_on.networks_are t.numbered_is;
    }
