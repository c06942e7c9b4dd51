-- A packet waits for its pair where there is a place for it.
use Rattle.std.proofs.Common.{◌≡◌, ℕ, Bool, true, false, cond, not, ◌&&◌, ◌||◌, nat_lt, List, [], ◌∷◌, Result, Ok, Err, refl, ap, ◌∙◌}
use Rattle.std.specs.List.{AllByRecursion, list_any}
use Rattle.std.proofs.lemmas.Bool.{lt-ltb}
use Rattle.nat_types.specs.declared.gateways.Side.{Side}
use Rattle.nat_types.specs.declared.pairs.Endpoint.{Endpoint}
use Rattle.nat_types.specs.declared.pairs.Pair.{Pair}
use Rattle.ipv4.specs.declared.flows.Flow.{Flow}
use Rattle.spec_binding.specs.declared.changes.Want.{Want}
use Rattle.spec_binding.specs.declared.changes.Want.TheVariants as want
use Rattle.waiting.specs.declared.waits.WaitsFor.TheVariants as wait
use Rattle.waiting.specs.Packets.{HeldPacket, has_place, host_count, pair_count}
use Rattle.waiting.specs.Waits.{same_wait}
use Rattle.packet_rules.specs.declared.networks.Direction.{Direction}
use Rattle.packet_rules.specs.declared.networks.Direction.TheVariants as way
use Rattle.packet_rules.specs.declared.readings.Reading.{Reading}
use Rattle.packet_rules.specs.declared.reasons.Reason.{Reason}
use Rattle.packet_rules.specs.declared.reasons.Reason.TheVariants.{CannotWait}
use Rattle.packet_rules.specs.declared.translations.Translation.{Translation}
use Rattle.packet_rules.specs.declared.translations.Translation.TheVariants.{Outward, Hairpin}
use Rattle.packet_rules.specs.Flows.{source_of}
use Rattle.packet_rules.specs.Networks.{exit_of}
use Rattle.packet_rules.specs.Steps.{and_then}
use Rattle.spec_step.specs.declared.events.Outcome.TheVariants.{Waiting}
use Rattle.spec_step.specs.declared.plans.Plan.{Plan}
use Rattle.spec_step.specs.declared.plans.Plan.TheVariants.{Wait as WaitFor}
use Rattle.spec_step.specs.GoingOn.{HasPlace, MayWait, NeedsPair}
use Rattle.spec_step.specs.Shown.{Shown}
use Rattle.spec_step.specs.Verdict.{fits_at, if_fits, look_for, outcome_by, outcome_read, plan_from, plan_on, verdict}

-- where no item passes a test, none of the list does
none-any : (f : HeldPacket → Bool) (xs : List HeldPacket) → AllByRecursion (λ x. f x ≡ false) xs → list_any f xs ≡ false
none-any f [] none = refl
none-any f (x ∷ xs) none = at (f x) none.0 (none-any f xs none.1)
  where
    at : (b : Bool) → b ≡ false → list_any f xs ≡ false → (b || list_any f xs) ≡ false
    at true is rest = absurd (cc)
    at false is rest = rest

place-free : (g : Shown) (e : Endpoint) → HasPlace g e → has_place g.kept (wait.Pair e) ≡ true
place-free g e is =
    all (nat_lt (pair_count g.kept) 64) (nat_lt (host_count e.address.0 g.kept) 16) (list_any (λ w. same_wait w.wait (wait.Pair e)) g.kept)
    (lt-ltb (pair_count g.kept) 64 is.places) (lt-ltb (host_count e.address.0 g.kept) 16 is.share) (none-any (λ w. same_wait w.wait (wait.Pair e)) g.kept is.none)
  where
    all : (a b c : Bool) → a ≡ true → b ≡ true → c ≡ false → ((a && b) && not c) ≡ true
    all true true false one two three = refl
    all true true true one two three = absurd (cc)
    all true false c one two three = absurd (cc)
    all false b c one two three = absurd (cc)

pub plan-waits : (g : Shown) (flow : Flow) (by : Pair → Translation) → look_for g flow ≡ want.Wait → HasPlace g (source_of flow) → plan_from g flow by (look_for g flow) ≡ Ok (WaitFor (source_of flow))
plan-waits g flow by look place =
    let e = source_of flow in
    ap (λ (w : Want). plan_from g flow by w) look
    ∙ ap (λ (b : Bool). let r : Result Plan Reason = cond b (Ok (WaitFor e)) (Err CannotWait) in r) (place-free g e place)

needs-waits : (g : Shown) (flow : Flow) (x : Direction) → NeedsPair g flow x → look_for g flow ≡ want.Wait → HasPlace g (source_of flow) → plan_on g flow x ≡ Ok (WaitFor (source_of flow))
needs-waits g flow way.Outward needs look place = plan-waits g flow Outward look place
needs-waits g flow way.Inward needs look place = absurd needs
needs-waits g flow way.Hairpin needs look place =
    ap (λ (r : Result Pair Reason). and_then r (λ p. plan_from g flow (λ own. Hairpin own p) (look_for g flow))) needs.1
    ∙ plan-waits g flow (λ own. Hairpin own needs.0) look place

pub packet-waits : (g : Shown) (side : Side) (bytes : List ℕ) → MayWait g side bytes → verdict g side bytes ≡ Waiting
packet-waits g side bytes may =
    let flow = may.packet.flow in
    let size = may.packet.size in
    let fits = fits_at g (exit_of may.way) size in
    ap (λ (r : Result Reading Reason). outcome_read g side r) may.reads
    ∙ ap (λ (r : Result Direction Reason). outcome_by (and_then r (λ x. and_then (plan_on g flow x) (if_fits (fits_at g (exit_of x) size))))) may.goes
    ∙ ap (λ (r : Result Plan Reason). outcome_by (and_then r (if_fits fits))) (needs-waits g flow may.way may.needs may.waits may.place)
    ∙ ap (λ (b : Bool). outcome_by (if_fits b (WaitFor (source_of flow)))) may.fits
