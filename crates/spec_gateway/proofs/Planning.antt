-- What a gateway plans for a frame that is not cut is the same with `pass` and without.
use Rattle.std.proofs.Common.{◌≡◌, ◌⊎◌, inl, inr, ◌≤◌, ◌+◌, ◌-◌, ℕ, Bool, true, false, cond, not, ◌&&◌, ◌||◌, nat_le, Option, None, Some, Result, Ok, Err, List, length, drop, refl, ap, ◌∙◌, arith}
use Rattle.std.proofs.lemmas.Bool.{le-leb}
use Rattle.std.proofs.lemmas.List.{length-take}
use Rattle.addresses.specs.declared.ethernet.Mac.{Mac}
use Rattle.addresses.specs.declared.internet.Ip.{Ip}
use Rattle.nat_types.specs.declared.gateways.Side.{Side}
use Rattle.nat_types.specs.declared.gateways.Side.TheVariants.{Inside, Outside}
use Rattle.nat_types.specs.declared.pairs.Pair.{Pair}
use Rattle.frames.specs.Frame.{frame_of}
use Rattle.icmp.specs.declared.packets.ErrorFlow.{ErrorFlow}
use Rattle.ipv4.specs.declared.flows.Flow.{Flow}
use Rattle.ipv4.specs.declared.packets.Size.{Size}
use Rattle.ipv4.specs.Flow.{size_of}
use Rattle.ipv4.specs.Header.{header_of, is_unbroken, payload_of}
use Rattle.packet_rules.specs.declared.networks.Direction.{Direction}
use Rattle.packet_rules.specs.declared.networks.Direction.TheVariants as way
use Rattle.packet_rules.specs.declared.networks.Networks.{Networks}
use Rattle.packet_rules.specs.declared.readings.Asked.{Asked as Echo}
use Rattle.packet_rules.specs.declared.reasons.Reason.{Reason}
use Rattle.packet_rules.specs.declared.reasons.Reason.TheVariants.{NoBinding, TooMany}
use Rattle.packet_rules.specs.declared.translations.Translation.{Translation}
use Rattle.packet_rules.specs.declared.translations.Translation.TheVariants.{Outward, Inward, Hairpin}
use Rattle.packet_rules.specs.Asked.{asked_of}
use Rattle.packet_rules.specs.Errors.{error_direction}
use Rattle.packet_rules.specs.Flows.{source_of}
use Rattle.packet_rules.specs.Networks.{direction_of, exit_of, inside_direction, may_answer, may_come, mtu_of, outside_direction, outside_hop}
use Rattle.packet_rules.specs.Steps.{and_then}
use Rattle.interfaces.specs.Tallies.{may_reply}
use Rattle.spec_binding.specs.declared.changes.Want as want
use Rattle.spec_binding.specs.declared.changes.Want.{Want}
use Rattle.spec_binding.specs.Rows.{new_pair}
use Rattle.spec_step.specs.declared.plans.Plan.{Plan}
use Rattle.spec_step.specs.declared.plans.Reply.{Reply}
use Rattle.spec_step.specs.Shown.{Shown, station_on}
use Rattle.spec_step.specs.Verdict.{error_by, error_on, error_plan, fits_at, hop_back, hop_to, if_fits, if_reply_fits, look_for, next_back, next_to, pair_in_of, pair_out, plan_by, plan_from, plan_of, plan_on, plan_to, plan_via, reply_to, reply_via, target_pair}
use Rattle.spec_gateway.specs.Without.{FitsBoth, without_pass}

pub then-same : {X Y : Type 0} (r : Result X Reason) (k l : X → Result Y Reason) → ((x : X) → k x ≡ l x) → and_then r k ≡ and_then r l
then-same (Ok x) k l same = same x
then-same (Err reason) k l same = refl

-- a size is allowed at each side, with `pass` or without
abbrev pub Allowed : Networks → Size → Type 0
Allowed networks size = (size.unbroken ≡ true) ⊎ ((size.length ≤ mtu_of networks Inside) × (size.length ≤ mtu_of networks Outside))

allowed-bits : (fits pass unbroken : Bool) → (unbroken ≡ true) ⊎ (fits ≡ true) → (fits || (false && not unbroken)) ≡ (fits || (pass && not unbroken))
allowed-bits true pass unbroken one = refl
allowed-bits false pass true one = by pass
  where
    by : (b : Bool) → (false || (false && not true)) ≡ (false || (b && not true))
    by true = refl
    by false = refl
allowed-bits false pass false (inl one) = absurd (cc)
allowed-bits false pass false (inr one) = absurd (cc)

pub fits-same : (g : Shown) (exit : Side) (size : Size) → Allowed g.networks size → fits_at (without_pass g) exit size ≡ fits_at g exit size
fits-same g exit size allowed = by exit (either exit allowed)
  where
    either : (side : Side) → (size.unbroken ≡ true) ⊎ ((size.length ≤ mtu_of g.networks Inside) × (size.length ≤ mtu_of g.networks Outside)) → (size.unbroken ≡ true) ⊎ (nat_le size.length (mtu_of g.networks side) ≡ true)
    either side (inl unbroken) = inl unbroken
    either Inside (inr fits) = inr (le-leb size.length (mtu_of g.networks Inside) fits.0)
    either Outside (inr fits) = inr (le-leb size.length (mtu_of g.networks Outside) fits.1)

    by : (side : Side) → (size.unbroken ≡ true) ⊎ (nat_le size.length (mtu_of g.networks side) ≡ true) → fits_at (without_pass g) side size ≡ fits_at g side size
    by Inside one = allowed-bits (nat_le size.length (mtu_of g.networks Inside)) g.networks.pass size.unbroken one
    by Outside one = allowed-bits (nat_le size.length (mtu_of g.networks Outside)) g.networks.pass size.unbroken one

-- ---- packets
to-same : (g : Shown) (by : Translation) (hop : Ip) (next : Option Mac) → plan_to (without_pass g) by hop next ≡ plan_to g by hop next
to-same g by hop (Some next) = refl
to-same g by hop None = refl

via-same : (g : Shown) (by : Translation) (to : Ip) → plan_via (without_pass g) by to ≡ plan_via g by to
unfolding outside_hop
via-same g (Outward p) to = to-same g (Outward p) (hop_to g (Outward p) to) (next_to g (Outward p) to)
via-same g (Inward p) to = to-same g (Inward p) (hop_to g (Inward p) to) (next_to g (Inward p) to)
via-same g (Hairpin own other) to = to-same g (Hairpin own other) (hop_to g (Hairpin own other) to) (next_to g (Hairpin own other) to)

from-same : (g : Shown) (flow : Flow) (by : Pair → Translation) (answer : Want) → plan_from (without_pass g) flow by answer ≡ plan_from g flow by answer
from-same g flow by (want.TheVariants.Port port) = via-same g (by (new_pair (source_of flow) port)) flow.destination
from-same g flow by want.TheVariants.Wait = refl
from-same g flow by want.TheVariants.NoPort = refl
from-same g flow by want.TheVariants.NotNow = refl
from-same g flow by want.TheVariants.HostLimit = refl

on-same : (g : Shown) (flow : Flow) (way : Direction) → plan_on (without_pass g) flow way ≡ plan_on g flow way
on-same g flow way.Outward = from-same g flow Outward (look_for g flow)
on-same g flow way.Inward = then-same (target_pair g flow) (λ p. plan_by (without_pass g) flow (Inward p)) (λ p. plan_by g flow (Inward p)) (λ p. via-same g (Inward p) flow.destination)
on-same g flow way.Hairpin =
    then-same (target_pair g flow) (λ p. plan_from (without_pass g) flow (λ own. Hairpin own p) (look_for g flow)) (λ p. plan_from g flow (λ own. Hairpin own p) (look_for g flow))
    (λ p. from-same g flow (λ own. Hairpin own p) (look_for g flow))

pub way-same : (g : Shown) (side : Side) (flow : Flow) → direction_of (without_pass g).networks side flow.protocol flow.source.0 flow.destination.0 ≡ direction_of g.networks side flow.protocol flow.source.0 flow.destination.0
unfolding inside_direction outside_direction
way-same g Inside flow = refl
way-same g Outside flow = refl

fitted-same : (g : Shown) (r r2 : Result Plan Reason) (exit : Side) (size : Size) → r2 ≡ r → Allowed g.networks size → and_then r2 (if_fits (fits_at (without_pass g) exit size)) ≡ and_then r (if_fits (fits_at g exit size))
fitted-same g r r2 exit size same allowed =
    ap (λ (x : Result Plan Reason). and_then x (if_fits (fits_at (without_pass g) exit size))) same
    ∙ ap (λ (b : Bool). and_then r (if_fits b)) (fits-same g exit size allowed)

pub plan-same : (g : Shown) (side : Side) (flow : Flow) (size : Size) → Allowed g.networks size → plan_of (without_pass g) side flow size ≡ plan_of g side flow size
plan-same g side flow size allowed =
    ap (λ (r : Result Direction Reason). and_then r (λ way. and_then (plan_on (without_pass g) flow way) (if_fits (fits_at (without_pass g) (exit_of way) size)))) (way-same g side flow)
    ∙ then-same (direction_of g.networks side flow.protocol flow.source.0 flow.destination.0)
    (λ way. and_then (plan_on (without_pass g) flow way) (if_fits (fits_at (without_pass g) (exit_of way) size)))
    (λ way. and_then (plan_on g flow way) (if_fits (fits_at g (exit_of way) size)))
    (λ way. fitted-same g (plan_on g flow way) (plan_on (without_pass g) flow way) (exit_of way) size (on-same g flow way) allowed)

-- ---- errors
error-on-same : (g : Shown) (flow : ErrorFlow) (way : Direction) → error_on (without_pass g) flow way ≡ error_on g flow way
error-on-same g flow way.Outward = then-same (pair_in_of g flow) (λ p. error_by (without_pass g) flow (Outward p)) (λ p. error_by g flow (Outward p)) (λ p. via-same g (Outward p) flow.destination)
error-on-same g flow way.Inward = then-same (pair_out g flow) (λ p. error_by (without_pass g) flow (Inward p)) (λ p. error_by g flow (Inward p)) (λ p. via-same g (Inward p) flow.destination)
error-on-same g flow way.Hairpin =
    then-same (pair_out g flow) (λ other. and_then (pair_in_of g flow) (λ own. error_by (without_pass g) flow (Hairpin own other))) (λ other. and_then (pair_in_of g flow) (λ own. error_by g flow (Hairpin own other)))
    (λ other. then-same (pair_in_of g flow) (λ own. error_by (without_pass g) flow (Hairpin own other)) (λ own. error_by g flow (Hairpin own other)) (λ own. via-same g (Hairpin own other) flow.destination))

error-way-same : (g : Shown) (side : Side) (flow : ErrorFlow) → error_direction (without_pass g).networks side flow ≡ error_direction g.networks side flow
unfolding error_direction inside_direction outside_direction
error-way-same g Inside flow = refl
error-way-same g Outside flow = refl

pub error-same : (g : Shown) (side : Side) (flow : ErrorFlow) (size : Size) → Allowed g.networks size → error_plan (without_pass g) side flow size ≡ error_plan g side flow size
error-same g side flow size allowed =
    ap (λ (r : Result Direction Reason). and_then r (λ way. and_then (error_on (without_pass g) flow way) (if_fits (fits_at (without_pass g) (exit_of way) size)))) (error-way-same g side flow)
    ∙ then-same (error_direction g.networks side flow)
    (λ way. and_then (error_on (without_pass g) flow way) (if_fits (fits_at (without_pass g) (exit_of way) size)))
    (λ way. and_then (error_on g flow way) (if_fits (fits_at g (exit_of way) size)))
    (λ way. fitted-same g (error_on g flow way) (error_on (without_pass g) flow way) (exit_of way) size (error-on-same g flow way) allowed)

-- ---- Echos to the gateway
reply-via-same : (g : Shown) (side : Side) (hop : Ip) (next : Option Mac) → reply_via (without_pass g) side hop next ≡ reply_via g side hop next
reply-via-same g side hop (Some next) = refl
reply-via-same g side hop None = refl

pub back-same : (g : Shown) (side : Side) (source : Ip) → hop_back (without_pass g) side source ≡ hop_back g side source
unfolding outside_hop
back-same g Inside source = refl
back-same g Outside source = refl

pub next-same : (g : Shown) (side : Side) (source : Ip) → next_back (without_pass g) side source ≡ next_back g side source
unfolding outside_hop
next-same g Inside source = refl
next-same g Outside source = refl

pub may-same : (g : Shown) (side : Side) (source : ℕ) → may_answer (without_pass g).networks side source ≡ may_answer g.networks side source
unfolding may_answer may_come
may-same g Inside source = refl
may-same g Outside source = refl

said-same : (g : Shown) (side : Side) → may_reply (without_pass g).moment (station_on (without_pass g) side).said ≡ may_reply g.moment (station_on g side).said
said-same g Inside = refl
said-same g Outside = refl

via-back-same : (g : Shown) (side : Side) (source : Ip) → reply_via (without_pass g) side (hop_back (without_pass g) side source) (next_back (without_pass g) side source) ≡ reply_via g side (hop_back g side source) (next_back g side source)
via-back-same g side source =
    ap (λ (hop : Ip). reply_via (without_pass g) side hop (next_back (without_pass g) side source)) (back-same g side source)
    ∙ ap (λ (next : Option Mac). reply_via (without_pass g) side (hop_back g side source) next) (next-same g side source)
    ∙ reply-via-same g side (hop_back g side source) (next_back g side source)

pub reply-same : (g : Shown) (side : Side) (echo : Echo) → Allowed g.networks echo.size → reply_to (without_pass g) side echo ≡ reply_to g side echo
reply-same g side echo allowed =
    ap (λ (b : Bool). let r : Result Reply Reason = cond b (cond (may_reply (without_pass g).moment (station_on (without_pass g) side).said) (taken (without_pass g)) (Err TooMany)) (Err NoBinding) in r) (may-same g side echo.source.0)
    ∙ ap (λ (b : Bool). let r : Result Reply Reason = cond (may_answer g.networks side echo.source.0) (cond b (taken (without_pass g)) (Err TooMany)) (Err NoBinding) in r) (said-same g side)
    ∙ ap (λ (t : Result Reply Reason). let r : Result Reply Reason = cond (may_answer g.networks side echo.source.0) (cond (may_reply g.moment (station_on g side).said) t (Err TooMany)) (Err NoBinding) in r) taken-same
  where
    taken : Shown → Result Reply Reason
    taken h = and_then (reply_via h side (hop_back h side echo.source) (next_back h side echo.source)) (if_reply_fits (fits_at h side echo.size))

    taken-same : taken (without_pass g) ≡ taken g
    taken-same =
        ap (λ (r : Result Reply Reason). and_then r (if_reply_fits (fits_at (without_pass g) side echo.size))) (via-back-same g side echo.source)
        ∙ ap (λ (b : Bool). and_then (reply_via g side (hop_back g side echo.source) (next_back g side echo.source)) (if_reply_fits b)) (fits-same g side echo.size allowed)

-- ---- sizes
pub packet-allowed : (networks : Networks) (bytes : List ℕ) → (is_unbroken (frame_of bytes).body ≡ true) ⊎ FitsBoth networks (frame_of bytes).body → Allowed networks (size_of (frame_of bytes).body)
packet-allowed networks bytes is = is

-- a reply to an Echo is no longer than the Echo
reply-short : (packet : List ℕ) → 20 ≤ (header_of packet).header_length → (header_of packet).header_length ≤ (header_of packet).total_length → 20 + length (payload_of packet) ≤ (header_of packet).total_length
reply-short packet low high =
    omega (arith, low, high, length-take ((header_of packet).total_length - (header_of packet).header_length) (drop (header_of packet).header_length packet))

pub echo-allowed : (networks : Networks) (packet : List ℕ) → 20 ≤ (header_of packet).header_length → (header_of packet).header_length ≤ (header_of packet).total_length → (is_unbroken packet ≡ true) ⊎ FitsBoth networks packet → Allowed networks (asked_of packet).size
echo-allowed networks packet low high (inl unbroken) = inl unbroken
echo-allowed networks packet low high (inr fits) =
    let short = reply-short packet low high in
    inr (omega (arith, fits.0, short), omega (arith, fits.1, short))
