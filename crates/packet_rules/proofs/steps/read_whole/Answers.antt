use Rattle.std.proofs.Common.{◌≡◌, Result, Ok, Err, IfErr, IfOk, refl, sym, ◌∙◌}
use Rattle.packet_rules.specs.declared.readings.Reading.{Reading}
use Rattle.packet_rules.specs.declared.reasons.Reason.{Reason}
use Rattle.packet_rules.specs.declared.reasons.Reason.TheVariants.{TtlOver}
use Rattle.packet_rules.specs.Asked.{IsWhole}
use Rattle.packet_rules.specs.Steps.{Carries}
use Rattle.packet_rules.proofs.steps.read_whole.Goals as goal

if-ok : (r : Result Reading Reason) (K : Reading → Type 0) → ((x : Reading) → r ≡ Ok x → K x) → IfOk r K
if-ok (Ok x) K known = known x refl
if-ok (Err reason) K known = tt

pub returns-clause-carries : goal.returns-clause-carries
returns-clause-carries c = if-ok c.take_steps.result (Carries c.args.side c.args.bytes.now) (λ x is. c.readings_law.ensures.carries c.args.side c.args.network.now c.args.active c.args.up c.args.bytes.now x (sym c.take_steps.ensures ∙ is))

if-err : (r : Result Reading Reason) (K : Reason → Type 0) → ((x : Reason) → r ≡ Err x → K x) → IfErr r K
if-err (Ok x) K known = tt
if-err (Err reason) K known = known reason refl

-- a result whose error is a reason that is TtlOver is the error TtlOver
err-same : (r : Result Reading Reason) (x : Reason) → r ≡ Err x → x ≡ TtlOver → r ≡ Err TtlOver
err-same r x is same = cc

pub returns-clause-over : goal.returns-clause-over
returns-clause-over c = if-err c.take_steps.result (λ reason. reason ≡ TtlOver → IsWhole c.args.bytes.now) (λ x is over. c.readings_law.ensures.over c.args.side c.args.network.now c.args.active c.args.up c.args.bytes.now (sym c.take_steps.ensures ∙ err-same c.take_steps.result x is over))
