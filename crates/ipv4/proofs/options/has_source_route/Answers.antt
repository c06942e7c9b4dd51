use Rattle.std.proofs.Common.{◌≡◌, ◌-◌, ◌<◌, ℕ, false, List, length, take, drop, slice_index, ap, ◌∙◌, sym, arith}
use Rattle.std.proofs.lemmas.List.{take_rest}
use Rattle.ipv4.specs.Options.{has_source_route, is_source_route, option_size}
use Rattle.ipv4.proofs.Routes.{route-ends, route-first, route-goes, route-past}
use Rattle.ipv4.proofs.options.has_source_route.Goals as goal

-- src/options.rt:72:13
pub returns-then-is_source_route : goal.returns-then-is_source_route
returns-then-is_source_route c =
    sym (route-first c.loop-rest.rest.now (sym c.is_source_route.ensures ∙ c.if-is_source_route.true)) ∙ c.loop-rest.invariant

-- src/options.rt:76:13
pub returns-then-size-eq0 : goal.returns-then-size-eq0
returns-then-size-eq0 c =
    sym (route-ends c.loop-rest.rest.now (sym c.is_source_route.ensures ∙ c.if-is_source_route.false) (sym c.option_size-size.ensures.value ∙ c.if-size-eq0.true))
    ∙ c.loop-rest.invariant

-- src/options.rt:70:5
pub loop-rest-preserved : goal.loop-rest-preserved
loop-rest-preserved c =
    let rest : List ℕ = c.loop-rest.rest.now in
    let size : ℕ = c.option_size-size.result in
    let is_size : size ≡ option_size rest = c.option_size-size.ensures.value in
    let none : is_source_route (slice_index rest 0) ≡ false = sym c.is_source_route.ensures ∙ c.if-is_source_route.false in
    let some : 0 < size = omega arith in
    let ahead : take (length rest - size) (drop size rest) ≡ drop size rest = take_rest rest size in
    ap has_source_route ahead
    ∙ ap (λ (n : ℕ). has_source_route (drop n rest)) is_size
    ∙ sym (route-goes rest none (omega (arith, some, is_size)))
    ∙ c.loop-rest.invariant

-- src/options.rt:65:1
pub returns : goal.returns
returns c = sym (route-past c.loop-rest.rest.now c.in_default.len_below) ∙ c.loop-rest.invariant
