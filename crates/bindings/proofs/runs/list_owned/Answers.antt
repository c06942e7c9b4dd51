use Rattle.std.proofs.Common.{◌≡◌, ℕ, ◌+◌, ◌++◌, ◌∷◌, List, [], map, sym, ap, ◌∙◌, append_assoc, arith}
use Rattle.addresses.specs.declared.transport.Port.{Port}
use Rattle.port_range.specs.Ports.{Range, IsRange, is_listed}
use Rattle.bindings.specs.Runs.{port_at, ports_from_on}
use Rattle.bindings.proofs.Unbroken.{from-skip, from-take, all-owned, none-owned}
use Rattle.bindings.proofs.runs.list_owned.Goals as goal
use Rattle.bindings.proofs.runs.list_owned.Goals.{else-loop-port-test, then-loop-port-test+else-port-port-end, then-owns+in_ok-push, else-owns}

-- the list and the ports left stay the same together after an owned port is pushed
pushed : (r : Range) (q : ℕ) (out more : List Port) → IsRange r → is_listed q r.owned ≡ Rattle.std.proofs.Common.true → more ≡ out ++ (port_at q ∷ []) → more ++ map port_at (ports_from_on (q + 1) r.owned) ≡ out ++ map port_at (ports_from_on q r.owned)
pushed r q out more is there pushed_is =
    ap (λ ps. ps ++ map port_at (ports_from_on (q + 1) r.owned)) pushed_is
    ∙ append_assoc out (port_at q ∷ []) (map port_at (ports_from_on (q + 1) r.owned))
    ∙ ap (λ qs. out ++ map port_at qs) (sym (from-take 0 q r.owned is.rising there))

-- the list and the ports left stay the same together after a port that isn't owned is skipped
passed : (r : Range) (q : ℕ) (out : List Port) → is_listed q r.owned ≡ Rattle.std.proofs.Common.false → out ++ map port_at (ports_from_on (q + 1) r.owned) ≡ out ++ map port_at (ports_from_on q r.owned)
passed r q out other = ap (λ qs. out ++ map port_at qs) (sym (from-skip q r.owned other))

nothing-left : (out : List Port) (qs : List ℕ) → qs ≡ [] → out ++ map port_at qs ≡ out
nothing-left out qs is = ap (λ zs. out ++ map port_at zs) is ∙ Rattle.std.proofs.Common.append-nil out

pub loop-port-init : goal.loop-port-init
loop-port-init c =
    let low = c.requires.lowest in
    rw c.new-ports.ensures.items
    (ap (λ (n : ℕ). map port_at (ports_from_on n c.args.range.now.owned)) (sym low) ∙ ap (map port_at) (all-owned c.args.range.now c.recall.ensures))

pub loop-port-preserved : goal.loop-port-preserved
loop-port-preserved c =
    let r = c.args.range.now in
    let q = c.loop-port.port in
    elim c.if-owns.branch [
      | then-owns+in_ok-push w ↦ rw w.ports-is (pushed r q c.loop-port.ports.items _ c.recall.ensures (sym c.owns.ensures ∙ w.if-owns.true) w.in_ok-push.ensures.items ∙ c.loop-port.invariant)
      | else-owns w ↦ rw w.ports-is (passed r q c.loop-port.ports.items (sym c.owns.ensures ∙ w.if-owns.false) ∙ c.loop-port.invariant)
    ]

pub returns-clause-items : goal.returns-clause-items
returns-clause-items c =
    let r = c.args.range.now in
    let q = c.loop-port.port in
    let end = c.requires.highest in
    elim c.loop-port-test.branch [
      | else-loop-port-test w ↦
          rw w.ports-is (sym (nothing-left c.loop-port.ports.items (ports_from_on q r.owned) (none-owned r q c.recall.ensures (let past = w.loop-port-test.false in omega (arith, past, end)))) ∙ c.loop-port.invariant)
      | then-loop-port-test+else-port-port-end w ↦
          (let none : ports_from_on (q + 1) r.owned ≡ [] = none-owned r (q + 1) c.recall.ensures (omega arith) in
          elim w.if-owns.branch [
            | then-owns+in_ok-push w' ↦
                rw (w.ports-is, w'.ports-is)
                (sym (nothing-left _ (ports_from_on (q + 1) r.owned) none)
                ∙ pushed r q c.loop-port.ports.items _ c.recall.ensures (sym w.owns.ensures ∙ w'.if-owns.true) w'.in_ok-push.ensures.items ∙ c.loop-port.invariant)
            | else-owns w' ↦
                rw (w.ports-is, w'.ports-is)
                (sym (nothing-left _ (ports_from_on (q + 1) r.owned) none)
                ∙ passed r q c.loop-port.ports.items (sym w.owns.ensures ∙ w'.if-owns.false) ∙ c.loop-port.invariant)
          ])
    ]
