use Rattle.std.proofs.Common.{◌≡◌, ℕ, ◌+◌, ◌-◌, length, take, arith, ap, subst, ◌∙◌}
use Rattle.std.specs.List.{filter}
use Rattle.bindings.specs.Ports.{is_spare}
use Rattle.spec_binding.specs.Rows.{as_ports, falling, share}
use Rattle.bind_core.proofs.Granting.{granted-is}
use Rattle.bind_core.proofs.grants.choose_granted.Goals as goal

pub returns : goal.returns
returns c =
    let test = is_spare c.args.table.now.entries c.args.table.now.owned in
    let kept = c.from-kept.result in
    subst (λ (k : ℕ). c.greatest.result ≡ as_ports (take (share (length (filter test (falling c.args.highest.0 (c.args.highest.0 + 1 - c.args.lowest.0))) - k)) (filter test (falling c.args.highest.0 (c.args.highest.0 + 1 - c.args.lowest.0)))))
    c.from-kept.ensures
    (granted-is test c.args.lowest.0 c.args.highest.0 _ kept _ _ (omega arith)
    (c.share-most.ensures.exact ∙ ap share c.saturating_sub.ensures ∙ ap (λ (n : ℕ). share (n - kept)) c.count_spare-spare.ensures) c.greatest.ensures)
