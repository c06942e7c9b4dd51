use Rattle.std.proofs.Common.{◌≡◌, ◌∙◌, ◌++◌, ◌∷◌, ℕ, List, ap, refl, sym}
use Rattle.nat_types.specs.declared.gateways.GatewayId.{GatewayId}
use Rattle.simulation.specs.Lines.{link_line, link_lines, more, one_more}
use Rattle.simulation.proofs.Parts.{part_more, part_none, part_whole}
use Rattle.simulation.proofs.step_output.print_datagrams.Goals as goal

-- the first datagram, and those after it
first : (i : GatewayId) (sent number : ℕ) (ds es : List (List ℕ)) (d : List ℕ) → ds ≡ d ∷ es → number ≡ one_more sent
    → link_lines i sent ds ≡ link_line i number d ++ link_lines i number es
first i sent number ds es d is counted = rw (is, counted) refl

counts : (sent number : ℕ) (ds es : List (List ℕ)) (d : List ℕ) → ds ≡ d ∷ es → number ≡ one_more sent → more sent ds ≡ more number es
counts sent number ds es d is counted = rw (is, counted) refl

pub loop-bytes-init : goal.loop-bytes-init
loop-bytes-init g c =
    let start : c.into_iter-bytes-iterator.result ≡ c.args.out.now.datagrams = cc in
    rw start (part_none (g.W.Write.contents c.args.output.now) _, refl)

pub loop-bytes-preserved : goal.loop-bytes-preserved
loop-bytes-preserved g c =
    let is = rw c.in-Some.is at c.next.ensures.steps in (
      part_more _ _ _ _ _ _ _ c.loop-bytes.invariant.0 (first c.args.id _ _ _ _ _ is c.saturating_add.ensures) c.in_ok-print_datagram.ensures,
      c.loop-bytes.invariant.1 ∙ counts _ _ _ _ _ is c.saturating_add.ensures,
    )

pub returns-clause-printed : goal.returns-clause-printed
returns-clause-printed g c =
    let ended = rw c.in-None.is at c.next.ensures.steps in
    part_whole _ _ _ _ c.loop-bytes.invariant.0 (ap (link_lines c.args.id c.loop-bytes.sent) ended.0)

pub returns-clause-sent : goal.returns-clause-sent
returns-clause-sent g c =
    let ended = rw c.in-None.is at c.next.ensures.steps in
    sym (c.loop-bytes.invariant.1 ∙ ap (more c.loop-bytes.sent) ended.0)
