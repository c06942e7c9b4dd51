use Rattle.std.proofs.Common.{◌<◌, ◌≤◌, ◌||◌, ap, ◌∙◌, arith}
use Rattle.port_range.specs.Ports.{is_owned}
use Rattle.bindings.specs.Ports.{in_bounds, lowest_of}
use Rattle.bindings.proofs.Rising.{both-owned, owned-all}
use Rattle.bindings.proofs.ports.Ports.own_all.Goals as goal

pub returns-clause-list : goal.returns-clause-list
returns-clause-list c =
    let zero = c.args.zero in
    let one = c.args.one in
    let old = c.args.self.now.tcp in
    let above : 0 < lowest_of zero one = (let low : 1024 ≤ old.lowest = c.recall.ensures.low in let same = c.requires.alike.tcp.low in omega (arith, low, same)) in
    owned-all zero one c.own_range-2.new.self.tcp.owned c.recall-2.ensures.rising above
    (λ p. c.own_range-2.ensures.tcp p ∙ ap (λ b. b || in_bounds one p) (c.own_range.ensures.tcp p)
    ∙ both-owned (is_owned old p) (in_bounds zero p) (in_bounds one p) (c.requires.inside p))
