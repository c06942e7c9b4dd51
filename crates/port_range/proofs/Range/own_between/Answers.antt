use Rattle.std.proofs.Common.{ℕ, ◌≤◌, List, sym, ap, ◌∙◌, arith}
use Rattle.port_range.specs.Ports.{Range}
use Rattle.port_range.specs.Words.{has_bit}
use Rattle.port_range.proofs.Listed.{listed-more, within-more}
use Rattle.port_range.proofs.Range.own_between.Goals as goal

pub invariant_of-self : goal.invariant_of-self
invariant_of-self c =
    let i = c.self.inside in
    let l : i.lowest.0 ≤ c.args.lowest.0 = (let seen = ap (λ (r : Range). r.lowest) c.self.view_is in let low = c.requires.low in omega (arith, seen, low)) in
    let h : c.args.highest.0 ≤ i.highest.0 = (let seen = ap (λ (r : Range). r.highest) c.self.view_is in let high = c.requires.high in omega (arith, seen, high)) in
    record {
      low = c.self.invariant.low;
      order = c.self.invariant.order;
      high = c.self.invariant.high;
      free = λ port holds. c.self.invariant.free port (ap (λ (words : List ℕ). has_bit words port) (sym c.own_between.ensures.free) ∙ holds);
      owned = within-more i.lowest.0 i.highest.0 c.args.lowest.0 c.args.highest.0 i.marks.owned c.own_between.new.self.owned c.self.invariant.owned l h c.own_between.ensures.owned;
    }

pub returns-clause-owned : goal.returns-clause-owned
returns-clause-owned c =
    let i = c.self.inside in
    let l : i.lowest.0 ≤ c.args.lowest.0 = (let seen = ap (λ (r : Range). r.lowest) c.self.view_is in let low = c.requires.low in omega (arith, seen, low)) in
    let h : c.args.highest.0 ≤ i.highest.0 = (let seen = ap (λ (r : Range). r.highest) c.self.view_is in let high = c.requires.high in omega (arith, seen, high)) in
    rw (← c.self.view_is)
    (listed-more i.lowest.0 i.highest.0 c.args.lowest.0 c.args.highest.0 i.marks.owned c.own_between.new.self.owned c.self.invariant.order c.self.invariant.owned l h c.own_between.ensures.owned)
