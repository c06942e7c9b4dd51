use Rattle.std.proofs.Common.{◌≡◌, ℕ, ◌+◌, ◌++◌, length, ap, ◌∙◌, arith}
use Rattle.frames.proofs.Offered.{three-appended}
use Rattle.icmp.specs.Own.{own_head, own_header}
use Rattle.icmp.proofs.own.append.Goals as goal

pub returns-clause-items : goal.returns-clause-items
returns-clause-items c =
    let way = c.args.way in
    let said = c.args.said in
    let carried = c.args.carried.now in
    let list = c.args.list.now.items in
    let head = own_head said.kind said.code said.first said.second carried in
    let total : 28 + length carried ≡ 20 + length (head ++ carried) = omega arith in
    let header = c.summed_header-header.ensures ∙ ap (λ (n : ℕ). own_header way.cutting way.service n way.from.0 way.to.0) total in
    three-appended list _ _ _ c.append_reserved.new.list.items c.append_reserved-2.new.list.items c.append_reserved-3.new.list.items
    (c.append_reserved.ensures.items ∙ ap (λ xs. list ++ xs) header)
    (c.append_reserved-2.ensures.items ∙ ap (λ xs. c.append_reserved.new.list.items ++ xs) c.summed_head-head.ensures)
    c.append_reserved-3.ensures.items
