use Rattle.std.proofs.Common.{◌*◌, ◌^◌, ◌<◌, get_or, bit_and, arith, rules}
use Rattle.std.proofs.lemmas.Nat.{and_le_r, ones-le}
use Rattle.port_range.specs.Marks.{has_both}
use Rattle.port_range.proofs.Counting.{count-le}
use Rattle.port_range.proofs.Keeping.{both-more, both-all}
use Rattle.port_range.proofs.marks.count_both.Goals as goal

pub overflow_add-count : goal.overflow_add-count
overflow_add-count c =
    let free = c.args.free.now in
    let owned = c.args.owned.now in
    let index = c.loop-index.index in
    let fits : get_or owned index 0 < 2 ^ 64 = search rules in
    let low : bit_and (get_or free index 0) (get_or owned index 0) < 2 ^ 64 = omega (arith, and_le_r (get_or free index 0) (get_or owned index 0), fits) in
    omega (arith, c.loop-index.auto.index-end, c.loop-index.invariant, count-le (has_both free owned) 0 (64 * index), ones-le 64 (bit_and (get_or free index 0) (get_or owned index 0)) low)

pub loop-index-preserved : goal.loop-index-preserved
loop-index-preserved c =
    let fits : get_or c.args.owned.now c.loop-index.index 0 < 2 ^ 64 = search rules in
    omega (arith, c.loop-index.invariant, both-more c.args.free.now c.args.owned.now c.loop-index.index fits)

pub returns : goal.returns
returns c =
    both-all c.args.free.now c.args.owned.now c.loop-index.index c.loop-index.count (omega (arith, c.loop-index-test.false, c.loop-index.auto.index-end)) c.loop-index.invariant
