use Rattle.std.proofs.Common.{◌+◌, ◌*◌, bit_and, get_or, refl, sym}
use Rattle.port_range.specs.Words.{is_set, has_bit}
use Rattle.port_range.specs.Marks.{has_both}
use Rattle.port_range.proofs.Picking.{mine-bits, ready-bits, none-ready, in-place, in-nothing}
use Rattle.port_range.proofs.marks.drawn_in.Goals as goal

pub returns-in-Some : goal.returns-in-Some
returns-in-Some c =
    let free = c.args.free.now in
    let owned = c.args.owned.now in
    let block = c.args.block in
    let mine = bit_and (get_or owned block 0) c.mask_of.result in
    sym (in-place (has_both free owned) (has_bit owned) c.args.parity block c.args.y (is_set mine) (is_set (bit_and (get_or free block 0) mine))
    (λ i low. mine-bits c.args.parity owned block c.mask_of.result i c.mask_of.ensures low)
    (λ i low. ready-bits c.args.parity free owned block c.mask_of.result i c.mask_of.ensures low)
    c.in-Some.bit (record { 0 = block * 64 + c.in-Some.bit }) c.in-Some.ensures.some refl)

pub returns-in-None : goal.returns-in-None
returns-in-None c =
    let free = c.args.free.now in
    let owned = c.args.owned.now in
    let block = c.args.block in
    let mine = bit_and (get_or owned block 0) c.mask_of.result in
    sym (in-nothing (has_both free owned) (has_bit owned) c.args.parity block c.args.y (is_set mine) (is_set (bit_and (get_or free block 0) mine))
    (λ i low. mine-bits c.args.parity owned block c.mask_of.result i c.mask_of.ensures low)
    (λ i low. ready-bits c.args.parity free owned block c.mask_of.result i c.mask_of.ensures low)
    (λ i low. none-ready (get_or free block 0) mine i (c.in-None.ensures.none i low)))
