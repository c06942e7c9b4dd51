use Rattle.std.proofs.Common.{◌≡◌, length, take, arith}
use Rattle.std.proofs.lemmas.List.{length-take-le}
use Rattle.fragments.proofs.cuts.append_piece.Goals as goal

-- src/cuts.rt:194:5
pub append_reserved-requires : goal.append_reserved-requires
append_reserved-requires c =
    let ethernet : length (take 14 c.args.frame.now) ≡ 14 = length-take-le 14 c.args.frame.now c.requires.frame.whole in
    omega (arith, ethernet, c.requires.room)

-- src/cuts.rt:195:5
pub append_header-requires : goal.append_header-requires
append_header-requires c =
    let ethernet : length (take 14 c.args.frame.now) ≡ 14 = length-take-le 14 c.args.frame.now c.requires.frame.whole in
    record { room = omega (arith, ethernet, c.requires.room, c.append_reserved.ensures.len, c.append_reserved.ensures.capacity, c.share-share.ensures.fits, c.of-cut.ensures.mtu) }

-- src/cuts.rt:196:5
pub append_reserved-requires-2 : goal.append_reserved-requires-2
append_reserved-requires-2 c =
    let ethernet : length (take 14 c.args.frame.now) ≡ 14 = length-take-le 14 c.args.frame.now c.requires.frame.whole in
    omega (arith, ethernet, c.requires.room, c.append_reserved.ensures.len, c.append_reserved.ensures.capacity, c.append_header.ensures.len, c.append_header.ensures.capacity, c.share-share.ensures.fits, c.of-cut.ensures.mtu)

-- src/cuts.rt:182:1
pub returns-clause-len : goal.returns-clause-len
returns-clause-len c =
    let ethernet : length (take 14 c.args.frame.now) ≡ 14 = length-take-le 14 c.args.frame.now c.requires.frame.whole in
    omega (arith, ethernet, c.append_reserved.ensures.len, c.append_header.ensures.len, c.append_reserved-2.ensures.len, c.share-share.ensures.fits, c.of-cut.ensures.mtu)
