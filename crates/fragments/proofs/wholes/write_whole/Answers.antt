use Rattle.std.proofs.Common.{arith}
use Rattle.fragments.proofs.Writing.{length-is}
use Rattle.fragments.proofs.wholes.write_whole.Goals as goal

pub put_headers-requires : goal.put_headers-requires
put_headers-requires c =
    let size = length-is _ c.first_with-first.result.frame.now c.first_with-first.ensures in
    omega (arith, c.requires.long, size)

pub fill_from-requires-clause-long : goal.fill_from-requires-clause-long
fill_from-requires-clause-long c =
    let size = length-is _ c.first_with-first.result.frame.now c.first_with-first.ensures in
    omega (arith, c.requires.long, size, c.header_length.ensures.value, c.put_headers.ensures.len)
