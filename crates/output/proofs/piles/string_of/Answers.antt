use Rattle.std.proofs.Common.{◌≡◌, ◌+◌, ◌-◌, ℕ, List, Some, take, drop, slice_index, slice_index_or, sym, ap₂, ◌∙◌, arith}
use Rattle.output.proofs.Places.{string_is}
use Rattle.output.proofs.piles.string_of.Goals as goal

pub returns : goal.returns
returns c =
    let bytes : List ℕ = c.args.bytes.now in
    let size : c.start_of-start.result + slice_index_or c.args.sizes.now c.args.k 0 - c.start_of-start.result ≡ slice_index c.args.sizes.now c.args.k = omega arith in
    string_is c.args.sizes.now bytes c.args.k c.requires.there
    ∙ ap₂ (λ n m. Some (take n (drop m bytes))) (sym size) (sym c.start_of-start.ensures.start)
