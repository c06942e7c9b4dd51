use Rattle.std.proofs.Common.{◌∙◌, ◌∷◌, ◌+◌, ap, sym, arith, ℕ, List, drop}
use Rattle.fragments.specs.Cut.{pieces}
use Rattle.fragments.proofs.Longs.{count-pieces, next-long}
use Rattle.fragments.proofs.cutters.Cutter.piece.Goals as goal

pub write_piece-requires-clause-there : goal.write_piece-requires-clause-there
write_piece-requires-clause-there c =
    omega (arith, c.requires.there, count-pieces c.args.mtu c.args.frame.now (sym c.is_cut.ensures ∙ c.if-is_cut.true))

pub returns-then-is_cut : goal.returns-then-is_cut
returns-then-is_cut c =
    let long = sym c.is_cut.ensures ∙ c.if-is_cut.true in
    let rest : List (List ℕ) = drop (c.args.k + 1) (pieces c.args.mtu c.args.frame.now) in
    record {
      next =
          next-long c.args.mtu c.args.frame.now c.args.k long c.requires.there
          ∙ ap (λ (x : List ℕ). x ∷ rest) (sym c.write_piece.ensures.items ∙ sym c.deref.ensures.value);
    }
