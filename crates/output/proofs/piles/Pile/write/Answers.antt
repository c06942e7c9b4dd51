use Rattle.std.proofs.Common.{◌≡◌, ◌-◌, ◌++◌, ◌∷◌, [], ap, ◌∙◌, length, arith, length-append}
use Rattle.output.proofs.Cut.{cut-push}
use Rattle.output.proofs.piles.Pile.write.Goals as goal

pub returns-clause-strings : goal.returns-clause-strings
returns-clause-strings g c =
    let bytes = g.W.WriteBytes.bytes c.args.source.now in
    let size : c.len.result - c.len-start.result ≡ length bytes =
    omega (arith, ap length c.write_to.ensures.items, length-append c.self.inside.bytes.items bytes, c.len.ensures, c.len-start.ensures, c.write_to.new.list.ok, c.self.inside.bytes.ok) in
    rw (c.push_reserved.ensures.items, c.write_to.ensures.items)
    (cut-push c.self.inside.sizes.items c.self.inside.bytes.items bytes _ c.self.invariant size
    ∙ ap (λ v. v.strings ++ bytes ∷ []) c.self.view_is)
