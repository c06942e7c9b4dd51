use Rattle.std.proofs.Common.{◌∙◌, ◌++◌, ap, ap₂, List, ℕ, drop}
use Rattle.ipv4.specs.Header.{options_of}
use Rattle.fragments.specs.Cut.{numbered_fields}
use Rattle.fragments.specs.Header.{fixed_summed}
use Rattle.fragments.proofs.Identifying.{numbered-is}
use Rattle.fragments.proofs.numbering.set_identification.Goals as goal

pub returns : goal.returns
returns c =
    let frame : List ℕ = c.args.frame.now in
    let id : ℕ = c.args.identification in
    let body = c.split_mut-packet.ensures.body in
    ap₂ (λ (header rest : List ℕ). header ++ rest) c.split_mut-packet.ensures.header
    (ap₂ (λ (fixed packet : List ℕ). fixed ++ drop 20 packet)
    (c.copy_from_slice.ensures.after ∙ c.renumbered-fixed.ensures ∙ ap (λ (p : List ℕ). fixed_summed (numbered_fields id p) p (options_of p)) body)
    body)
    ∙ numbered-is id frame c.requires.packet c.requires.unpadded
