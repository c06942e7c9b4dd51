use Rattle.std.proofs.Common.{ℕ, ◌+◌, List, ◌++◌, ap₂, ◌∙◌, arith}
use Rattle.ipv4.specs.Header.{header_of}
use Rattle.fragments.specs.Fragment.{ipv4_in}
use Rattle.fragments.specs.Header.{fixed_summed, header_with}
use Rattle.fragments.proofs.Writing.{fronts}
use Rattle.fragments.proofs.wholes.put_headers.Goals as goal

pub returns-clause-front : goal.returns-clause-front
unfolding header_with
returns-clause-front c =
    let f = c.args.first.now.frame.now in
    let old = c.args.frame.now in
    let e = c.ethernet.result.now in
    let h = c.summed-header.result in
    let o = c.options-2.result.now in
    let n = 14 + (header_of (ipv4_in f)).header_length in
    (fronts e h o old c.put_bytes.new.frame c.put_bytes-2.new.frame c.put_bytes-3.new.frame n c.ethernet.ensures.fourteen (omega arith) (omega (arith, c.options-2.ensures.size)) c.requires c.put_bytes.ensures c.put_bytes-2.ensures c.put_bytes-3.ensures).front
    ∙ ap₂ (λ (xs ys : List ℕ). xs ++ ys) c.ethernet.ensures.bytes
    (ap₂ (λ (xs ys : List ℕ). xs ++ ys)
    (c.summed-header.ensures ∙ ap₂ (λ (p : List ℕ) (xs : List ℕ). fixed_summed c.args.fields p xs) c.packet.ensures.bytes c.options.ensures.bytes)
    c.options-2.ensures.bytes)
