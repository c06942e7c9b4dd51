use Rattle.std.proofs.Common.{◌≡◌, ◌-◌, ◌∷◌, [], ◌∙◌, List, ℕ, ap, rules, slice_index, subst}
use Rattle.frames.specs.Bytes.{Puts}
use Rattle.sums.specs.Sum.{checksum_of}
use Rattle.rewrite.specs.Translated.{header_unsummed, header_with, with_word}
use Rattle.rewrite.proofs.Moved.{header-put}
use Rattle.rewrite.proofs.headers.rewrite_header.Goals as goal

pub returns : goal.returns
returns c =
    let h = c.args.header.now in
    let new = c.args.new in
    let checksum = c.header_checksum-checksum.result in
    let viewed = c.new-view.ensures.bytes in
    let ttl = ap (λ (n : ℕ). n - 1) (c.ttl-ttl.ensures ∙ ap (λ (b : List ℕ). slice_index b 8) viewed) in
    let lowered = subst (λ (b : List ℕ). Puts 8 ((c.ttl-ttl.result - 1) ∷ []) b c.set_ttl.new.self.bytes.now) viewed c.set_ttl.ensures.written in
    let summed = c.header_checksum-checksum.ensures ∙ ap (λ (b : List ℕ). checksum_of (header_unsummed new b)) viewed in
    let put : c.set_destination.new.self.bytes.now ≡ header_with new h =
    header-put new h c.set_ttl.new.self.bytes.now c.set_checksum.new.self.bytes.now c.set_source.new.self.bytes.now c.set_destination.new.self.bytes.now (c.ttl-ttl.result - 1) checksum c.requires.long ttl lowered c.set_checksum.ensures.written c.set_source.ensures.written c.set_destination.ensures.written
    ∙ ap (λ x. with_word 10 x (header_unsummed new h)) summed in
    search (rules, put)
