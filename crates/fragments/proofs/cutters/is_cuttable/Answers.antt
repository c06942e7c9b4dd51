use Rattle.std.proofs.Common.{◌≡◌, ◌≤◌, ◌+◌, ◌∙◌, ap, List, ℕ, true, length, is_none, not, Bool, rules}
use Rattle.frames.specs.Frame.{frame_of}
use Rattle.ipv4.specs.Header.{header_of, ipv4_refusal, is_unbroken}
use Rattle.fragments.specs.Fragment.{ipv4_in}
use Rattle.fragments.proofs.Longs.{cuttable-is}
use Rattle.fragments.proofs.cutters.is_cuttable.Goals as goal

pub returns : goal.returns
returns c =
    let frame : List ℕ = c.args.frame.now in
    let framed : 14 ≤ length frame = search rules in
    let kind : (frame_of frame).ethertype ≡ 2048 = search rules in
    let packet : is_none (ipv4_refusal (ipv4_in frame)) ≡ true = search rules in
    let size : length frame ≡ 14 + (header_of (ipv4_in frame)).total_length = search rules in
    let last : c.is_unbroken.result ≡ is_unbroken (ipv4_in frame) = search rules in
    ap (λ (b : Bool). not b) last ∙ cuttable-is frame framed kind packet size
