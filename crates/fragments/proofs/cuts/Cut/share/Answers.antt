use Rattle.std.proofs.Common.{◌≡◌, ◌≤◌, ◌<◌, ◌+◌, ◌-◌, ◌*◌, ℕ, List, length, take, drop, ap, ◌∙◌, sym, arith}
use Rattle.std.proofs.lemmas.Bool.{leb-false, leb-true}
use Rattle.std.proofs.lemmas.List.{length-drop, length-take-le}
use Rattle.ipv4.specs.Header.{header_of, payload_of}
use Rattle.fragments.specs.Cut.{is_last_piece, step_of}
use Rattle.fragments.proofs.Sizes.{payload-size, sizes, step-left}
use Rattle.fragments.proofs.cuts.Cut.share.Goals as goal

-- what is left behind a place, as a slice
left : (payload : List ℕ) (place : ℕ) → length (take (length payload - place) (drop place payload)) ≡ length payload - place
left payload place =
    length-take-le (length payload - place) (drop place payload) (omega (arith, length-drop place payload))

pub slice_bounds-result-end : goal.slice_bounds-result-end
unfolding is_last_piece
slice_bounds-result-end c =
    let mtu = c.args.self.now.mtu in
    let packet = c.args.self.now.packet.bytes.now in
    let right = c.args.self.now.packet.right in
    let h = (header_of packet).header_length in
    let n = length (payload_of packet) in
    let s = step_of mtu packet in
    let size = payload-size packet right.holds_header right.there in
    let long : mtu < (header_of packet).total_length - c.args.k * s =
    leb-false ((header_of packet).total_length - c.args.k * s) mtu (sym c.is_last.ensures ∙ c.if-is_last.false) in
    let more : c.args.k * s + s < n = step-left mtu h n s c.args.k (sizes mtu packet c.args.self.now.limits right) (omega (arith, long, size)) in
    let there = ap (λ (xs : List ℕ). length xs) c.payload.ensures in
    let behind = left c.payload.result.now c.place-place.result in
    let fits = length-take-le c.step.result (take (length c.payload.result.now - c.place-place.result) (drop c.place-place.result c.payload.result.now)) (omega (arith, behind, there, more, c.place-place.ensures.value, c.step.ensures.value)) in
    sym fits

pub returns-then-is_last-clause-fits : goal.returns-then-is_last-clause-fits
unfolding is_last_piece
returns-then-is_last-clause-fits c =
    let mtu = c.args.self.now.mtu in
    let packet = c.args.self.now.packet.bytes.now in
    let right = c.args.self.now.packet.right in
    let s = step_of mtu packet in
    let size = payload-size packet right.holds_header right.there in
    let low : (header_of packet).total_length - c.args.k * s ≤ mtu =
    leb-true ((header_of packet).total_length - c.args.k * s) mtu (sym c.is_last.ensures ∙ c.if-is_last.true) in
    let there = ap (λ (xs : List ℕ). length xs) c.payload.ensures in
    let behind = left c.payload.result.now c.place-place.result in
    omega (arith, low, size, there, behind, c.place-place.ensures.value, c.place-place.ensures.within)
