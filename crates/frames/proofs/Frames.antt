-- The fields of a frame after a write into one of them.
use Rattle.std.proofs.Common.{◌≡◌, ℕ, ◌≤◌, List, length, take, ap, ◌∙◌, sym, arith, lit≤}
use Rattle.byteorder.specs.Endian.{big_number}
use Rattle.frames.specs.Bytes.{Puts}
use Rattle.frames.specs.Frame.{Frame, IsFrame, frame_of}
use Rattle.frames.proofs.Puts.{take-before, part-here, drop-after}

-- two frames with the same fields are equal
same_fields : (f : Frame) (g : Frame) → f.dst ≡ g.dst → f.src ≡ g.src → f.ethertype ≡ g.ethertype → f.body ≡ g.body → f ≡ g
same_fields f g d s t b =
    ap (λ (x : List ℕ). let h : Frame = record { dst = x; src = f.src; ethertype = f.ethertype; body = f.body } in h) d
    ∙ ap (λ (x : List ℕ). let h : Frame = record { dst = g.dst; src = x; ethertype = f.ethertype; body = f.body } in h) s
    ∙ ap (λ (x : ℕ). let h : Frame = record { dst = g.dst; src = g.src; ethertype = x; body = f.body } in h) t
    ∙ ap (λ (x : List ℕ). let h : Frame = record { dst = g.dst; src = g.src; ethertype = g.ethertype; body = x } in h) b

pub frame-puts_dst : (dst old new : List ℕ) → length dst ≡ 6 → IsFrame old → Puts 0 dst old new → frame_of new ≡ record (frame_of old) { dst = dst }
frame-puts_dst dst old new size long puts =
    let fits : 0 ≤ length old = omega arith in
    same_fields (frame_of new) (record (frame_of old) { dst = dst })
    (part-here 0 6 dst old new (sym size) fits puts)
    (ap (take 6) (drop-after 0 6 dst old new (omega arith) fits puts))
    (ap (big_number 2) (drop-after 0 12 dst old new (omega arith) fits puts))
    (drop-after 0 14 dst old new (omega arith) fits puts)

pub frame-puts_src : (src old new : List ℕ) → length src ≡ 6 → IsFrame old → Puts 6 src old new → frame_of new ≡ record (frame_of old) { src = src }
frame-puts_src src old new size long puts =
    let fits : 6 ≤ length old = omega arith in
    same_fields (frame_of new) (record (frame_of old) { src = src })
    (take-before 6 6 src old new (lit≤ tt) fits puts)
    (part-here 6 6 src old new (sym size) fits puts)
    (ap (big_number 2) (drop-after 6 12 src old new (omega arith) fits puts))
    (drop-after 6 14 src old new (omega arith) fits puts)
