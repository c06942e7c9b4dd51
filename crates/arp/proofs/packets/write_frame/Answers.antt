use Rattle.std.proofs.Common.{◌≡◌, ℕ, List, [], ◌++◌, length, take, drop, ◌∙◌, ap, arith, length-append, length-drop}
use Rattle.std.proofs.lemmas.List.{take_at, drop_all, append-nil}
use borrow.Rule.Slice.PartMut.{put_mid, post_of}
use Rattle.frames.specs.Frame.{header_bytes}
use Rattle.arp.specs.Packet.{packet_bytes}
use Rattle.arp.proofs.packets.write_frame.Goals as goal

pub returns : goal.returns
returns c =
    let header = header_bytes c.args.dst.0 c.args.src.0 2054 in
    let size : length header ≡ 14 = omega (arith, ap length c.write_header.ensures.written, length-append header (drop 14 c.args.out.now), length-drop 14 c.args.out.now, c.told-out, c.write_header.auto.bytes) in
    let front : take 14 c.write_header.new.bytes ≡ header = ap (take 14) c.write_header.ensures.written ∙ take_at header (drop 14 c.args.out.now) 14 size in
    let back : post_of 14 28 c.write_header.new.bytes ≡ [] = drop_all 28 (drop 14 c.write_header.new.bytes) (omega (arith, length-drop 14 c.write_header.new.bytes, c.told-out, c.write_header.auto.bytes)) in
    let body = c.copy_from_slice.ensures.after ∙ c.body_of.ensures in
    rw (put_mid, front, body) (ap (λ (r : List ℕ). header ++ (packet_bytes c.args.packet.now ++ r)) back ∙ ap (λ (r : List ℕ). header ++ r) (append-nil (packet_bytes c.args.packet.now)))
