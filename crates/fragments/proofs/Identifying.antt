-- A frame whose packet has another identification.
use Rattle.std.proofs.Common.{◌≡◌, ◌≤◌, ◌+◌, ◌-◌, ℕ, List, ◌++◌, length, take, drop, ap, ◌∙◌, sym, arith, append_assoc, length-drop}
use Rattle.std.proofs.lemmas.List.{drop-drop, take-append-drop, take_all}
use Rattle.ipv4.specs.Header.{header_of, options_of, payload_of}
use Rattle.fragments.specs.Cut.{IsIpv4Frame, identified, numbered_fields}
use Rattle.fragments.specs.Fragment.{ipv4_in}
use Rattle.fragments.specs.Header.{fixed_summed, header_with}

-- what stands behind the first 20 bytes of a packet without padding: h bytes of header, t in all
behind-fixed : (p : List ℕ) (h t : ℕ) → 20 ≤ h → h ≤ t → length p ≡ t → drop 20 p ≡ take (h - 20) (drop 20 p) ++ take (t - h) (drop h p)
behind-fixed p h t low high size =
    sym (take-append-drop (h - 20) (drop 20 p))
    ∙ ap (λ (rest : List ℕ). take (h - 20) (drop 20 p) ++ rest)
    (drop-drop (h - 20) 20 p
    ∙ ap (λ (n : ℕ). drop n p) (let e : 20 + (h - 20) ≡ h = omega (arith, low) in e)
    ∙ sym (take_all (t - h) (drop h p) (omega (arith, length-drop h p, size, high))))

pub numbered-is : (identification : ℕ) (frame : List ℕ) → IsIpv4Frame frame → length frame ≡ 14 + (header_of (ipv4_in frame)).total_length
    → take 14 frame ++ (fixed_summed (numbered_fields identification (ipv4_in frame)) (ipv4_in frame) (options_of (ipv4_in frame)) ++ drop 20 (ipv4_in frame)) ≡ identified identification frame
unfolding identified header_with
numbered-is identification frame is unpadded =
    let packet : List ℕ = ipv4_in frame in
    let fixed : List ℕ = fixed_summed (numbered_fields identification packet) packet (options_of packet) in
    let rest = behind-fixed packet (header_of packet).header_length (header_of packet).total_length is.packet.holds_fields is.packet.holds_header (omega (arith, length-drop 14 frame, unpadded)) in
    ap (λ (bytes : List ℕ). take 14 frame ++ (fixed ++ bytes)) rest
    ∙ ap (λ (bytes : List ℕ). take 14 frame ++ bytes) (sym (append_assoc fixed (options_of packet) (payload_of packet)))
    ∙ sym (append_assoc (take 14 frame) (fixed ++ options_of packet) (payload_of packet))
