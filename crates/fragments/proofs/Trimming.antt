-- A frame without its padding carries the same fragment.
use Rattle.std.proofs.Common.{◌≡◌, ℕ, ◌+◌, ◌-◌, ◌≤◌, List, [], ◌∷◌, ◌++◌, length, take, drop, refl, ap, ◌∙◌, sym, subst, arith}
use Rattle.std.proofs.Math.Seq.{take-append-add}
use Rattle.std.proofs.lemmas.List.{drop-take, length-take-le, take-take, length-drop}
use Rattle.sums.specs.Sum.{IsRight}
use Rattle.ipv4.specs.Header.{Header, header_of, is_fragment, options_of}
use Rattle.ipv4.specs.Options.{has_source_route}
use Rattle.fragments.specs.Fragment.{HasHeader, IsFragment, ipv4_in, trimmed}

-- the fields of a header are read from its first 20 bytes
pub header-front : (p : List ℕ) (t : ℕ) → 20 ≤ t → 20 ≤ length p → header_of (take t p) ≡ header_of p
header-front (b0 ∷ b1 ∷ b2 ∷ b3 ∷ b4 ∷ b5 ∷ b6 ∷ b7 ∷ b8 ∷ b9 ∷ b10 ∷ b11 ∷ b12 ∷ b13 ∷ b14 ∷ b15 ∷ b16 ∷ b17 ∷ b18 ∷ b19 ∷ rest) t low long =
    let front : List ℕ = b0 ∷ b1 ∷ b2 ∷ b3 ∷ b4 ∷ b5 ∷ b6 ∷ b7 ∷ b8 ∷ b9 ∷ b10 ∷ b11 ∷ b12 ∷ b13 ∷ b14 ∷ b15 ∷ b16 ∷ b17 ∷ b18 ∷ b19 ∷ [] in
    let more : t ≡ 20 + (t - 20) = omega arith in
    ap (λ (n : ℕ). header_of (take n (front ++ rest))) more
    ∙ ap header_of (take-append-add front rest (t - 20))
header-front _ t low long = absurd (omega arith)

-- so are the options, which lie within the packet
options-front : (p : List ℕ) (t : ℕ) → 20 ≤ t → 20 ≤ length p → (header_of p).header_length ≤ t → options_of (take t p) ≡ options_of p
options-front p t low long fits =
    let size : ℕ = (header_of p).header_length in
    let more : t ≡ 20 + (t - 20) = omega arith in
    ap (λ (h : Header). take (h.header_length - 20) (drop 20 (take t p))) (header-front p t low long)
    ∙ ap (λ (n : ℕ). take (size - 20) (drop 20 (take n p))) more
    ∙ ap (take (size - 20)) (drop-take 20 (t - 20) p)
    ∙ take-take (size - 20) (t - 20) (drop 20 p) (omega (arith, fits))

cut-header : (p : List ℕ) (t : ℕ) → (header_of p).total_length ≡ t → HasHeader p → HasHeader (take t p)
cut-header p t is has =
    let low : 20 ≤ t = omega (arith, is, has.holds_fields, has.holds_header) in
    let same : header_of (take t p) ≡ header_of p = header-front p t low has.long in
    let size : length (take t p) ≡ t = length-take-le t p (omega (arith, is, has.there)) in
    let total : (header_of (take t p)).total_length ≡ t = ap (λ (h : Header). h.total_length) same ∙ is in
    let short : (header_of p).header_length ≤ t = omega (arith, is, has.holds_header) in
    record {
      long = omega (arith, size, low);
      version = ap (λ (h : Header). h.version) same ∙ has.version;
      holds_fields = subst (λ (h : Header). 20 ≤ h.header_length) (sym same) has.holds_fields;
      holds_header = subst (λ (h : Header). h.header_length ≤ h.total_length) (sym same) has.holds_header;
      there = omega (arith, total, size);
      sum = subst (λ (h : Header). IsRight (take h.header_length (take t p))) (sym same)
          (subst IsRight (sym (take-take (header_of p).header_length t p short)) has.sum);
      no_source_route = ap has_source_route (options-front p t low has.long short) ∙ has.no_source_route;
    }

pub trimmed-fragment : (frame : List ℕ) → IsFragment frame → IsFragment (trimmed frame)
unfolding trimmed
trimmed-fragment frame is =
    let t = (header_of (ipv4_in frame)).total_length in
    let behind : ipv4_in (take (14 + t) frame) ≡ take t (ipv4_in frame) = drop-take 14 t frame in
    let there : t ≤ length (ipv4_in frame) = is.header.there in
    let size : length (take (14 + t) frame) ≡ 14 + t = length-take-le (14 + t) frame (omega (arith, there, length-drop 14 frame, is.whole)) in
    let low : 20 ≤ t = omega (arith, is.header.holds_fields, is.header.holds_header) in
    record {
      whole = omega (arith, size);
      header = subst HasHeader (sym behind) (cut-header (ipv4_in frame) t refl is.header);
      part = ap (λ (p : List ℕ). is_fragment (header_of p)) behind ∙ (ap is_fragment (header-front (ipv4_in frame) t low is.header.long) ∙ is.part);
    }
