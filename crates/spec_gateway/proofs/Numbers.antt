-- Frames that are sent: none is numbered where none is too long.
use Rattle.std.proofs.Common.{◌≡◌, ℕ, Bool, true, false, cond, ◌&&◌, List, [], ◌∷◌, ◌++◌, length, map, refl, ap, ap₂, ◌∙◌, sym, arith, length-append}
use Rattle.std.specs.List.{AllByRecursion}
use Rattle.nat_types.specs.declared.gateways.GatewayId.{GatewayId}
use Rattle.ipv4.specs.Header.{header_of}
use Rattle.fragments.specs.Fragment.{ipv4_in}
use Rattle.fragments.specs.Cut.{cut, identified}
use Rattle.output.specs.Output.{Output, Sent}
use Rattle.packet_rules.specs.declared.networks.Networks.{Networks}
use Rattle.packet_rules.specs.Networks.{mtu_of}
use Rattle.spec_gateway.specs.Sendings.{all_pieces, is_cut, is_for_many, is_numbered, next_number, number_after, number_of, numbered, pieces_of}

pub record ShortStay (networks : Networks) (id : GatewayId) (n : ℕ) (frames : List Sent) : Type 0 where
  pub same : numbered networks id n frames ≡ frames
  pub none : number_after networks n frames ≡ n
  pub whole : all_pieces networks frames ≡ frames

short-and : (a b : Bool) → a ≡ false → (a && b) ≡ false
short-and false b e = refl
short-and true b e = absurd (cc)

-- what goes out for a frame that isn't too long
one-piece : (networks : Networks) (f : Sent) → is_cut networks f ≡ false → pieces_of networks f ≡ f ∷ []
one-piece networks f short =
    ap (λ (all : List (List ℕ)). map (λ (bytes : List ℕ). let g : Sent = record { side = f.side; bytes = bytes } in g) all)
    (ap (λ (b : Bool). cond b (cut (mtu_of networks f.side) (header_of (ipv4_in f.bytes)).identification f.bytes) (f.bytes ∷ [])) short)

pub short-stay : (networks : Networks) (id : GatewayId) (n : ℕ) (frames : List Sent) → AllByRecursion (λ f. is_cut networks f ≡ false) frames → ShortStay networks id n frames
short-stay networks id n [] short = record { same = refl; none = refl; whole = refl }
short-stay networks id n (f ∷ frames) short =
    let rest = short-stay networks id n frames short.1 in
    let no : is_numbered networks f ≡ false = short-and (is_cut networks f) (is_for_many networks f) short.0 in
    record {
      same =
          ap (λ (b : Bool). cond b (record f { bytes = identified (number_of id n) f.bytes } ∷ numbered networks id (next_number n) frames) (f ∷ numbered networks id n frames)) no
          ∙ ap (λ (xs : List Sent). f ∷ xs) rest.same;
      none = ap (λ (b : Bool). cond b (number_after networks (next_number n) frames) (number_after networks n frames)) no ∙ rest.none;
      whole = ap₂ (λ (a b : List Sent). a ++ b) (one-piece networks f short.0) rest.whole;
    }

-- ---- where nothing more is sent
pub no-more : (xs ys : List Sent) → xs ≡ xs ++ ys → ys ≡ []
no-more xs [] e = refl
no-more xs (y ∷ ys) e = absurd (omega (arith, ap length e, length-append xs (y ∷ ys)))

append-none : (xs : List Sent) → xs ++ [] ≡ xs
append-none [] = refl
append-none (x ∷ xs) = ap (λ (ys : List Sent). x ∷ ys) (append-none xs)

-- the output with the same frames
pub told-same : (networks : Networks) (id : GatewayId) (n : ℕ) (whole told : Output) (sent : List Sent) → whole ≡ told → whole.frames ≡ told.frames ++ sent
    → ((let o : Output = record whole { frames = told.frames ++ numbered networks id n sent } in o) ≡ told) × (number_after networks n sent ≡ n)
told-same networks id n whole told sent same frames =
    let none : sent ≡ [] = no-more told.frames sent (sym (ap (λ (o : Output). o.frames) same) ∙ frames) in (
      ap₂ (λ (o : Output) (xs : List Sent). let made : Output = record o { frames = told.frames ++ numbered networks id n xs } in made) same none
          ∙ ap (λ (xs : List Sent). let made : Output = record told { frames = xs } in made) (append-none told.frames),
      ap (λ (xs : List Sent). number_after networks n xs) none,
    )
