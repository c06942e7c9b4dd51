-- The numbers of packets that go out in fragments.
use Rattle.std.proofs.Common.{◌≡◌, ◌≤◌, ◌<◌, ◌+◌, ℕ, zero, suc, Bool, true, false, cond, ◌&&◌, nat_lt, Option, Some, None, IfSome, unwrap_or, List, [], ◌∷◌, ◌++◌, length, take, drop, slice_get, refl, sym, ap, ap₂, subst, ◌∙◌, arith, append_assoc}
use Rattle.std.proofs.lemmas.Bool.Decides.{nat_tests}
use Rattle.std.proofs.lemmas.List.{append-nil, drop_all, take_all}
use Rattle.nat_types.specs.declared.gateways.GatewayId.{GatewayId}
use Rattle.nat_types.specs.declared.gateways.Side.{Side}
use Rattle.nat_types.specs.declared.gateways.Side.TheVariants.{Inside, Outside}
use Rattle.output.specs.Output.{Output, Sent, changed_at, octet_count, with_frames}
use Rattle.packet_rules.specs.declared.networks.Networks.{Networks}
use Rattle.packet_rules.specs.Networks.{mtu_of}
use Rattle.fragments.specs.Cut.{identified, is_cuttable, is_long}
use Rattle.spec_gateway.specs.Sendings.{is_for_many, is_numbered, next_number, number_after, number_of, numbered}
use Rattle.gateway.specs.Gateway.{FitsAtBoth}
use Rattle.gateway.specs.Numbers.{frames_by, number_by}

next-suc : (k : ℕ) → suc (k + 1) ≡ suc k + 1
next-suc k = omega arith

-- ---- the frame at an index, between those before it and those behind it
pub rest-at : (k : ℕ) (frames : List Sent) (f : Sent) → slice_get frames k ≡ Some f → drop k frames ≡ f ∷ drop (k + 1) frames
rest-at k [] f is = absurd (cc)
rest-at zero (x ∷ frames) f is = ap (λ (o : Option Sent). unwrap_or o f ∷ frames) is
rest-at (suc k) (x ∷ frames) f is = rest-at k frames f is ∙ ap (λ (n : ℕ). f ∷ drop n (x ∷ frames)) (next-suc k)

pub changed-rest : (k : ℕ) (change : List ℕ → List ℕ) (frames : List Sent) → drop (k + 1) (changed_at k change frames) ≡ drop (k + 1) frames
changed-rest k change [] = refl
changed-rest zero change (x ∷ frames) = refl
changed-rest (suc k) change (x ∷ frames) =
    ap (λ (n : ℕ). drop n (x ∷ changed_at k change frames)) (sym (next-suc k)) ∙ changed-rest k change frames ∙ ap (λ (n : ℕ). drop n (x ∷ frames)) (next-suc k)

pub changed-front : (k : ℕ) (change : List ℕ → List ℕ) (frames : List Sent) (f : Sent) → slice_get frames k ≡ Some f
    → take (k + 1) (changed_at k change frames) ≡ take k frames ++ record f { bytes = change f.bytes } ∷ []
changed-front k change [] f is = absurd (cc)
changed-front zero change (x ∷ frames) f is =
    ap (λ (o : Option Sent). let y : Sent = record (unwrap_or o f) { bytes = change (unwrap_or o f).bytes } in y ∷ []) is
changed-front (suc k) change (x ∷ frames) f is =
    ap (λ (n : ℕ). take n (x ∷ changed_at k change frames)) (sym (next-suc k)) ∙ ap (λ (fs : List Sent). x ∷ fs) (changed-front k change frames f is)

pub front-at : (k : ℕ) (frames : List Sent) (f : Sent) → slice_get frames k ≡ Some f → take (k + 1) frames ≡ take k frames ++ f ∷ []
front-at k [] f is = absurd (cc)
front-at zero (x ∷ frames) f is = ap (λ (o : Option Sent). unwrap_or o f ∷ []) is
front-at (suc k) (x ∷ frames) f is =
    ap (λ (n : ℕ). take n (x ∷ frames)) (sym (next-suc k)) ∙ ap (λ (fs : List Sent). x ∷ fs) (front-at k frames f is)

pub changed-length : (k : ℕ) (change : List ℕ → List ℕ) (frames : List Sent) → length (changed_at k change frames) ≡ length frames
changed-length k change [] = refl
changed-length zero change (x ∷ frames) = refl
changed-length (suc k) change (x ∷ frames) = ap suc (changed-length k change frames)

-- ---- one more frame is numbered
module _ (networks : Networks) (id : GatewayId) (n k : ℕ) (frames : List Sent) (f : Sent) (is : slice_get frames k ≡ Some f) where
  numbered-by : (b : Bool) → is_numbered networks f ≡ b
      → take k frames ++ numbered networks id n (drop k frames) ≡ take (k + 1) (frames_by b id n k frames) ++ numbered networks id (number_by b n) (drop (k + 1) (frames_by b id n k frames))
  numbered-by true is_one =
      let f2 : Sent = record f { bytes = identified (number_of id n) f.bytes } in
      let rest : List Sent = drop (k + 1) frames in
      ap (λ (fs : List Sent). take k frames ++ numbered networks id n fs) (rest-at k frames f is)
      ∙ ap (λ (b : Bool). take k frames ++ cond b (f2 ∷ numbered networks id (next_number n) rest) (f ∷ numbered networks id n rest)) is_one
      ∙ sym (append_assoc (take k frames) (f2 ∷ []) (numbered networks id (next_number n) rest))
      ∙ ap₂ (λ (xs ys : List Sent). xs ++ numbered networks id (next_number n) ys) (sym (changed-front k (identified (number_of id n)) frames f is)) (sym (changed-rest k (identified (number_of id n)) frames))
  numbered-by false isnt =
      let f2 : Sent = record f { bytes = identified (number_of id n) f.bytes } in
      let rest : List Sent = drop (k + 1) frames in
      ap (λ (fs : List Sent). take k frames ++ numbered networks id n fs) (rest-at k frames f is)
      ∙ ap (λ (b : Bool). take k frames ++ cond b (f2 ∷ numbered networks id (next_number n) rest) (f ∷ numbered networks id n rest)) isnt
      ∙ sym (append_assoc (take k frames) (f ∷ []) (numbered networks id n rest))
      ∙ ap (λ (xs : List Sent). xs ++ numbered networks id n rest) (sym (front-at k frames f is))

  number-by : (b : Bool) → is_numbered networks f ≡ b
      → number_after networks n (drop k frames) ≡ number_after networks (number_by b n) (drop (k + 1) (frames_by b id n k frames))
  number-by true is_one =
      let rest : List Sent = drop (k + 1) frames in
      ap (number_after networks n) (rest-at k frames f is)
      ∙ ap (λ (b : Bool). cond b (number_after networks (next_number n) rest) (number_after networks n rest)) is_one
      ∙ ap (number_after networks (next_number n)) (sym (changed-rest k (identified (number_of id n)) frames))
  number-by false isnt =
      let rest : List Sent = drop (k + 1) frames in
      ap (number_after networks n) (rest-at k frames f is)
      ∙ ap (λ (b : Bool). cond b (number_after networks (next_number n) rest) (number_after networks n rest)) isnt

-- the frame at an index was numbered or not, as it is to be
pub by-frames : (o : Option Sent) (r : Bool) (networks : Networks) (told told2 : Output) (id : GatewayId) (n k value : ℕ) (frames : List Sent)
    → IfSome o (λ f. r ≡ is_numbered networks f) → value ≡ number_of id n → told2 ≡ with_frames told (cond r (changed_at k (identified value) frames) frames)
    → IfSome o (λ f. told2 ≡ with_frames told (frames_by (is_numbered networks f) id n k frames))
by-frames None r networks told told2 id n k value frames is same made = tt
by-frames (Some f) r networks told told2 id n k value frames is same made =
    made ∙ ap₂ (λ (b : Bool) (x : ℕ). with_frames told (cond b (changed_at k (identified x) frames) frames)) is same

pub by-number : (o : Option Sent) (r : Bool) (networks : Networks) (n next : ℕ) → IfSome o (λ f. r ≡ is_numbered networks f) → next ≡ number_by r n
    → IfSome o (λ f. next ≡ number_by (is_numbered networks f) n)
by-number None r networks n next is same = tt
by-number (Some f) r networks n next is same = same ∙ ap (λ (b : Bool). number_by b n) is

-- there is a frame at an index within the list
pub there-is : (k : ℕ) (frames : List Sent) → k < length frames → (f : Sent) × (slice_get frames k ≡ Some f)
there-is k [] there = absurd (omega arith)
there-is zero (x ∷ frames) there = (x, refl)
there-is (suc k) (x ∷ frames) there = there-is k frames (omega arith)

-- ---- frames that fit
short-uncut : (most mtu n : ℕ) (cuttable : Bool) → most ≤ 14 + mtu → n ≤ most → (nat_lt (14 + mtu) n && cuttable) ≡ false
short-uncut most mtu n cuttable fits short = grind (arith, nat_tests)

mtu-fits : (most : ℕ) (networks : Networks) (side : Side) → FitsAtBoth most networks → most ≤ 14 + mtu_of networks side
mtu-fits most networks Inside fits = fits.inside
mtu-fits most networks Outside fits = fits.outside

uncut : (most : ℕ) (networks : Networks) (f : Sent) → FitsAtBoth most networks → length f.bytes ≤ most → is_numbered networks f ≡ false
unfolding is_long
uncut most networks f fits short =
    ap (λ (b : Bool). b && is_for_many networks f) (short-uncut most (mtu_of networks f.side) (length f.bytes) (is_cuttable f.bytes) (mtu-fits most networks f.side fits) short)

pub numbered-short : (most : ℕ) (networks : Networks) (id : GatewayId) (n : ℕ) (frames : List Sent) → FitsAtBoth most networks → octet_count frames ≤ most → numbered networks id n frames ≡ frames
numbered-short most networks id n [] fits short = refl
numbered-short most networks id n (f ∷ frames) fits short =
    let f2 : Sent = record f { bytes = identified (number_of id n) f.bytes } in
    ap (λ (b : Bool). cond b (f2 ∷ numbered networks id (next_number n) frames) (f ∷ numbered networks id n frames)) (uncut most networks f fits (omega (arith, short)))
    ∙ ap (λ (fs : List Sent). f ∷ fs) (numbered-short most networks id n frames fits (omega (arith, short)))

pub number-short : (most : ℕ) (networks : Networks) (n : ℕ) (frames : List Sent) → FitsAtBoth most networks → octet_count frames ≤ most → number_after networks n frames ≡ n
number-short most networks n [] fits short = refl
number-short most networks n (f ∷ frames) fits short =
    ap (λ (b : Bool). cond b (number_after networks (next_number n) frames) (number_after networks n frames)) (uncut most networks f fits (omega (arith, short)))
    ∙ number-short most networks n frames fits (omega (arith, short))

pub octets-more : (front sent : List Sent) → octet_count (front ++ sent) ≡ octet_count front + octet_count sent
octets-more [] sent = omega arith
octets-more (f ∷ front) sent = omega (arith, octets-more front sent)

-- ---- a frame after another
pub record IsLeft (networks : Networks) (id : GatewayId) (n number k : ℕ) (all : List Sent) (told : Output) (told2 : Output) : Type 0 where
  pub told_is : told2 ≡ with_frames told told2.frames
  pub count : length told2.frames ≡ length told.frames
  pub left : all ≡ take k told2.frames ++ numbered networks id number (drop k told2.frames)
  pub number_is : n ≡ number_after networks number (drop k told2.frames)

pub left-next : (networks : Networks) (id : GatewayId) (n number next k : ℕ) (all : List Sent) (told told2 told3 : Output) → k < length told2.frames
    → IfSome (slice_get told2.frames k) (λ f. told3 ≡ with_frames told2 (frames_by (is_numbered networks f) id number k told2.frames))
    → IfSome (slice_get told2.frames k) (λ f. next ≡ number_by (is_numbered networks f) number)
    → IsLeft networks id n number k all told told2 → IsLeft networks id n next (k + 1) all told told3
left-next networks id n number next k all told told2 told3 there frames_are next_is before =
    let one = there-is k told2.frames there in
    let f : Sent = one.0 in
    let b : Bool = is_numbered networks f in
    let made : told3 ≡ with_frames told2 (frames_by b id number k told2.frames) =
    subst (λ (o : Option Sent). IfSome o (λ f. told3 ≡ with_frames told2 (frames_by (is_numbered networks f) id number k told2.frames))) one.1 frames_are in
    let next_by : next ≡ number_by b number =
    subst (λ (o : Option Sent). IfSome o (λ f. next ≡ number_by (is_numbered networks f) number)) one.1 next_is in
    let frames : told3.frames ≡ frames_by b id number k told2.frames = ap (λ (t : Output). t.frames) made in
    record {
      told_is = made ∙ ap (λ (t : Output). with_frames t (frames_by b id number k told2.frames)) before.told_is ∙ ap (with_frames told) (sym frames);
      count = ap length frames ∙ same-count b ∙ before.count;
      left = before.left ∙ numbered-by networks id number k told2.frames f one.1 b refl
          ∙ ap₂ (λ (fs : List Sent) (m : ℕ). take (k + 1) fs ++ numbered networks id m (drop (k + 1) fs)) (sym frames) (sym next_by);
      number_is = before.number_is ∙ number-by networks id number k told2.frames f one.1 b refl
          ∙ ap₂ (λ (fs : List Sent) (m : ℕ). number_after networks m (drop (k + 1) fs)) (sym frames) (sym next_by);
    }
  where
    same-count : (b : Bool) → length (frames_by b id number k told2.frames) ≡ length told2.frames
    same-count true = changed-length k (identified (number_of id number)) told2.frames
    same-count false = refl

pub left-none : (networks : Networks) (id : GatewayId) (n number k : ℕ) (all : List Sent) (told told2 : Output) → length told.frames ≤ k → IsLeft networks id n number k all told told2
    → (told2 ≡ with_frames told all) × (number ≡ n)
left-none networks id n number k all told told2 past is =
    let none : drop k told2.frames ≡ [] = drop_all k told2.frames (omega (arith, past, is.count)) in
    let whole : take k told2.frames ≡ told2.frames = take_all k told2.frames (omega (arith, past, is.count)) in
    let frames : told2.frames ≡ all =
    sym (is.left ∙ ap₂ (λ (xs ys : List Sent). xs ++ numbered networks id number ys) whole none ∙ append-nil told2.frames) in
    (is.told_is ∙ ap (with_frames told) frames, sym (is.number_is ∙ ap (number_after networks number) none))
