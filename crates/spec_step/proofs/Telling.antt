-- What is told of a part is true: of a part of which nothing is told, of two parts one after the other, of frames of
-- another kind, and of packets whose wait is over.
use Rattle.std.proofs.Common.{◌≡◌, ◌≤◌, arith, inl, ℕ, true, not, ◌&&◌, List, [], ◌∷◌, ◌++◌, map, filter, flat_map, IsPermutation, refl, sym, ap, ◌∙◌, subst, append_assoc}
use Rattle.std.specs.List.{AllByRecursion}
use Rattle.std.proofs.lemmas.List.{map-append, append-nil}
use Rattle.std.proofs.lemmas.List.Elements.{filter-append}
use Rattle.std.proofs.lemmas.Grind.{flat_map-append}
use Rattle.std.proofs.lemmas.List.Sorted.{IsPermutation-refl, IsPermutation-sym, IsPermutation-trans, IsPermutation-append_comm, IsPermutation-append_left, IsPermutation-append_right, IsPermutation-map, IsPermutation-filter_both}
use Rattle.nat_types.specs.declared.gateways.Side.{Side}
use Rattle.nat_types.specs.declared.gateways.Side.TheVariants.{Inside, Outside}
use Rattle.nat_types.specs.declared.notes.Note.{Note}
use Rattle.nat_types.specs.declared.pairs.Pair.{Pair}
use Rattle.spec_binding.specs.Uses.{IsTranslated}
use Rattle.waiting.specs.declared.waits.Ended.{Ended}
use Rattle.waiting.specs.Packets.{HeldPacket, ended_by, is_young, left_by}
use Rattle.waiting.specs.Waits.{ends}
use Rattle.packet_rules.specs.declared.networks.Networks.{Networks}
use Rattle.packet_rules.specs.Errors.{is_error_frame}
use Rattle.packet_rules.specs.Frames.{is_translation, pairs_of}
use Rattle.packet_rules.specs.Own.{is_own_frame}
use Rattle.interfaces.specs.declared.tallies.Tally.{Tally}
use Rattle.interfaces.specs.Tallies.{IsWithin}
use Rattle.output.specs.Output.{Sent, with_frame}
use Rattle.spec_step.specs.Others.{MayGoBy, is_other}
use Rattle.spec_step.specs.OwnAnswers.{AreWithin, IsOwnOf, OwnFrame, Purpose, counted_for, own_frames, tallied}
use Rattle.spec_step.specs.Parts.{framed, old_dropped}
use Rattle.spec_step.specs.PassedOn.{ArePassedOn, IsPassedOn, TellsAll, error_frames}
use Rattle.spec_step.specs.Shown.{GatewayAndOutput, Shown, scene, station_on, with_station}
use Rattle.spec_step.specs.Truly.{AreSent, AreServed, AtHand, Known, Sending, Tells, is_own, known_of, packets_of, translated_frames, used_in, used_pairs}
use Rattle.spec_step.proofs.FrameKinds.{other-none}
use Rattle.spec_step.proofs.Rooting.{has-more, has-then, same-rooted}
use Rattle.spec_step.proofs.Steady.{SameTable, Steady, served-append, served-more, serves-first, serves-second, steady-same, steady-then}

-- what is told of a part, the pairs by which the gateway translates after it, and that endpoints keep their pairs
pub record Told (hand : List AtHand) (s s2 : GatewayAndOutput) : Type 0 where
  pub all : TellsAll hand s s2
  pub roots : (p : Pair) → IsTranslated s2.shown.ledger.book.entries p → MayGoBy s.shown all.notes p
  pub steady : Steady s s2 all.notes
  pub within : AreWithin s.shown → AreWithin s2.shown
  pub later : s.shown.moment ≤ s2.shown.moment

-- no frame of the gateway's own was sent, and the clock doesn't run back
abbrev pub SameSaid : Shown → Shown → Type 0
SameSaid g g2 = (g2.inside.said ≡ g.inside.said) × ((g2.outside.said ≡ g.outside.said) × (g.moment ≤ g2.moment))

pub within-by : (g g2 : Shown) → SameSaid g g2 → AreWithin g → AreWithin g2
within-by g g2 same within = (subst IsWithin (sym same.0) within.0, subst IsWithin (sym same.1.0) within.1)

abbrev pub at_hand : Side → List ℕ → AtHand
at_hand side bytes = record { side = side; bytes = bytes }

-- ---- lists with the same elements

pub swap-front : {X : Type 0} (a b c : List X) → IsPermutation (a ++ (b ++ c)) (b ++ (a ++ c))
swap-front a b c =
    let base = IsPermutation-append_left c (a ++ b) (b ++ a) (IsPermutation-append_comm a b) in
    subst (λ xs. IsPermutation xs (b ++ (a ++ c))) (append_assoc a b c) (subst (λ ys. IsPermutation ((a ++ b) ++ c) ys) (append_assoc b a c) base)

pub shuffled : {X : Type 0} (a b c d : List X) → IsPermutation ((a ++ b) ++ (c ++ d)) ((a ++ c) ++ (b ++ d))
shuffled a b c d =
    subst (λ xs. IsPermutation xs ((a ++ c) ++ (b ++ d))) (sym (append_assoc a b (c ++ d)))
    (subst (λ ys. IsPermutation (a ++ (b ++ (c ++ d))) ys) (sym (append_assoc a c (b ++ d))) (IsPermutation-append_right a _ _ (swap-front b c d)))

-- what is sent, dropped and kept of the packets at hand in two parts
joined : {X : Type 0} (m d kb h ka m2 d2 kc h2 : List X) → IsPermutation (m ++ (d ++ kb)) (h ++ ka) → IsPermutation (m2 ++ (d2 ++ kc)) (h2 ++ kb)
    → IsPermutation ((m ++ m2) ++ ((d ++ d2) ++ kc)) ((h ++ h2) ++ ka)
joined m d kb h ka m2 d2 kc h2 one two =
    let start : (m ++ m2) ++ ((d ++ d2) ++ kc) ≡ m ++ (m2 ++ (d ++ (d2 ++ kc))) = append_assoc m m2 ((d ++ d2) ++ kc) ∙ ap (λ xs. m ++ (m2 ++ xs)) (append_assoc d d2 kc) in
    let s1 = IsPermutation-append_right m _ _ (swap-front m2 d (d2 ++ kc)) in
    let s2 = IsPermutation-append_right m _ _ (IsPermutation-append_right d _ _ two) in
    let s3 = IsPermutation-append_right m _ _ (swap-front d h2 kb) in
    let s4 = swap-front m h2 (d ++ kb) in
    let s5 = IsPermutation-append_right h2 _ _ one in
    let s6 = swap-front h2 h ka in
    let end : h ++ (h2 ++ ka) ≡ (h ++ h2) ++ ka = sym (append_assoc h h2 ka) in
    let all = IsPermutation-trans _ _ _ s1 (IsPermutation-trans _ _ _ s2 (IsPermutation-trans _ _ _ s3 (IsPermutation-trans _ _ _ s4 (IsPermutation-trans _ _ _ s5 s6)))) in
    subst (λ xs. IsPermutation xs ((h ++ h2) ++ ka)) (sym start) (subst (λ ys. IsPermutation (m ++ (m2 ++ (d ++ (d2 ++ kc)))) ys) end all)

-- what is sent, passed on, dropped and kept of the packets at hand in two parts
passed-joined : {X : Type 0} (m e d kb h ka m2 e2 d2 kc h2 : List X) → IsPermutation (m ++ (e ++ (d ++ kb))) (h ++ ka) → IsPermutation (m2 ++ (e2 ++ (d2 ++ kc))) (h2 ++ kb)
    → IsPermutation ((m ++ m2) ++ ((e ++ e2) ++ ((d ++ d2) ++ kc))) ((h ++ h2) ++ ka)
passed-joined m e d kb h ka m2 e2 d2 kc h2 one two =
    let first = subst (λ xs. IsPermutation xs (h ++ ka)) (sym (append_assoc m e (d ++ kb))) one in
    let second = subst (λ xs. IsPermutation xs (h2 ++ kb)) (sym (append_assoc m2 e2 (d2 ++ kc))) two in
    let both = joined (m ++ e) d kb h ka (m2 ++ e2) d2 kc h2 first second in
    let mixed = IsPermutation-append_left ((d ++ d2) ++ kc) _ _ (shuffled m m2 e e2) in
    subst (λ xs. IsPermutation xs ((h ++ h2) ++ ka)) (append_assoc (m ++ m2) (e ++ e2) ((d ++ d2) ++ kc)) (IsPermutation-trans _ _ _ mixed both)

-- what is sent, passed on, answered, dropped and kept of the packets at hand in two parts
all-joined : {X : Type 0} (m e o d kb h ka m2 e2 o2 d2 kc h2 : List X) → IsPermutation (m ++ (e ++ (o ++ (d ++ kb)))) (h ++ ka) → IsPermutation (m2 ++ (e2 ++ (o2 ++ (d2 ++ kc)))) (h2 ++ kb)
    → IsPermutation ((m ++ m2) ++ ((e ++ e2) ++ ((o ++ o2) ++ ((d ++ d2) ++ kc)))) ((h ++ h2) ++ ka)
all-joined m e o d kb h ka m2 e2 o2 d2 kc h2 one two =
    let rest = (d ++ d2) ++ kc in
    let first = subst (λ xs. IsPermutation (m ++ xs) (h ++ ka)) (sym (append_assoc e o (d ++ kb))) one in
    let second = subst (λ xs. IsPermutation (m2 ++ xs) (h2 ++ kb)) (sym (append_assoc e2 o2 (d2 ++ kc))) two in
    let both = passed-joined m (e ++ o) d kb h ka m2 (e2 ++ o2) d2 kc h2 first second in
    let mixed = IsPermutation-append_right (m ++ m2) _ _ (IsPermutation-append_left rest _ _ (shuffled e e2 o o2)) in
    subst (λ xs. IsPermutation ((m ++ m2) ++ xs) ((h ++ h2) ++ ka)) (append_assoc (e ++ e2) (o ++ o2) rest) (IsPermutation-trans _ _ _ mixed both)

-- ---- lists of what is sent

each-append : (k : Known) (ds es : List Sending) → AreSent k ds → AreSent k es → AreSent k (ds ++ es)
each-append k [] es x y = y
each-append k (d ∷ ds) es x y = (x.0, each-append k ds es x.1 y)

module _ (P Q : Pair → Type 0) (more : (p : Pair) → P p → Q p) where
  pairs-more : (ps : List Pair) → AllByRecursion P ps → AllByRecursion Q ps
  pairs-more [] all = tt
  pairs-more (p ∷ ps) all = (more p all.0, pairs-more ps all.1)

  passed-more : (k : Known) (ds : List Sending) → ArePassedOn k P ds → ArePassedOn k Q ds
  passed-more k [] all = tt
  passed-more k (d ∷ ds) all =
      let x = all.0 in
      let one : IsPassedOn k Q d.packet d.by d.sent = record { goes = x.goes; translate = pairs-more (pairs_of d.by) x.translate; side = x.side; next = x.next; hop = x.hop; bytes_are = x.bytes_are } in
      (one, passed-more k ds all.1)

passed-append : (k : Known) (P : Pair → Type 0) (ds es : List Sending) → ArePassedOn k P ds → ArePassedOn k P es → ArePassedOn k P (ds ++ es)
passed-append k P [] es x y = y
passed-append k P (d ∷ ds) es x y = (x.0, passed-append k P ds es x.1 y)

pub tallied-append : (now : ℕ) (side : Side) (os ps : List OwnFrame) (t : Tally) → tallied now side (os ++ ps) t ≡ tallied now side ps (tallied now side os t)
tallied-append now side [] ps t = refl
tallied-append now side (o ∷ os) ps t = tallied-append now side os ps _

own-append : (k : Known) (os ps : List OwnFrame) → AllByRecursion (IsOwnOf k) os → AllByRecursion (IsOwnOf k) ps → AllByRecursion (IsOwnOf k) (os ++ ps)
own-append k [] ps x y = y
own-append k (o ∷ os) ps x y = (x.0, own-append k os ps x.1 y)

-- ---- parts

-- nothing false is told where packets at hand are dropped
pub tells-nothing : (s : GatewayAndOutput) (hand : List AtHand) → Told hand s s
tells-nothing s hand = record {
  all = record {
    frames = [];
    frames_are = sym (append-nil s.told.frames);
    notes = [];
    notes_are = sym (append-nil s.told.notes);
    done = [];
    translated = refl;
    used = refl;
    each = tt;
    served = tt;
    passed = [];
    errors = refl;
    each_error = tt;
    served_errors = tt;
    own = [];
    own_are = refl;
    each_own = tt;
    counted_inside = refl;
    counted_outside = refl;
    dropped = hand;
    once = IsPermutation-refl (hand ++ packets_of s.shown.kept);
  };
  roots = λ p t. inl t;
  steady = steady-same s s [] (refl, (refl, refl));
  within = λ h. h;
  later = omega arith;
}

-- what two parts tell
module _ (h h2 : List AtHand) (a b c : GatewayAndOutput) (same : known_of c.shown ≡ known_of b.shown) (x : Told h a b) (y : Told h2 b c) where
  abbrev both-notes : List Note
  both-notes = x.all.notes ++ y.all.notes

  nets : c.shown.networks ≡ b.shown.networks
  nets = ap (λ (k : Known). k.networks) same

  both-errors : error_frames c.shown.networks (x.all.frames ++ y.all.frames) ≡ map (λ (t : Sending). t.sent) (x.all.passed ++ y.all.passed)
  both-errors =
      filter-append (λ (f : Sent). not (is_own c.shown.networks f) && is_error_frame f.bytes) x.all.frames y.all.frames
      ∙ ap (λ (n : Networks). error_frames n x.all.frames ++ error_frames c.shown.networks y.all.frames) nets
      ∙ ap (λ fs. fs ++ error_frames c.shown.networks y.all.frames) x.all.errors
      ∙ ap (λ fs. map (λ (t : Sending). t.sent) x.all.passed ++ fs) y.all.errors
      ∙ sym (map-append (λ (t : Sending). t.sent) x.all.passed y.all.passed)

  both-translated : translated_frames c.shown.networks (x.all.frames ++ y.all.frames) ≡ map (λ (t : Sending). t.sent) (x.all.done ++ y.all.done)
  both-translated =
      filter-append (λ (f : Sent). not (is_own c.shown.networks f) && is_translation f.side f.bytes) x.all.frames y.all.frames
      ∙ ap (λ (n : Networks). translated_frames n x.all.frames ++ translated_frames c.shown.networks y.all.frames) nets
      ∙ ap (λ fs. fs ++ translated_frames c.shown.networks y.all.frames) x.all.translated
      ∙ ap (λ fs. map (λ (t : Sending). t.sent) x.all.done ++ fs) y.all.translated
      ∙ sym (map-append (λ (t : Sending). t.sent) x.all.done y.all.done)

  both-passed : ArePassedOn (known_of c.shown) (MayGoBy a.shown both-notes) (x.all.passed ++ y.all.passed)
  both-passed =
      let k = known_of c.shown in
      let may = MayGoBy a.shown both-notes in
      let first = subst (λ (n : Known). ArePassedOn n (MayGoBy a.shown x.all.notes) x.all.passed) (sym same) x.all.each_error in
      passed-append k may x.all.passed y.all.passed
      (passed-more (MayGoBy a.shown x.all.notes) may (has-more a.shown x.all.notes y.all.notes) k x.all.passed first)
      (passed-more (MayGoBy b.shown y.all.notes) may (has-then a.shown b.shown x.all.notes y.all.notes x.roots) k y.all.passed y.all.each_error)

  both-own : own_frames c.shown.networks (x.all.frames ++ y.all.frames) ≡ map (λ (o : OwnFrame). o.sent) (x.all.own ++ y.all.own)
  both-own =
      filter-append (is_own c.shown.networks) x.all.frames y.all.frames
      ∙ ap (λ (n : Networks). own_frames n x.all.frames ++ own_frames c.shown.networks y.all.frames) nets
      ∙ ap (λ fs. fs ++ own_frames c.shown.networks y.all.frames) x.all.own_are
      ∙ ap (λ fs. map (λ (o : OwnFrame). o.sent) x.all.own ++ fs) y.all.own_are
      ∙ sym (map-append (λ (o : OwnFrame). o.sent) x.all.own y.all.own)

  both-once : IsPermutation ((h ++ h2) ++ packets_of a.shown.kept)
      (map (λ (t : Sending). t.packet) (x.all.done ++ y.all.done) ++ (map (λ (t : Sending). t.packet) (x.all.passed ++ y.all.passed)
      ++ (map (λ (o : OwnFrame). o.packet) (x.all.own ++ y.all.own) ++ ((x.all.dropped ++ y.all.dropped) ++ packets_of c.shown.kept))))
  both-once =
      let view = λ (t : Sending). t.packet in
      let about = λ (o : OwnFrame). o.packet in
      let ka = packets_of a.shown.kept in let kb = packets_of b.shown.kept in let kc = packets_of c.shown.kept in
      let rest = (x.all.dropped ++ y.all.dropped) ++ kc in
      let hands = (h ++ h2) ++ ka in
      let all = all-joined (map view x.all.done) (map view x.all.passed) (map about x.all.own) x.all.dropped kb h ka (map view y.all.done) (map view y.all.passed) (map about y.all.own) y.all.dropped kc h2
      (IsPermutation-sym _ _ x.all.once) (IsPermutation-sym _ _ y.all.once) in
      let sent = subst (λ ps. IsPermutation (ps ++ ((map view x.all.passed ++ map view y.all.passed) ++ ((map about x.all.own ++ map about y.all.own) ++ rest))) hands) (sym (map-append view x.all.done y.all.done)) all in
      let passed = subst (λ ps. IsPermutation (map view (x.all.done ++ y.all.done) ++ (ps ++ ((map about x.all.own ++ map about y.all.own) ++ rest))) hands) (sym (map-append view x.all.passed y.all.passed)) sent in
      IsPermutation-sym _ _
      (subst (λ ps. IsPermutation (map view (x.all.done ++ y.all.done) ++ (map view (x.all.passed ++ y.all.passed) ++ (ps ++ rest))) hands) (sym (map-append about x.all.own y.all.own)) passed)

  moment : c.shown.moment ≡ b.shown.moment
  moment = ap (λ (k : Known). k.moment) same

  both-counted : (side : Side) (ta tb tc : Tally) → tb ≡ tallied b.shown.moment side x.all.own ta → tc ≡ tallied c.shown.moment side y.all.own tb → tc ≡ tallied c.shown.moment side (x.all.own ++ y.all.own) ta
  both-counted side ta tb tc one two =
      two
      ∙ ap (tallied c.shown.moment side y.all.own) (one ∙ ap (λ (n : ℕ). tallied n side x.all.own ta) (sym moment))
      ∙ sym (tallied-append c.shown.moment side x.all.own y.all.own ta)

  both-served : (ds es : List Sending) → AreServed a ds b → AreServed b es c → AreServed a (ds ++ es) c
  both-served ds es first second =
      served-append a c ds es
      (served-more a b a c (serves-first a b c x.all.notes y.all.notes x.steady y.steady moment x.all.notes_are y.all.notes_are) ds first)
      (served-more b c a c (serves-second a b c x.all.notes y.all.notes x.steady y.steady moment x.all.notes_are y.all.notes_are) es second)

  -- what is told of two parts, one after the other, is true of both together
  pub tells-then : Told (h ++ h2) a c
  tells-then = record {
    all = record {
      frames = x.all.frames ++ y.all.frames;
      frames_are = y.all.frames_are ∙ ap (λ fs. fs ++ y.all.frames) x.all.frames_are ∙ append_assoc a.told.frames x.all.frames y.all.frames;
      notes = both-notes;
      notes_are = y.all.notes_are ∙ ap (λ ns. ns ++ y.all.notes) x.all.notes_are ∙ append_assoc a.told.notes x.all.notes y.all.notes;
      done = x.all.done ++ y.all.done;
      translated = both-translated;
      used = flat_map-append (λ (n : Note). used_in n.what) x.all.notes y.all.notes ∙ ap (λ ps. ps ++ used_pairs y.all.notes) x.all.used ∙ ap (λ ps. flat_map (λ (t : Sending). pairs_of t.by) x.all.done ++ ps) y.all.used ∙ sym (flat_map-append (λ (t : Sending). pairs_of t.by) x.all.done y.all.done);
      each = each-append (known_of c.shown) x.all.done y.all.done (subst (λ k. AreSent k x.all.done) (sym same) x.all.each) y.all.each;
      served = both-served x.all.done y.all.done x.all.served y.all.served;
      passed = x.all.passed ++ y.all.passed;
      errors = both-errors;
      each_error = both-passed;
      served_errors = both-served x.all.passed y.all.passed x.all.served_errors y.all.served_errors;
      own = x.all.own ++ y.all.own;
      own_are = both-own;
      each_own = own-append (known_of c.shown) x.all.own y.all.own (subst (λ k. AllByRecursion (IsOwnOf k) x.all.own) (sym same) x.all.each_own) y.all.each_own;
      counted_inside = both-counted Inside a.shown.inside.said b.shown.inside.said c.shown.inside.said x.all.counted_inside y.all.counted_inside;
      counted_outside = both-counted Outside a.shown.outside.said b.shown.outside.said c.shown.outside.said x.all.counted_outside y.all.counted_outside;
      dropped = x.all.dropped ++ y.all.dropped;
      once = both-once;
    };
    roots = λ p t. has-then a.shown b.shown x.all.notes y.all.notes x.roots p (y.roots p t);
    steady = steady-then a b c x.all.notes y.all.notes x.steady y.steady moment;
    within = λ h. y.within (x.within h);
    later = omega (arith, x.later, y.later);
  }

-- nothing false is told of a part that makes only these notes, which name no use, and leaves the packets that wait
pub tells-quietly : (s s2 : GatewayAndOutput) (notes : List Note) → s2.told.frames ≡ s.told.frames → s2.told.notes ≡ s.told.notes ++ notes → used_pairs notes ≡ [] → s2.shown.kept ≡ s.shown.kept
    → ((p : Pair) → IsTranslated s2.shown.ledger.book.entries p → MayGoBy s.shown notes p) → Steady s s2 notes → SameSaid s.shown s2.shown → Told [] s s2
tells-quietly s s2 notes frames noted none kept roots steady said = record {
  all = record {
    frames = [];
    frames_are = frames ∙ sym (append-nil s.told.frames);
    notes = notes;
    notes_are = noted;
    done = [];
    translated = refl;
    used = none;
    each = tt;
    served = tt;
    passed = [];
    errors = refl;
    each_error = tt;
    served_errors = tt;
    own = [];
    own_are = refl;
    each_own = tt;
    counted_inside = said.0;
    counted_outside = said.1.0;
    dropped = [];
    once = subst (λ (ws : List HeldPacket). IsPermutation (packets_of s.shown.kept) (packets_of ws)) (sym kept) (IsPermutation-refl (packets_of s.shown.kept));
  };
  roots = roots;
  steady = steady;
  within = within-by s.shown s2.shown said;
  later = said.1.1;
}

-- nothing false is told of a part that sends and notes nothing, and leaves the table
pub tells-unseen : (s s2 : GatewayAndOutput) → s2.told.frames ≡ s.told.frames → s2.told.notes ≡ s.told.notes → SameTable s.shown s2.shown → s2.shown.kept ≡ s.shown.kept → SameSaid s.shown s2.shown → Told [] s s2
tells-unseen s s2 frames notes same kept said =
    tells-quietly s s2 [] frames (notes ∙ sym (append-nil s.told.notes)) refl kept (same-rooted s.shown.ledger.book.entries s2.shown.ledger.book.entries [] same.0)
    (steady-same s s2 [] same) said

-- nothing false is told where a frame of another kind is sent
pub framed-tells : (s : GatewayAndOutput) (side : Side) (bytes : List ℕ) → is_other s.shown.networks side bytes ≡ true → Told [] s (framed s side bytes)
framed-tells s side bytes other =
    let none = other-none s.shown.networks side bytes other in
    record {
      all = record {
        frames = record { side = side; bytes = bytes } ∷ [];
        frames_are = refl;
        notes = [];
        notes_are = sym (append-nil s.told.notes);
        done = [];
        translated = rw (none.0, none.1.0) refl;
        used = refl;
        each = tt;
        served = tt;
        passed = [];
        errors = rw (none.0, none.1.1) refl;
        each_error = tt;
        served_errors = tt;
        own = [];
        own_are = rw none.0 refl;
        each_own = tt;
        counted_inside = refl;
        counted_outside = refl;
        dropped = [];
        once = IsPermutation-refl (packets_of s.shown.kept);
      };
      roots = λ p t. inl t;
      steady = steady-same s (framed s side bytes) [] (refl, (refl, refl));
      within = λ h. h;
      later = omega arith;
    }

-- the scene after the gateway said something of the packet at hand, and counted it
abbrev pub own_scene : GatewayAndOutput → OwnFrame → GatewayAndOutput
own_scene s o =
    let side = o.packet.side in
    let station = station_on s.shown side in
    scene (with_station s.shown side (record station { said = counted_for o.purpose s.shown.moment station.said })) (with_frame s.told side o.sent.bytes)

pub own-tells : (s : GatewayAndOutput) (side : Side) (bytes : List ℕ) (purpose : Purpose) (frame : List ℕ)
    → (let x : Sent = record { side = side; bytes = frame } in let o : OwnFrame = record { packet = at_hand side bytes; purpose = purpose; sent = x } in
    is_own_frame s.shown.networks side frame ≡ true → IsOwnOf (known_of s.shown) o
    → (IsWithin (station_on s.shown side).said → IsWithin (counted_for purpose s.shown.moment (station_on s.shown side).said)) → Told (o.packet ∷ []) s (own_scene s o))
own-tells s Inside bytes purpose frame own is within =
    let x : Sent = record { side = Inside; bytes = frame } in
    let o : OwnFrame = record { packet = at_hand Inside bytes; purpose = purpose; sent = x } in
    record {
      all = record {
        frames = x ∷ [];
        frames_are = refl;
        notes = [];
        notes_are = sym (append-nil s.told.notes);
        done = [];
        translated = rw own refl;
        used = refl;
        each = tt;
        served = tt;
        passed = [];
        errors = rw own refl;
        each_error = tt;
        served_errors = tt;
        own = o ∷ [];
        own_are = rw own refl;
        each_own = (is, tt);
        counted_inside = refl;
        counted_outside = refl;
        dropped = [];
        once = IsPermutation-refl (o.packet ∷ packets_of s.shown.kept);
      };
      roots = λ p t. inl t;
      steady = steady-same s (own_scene s o) [] (refl, (refl, refl));
      within = λ h. (within h.0, h.1);
      later = omega arith;
    }
own-tells s Outside bytes purpose frame own is within =
    let x : Sent = record { side = Outside; bytes = frame } in
    let o : OwnFrame = record { packet = at_hand Outside bytes; purpose = purpose; sent = x } in
    record {
      all = record {
        frames = x ∷ [];
        frames_are = refl;
        notes = [];
        notes_are = sym (append-nil s.told.notes);
        done = [];
        translated = rw own refl;
        used = refl;
        each = tt;
        served = tt;
        passed = [];
        errors = rw own refl;
        each_error = tt;
        served_errors = tt;
        own = o ∷ [];
        own_are = rw own refl;
        each_own = (is, tt);
        counted_inside = refl;
        counted_outside = refl;
        dropped = [];
        once = IsPermutation-refl (o.packet ∷ packets_of s.shown.kept);
      };
      roots = λ p t. inl t;
      steady = steady-same s (own_scene s o) [] (refl, (refl, refl));
      within = λ h. (h.0, within h.1);
      later = omega arith;
    }

-- old packets are dropped
pub old-tells : (s : GatewayAndOutput) → Told [] s (old_dropped s)
old-tells s =
    let moment = s.shown.moment in
    let kept = s.shown.kept in
    let young = filter (is_young moment) kept in
    let old = filter (λ w. not (is_young moment w)) kept in
    let view = λ (w : HeldPacket). let p : AtHand = record { side = w.side; bytes = w.bytes } in p in
    let both = IsPermutation-map view _ _ (IsPermutation-filter_both (is_young moment) (λ w. not (is_young moment w)) (λ w. refl) kept) in
    let parts : IsPermutation (packets_of kept) (packets_of young ++ packets_of old) = subst (λ ps. IsPermutation (packets_of kept) ps) (map-append view young old) both in
    record {
      all = record {
        frames = [];
        frames_are = sym (append-nil s.told.frames);
        notes = [];
        notes_are = sym (append-nil s.told.notes);
        done = [];
        translated = refl;
        used = refl;
        each = tt;
        served = tt;
        passed = [];
        errors = refl;
        each_error = tt;
        served_errors = tt;
        own = [];
        own_are = refl;
        each_own = tt;
        counted_inside = refl;
        counted_outside = refl;
        dropped = packets_of old;
        once = IsPermutation-trans _ _ _ parts (IsPermutation-append_comm (packets_of young) (packets_of old));
      };
      roots = λ p t. inl t;
      steady = steady-same s (old_dropped s) [] (refl, (refl, refl));
      within = λ h. h;
      later = omega arith;
    }

-- the kept packets are those whose wait ends and the others
pub split-kept : (ended : Ended) (kept : List HeldPacket) → IsPermutation (packets_of (ended_by ended kept) ++ packets_of (left_by ended kept)) (packets_of kept)
split-kept ended kept =
    let view = λ (w : HeldPacket). at_hand w.side w.bytes in
    let over = λ (w : HeldPacket). ends ended w.wait in
    let both = IsPermutation-map view _ _ (IsPermutation-filter_both over (λ w. not (over w)) (λ w. refl) kept) in
    IsPermutation-sym _ _ (subst (λ ps. IsPermutation (packets_of kept) ps) (map-append view (ended_by ended kept) (left_by ended kept)) both)

-- what was told is true of the translated frames alone, where all other packets are taken as dropped
pub truly-of : (hand : List AtHand) (s s2 : GatewayAndOutput) → TellsAll hand s s2 → Tells hand s s2
truly-of hand s s2 x =
    let view = λ (t : Sending). t.packet in
    let about = map (λ (o : OwnFrame). o.packet) x.own in
    let kept = packets_of s2.shown.kept in
    record {
      frames = x.frames;
      frames_are = x.frames_are;
      notes = x.notes;
      notes_are = x.notes_are;
      done = x.done;
      translated = x.translated;
      used = x.used;
      each = x.each;
      served = x.served;
      dropped = map view x.passed ++ (about ++ x.dropped);
      once = subst (λ ps. IsPermutation (hand ++ packets_of s.shown.kept) (map view x.done ++ ps))
          (ap (λ ps. map view x.passed ++ ps) (sym (append_assoc about x.dropped kept)) ∙ sym (append_assoc (map view x.passed) (about ++ x.dropped) kept)) x.once;
    }
