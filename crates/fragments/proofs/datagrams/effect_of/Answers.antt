use Rattle.std.proofs.Common.{◌++◌, ◌∷◌, [], true, false, length, refl, sym, ◌∙◌, arith}
use Rattle.std.proofs.lemmas.Bool.{le-leb, le-ltb, lt-leb, lt-ltb, or_from, or_left, or_right}
use Rattle.fragments.specs.Whole.{whole_length}
use Rattle.fragments.proofs.Adding.{effect-is}
use Rattle.fragments.proofs.datagrams.effect_of.Goals as goal

pub returns-then-repeats : goal.returns-then-repeats
returns-then-repeats c =
    sym (effect-is c.args.there.now c.args.new.now.frame.now true _ _ _ (sym c.repeats.ensures ∙ c.if-repeats.true) refl refl refl)

pub returns-then-there-ge-MOST_FRAGMENTS : goal.returns-then-there-ge-MOST_FRAGMENTS
returns-then-there-ge-MOST_FRAGMENTS c =
    sym (effect-is c.args.there.now c.args.new.now.frame.now false true _ _ (sym c.repeats.ensures ∙ c.if-repeats.false) (or_right _ _ (le-leb 64 (length c.args.there.now) (omega arith))) refl refl)

pub returns-then-contradicts : goal.returns-then-contradicts
returns-then-contradicts c =
    sym (effect-is c.args.there.now c.args.new.now.frame.now false true _ _ (sym c.repeats.ensures ∙ c.if-repeats.false) (or_left _ _ (sym c.contradicts.ensures ∙ c.if-contradicts.true)) refl refl)

pub returns-then-not-is_whole_with : goal.returns-then-not-is_whole_with
returns-then-not-is_whole_with c =
    sym (effect-is c.args.there.now c.args.new.now.frame.now false false false _ (sym c.repeats.ensures ∙ c.if-repeats.false)
    (or_from _ _ (sym c.contradicts.ensures ∙ c.if-contradicts.false) (lt-leb 64 (length c.args.there.now) (omega arith)))
    (sym c.is_whole_with.ensures ∙ c.if-not-is_whole_with.true) refl)

pub returns-then-length_with-gt-LONGEST_PACKET : goal.returns-then-length_with-gt-LONGEST_PACKET
returns-then-length_with-gt-LONGEST_PACKET c =
    sym (effect-is c.args.there.now c.args.new.now.frame.now false false true true (sym c.repeats.ensures ∙ c.if-repeats.false)
    (or_from _ _ (sym c.contradicts.ensures ∙ c.if-contradicts.false) (lt-leb 64 (length c.args.there.now) (omega arith)))
    (sym c.is_whole_with.ensures ∙ c.if-not-is_whole_with.false) (lt-ltb 65535 (whole_length (c.args.there.now ++ c.args.new.now.frame.now ∷ [])) (omega (arith, c.length_with.ensures.value))))

pub returns : goal.returns
returns c =
    sym (effect-is c.args.there.now c.args.new.now.frame.now false false true false (sym c.repeats.ensures ∙ c.if-repeats.false)
    (or_from _ _ (sym c.contradicts.ensures ∙ c.if-contradicts.false) (lt-leb 64 (length c.args.there.now) (omega arith)))
    (sym c.is_whole_with.ensures ∙ c.if-not-is_whole_with.false) (le-ltb 65535 (whole_length (c.args.there.now ++ c.args.new.now.frame.now ∷ [])) (omega (arith, c.length_with.ensures.value))))
