-- Turns in order, and one more.
use Rattle.std.proofs.Common.{◌≡◌, ◌∙◌, ◌≤◌, ◌||◌, ℕ, Bool, true, false, List, [], ◌∷◌, ◌++◌, Option, length, take, refl, sym, ap, subst, append_assoc, append-nil}
use Rattle.std.specs.Io.KnownBytes.{Appends}
use Rattle.std.specs.List.{list_any}
use Rattle.std.proofs.KnownBytes.{Appends-nil, Appends-trans}
use Rattle.std.proofs.lemmas.List.{take_all}
use Rattle.frame_sim.specs.World.{World}
use Rattle.frame_sim.specs.declared.events.Step.{Step}
use Rattle.nat_types.specs.declared.events.WorldEvent.{WorldEvent}
use Rattle.simulation.specs.Lines.{BothNetworks, networks_in, no_counts}
use Rattle.simulation.specs.Runs.{AreTurns, Contents, HaveTurned, IsTurn, counts_then, is_refusal, turn_lines, turns_lines}
use Rattle.simulation.specs.declared.lines.Counts.{Counts}

-- what the lines of turns have counted
abbrev pub counts_through : Counts → List WorldEvent → List (Option Step) → Counts
counts_through counts [] ts = counts
counts_through counts (e ∷ es) [] = counts
counts_through counts (e ∷ es) (t ∷ ts) = counts_through (counts_then counts e t) es ts

or_assoc : (a b c : Bool) → (a || (b || c)) ≡ ((a || b) || c)
or_assoc true b c = refl
or_assoc false b c = refl

or_false : (a : Bool) → (a || false) ≡ a
or_false true = refl
or_false false = refl

refused-push : (ts : List (Option Step)) (t : Option Step) → list_any is_refusal (ts ++ t ∷ []) ≡ (list_any is_refusal ts || is_refusal t)
refused-push [] t = or_false _
refused-push (u ∷ ts) t =
    ap (λ b. is_refusal u || b) (refused-push ts t) ∙ or_assoc (is_refusal u) (list_any is_refusal ts) (is_refusal t)

turns-push : (w : World) (es : List WorldEvent) (ts : List (Option Step)) (mid : World) (e : WorldEvent) (t : Option Step) (w2 : World)
    → AreTurns w es ts mid → IsTurn mid e t w2 → AreTurns w (es ++ e ∷ []) (ts ++ t ∷ []) w2
turns-push w [] [] mid e t w2 turns last = (w2, (subst (λ (x : World). IsTurn x e t w2) turns last, refl))
turns-push w [] (u ∷ ts) mid e t w2 turns last = absurd turns
turns-push w (f ∷ es) [] mid e t w2 turns last = absurd turns
turns-push w (f ∷ es) (u ∷ ts) mid e t w2 turns last =
    (turns.0, (turns.1.0, turns-push turns.0 es ts mid e t w2 turns.1.1 last))

lines-push : (both : BothNetworks) (w : World) (es : List WorldEvent) (ts : List (Option Step)) (mid : World) (counts : Counts) (e : WorldEvent) (t : Option Step)
    → AreTurns w es ts mid → turns_lines both counts (es ++ e ∷ []) (ts ++ t ∷ []) ≡ turns_lines both counts es ts ++ turn_lines both (counts_through counts es ts) e t
lines-push both w [] [] mid counts e t turns = append-nil (turn_lines both counts e t)
lines-push both w [] (u ∷ ts) mid counts e t turns = absurd turns
lines-push both w (f ∷ es) [] mid counts e t turns = absurd turns
lines-push both w (f ∷ es) (u ∷ ts) mid counts e t turns =
    let then = counts_then counts f u in
    ap (λ l. turn_lines both counts f u ++ l) (lines-push both turns.0 es ts mid then e t turns.1.1)
    ∙ sym (append_assoc (turn_lines both counts f u) (turns_lines both then es ts) (turn_lines both (counts_through then es ts) e t))

counts-push : (w : World) (es : List WorldEvent) (ts : List (Option Step)) (mid : World) (counts : Counts) (e : WorldEvent) (t : Option Step)
    → AreTurns w es ts mid → counts_through counts (es ++ e ∷ []) (ts ++ t ∷ []) ≡ counts_then (counts_through counts es ts) e t
counts-push w [] [] mid counts e t turns = refl
counts-push w [] (u ∷ ts) mid counts e t turns = absurd turns
counts-push w (f ∷ es) [] mid counts e t turns = absurd turns
counts-push w (f ∷ es) (u ∷ ts) mid counts e t turns = counts-push turns.0 es ts mid (counts_then counts f u) e t turns.1.1

-- events that have had their turns, and what their lines have counted
pub record Turned {O : Type 0} (contents : Contents O) (w : World) (es : List WorldEvent) (w2 : World) (output printed : O) (refused : Bool) (counts : Counts) : Type 0 where
  pub turned : HaveTurned contents w es w2 output printed refused
  pub counted : counts ≡ counts_through no_counts es turned.turns

-- no event has had its turn
pub none_turned : {O : Type 0} (contents : Contents O) (w : World) (output : O) (counts : Counts)
    → counts ≡ no_counts → Turned contents w [] w output output false counts
none_turned contents w output counts none = record {
  turned = record { turns = []; taken = refl; text = Appends-nil (contents output); refusals = refl };
  counted = none;
}

-- one event more has, and its lines were printed
pub one_turned : {O : Type 0} (contents : Contents O) (w : World) (es : List WorldEvent) (mid : World) (output some : O) (refused : Bool) (counts : Counts)
    (e : WorldEvent) (step : Option Step) (w2 : World) (more : O) (then : Counts) → Turned contents w es mid output some refused counts → IsTurn mid e step w2
    → Appends (contents some) (contents more) (turn_lines (networks_in w) counts e step) → then ≡ counts_then counts e step
    → Turned contents w (es ++ e ∷ []) w2 output more (refused || is_refusal step) then
one_turned contents w es mid output some refused counts e step w2 more then before last written same =
    let had = before.turned in
    let both = networks_in w in
    let given = ap (λ (c : Counts). turn_lines both c e step) (sym before.counted) in
    let lines = lines-push both w es had.turns mid no_counts e step had.taken ∙ ap (λ l. turns_lines both no_counts es had.turns ++ l) given in
    let whole = Appends-trans (contents output) (contents some) (contents more) (turns_lines both no_counts es had.turns) (turn_lines both counts e step) had.text written in
    record {
      turned = record {
        turns = had.turns ++ step ∷ [];
        taken = turns-push w es had.turns mid e step w2 had.taken last;
        text = subst (λ (l : List ℕ). Appends (contents output) (contents more) l) (sym lines) whole;
        refusals = ap (λ b. b || is_refusal step) had.refusals ∙ sym (refused-push had.turns step);
      };
      counted = same ∙ ap (λ (c : Counts). counts_then c e step) before.counted ∙ sym (counts-push w es had.turns mid no_counts e step had.taken);
    }

-- all of them have
pub all_turned : {O : Type 0} (contents : Contents O) (w : World) (es : List WorldEvent) (i : ℕ) (w2 : World) (output printed : O) (refused : Bool) (counts : Counts)
    → length es ≤ i → Turned contents w (take i es) w2 output printed refused counts → HaveTurned contents w es w2 output printed refused
all_turned contents w es i w2 output printed refused counts within h =
    subst (λ (xs : List WorldEvent). HaveTurned contents w xs w2 output printed refused) (take_all i es within) h.turned
