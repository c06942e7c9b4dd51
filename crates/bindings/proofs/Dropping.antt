-- A walk that removes the Doomed entries: the lists after one step.
use Rattle.std.proofs.Common.{◌≡◌, ◌<◌, Bool, true, false, not, cond, Option, Some, List, length, refl, ap, ◌∙◌, arith}
use Rattle.std.specs.List.{find}
use Rattle.std.proofs.lemmas.Bool.{cond-true}
use Rattle.nat_types.specs.declared.pairs.Key.{Key}
use Rattle.activity.specs.Lives.{Activity}
use Rattle.bindings.specs.declared.entries.Entry.{Entry}
use Rattle.bindings.specs.Entries.{is_pair}
use Rattle.bindings.specs.Lists.{after_key, without, RisesUp}
use Rattle.bindings.specs.Lives.{lives_without}
use Rattle.bindings.specs.Revivals.{lives_of_pairs}
use Rattle.bindings.proofs.Revived.{pairs_of, pairs-without, kept-without}
use Rattle.bindings.proofs.Walks.{behind, behind-first, behind-less, next-held, rises-distinct, drop-pair, drop-doomed, length-behind_without}

-- the first Doomed entry
abbrev pub first_doomed : List Entry → Option Entry
first_doomed es = find (λ e. not (is_pair e.state)) es

pub record IsStep (last : Option Key) (e : Entry) (es es2 : List Entry) (ls ls2 : List Activity) : Type 0 where
  pub pairs : pairs_of es2 ≡ pairs_of es
  pub kept : lives_of_pairs es2 ls2 ≡ lives_of_pairs es ls
  pub first : first_doomed es2 ≡ first_doomed (behind (Some e.pair.key) es2)
  pub less : length (behind (Some e.pair.key) es2) < length (behind last es)

pub step : (last : Option Key) (e : Entry) (es : List Entry) (ls : List Activity) → RisesUp 0 es → length ls ≡ length es → after_key last es ≡ Some e → first_doomed es ≡ first_doomed (behind last es)
    → IsStep last e es (cond (is_pair e.state) es (without e.pair.key es)) ls (cond (is_pair e.state) ls (lives_without e.pair.key es ls))
step last e es ls r same found first = by (is_pair e.state) refl
  where
    by : (b : Bool) → is_pair e.state ≡ b → IsStep last e es (cond b es (without e.pair.key es)) ls (cond b ls (lives_without e.pair.key es ls))
    by true h = record {
      pairs = refl;
      kept = refl;
      first = drop-pair 0 last es e r found h first;
      less = behind-less 0 last es e r found;
    }
    by false h =
        let held = next-held 0 last es e r found in
        let keys = rises-distinct 0 es r in
        let doomed : first_doomed es ≡ Some e = first ∙ ap first_doomed (behind-first 0 last es e r found) ∙ cond-true (not (is_pair e.state)) (Some e) (first_doomed (behind (Some e.pair.key) es)) (ap not h) in
        record {
          pairs = pairs-without e.pair.key es e keys held h;
          kept = kept-without e.pair.key es ls e keys same held h;
          first = drop-doomed 0 es e r doomed;
          less = (let a = behind-less 0 last es e r found in let b = length-behind_without (Some e.pair.key) e.pair.key es in omega (arith, a, b));
        }
