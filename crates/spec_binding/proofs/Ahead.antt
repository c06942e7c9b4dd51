-- Ports that are asked for ahead: what their row needs and leaves.
use Rattle.std.proofs.Common.{◌≡◌, ℕ, Bool, true, false, cond, not, ◌&&◌, Some, None, List, [], refl, ap, subst}
use Rattle.std.proofs.lemmas.Bool.{and_parts}
use Rattle.std.proofs.lemmas.List.{append-nil}
use Rattle.nat_types.specs.declared.notes.Note.{Note}
use Rattle.nat_types.specs.declared.records.Record.{Record}
use Rattle.nat_types.specs.declared.records.Record.TheVariants as rec
use Rattle.link.specs.Link.{Link}
use Rattle.spec_pair.specs.Box.{Letter}
use Rattle.spec_binding.specs.declared.setups.Stage.TheVariants.{Paired}
use Rattle.spec_binding.specs.declared.changes.Change.{Change}
use Rattle.spec_binding.specs.declared.changes.Change.TheVariants.{Want}
use Rattle.spec_binding.specs.declared.changes.Transition.{Transition}
use Rattle.spec_binding.specs.Books.{Book, IsBook, is_paired, is_synced}
use Rattle.spec_binding.specs.Ledgers.{Ledger, ledger_after}
use Rattle.spec_binding.specs.Machine.{Works}
use Rattle.spec_binding.specs.Rows.{after, ahead_row, answered, changed, is_cause, is_short_after, may_want, quiet, row, wanting_row}
use Rattle.spec_binding.specs.Uses.{Accounts}
use Rattle.spec_binding.specs.WellFormed.{IsSameBatch}
use Rattle.spec_binding.proofs.Fitting.{IsSound, ahead-sound, paired-is}
use Rattle.spec_binding.proofs.Keeping.{change-keeps}
use Rattle.spec_binding.proofs.Parts.{works-join, works-more}
use Rattle.spec_binding.proofs.Wishing.{ahead-works}

-- what holds of the row that asks for ports, and of none, holds of what is asked for behind a change
pub either-ahead : (P : Transition → Type 0) (b : Book) (full : Bool) (ch : Change) → (is_paired (changed ch b).stage ≡ true → P (row Want (Some rec.Want) None)) → P quiet → P (ahead_row b full ch)
either-ahead P b full ch asks none = at (is_cause b ch && is_short_after c ch)
  where
    c : Book
    c = changed ch b

    wants : (t : Bool) → may_want c full ≡ t → P (let r : Transition = cond t (row Want (Some rec.Want) None) quiet in r)
    wants true may = asks (and_parts (is_paired c.stage) (not c.wants && not full) may).0
    wants false may = none

    at : (t : Bool) → P (let r : Transition = cond t (wanting_row c full) quiet in r)
    at true = wants (may_want c full) refl
    at false = none

pub ahead-fits : (b : Book) (full : Bool) (ch : Change) → IsSound (changed ch b) (ahead_row b full ch)
ahead-fits b full ch = ahead-sound (changed ch b) (is_cause b ch && is_short_after (changed ch b) ch) full

pub ahead-keeps : (b : Book) (full : Bool) (ch : Change) → IsBook (changed ch b) → IsBook (after (changed ch b) (ahead_row b full ch))
ahead-keeps b full ch is =
    let c : Book = changed ch b in
    either-ahead (λ r. IsBook (after c r)) b full ch
    (λ paired. let stage : c.stage ≡ Paired = paired-is c.stage paired in change-keeps c Want is (ap is_synced stage) stage)
    is

pub ahead-stays : (b : Book) (full : Bool) (ch : Change) → IsSameBatch (changed ch b) (after (changed ch b) (ahead_row b full ch))
ahead-stays b full ch =
    either-ahead (λ r. IsSameBatch (changed ch b) (after (changed ch b) r)) b full ch
    (λ paired. record { pairs = refl; owned = refl })
    (record { pairs = refl; owned = refl })

pub ahead-entries : (b : Book) (full : Bool) (ch : Change) → (after (changed ch b) (ahead_row b full ch)).entries ≡ (changed ch b).entries
ahead-entries b full ch = either-ahead (λ r. (after (changed ch b) r).entries ≡ (changed ch b).entries) b full ch (λ paired. refl) refl

pub ahead-accounts : (now : ℕ) (l : Ledger) (h : List Note) (b : Book) (full : Bool) (ch : Change) → Accounts now l h → Accounts now (ledger_after now (ahead_row b full ch).change l) h
ahead-accounts now l h b full ch a =
    either-ahead (λ r. Accounts now (ledger_after now r.change l) h) b full ch
    (λ paired. record { uses = a.uses; none = a.none; idle = a.idle })
    a

-- a part of a step that makes a change, and what is asked for behind it, are one part
pub works-behind : (now : ℕ) (letters : List Letter) (words : List ℕ) (b : Book) (e e2 : Link) (n n2 : ℕ) (ns : List Note) (h : List Record) (full : Bool) (ch : Change)
    → Works now letters words b e n (changed ch b) e2 n2 ns h
    → Works now letters words b e n (after (changed ch b) (ahead_row b full ch)) (answered e2 (ahead_row b full ch).answer) n2 ns h
works-behind now letters words b e e2 n n2 ns h full ch w =
    let c : Book = changed ch b in
    let r : Transition = ahead_row b full ch in
    subst (λ (ns2 : List Note). Works now letters words b e n (after c r) (answered e2 r.answer) n2 ns2 h) (append-nil ns)
    (works-join now letters words b c (after c r) e e2 (answered e2 r.answer) n n2 n2 ns [] h w
    (works-more now [] letters [] words c (after c r) e2 (answered e2 r.answer) n2 n2 [] w.history (λ l i. absurd i) (λ k i. absurd i)
    (ahead-works now b e2 n2 w.history full ch w.agrees)))
