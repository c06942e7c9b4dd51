-- A record that is taken is a part of a step.
use Rattle.std.proofs.Common.{◌≡◌, ℕ, suc, Bool, true, false, cond, inl, Option, Some, None, List, [], ◌∷◌, ◌++◌, refl, sym, ap, subst}
use Rattle.nat_types.specs.declared.notes.NoteKind.{NoteKind}
use Rattle.nat_types.specs.declared.records.Record.{Record}
use Rattle.link.specs.Link.{Link, Agrees}
use Rattle.resync.specs.Loading.{Load, loaded}
use Rattle.spec_pair.specs.Box.{Letter}
use Rattle.spec_pair.specs.Mapped.{machine_record}
use Rattle.spec_binding.specs.declared.changes.Change.{Change}
use Rattle.spec_binding.specs.declared.changes.Change.TheVariants.{Keep, Add, Turn, Renew, Drop, Yield, Want, Give, Gain}
use Rattle.spec_binding.specs.Books.{Book, IsBook, is_lone, is_synced, load_of}
use Rattle.spec_binding.specs.Machine.{IsSameHouse, IsTurn, Stands, Works}
use Rattle.spec_binding.specs.Rows.{after, answered, changed, load_taken, noted_by, numbers_of, pushed_by, row_of, taken_answer, taken_book, taken_what, unsynced_after, unsynced_what}
use Rattle.spec_binding.proofs.Loads.{load-steps}
use Rattle.spec_binding.proofs.Members.{gained-is}
use Rattle.spec_binding.proofs.Moves.{row-steps}
use Rattle.spec_binding.proofs.Parts.{agrees-answer}
use Rattle.spec_binding.proofs.Taking.{IsReading, Makes}

-- both books are of the same gateway, with the same records of a batch to come
pub record Keeps (b b2 : Book) : Type 0 where
  pub house : IsSameHouse b b2
  pub coming : b2.coming ≡ b.coming

pub same-keeps : (b : Book) → Keeps b b
same-keeps b = record { house = record { id = refl; zero = refl; one = refl; limit = refl; alone = refl; choice = refl; ahead = refl }; coming = refl }

pub changed-keeps : (ch : Change) (b : Book) → Keeps b (changed ch b)
changed-keeps Keep b = same-keeps b
changed-keeps (Add e) b = record { house = record { id = refl; zero = refl; one = refl; limit = refl; alone = refl; choice = refl; ahead = refl }; coming = refl }
changed-keeps (Turn k s) b = record { house = record { id = refl; zero = refl; one = refl; limit = refl; alone = refl; choice = refl; ahead = refl }; coming = refl }
changed-keeps (Renew k) b = record { house = record { id = refl; zero = refl; one = refl; limit = refl; alone = refl; choice = refl; ahead = refl }; coming = refl }
changed-keeps (Drop k) b = record { house = record { id = refl; zero = refl; one = refl; limit = refl; alone = refl; choice = refl; ahead = refl }; coming = refl }
changed-keeps (Yield q p) b = record { house = record { id = refl; zero = refl; one = refl; limit = refl; alone = refl; choice = refl; ahead = refl }; coming = refl }
changed-keeps Want b = record { house = record { id = refl; zero = refl; one = refl; limit = refl; alone = refl; choice = refl; ahead = refl }; coming = refl }
changed-keeps (Give g) b = record { house = record { id = refl; zero = refl; one = refl; limit = refl; alone = refl; choice = refl; ahead = refl }; coming = refl }
changed-keeps (Gain g) b =
    let is = gained-is b (numbers_of g) in
    record { house = record { id = ap (λ (x : Book). x.id) is; zero = ap (λ (x : Book). x.zero) is; one = ap (λ (x : Book). x.one) is; limit = ap (λ (x : Book). x.limit) is; alone = ap (λ (x : Book). x.alone) is; choice = ap (λ (x : Book). x.choice) is; ahead = ap (λ (x : Book). x.ahead) is }; coming = ap (λ (x : Book). x.coming) is }

pub loaded-keeps : (b : Book) (r : Record) (o : Option Load) → Keeps b (load_taken b r o)
loaded-keeps b r None = same-keeps b
loaded-keeps b r (Some l) = record { house = record { id = refl; zero = refl; one = refl; limit = refl; alone = refl; choice = refl; ahead = refl }; coming = refl }

pub stands-answer : (b b2 : Book) (e : Link) (h : List Record) (o : Option Record) → Keeps b b2 → Stands b e h → Stands b2 (answered e o) (h ++ pushed_by o)
stands-answer b b2 e h o keeps stands = subst (λ (rs : List Record). Agrees (h ++ pushed_by o) rs (answered e o)) (sym keeps.coming) (agrees-answer h b.coming e o stands)

pub record-works : (now : ℕ) (b : Book) (e : Link) (n : ℕ) (h : List Record) (l : Letter) (offset : ℕ) (rests : Bool) (r : Record) → IsBook b → is_lone b.stage ≡ false → Stands b e h → IsTurn e n l offset r
    → Works now (l ∷ []) [] b e n (taken_book b rests r) (answered e (taken_answer b rests r)) (suc n) (noted_by b.id now (taken_what b rests r)) h
record-works now b e n h l offset rests r is lone stands turn = at (is_synced b.stage) refl
  where
    reading : IsReading b e h n (l ∷ []) (machine_record r)
    reading = record { letter = l; offset = offset; next = record { up = refl; boot = turn.boot; to = turn.to; number = turn.number; record_is = turn.stands }; inside = inl refl }

    works : (b2 : Book) (o : Option Record) (w : Option NoteKind) → Keeps b b2 → Makes now b e h n (l ∷ []) [] b2 o w → Works now (l ∷ []) [] b e n b2 (answered e o) (suc n) (noted_by b.id now w) h
    works b2 o w keeps step = record { house = keeps.house; history = h ++ pushed_by o; agrees = stands-answer b b2 e h o keeps stands; step = step }

    at : (t : Bool) → is_synced b.stage ≡ t
        → Works now (l ∷ []) [] b e n (let b2 : Book = cond t (after b (row_of b rests r)) (unsynced_after b r) in b2)
        (answered e (let o : Option Record = cond t (row_of b rests r).answer None in o)) (suc n)
        (noted_by b.id now (let w : Option NoteKind = cond t (row_of b rests r).what (unsynced_what b r) in w)) h
    at true synced = works (after b (row_of b rests r)) (row_of b rests r).answer (row_of b rests r).what (changed-keeps (row_of b rests r).change b) (row-steps now b e h n (l ∷ []) [] synced lone is stands r rests reading)
    at false unsynced = works (unsynced_after b r) None (unsynced_what b r) (loaded-keeps b r (loaded (load_of b) r)) (load-steps now b e h n (l ∷ []) [] unsynced is stands r reading)
