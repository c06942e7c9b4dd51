-- Parts of a step as parts of a step of the machine: a part of one act, a part of none, and two parts one after the
-- other.
use Rattle.std.proofs.Common.{◌≡◌, ℕ, true, List, [], ◌++◌, Option, Some, None, refl, sym, ap, subst, ◌∙◌, append_assoc, Bool}
use Rattle.std.proofs.lemmas.List.{append-nil}
use Rattle.nat_types.specs.declared.notes.Note.{Note}
use Rattle.nat_types.specs.declared.records.Record.{Record}
use Rattle.link.specs.Link.{Link}
use Rattle.spec_pair.specs.Box.{Letter}
use Rattle.spec_binding.specs.declared.changes.Transition.{Transition}
use Rattle.spec_binding.specs.Books.{Book, IsBook, is_lone}
use Rattle.spec_binding.specs.Machine.{Stands, Works}
use Rattle.spec_binding.specs.Rows.{after, answered, noted_by, ahead_row, changed}
use Rattle.spec_binding.proofs.Offered.{change-leaves, works-join, works-more, works-nothing, ahead-works, ahead-keeps}
use Rattle.spec_step.specs.Machine.{KeepsBytes}
use Rattle.spec_step.specs.Parts.{by_row, by_row_behind}
use Rattle.spec_step.specs.Shown.{GatewayAndOutput, Shown}
use Rattle.spec_binding.specs.declared.changes.Change.{Change}

-- what holds of a gateway between the parts of a step
pub record IsSound (g : Shown) : Type 0 where
  pub book : IsBook g.ledger.book
  pub kept : KeepsBytes g

-- what most parts leave as it is
pub record Stays (g g2 : Shown) : Type 0 where
  pub boot : g2.link.boot ≡ g.link.boot
  pub known : g2.link.known ≡ g.link.known
  pub closed : g2.link.closed ≡ g.link.closed
  pub taken : g2.link.taken ≡ g.link.taken
  pub lone : is_lone g2.ledger.book.stage ≡ true → is_lone g.ledger.book.stage ≡ true

pub stays-here : (g : Shown) → Stays g g
stays-here g = record { boot = refl; known = refl; closed = refl; taken = refl; lone = λ h. h }

pub stays-then : (g g2 g3 : Shown) → Stays g g2 → Stays g2 g3 → Stays g g3
stays-then g g2 g3 x y = record {
  boot = y.boot ∙ x.boot;
  known = y.known ∙ x.known;
  closed = y.closed ∙ x.closed;
  taken = y.taken ∙ x.taken;
  lone = λ h. x.lone (y.lone h);
}

-- From a scene in which `n` of the peer's records were taken to one in which `n2` are: nothing was sent to the peer,
-- and acts of the machine lead there with exactly the notes that were added.
pub record Passes (letters : List Letter) (words : List ℕ) (s : GatewayAndOutput) (n : ℕ) (s2 : GatewayAndOutput) (n2 : ℕ) (h : List Record) : Type 0 where
  pub notes : List Note
  pub notes_are : s2.told.notes ≡ s.told.notes ++ notes
  pub datagrams : s2.told.datagrams ≡ s.told.datagrams
  pub moment : s2.shown.moment ≡ s.shown.moment
  pub works : Works s.shown.moment letters words s.shown.ledger.book s.shown.link n s2.shown.ledger.book s2.shown.link n2 notes h
  pub sound : IsSound s2.shown

-- such a part that leaves the link's session as it is
pub record Goes-on (letters : List Letter) (words : List ℕ) (s : GatewayAndOutput) (n : ℕ) (s2 : GatewayAndOutput) (n2 : ℕ) (h : List Record) : Type 0 where
  pub passes : Passes letters words s n s2 n2 h
  pub stays : Stays s.shown s2.shown

abbrev pub Going : List Letter → List ℕ → GatewayAndOutput → GatewayAndOutput → Type 0
Going letters words s s2 = (n : ℕ) (h : List Record) → Stands s.shown.ledger.book s.shown.link h → IsSound s.shown → Goes-on letters words s n s2 n h

-- an answer that is pushed, or none, leaves the session of the link
pub at-boot : (e : Link) (o : Option Record) → (answered e o).boot ≡ e.boot
at-boot e None = refl
at-boot e (Some r) = refl

pub at-known : (e : Link) (o : Option Record) → (answered e o).known ≡ e.known
at-known e None = refl
at-known e (Some r) = refl

pub at-closed : (e : Link) (o : Option Record) → (answered e o).closed ≡ e.closed
at-closed e None = refl
at-closed e (Some r) = refl

pub at-taken : (e : Link) (o : Option Record) → (answered e o).taken ≡ e.taken
at-taken e None = refl
at-taken e (Some r) = refl

module _ (letters : List Letter) (words : List ℕ) where
  -- two parts, one after the other, make one
  pub passes-then : (s s2 s3 : GatewayAndOutput) (n n2 n3 : ℕ) (h : List Record) → (a : Passes letters words s n s2 n2 h) → Passes letters words s2 n2 s3 n3 a.works.history → Passes letters words s n s3 n3 h
  passes-then s s2 s3 n n2 n3 h a c =
      let b1 = s.shown.ledger.book in let b2 = s2.shown.ledger.book in let b3 = s3.shown.ledger.book in
      let e1 = s.shown.link in let e2 = s2.shown.link in let e3 = s3.shown.link in
      let second : Works s.shown.moment letters words b2 e2 n2 b3 e3 n3 c.notes a.works.history = subst (λ (m : ℕ). Works m letters words b2 e2 n2 b3 e3 n3 c.notes a.works.history) a.moment c.works in
      record {
        notes = a.notes ++ c.notes;
        notes_are = c.notes_are ∙ ap (λ (ns : List Note). ns ++ c.notes) a.notes_are ∙ append_assoc s.told.notes a.notes c.notes;
        datagrams = c.datagrams ∙ a.datagrams;
        moment = c.moment ∙ a.moment;
        works = works-join s.shown.moment letters words b1 b2 b3 e1 e2 e3 n n2 n3 a.notes c.notes h a.works second;
        sound = c.sound;
      }

  pub goes-then : (s s2 s3 : GatewayAndOutput) (n n2 n3 : ℕ) (h : List Record) → (a : Goes-on letters words s n s2 n2 h) → Goes-on letters words s2 n2 s3 n3 a.passes.works.history → Goes-on letters words s n s3 n3 h
  goes-then s s2 s3 n n2 n3 h a c = record {
    passes = passes-then s s2 s3 n n2 n3 h a.passes c.passes;
    stays = stays-then s.shown s2.shown s3.shown a.stays c.stays;
  }

  -- a part that is no act of the machine is a part of a step of the machine
  pub unseen : (s s2 : GatewayAndOutput) (n : ℕ) (h : List Record) → Stands s.shown.ledger.book s.shown.link h → IsBook s.shown.ledger.book
      → s2.shown.ledger.book ≡ s.shown.ledger.book → s2.shown.link ≡ s.shown.link → s2.told.notes ≡ s.told.notes → s2.told.datagrams ≡ s.told.datagrams → s2.shown.moment ≡ s.shown.moment
      → KeepsBytes s2.shown → Goes-on letters words s n s2 n h
  unseen s s2 n h stands is book link notes datagrams moment kept =
      let b = s.shown.ledger.book in let e = s.shown.link in
      let none = works-nothing s.shown.moment letters words b e n h stands in
      record {
        passes = record {
          notes = [];
          notes_are = notes ∙ sym (append-nil s.told.notes);
          datagrams = datagrams;
          moment = moment;
          works = subst (λ (x : Book). Works s.shown.moment letters words b e n x s2.shown.link n [] h) (sym book)
              (subst (λ (x : Link). Works s.shown.moment letters words b e n b x n [] h) (sym link) none);
          sound = record { book = subst IsBook (sym book) is; kept = kept };
        };
        stays = record {
          boot = ap (λ (x : Link). x.boot) link;
          known = ap (λ (x : Link). x.known) link;
          closed = ap (λ (x : Link). x.closed) link;
          taken = ap (λ (x : Link). x.taken) link;
          lone = λ t. ap (λ (x : Book). is_lone x.stage) (sym book) ∙ t;
        };
      }

  -- two parts without a record taken make one, whatever was pushed before
  pub going-then : (s s2 s3 : GatewayAndOutput) → Going letters words s s2 → Going letters words s2 s3 → Going letters words s s3
  going-then s s2 s3 a c = λ n h stands is.
      let x = a n h stands is in
      goes-then s s2 s3 n n n h x (c n x.passes.works.history x.passes.works.agrees x.passes.sound)

  pub going-unseen : (s s2 : GatewayAndOutput) → s2.shown.ledger.book ≡ s.shown.ledger.book → s2.shown.link ≡ s.shown.link → s2.told.notes ≡ s.told.notes → s2.told.datagrams ≡ s.told.datagrams → s2.shown.moment ≡ s.shown.moment
      → (KeepsBytes s.shown → KeepsBytes s2.shown) → Going letters words s s2
  going-unseen s s2 book link notes datagrams moment kept = λ n h stands is. unseen s s2 n h stands is.book book link notes datagrams moment (kept is.kept)

  pub nothing : (s : GatewayAndOutput) (n : ℕ) (h : List Record) → Stands s.shown.ledger.book s.shown.link h → IsSound s.shown → Goes-on letters words s n s n h
  nothing s n h stands is = unseen s s n h stands is.book refl refl refl refl refl is.kept

  -- a part that was given no letters and words is one that was given these
  pub given : (now : ℕ) (b b2 : Book) (e e2 : Link) (n n2 : ℕ) (ns : List Note) (h : List Record) → Works now [] [] b e n b2 e2 n2 ns h → Works now letters words b e n b2 e2 n2 ns h
  given now b b2 e e2 n n2 ns h w = works-more now [] letters [] words b b2 e e2 n n2 ns h (λ l i. absurd i) (λ k i. absurd i) w

  -- a row is a part of a step of the machine
  pub row-goes : (s : GatewayAndOutput) (row : Transition) (n : ℕ) (h : List Record) → IsSound s.shown → IsBook (after s.shown.ledger.book row)
      → (let b = s.shown.ledger.book in let e = s.shown.link in Works s.shown.moment [] [] b e n (after b row) (answered e row.answer) n (noted_by b.id s.shown.moment row.what) h)
      → Goes-on letters words s n (by_row s row) n h
  row-goes s row n h is book works =
      let b = s.shown.ledger.book in
      let e = s.shown.link in
      let beside = change-leaves b row.change in
      record {
        passes = record {
          notes = noted_by b.id s.shown.moment row.what;
          notes_are = refl;
          datagrams = refl;
          moment = refl;
          works = given s.shown.moment b (after b row) e (answered e row.answer) n n (noted_by b.id s.shown.moment row.what) h works;
          sound = record { book = book; kept = is.kept };
        };
        stays = record {
          boot = at-boot e row.answer;
          known = at-known e row.answer;
          closed = at-closed e row.answer;
          taken = at-taken e row.answer;
          lone = λ t. ap is_lone (sym beside.stage) ∙ t;
        };
      }

  -- what is asked for behind a change is a part of a step of the machine
  pub ahead-goes : (s : GatewayAndOutput) (b : Book) (full : Bool) (c : Change) (n : ℕ) (h : List Record) → s.shown.ledger.book ≡ changed c b → Stands s.shown.ledger.book s.shown.link h → IsSound s.shown
      → Goes-on letters words s n (by_row_behind s (ahead_row b full c)) n h
  ahead-goes s b full c n h same stands is =
      let now = s.shown.moment in
      let b2 = s.shown.ledger.book in
      let e = s.shown.link in
      let row = ahead_row b full c in
      let works = subst (λ (x : Book). Works now [] [] x e n (after x row) (answered e row.answer) n [] h) (sym same)
      (ahead-works now b e n h full c (subst (λ (x : Book). Stands x e h) same stands)) in
      record {
        passes = record {
          notes = [];
          notes_are = sym (append-nil s.told.notes);
          datagrams = refl;
          moment = refl;
          works = given now b2 (after b2 row) e (answered e row.answer) n n [] h works;
          sound = record { book = subst (λ (x : Book). IsBook (after x row)) (sym same) (ahead-keeps b full c (subst IsBook same is.book)); kept = is.kept };
        };
        stays = record {
          boot = at-boot e row.answer;
          known = at-known e row.answer;
          closed = at-closed e row.answer;
          taken = at-taken e row.answer;
          lone = λ t. ap is_lone (sym (change-leaves b2 row.change).stage) ∙ t;
        };
      }
