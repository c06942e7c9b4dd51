-- The peer is asked for ports, and a port is looked for.
use Rattle.std.proofs.Common.{◌≡◌, ℕ, ◌+◌, ◌<◌, ◌≤◌, Bool, true, false, cond, not, ◌&&◌, ◌||◌, is_some, Option, Some, None, List, drop, get_or, length, map, refl, sym, ap, ◌∙◌, arith}
use Rattle.std.specs.List.{list_any}
use Rattle.std.specs.Option.{IfSome, IfNone}
use Rattle.std.proofs.lemmas.List.{at_drop_all, at_drop_more}
use Rattle.std.proofs.lemmas.Bool.{and_parts, ltb-false}
use Rattle.addresses.specs.declared.transport.Port.{Port}
use Rattle.addresses.specs.Transport.{parity_of}
use Rattle.nat_types.specs.declared.pairs.Endpoint.{Endpoint}
use Rattle.nat_types.specs.declared.notes.NoteKind.TheVariants as happens
use Rattle.nat_types.specs.declared.pairs.EntryState.TheVariants as state
use Rattle.nat_types.specs.declared.records.Record.{Record}
use Rattle.nat_types.specs.declared.records.Record.TheVariants as rec
use Rattle.bindings.specs.Entries.{entry_in}
use Rattle.bindings.specs.Ports.{chosen_port, is_open_in}
use Rattle.port_range.specs.Ports.{IsChosen}
use Rattle.link.specs.Grammar.{IsWellFormedRecord}
use Rattle.link.specs.Link.{Link, free_places}
use Rattle.spec_binding.specs.declared.setups.Choice.{Choice}
use Rattle.spec_binding.specs.declared.setups.Choice.TheVariants.{Lowest, Drawn}
use Rattle.spec_binding.specs.declared.setups.Stage.TheVariants.{Paired}
use Rattle.spec_binding.specs.declared.changes.Change.{Change}
use Rattle.spec_binding.specs.declared.changes.Change.TheVariants as change
use Rattle.spec_binding.specs.declared.changes.Transition.{Transition}
use Rattle.spec_binding.specs.declared.changes.PortRequest.{PortRequest}
use Rattle.spec_binding.specs.declared.changes.Want.TheVariants as want
use Rattle.spec_binding.specs.Books.{Book, IsBook, is_lone, is_paired, is_synced}
use Rattle.spec_binding.specs.Ledgers.{Ledger, ledger_after, rests_for, taken_ledger}
use Rattle.spec_binding.specs.Rows.{after, ahead_row, answered, behind, changed, is_at_limit, is_cause, is_full, is_short_after, may_want, new_pair, new_wish, paired_wish, port_by, port_for, quiet, row, row_of, taken_behind, unknown_wish, wanting_row, wish}
use Rattle.spec_binding.proofs.Offered.{change-keeps, drawn-busy, paired-is, port-says}
use Rattle.bind_core.specs.Changes.{adds, wants_after}
use Rattle.bind_core.specs.Looks.{asked_row}
use Rattle.bind_core.specs.Cores.{Core, book_of, core_after, core_behind, ledger_of}
use Rattle.bind_core.proofs.Performing.{book-after, ledger-then, ready-kept, ready-then, taken-ledger}

-- ---- whether a port is free

-- a lowest free port is there exactly where one is chosen, by any choice
pub has-port : (b : Book) (e : Endpoint) (choice : Choice) (o : Option Port) → IsBook b → o ≡ chosen_port b.entries b.owned b.zero b.one e.protocol (parity_of e.port.0)
    → IfSome o (IsChosen (is_open_in b.entries b.owned e.protocol) (parity_of e.port.0)) → IfNone o ((port : ℕ) → is_open_in b.entries b.owned e.protocol port ≡ false)
    → is_some o ≡ is_some (port_by choice b e)
has-port b e Lowest o is at some none = ap is_some at
has-port b e (Drawn key) o is at some none = by o some none (port_by (Drawn key) b e) refl
  where
    test : ℕ → Bool
    test = is_open_in b.entries b.owned e.protocol

    by : (o : Option Port) → IfSome o (IsChosen test (parity_of e.port.0)) → IfNone o ((port : ℕ) → test port ≡ false) → (p : Option Port) → port_by (Drawn key) b e ≡ p → is_some o ≡ is_some p
    by None some none None is_ = refl
    by None some none (Some q) is_ = let yes = port-says b e (Drawn key) q is_ in let no = none q.0 in absurd (cc)
    by (Some p) some none None is_ = let yes = some.available in let no = drawn-busy b e key is is_ p.0 in absurd (cc)
    by (Some p) some none (Some q) is_ = refl

-- ---- the row that asks for ports

either-want : (P : Transition → Type 0) (b : Book) (full : Bool) → (is_paired b.stage ≡ true → full ≡ false → P (row change.Want (Some rec.Want) None)) → P quiet → P (wanting_row b full)
either-want P b full asks none = at (may_want b full) refl
  where
    at : (t : Bool) → may_want b full ≡ t → P (let r : Transition = cond t (row change.Want (Some rec.Want) None) quiet in r)
    at true may =
        let parts = and_parts (is_paired b.stage) (not b.wants && not full) may in
        asks parts.0 (off full (and_parts (not b.wants) (not full) parts.1).1)
      where
        off : (t : Bool) → not t ≡ true → t ≡ false
        off true h = absurd (cc)
        off false h = refl
    at false may = none

either-asked : (P : Transition → Type 0) (t : Bool) (b : Book) (full : Bool) (ch : Change) → (is_paired b.stage ≡ true → full ≡ false → P (row change.Want (Some rec.Want) None)) → P quiet → P (asked_row t b full ch)
either-asked P t b full ch asks none = at (t && is_short_after b ch)
  where
    at : (s : Bool) → P (let r : Transition = cond s (wanting_row b full) quiet in r)
    at true = either-want P b full asks none
    at false = none

-- a book that asks for ports stays a book
pub asked-book : (t : Bool) (b : Book) (full : Bool) (ch : Change) → IsBook b → IsBook (record b { wants = wants_after (asked_row t b full ch).change b.wants })
asked-book t b full ch is =
    either-asked (λ r. IsBook (record b { wants = wants_after r.change b.wants })) t b full ch
    (λ paired clear. let stage : b.stage ≡ Paired = paired-is b.stage paired in change-keeps b change.Want is (ap is_synced stage) stage)
    is

pub asked-formed : (t : Bool) (b : Book) (full : Bool) (ch : Change) → IfSome (asked_row t b full ch).answer IsWellFormedRecord
asked-formed t b full ch = either-asked (λ r. IfSome r.answer IsWellFormedRecord) t b full ch (λ paired clear. tt) tt

-- what is pushed has a place on the link
pub asked-places : (t : Bool) (b : Book) (l : Link) (ch : Change) → is_some (asked_row t b (is_full l) ch).answer ≡ true → 0 < free_places l
asked-places t b l ch =
    either-asked (λ r. is_some r.answer ≡ true → 0 < free_places l) t b (is_full l) ch
    (λ paired clear answers. let room = ltb-false (free_places l) 65 clear in omega (arith, room))
    (λ answers. absurd (cc))

-- a core that asks for ports is the one that the row makes
asked-core : (now : ℕ) (c : Core) (t : Bool) (b : Book) (full : Bool) (ch : Change) → record c { wants = wants_after (asked_row t b full ch).change c.wants } ≡ core_after now c (asked_row t b full ch)
asked-core now c t b full ch = either-asked (λ r. record c { wants = wants_after r.change c.wants } ≡ core_after now c r) t b full ch (λ paired clear. refl) refl

module _ (now : ℕ) (c c2 : Core) (e e2 : Link) (r : Transition) (t : Bool) (made : c2 ≡ core_after now c r) (link : e2 ≡ answered e r.answer) (cause : t ≡ is_cause (book_of c) r.change) where
  asks : asked_row t (book_of c2) (is_full e2) r.change ≡ behind (book_of c) e r
  asks =
      ap (λ (b : Book). asked_row t b (is_full e2) r.change) (ap book_of made ∙ book-after now c r)
      ∙ ap (λ (l : Link). asked_row t (after (book_of c) r) (is_full l) r.change) link
      ∙ ap (λ (s : Bool). asked_row s (after (book_of c) r) (is_full (answered e r.answer)) r.change) cause

  -- ports are asked for behind a row, or aren't
  pub asked-behind : (c3 : Core) → c3 ≡ record c2 { wants = wants_after (asked_row t (book_of c2) (is_full e2) r.change).change c2.wants } → c3 ≡ core_behind now c e r
  asked-behind c3 is =
      is
      ∙ asked-core now c2 t (book_of c2) (is_full e2) r.change
      ∙ ap (λ (x : Transition). core_after now c2 x) asks
      ∙ ap (λ (k : Core). core_after now k (behind (book_of c) e r)) made

  pub asked-link : (e3 : Link) → e3 ≡ answered e2 (asked_row t (book_of c2) (is_full e2) r.change).answer → e3 ≡ answered (answered e r.answer) (behind (book_of c) e r).answer
  asked-link e3 is =
      is
      ∙ ap (λ (x : Transition). answered e2 x.answer) asks
      ∙ ap (λ (l : Link). answered l (behind (book_of c) e r).answer) link

-- ---- the core behind a row

pub ledger-behind : (now : ℕ) (c c2 : Core) (e : Link) (r : Transition) → c2 ≡ core_behind now c e r → ledger_of c2 ≡ ledger_after now (behind (book_of c) e r).change (ledger_after now r.change (ledger_of c))
ledger-behind now c c2 e r made =
    ledger-then now (core_after now c r) c2 (behind (book_of c) e r) (behind (book_of c) e r) made refl
    ∙ ap (ledger_after now (behind (book_of c) e r).change) (ledger-then now c (core_after now c r) r r refl refl)

ahead-adds : (b : Book) (full : Bool) (ch : Change) → adds (ahead_row b full ch).change ≡ false
ahead-adds b full ch = at (is_cause b ch && is_short_after (changed ch b) ch)
  where
    at : (t : Bool) → adds (let r : Transition = cond t (wanting_row (changed ch b) full) quiet in r).change ≡ false
    at true = either-want (λ r. adds r.change ≡ false) (changed ch b) full (λ paired clear. refl) refl
    at false = refl

-- the table is ready for at most one pair less
pub ready-behind : (now : ℕ) (c c2 : Core) (e : Link) (r : Transition) → c2 ≡ core_behind now c e r → c.table.ready ≤ c2.table.ready + 1
ready-behind now c c2 e r made =
    let same = ready-kept now (core_after now c r) c2 (behind (book_of c) e r) (ahead-adds (book_of c) (is_full (answered e r.answer)) r.change) made in
    let near = ready-then now c (core_after now c r) r refl in
    omega (arith, same, near)

-- ---- a granted port that becomes owned

any-next : (test : ℕ → Bool) (ports items : List Port) (i : ℕ) (d : Port) (t whole : Bool) → items ≡ ports → i < length items → test (get_or items i d).0 ≡ t
    → whole ≡ list_any test (map (λ (p : Port). p.0) (drop i ports)) → whole ≡ (t || list_any test (map (λ (p : Port). p.0) (drop (i + 1) ports)))
any-next test ports items i d t whole same h is was =
    was
    ∙ ap (λ (ps : List Port). list_any test (map (λ (p : Port). p.0) (drop i ps))) (sym same)
    ∙ at_drop_more (λ (ps : List Port). list_any test (map (λ (p : Port). p.0) ps)) items i d h
    ∙ ap (λ (b : Bool). b || list_any test (map (λ (p : Port). p.0) (drop (i + 1) items))) is
    ∙ ap (λ (ps : List Port). t || list_any test (map (λ (p : Port). p.0) (drop (i + 1) ps))) same

pub any-on : (test : ℕ → Bool) (ports items : List Port) (i : ℕ) (d : Port) (whole : Bool) → items ≡ ports → i < length items → test (get_or items i d).0 ≡ false
    → whole ≡ list_any test (map (λ (p : Port). p.0) (drop i ports)) → whole ≡ list_any test (map (λ (p : Port). p.0) (drop (i + 1) ports))
any-on test ports items i d whole same h is was = any-next test ports items i d false whole same h is was

pub any-here : (test : ℕ → Bool) (ports items : List Port) (i : ℕ) (d : Port) (whole : Bool) → items ≡ ports → i < length items → test (get_or items i d).0 ≡ true
    → whole ≡ list_any test (map (λ (p : Port). p.0) (drop i ports)) → whole ≡ true
any-here test ports items i d whole same h is was = any-next test ports items i d true whole same h is was

pub any-over : (test : ℕ → Bool) (ports items : List Port) (i : ℕ) (whole : Bool) → items ≡ ports → length items ≤ i
    → whole ≡ list_any test (map (λ (p : Port). p.0) (drop i ports)) → whole ≡ false
any-over test ports items i whole same h was =
    was
    ∙ ap (λ (ps : List Port). list_any test (map (λ (p : Port). p.0) (drop i ps))) (sym same)
    ∙ at_drop_all (λ (ps : List Port). list_any test (map (λ (p : Port). p.0) ps)) items i h

-- ---- a port that was looked at

-- a wish that is answered by a port is that of the port
looked-new : (b : Book) (apart full : Bool) (e : Endpoint) (port : Port) (o : Option Port) → (new_wish b apart full e o).answer ≡ want.Port port → new_wish b apart full e o ≡ new_wish b apart full e (Some port)
looked-new b apart full e port None h = absurd (cc)
looked-new b apart full e port (Some q) h = ap (λ (p : Port). new_wish b apart full e (Some p)) (at (is_lone b.stage) apart full h)
  where
    at : (lone apart full : Bool) → (let w : PortRequest = cond lone (wish (want.Port q) (row (change.Add (entry_in state.Live (new_pair e q))) None (Some (happens.Retaken (new_pair e q))))) (paired_wish apart full (new_pair e q)) in w).answer ≡ want.Port port → q ≡ port
    at true apart full h = cc
    at false true full h = cc
    at false false true h = absurd (cc)
    at false false false h = absurd (cc)

pub looked-is : (b : Book) (apart full : Bool) (e : Endpoint) (port : Port) → (unknown_wish b apart full e).answer ≡ want.Port port → unknown_wish b apart full e ≡ new_wish b apart full e (Some port)
looked-is b apart full e port h = at (is_at_limit b e.address) h
  where
    at : (t : Bool) → (let w : PortRequest = cond t (wish want.HostLimit quiet) (new_wish b apart full e (port_for b e)) in w).answer ≡ want.Port port → (let w : PortRequest = cond t (wish want.HostLimit quiet) (new_wish b apart full e (port_for b e)) in w) ≡ new_wish b apart full e (Some port)
    at true h = absurd (cc)
    at false h = looked-new b apart full e port (port_for b e) h

-- ---- behind a record

pub taken-behind : (b : Book) (e : Link) (rests : Bool) (r : Record) → is_synced b.stage ≡ true → taken_behind b e rests r ≡ behind b e (row_of b rests r)
taken-behind b e rests r h = ap (λ (t : Bool). let x : Transition = cond t (behind b e (row_of b rests r)) quiet in x) h

pub loaded-behind : (b : Book) (e : Link) (rests : Bool) (r : Record) → is_synced b.stage ≡ false → taken_behind b e rests r ≡ quiet
loaded-behind b e rests r h = ap (λ (t : Bool). let x : Transition = cond t (behind b e (row_of b rests r)) quiet in x) h

pub taken-ledger-behind : (now : ℕ) (c c2 : Core) (e : Link) (r : Record) → is_synced c.stage ≡ true → c2 ≡ core_behind now c e (row_of (book_of c) (rests_for now (ledger_of c) r) r)
    → ledger_of c2 ≡ ledger_after now (taken_behind (book_of c) e (rests_for now (ledger_of c) r) r).change (taken_ledger now (ledger_of c) r)
taken-ledger-behind now c c2 e r h made =
    let b = book_of c in
    let rests = rests_for now (ledger_of c) r in
    let row = row_of b rests r in
    ledger-behind now c c2 e row made
    ∙ ap (λ (x : Ledger). ledger_after now (behind b e row).change x) (sym (ledger-then now c (core_after now c row) row row refl refl) ∙ taken-ledger now c (core_after now c row) r h refl)
    ∙ sym (ap (λ (x : Transition). ledger_after now x.change (taken_ledger now (ledger_of c) r)) (taken-behind b e rests r h))

-- ---- a wish of a port that was looked at

pub looked-wish : (b : Book) (apart full : Bool) (e : Endpoint) (o : Option Port) → is_some o ≡ true → IfSome o (λ port. (unknown_wish b apart full e).answer ≡ want.Port port) → new_wish b apart full e o ≡ unknown_wish b apart full e
looked-wish b apart full e None h given = absurd (cc)
looked-wish b apart full e (Some port) h given = sym (looked-is b apart full e port given)
