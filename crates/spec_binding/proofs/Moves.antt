-- Wants and Grants, and any record at a synced gateway, as acts of the machine.
use Rattle.std.proofs.Common.{◌≡◌, ℕ, suc, ◌+◌, ◌-◌, ◌==◌, ◌≤◌, ◌^◌, is_none, Bool, true, false, cond, not, ◌&&◌, Some, None, List, [], ◌∷◌, ◌++◌, length, map, take, refl, sym, ap, subst, ◌∙◌, arith}
use Rattle.std.specs.List.{filter}
use Rattle.std.proofs.lemmas.Bool.{and_parts, cond-false, eq-eqb, ne_eqb, or_left, or_right}
use Rattle.std.proofs.lemmas.List.{length-map, length-take, map-append, append-nil}
use Rattle.addresses.specs.declared.transport.Port.{Port}
use Rattle.nat_types.specs.Granted.{ArePorts, Granted, IsPort}
use Rattle.nat_types.specs.declared.records.Record.{Record}
use Rattle.nat_types.specs.declared.records.Record.TheVariants as rec
use Rattle.bindings.specs.Ports.{is_spare, is_vacant, lowest_of, highest_of, AreBounds}
use Rattle.bindings.specs.declared.entries.PortBounds.{PortBounds}
use Rattle.port_range.specs.Ports.{is_listed}
use Rattle.link.specs.Link.{Link}
use Rattle.spec_pair.specs.Acts.{Ignore, GrantPorts, TakePorts, LosePorts}
use Rattle.spec_pair.specs.Box.{Letter}
use Rattle.spec_pair.specs.Mapped.{machine_record}
use Rattle.spec_pair.specs.Ownership.{AreDistinct, has}
use Rattle.spec_pair.specs.RecordTable.{becomes_owned, is_free, key_of}
use Rattle.addresses.specs.declared.transport.Protocol.TheVariants.{Icmp, Tcp, Udp}
use Rattle.spec_pair.specs.Talk as machine
use Rattle.spec_pair.specs.Talk.{MachineRecord}
use Rattle.spec_pair.proofs.Offered.{got}
use Rattle.bindings.specs.Entries.{slot_of}
use Rattle.nat_types.specs.declared.pairs.Key.{Key}
use Rattle.spec_binding.specs.declared.changes.Change.TheVariants.{Gain}
use Rattle.spec_binding.specs.declared.changes.Transition.{Transition}
use Rattle.spec_binding.specs.Books.{Book, IsBook, in_ranges, is_any, is_lone, is_promised, is_synced, owns}
use Rattle.spec_binding.specs.WellFormed.{MayGive}
use Rattle.spec_binding.specs.Machine.{box_at, machine_records, promised_of, ranges_of, slots_of, Stands}
use Rattle.spec_binding.specs.Rows.{after, answered, as_ports, grant_row, granted, is_gained, is_theirs, numbers_of, ports_down, pushed_by, quiet, row, row_of, share, spares, synced_row, want_row, with_gained, without_ports}
use Rattle.spec_binding.proofs.Members.{above-none, below-highest, distinct-falling, distinct-filter, distinct-take, free-none, gained-box, gained-is, has-filter, has-listed, has-take, numbers-back, vacant-is}
use Rattle.spec_binding.proofs.Parts.{act-step}
use Rattle.bindings.proofs.Offered.{listed-filter}
use Rattle.spec_binding.proofs.Taking.{IsReading, Makes, RowSteps, accept-steps, ask-steps, install-steps, no-steps, reads, refuse-steps, skip-row, tell-steps, yes-steps}

-- ---- what is granted

-- each port of the ranges is a port that can be used
pub ranges-port : (b : Book) (p : ℕ) → IsBook b → in_ranges b p ≡ true → IsPort p
ranges-port b p is h = (above-none b.zero b.one p is.zero is.one h, below-highest b.zero b.one p (2 ^ 16) is.highest.0.1 is.highest.1.1 h)

low-bound : (z o : PortBounds) → AreBounds z → AreBounds o → highest_of z o + 1 - lowest_of z o ≤ highest_of z o + 1
low-bound z o az ao = omega arith

chosen-spare : (b : Book) (p : ℕ) → has p (granted b) ≡ true → is_spare b.entries b.owned p ≡ true
chosen-spare b p h =
    let chosen = has-take p (share (length (spares b) - b.ahead)) (spares b) h in
    (and_parts (is_spare b.entries b.owned p) (has p (ports_down b)) (sym (has-filter (is_spare b.entries b.owned) p (ports_down b)) ∙ chosen)).0

all-ports : (ps : List ℕ) → ((p : ℕ) → is_listed p ps ≡ true → IsPort p) → ArePorts (map (λ p. (let q : Port = record { 0 = p } in q)) ps)
all-ports [] each = tt
all-ports (p ∷ ps) each = (each p (or_left (p == p) (is_listed p ps) (eq-eqb p p refl)), all-ports ps (λ q h. each q (or_right (p == q) (is_listed q ps) h)))

few : (n : ℕ) (xs : List ℕ) → length (take (share n) xs) ≤ 16
few n xs = let l = length-take (share n) xs in omega arith

pub may-give : (b : Book) → IsBook b → MayGive b (as_ports (granted b))
may-give b is =
    let back : numbers_of (as_ports (granted b)) ≡ granted b = numbers-back (granted b) in
    let apart : AreDistinct (granted b) =
    distinct-take (share (length (spares b) - b.ahead)) (spares b) (distinct-filter (is_spare b.entries b.owned) (ports_down b)
    (distinct-falling (highest_of b.zero b.one) (highest_of b.zero b.one + 1 - lowest_of b.zero b.one) (low-bound b.zero b.one is.zero is.one))) in
    let most : length (as_ports (granted b)).ports ≤ 16 = subst (λ n. n ≤ 16) (sym (length-map (granted b) (λ p. (let q : Port = record { 0 = p } in q)))) (few (length (spares b) - b.ahead) (spares b)) in
    let spare : (p : ℕ) → is_listed p (granted b) ≡ true → is_spare b.entries b.owned p ≡ true = λ p h. chosen-spare b p (has-listed p (granted b) ∙ h) in
    record {
      most = most;
      distinct = subst AreDistinct (sym back) apart;
      spare = λ p h. spare p (ap (is_listed p) (sym back) ∙ h);
      formed = record {
        most = most;
        ports = all-ports (granted b) (λ p h. ranges-port b p is (is.owned p (and_parts (owns b p) (is_vacant b.entries p) (spare p h)).0));
      };
    }

module _ (now : ℕ) (c : Book) (e : Link) (h : List Record) (n : ℕ) (letters : List Letter) (words : List ℕ) where
  sent-none : machine_records (h ++ []) ≡ machine_records h
  sent-none = map-append machine_record h [] ∙ append-nil (machine_records h)

  -- a record is taken while a batch is promised
  ignores : (q : MachineRecord) (m : ℕ) → is_synced c.stage ≡ true → is_lone c.stage ≡ false → promised_of e ≡ Some m → IsReading c e h n letters q → RowSteps now c e h n letters words quiet
  ignores q m synced lone promised g =
      act-step (ranges_of c) c.id now (box_at c e h n) (box_at c e (h ++ []) (suc n)) (Ignore g.letter g.offset q) letters words []
      (synced, lone, (m, promised), g.next) (reads now c e h n letters words q g, tt)
      (record { up = refl; boot = refl; synced = refl; lone = refl; peer = refl; table = λ k. refl; sent = sent-none; taken = refl; loading = refl; owned = λ p. refl; wants = refl; named = refl; promised = refl })
      refl (λ m. refl)

  module _ (synced : is_synced c.stage ≡ true) (lone : is_lone c.stage ≡ false) where
    give-owned : (ports : List ℕ) (p : ℕ) → is_listed p (without_ports ports c.owned) ≡ cond (has p ports) false (owns c p)
    give-owned ports p = listed-filter (λ q. not (is_listed q ports)) c.owned p ∙ ap (λ b. not b && owns c p) (sym (has-listed p ports)) ∙ at (has p ports) (owns c p)
      where
        at : (a b : Bool) → (not a && b) ≡ cond a false b
        at true b = refl
        at false b = refl

    -- taking a Want is an act of the machine
    want-steps : IsBook c → IsReading c e h n letters machine.Want → RowSteps now c e h n letters words (want_row c)
    want-steps is g =
        let may = may-give c is in
        let given : List ℕ = numbers_of (as_ports (granted c)) in
        act-step (ranges_of c) c.id now (box_at c e h n) (box_at (after c (want_row c)) (answered e (want_row c).answer) (h ++ pushed_by (want_row c).answer) (suc n)) (GrantPorts g.letter g.offset given) letters words [] (
          synced,
          lone,
          may.distinct,
          (λ p there. let parts = and_parts (owns c p) (is_vacant c.entries p) (may.spare p (sym (has-listed p given) ∙ there)) in (parts.0, vacant-is c.entries p parts.1)),
          g.next,
        )
        (reads now c e h n letters words machine.Want g, tt)
        (record { up = refl; boot = refl; synced = refl; lone = refl; peer = refl; table = λ k. refl; sent = map-append machine_record h (pushed_by (want_row c).answer); taken = refl; loading = refl; owned = give-owned given; wants = refl; named = refl; promised = refl })
        refl (λ m. refl)

    becomes : (p : ℕ) → becomes_owned (ranges_of c) (box_at c e h n) p ≡ is_gained c p
    becomes p =
        ap (λ b. is_theirs c p && (b && (is_free (slots_of c.entries (key_of Tcp p)) && is_free (slots_of c.entries (key_of Udp p))))) (free-none (slot_of c.entries (key_of Icmp p)))
        ∙ ap (λ b. is_theirs c p && (is_none_at (key_of Icmp p) && (b && is_free (slots_of c.entries (key_of Udp p))))) (free-none (slot_of c.entries (key_of Tcp p)))
        ∙ ap (λ b. is_theirs c p && (is_none_at (key_of Icmp p) && (is_none_at (key_of Tcp p) && b))) (free-none (slot_of c.entries (key_of Udp p)))
      where
        is_none_at : Key → Bool
        is_none_at k = is_none (slot_of c.entries k)

    -- taking a Grant while a Want is open is an act of the machine
    gain-steps : (ports : List ℕ) → c.wants ≡ true → IsReading c e h n letters (machine.Grant ports) → Makes now c e h n letters words (record (with_gained c ports) { wants = false }) None None
    gain-steps ports wants g =
        let a = box_at c e h n in
        let mine : List ℕ = filter (becomes_owned (ranges_of c) a) ports in
        let same : record (with_gained c ports) { wants = false } ≡ record c { owned = (with_gained c ports).owned; wants = false } = ap (λ (x : Book). record x { wants = false }) (gained-is c ports) in
        subst (λ (x : Book). Makes now c e h n letters words x None None) (sym same)
        (act-step (ranges_of c) c.id now a (box_at (record c { owned = (with_gained c ports).owned; wants = false }) e (h ++ []) (suc n)) (TakePorts g.letter g.offset ports mine) letters words []
        (synced, lone, wants, got (ranges_of c) a ports, g.next) (reads now c e h n letters words (machine.Grant ports) g, tt)
        (record {
          up = refl;
          boot = refl;
          synced = refl;
          lone = refl;
          peer = refl;
          table = λ k. refl;
          sent = sent-none;
          taken = refl;
          loading = refl;
          owned = λ p. gained-box p c ports ∙ ap (λ b. cond b true (owns c p)) (ap (λ b. b && is_listed p ports) (sym (becomes p)) ∙ ap (λ b. becomes_owned (ranges_of c) a p && b) (sym (has-listed p ports)) ∙ sym (has-filter (becomes_owned (ranges_of c) a) p ports));
          wants = refl;
          named = refl;
          promised = refl;
        })
        refl (λ m. refl))

    -- taking a Grant while no Want is open is an act of the machine
    lose-steps : (ports : List ℕ) → c.wants ≡ false → IsReading c e h n letters (machine.Grant ports) → RowSteps now c e h n letters words quiet
    lose-steps ports wants g =
        act-step (ranges_of c) c.id now (box_at c e h n) (box_at c e (h ++ []) (suc n)) (LosePorts g.letter g.offset ports) letters words []
        (synced, lone, wants, g.next) (reads now c e h n letters words (machine.Grant ports) g, tt)
        (record { up = refl; boot = refl; synced = refl; lone = refl; peer = refl; table = λ k. refl; sent = sent-none; taken = refl; loading = refl; owned = λ p. refl; wants = refl; named = refl; promised = refl })
        refl (λ m. refl)

    grant-steps : (given : Granted) → IsReading c e h n letters (machine.Grant (numbers_of given)) → RowSteps now c e h n letters words (grant_row c given)
    grant-steps given g = at c.wants refl
      where
        at : (b : Bool) → c.wants ≡ b → RowSteps now c e h n letters words (let r : Transition = cond b (row (Gain given) None None) quiet in r)
        at true open_want = gain-steps (numbers_of given) open_want g
        at false none = lose-steps (numbers_of given) none g

    synced-steps : IsBook c → (r : Record) (rests : Bool) → IsReading c e h n letters (machine_record r) → RowSteps now c e h n letters words (synced_row c rests r)
    synced-steps is (rec.Install p) rests g = install-steps now c e h n letters words synced lone is p g
    synced-steps is (rec.Accept k) rests g = accept-steps now c e h n letters words synced lone k (slot_of c.entries k) refl g
    synced-steps is (rec.Refuse k) rests g = refuse-steps now c e h n letters words synced lone k (slot_of c.entries k) refl g
    synced-steps is (rec.Ask k) rests g = ask-steps now c e h n letters words synced lone k rests (slot_of c.entries k) refl g
    synced-steps is (rec.Tell p) rests g = tell-steps now c e h n letters words synced lone is p g
    synced-steps is (rec.Yes k) rests g = yes-steps now c e h n letters words synced lone k (slot_of c.entries k) refl g
    synced-steps is (rec.No k) rests g = no-steps now c e h n letters words synced lone k (slot_of c.entries k) refl g
    synced-steps is rec.Begin rests g = skip-row now c e h n letters words synced lone machine.Begin g tt
    synced-steps is (rec.Put p) rests g = skip-row now c e h n letters words synced lone (machine.Put p.key p.endpoint) g tt
    synced-steps is rec.Done rests g = skip-row now c e h n letters words synced lone machine.Done g tt
    synced-steps is rec.Want rests g = want-steps is g
    synced-steps is (rec.Grant given) rests g = grant-steps given g
    synced-steps is (rec.Owner first last) rests g = skip-row now c e h n letters words synced lone (machine.Owner first.0 last.0) g tt

    promised-some : (rs : List Record) → is_any rs ≡ true → length rs ≡ e.promised → (m : ℕ) × (promised_of e ≡ Some m)
    promised-some [] any count = absurd (cc)
    promised-some (r ∷ rs) any count =
        let ne : (e.promised == 0) ≡ false = ne_eqb e.promised 0 (λ z. let bad : suc (length rs) ≡ 0 = count ∙ z in cc) in
        (e.acknowledged + length e.fed + e.promised - 1, cond-false (e.promised == 0) None (Some (e.acknowledged + length e.fed + e.promised - 1)) ne)

    -- taking any record at a synced gateway is an act of the machine
    pub row-steps : IsBook c → Stands c e h → (r : Record) (rests : Bool) → IsReading c e h n letters (machine_record r) → RowSteps now c e h n letters words (row_of c rests r)
    row-steps is stands r rests g = at (is_promised c) refl
      where
        at : (b : Bool) → is_promised c ≡ b → RowSteps now c e h n letters words (let x : Transition = cond b quiet (synced_row c rests r) in x)
        at true promised = let m = promised-some c.coming promised stands.coming in ignores (machine_record r) m.0 synced lone m.1 g
        at false none = synced-steps is r rests g
