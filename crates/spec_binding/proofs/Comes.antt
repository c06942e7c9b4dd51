-- The records that a datagram gives come in their turn.
use Rattle.std.proofs.Common.{◌≡◌, ℕ, zero, suc, ◌+◌, Some, List, [], ◌∷◌, sym, ap, ◌∙◌}
use Rattle.std.specs.List.{slice_get}
use Rattle.nat_types.specs.declared.records.Record.{Record}
use Rattle.link.specs.declared.datagrams.Datagram.{Datagram}
use Rattle.link.specs.declared.datagrams.Taken.{Taken}
use Rattle.link.specs.Link.{Link, IsTaken, met}
use Rattle.link.proofs.Offered.{is_next}
use Rattle.spec_pair.specs.Box.{nth}
use Rattle.spec_pair.specs.Mapped.{machine_record}
use Rattle.spec_binding.specs.Machine.{IsTurn, letter_of, machine_records}

nth-map : (rs : List Record) (k : ℕ) (r : Record) → slice_get rs k ≡ Some r → nth (machine_records rs) k ≡ Some (machine_record r)
nth-map [] k r h = absurd (cc)
nth-map (q ∷ rs) zero r h = let same : q ≡ r = cc in ap (λ (z : Record). Some (machine_record z)) same
nth-map (q ∷ rs) (suc k) r h = nth-map rs k r h

pub turn-comes : (bytes : List ℕ) (e e1 e2 : Link) (now : ℕ) (t : Taken) (d : Datagram) → IsTaken bytes e now t e1 d → e2.boot ≡ e1.boot → e2.known ≡ e1.known → (k : ℕ) (r : Record) → slice_get t.records.items k ≡ Some r → (offset : ℕ) × IsTurn e2 ((met e d).taken + k) (letter_of d) offset r
turn-comes bytes e e1 e2 now t d is boot known k r at =
    let next = is_next bytes e now t e1 d is k r at in
    let boot_is : e1.boot ≡ (met e d).boot = ap (λ (x : Link). x.boot) is.after in
    let known_is : e1.known ≡ (met e d).known = ap (λ (x : Link). x.known) is.after in (
      next.0,
      record {
        boot = next.1.boot ∙ sym (known ∙ known_is);
        to = next.1.to ∙ sym (boot ∙ boot_is);
        number = next.1.place;
        stands = nth-map d.records.items next.0 r next.1.stands;
      },
    )
