-- Letting idle pairs go one by one is the same as by one fold, and so is marking pairs or telling of them.
use Rattle.std.proofs.Common.{◌≡◌, Bool, List, [], ◌∷◌, sym, ap, ◌∙◌, append_assoc}
use Rattle.std.proofs.lemmas.List.{append-nil}
use Rattle.nat_types.specs.declared.notes.Note.{Note}
use Rattle.nat_types.specs.declared.pairs.Key.{Key}
use Rattle.spec_binding.specs.Ledgers.{LetGo, go_on_all, release_all, may_ask}
use Rattle.spec_binding.specs.Rows.{alone_row, idle_row, is_full, noted_by}
use Rattle.spec_step.specs.Parts.{all_idle_done, all_sought_done, idle_done, sought_done}
use Rattle.spec_step.specs.Shown.{GatewayAndOutput, id_of, scene, with_notes}

-- the scene after these pairs were let go by the fold
abbrev pub idle_gone : GatewayAndOutput → LetGo → GatewayAndOutput
idle_gone s r = scene (record s.shown { ledger = r.ledger; link = r.link }) (with_notes s.told r.notes)

pub idle-at-once : (s : GatewayAndOutput) (ks : List Key) → all_idle_done s ks ≡ idle_gone s (release_all s.shown.moment ks s.shown.ledger s.shown.link)
idle-at-once s [] = ap (λ (ns : List Note). scene s.shown (record s.told { notes = ns })) (sym (append-nil s.told.notes))
idle-at-once s (k ∷ ks) =
    let g = s.shown in
    let noted = noted_by (id_of g) g.moment (idle_row g.ledger.book (may_ask g.moment g.ledger.book g.link) k).what in
    let mid = idle_done s k in
    let rest = release_all g.moment ks mid.shown.ledger mid.shown.link in
    idle-at-once mid ks
    ∙ ap (λ (ns : List Note). scene (record g { ledger = rest.ledger; link = rest.link }) (record s.told { notes = ns })) (append_assoc s.told.notes noted rest.notes)

pub sought-at-once : (s : GatewayAndOutput) (apart : Bool) (ks : List Key) → all_sought_done apart s ks ≡ idle_gone s (go_on_all apart s.shown.moment ks s.shown.ledger s.shown.link)
sought-at-once s apart [] = ap (λ (ns : List Note). scene s.shown (record s.told { notes = ns })) (sym (append-nil s.told.notes))
sought-at-once s apart (k ∷ ks) =
    let g = s.shown in
    let noted = noted_by (id_of g) g.moment (alone_row g.ledger.book apart (is_full g.link) k).what in
    let mid = sought_done apart s k in
    let rest = go_on_all apart g.moment ks mid.shown.ledger mid.shown.link in
    sought-at-once mid apart ks
    ∙ ap (λ (ns : List Note). scene (record g { ledger = rest.ledger; link = rest.link }) (record s.told { notes = ns })) (append_assoc s.told.notes noted rest.notes)
