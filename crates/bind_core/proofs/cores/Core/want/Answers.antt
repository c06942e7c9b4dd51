use Rattle.std.proofs.Common.{◌≡◌, ◌<◌, Bool, true, is_some, [], ◌++◌, sym, ap, subst, ◌∙◌}
use Rattle.std.specs.Option.{IfSome}
use Rattle.link.specs.Grammar.{IsWellFormedRecord}
use Rattle.link.specs.Link.{free_places}
use Rattle.spec_binding.specs.declared.changes.PortRequest.{PortRequest}
use Rattle.spec_binding.specs.declared.changes.Want.{Want}
use Rattle.spec_binding.specs.declared.changes.Want.TheVariants as want
use Rattle.spec_binding.specs.Books.{IsBook, is_apart, is_promised}
use Rattle.spec_binding.specs.Rows.{after, answered, behind, is_full, noted_by, wish_of}
use Rattle.spec_binding.specs.Ledgers.{Ledger}
use Rattle.spec_binding.specs.WellFormed.{Fits}
use Rattle.bind_core.specs.Changes.{IsSteady, LivesOn}
use Rattle.bind_core.specs.Cores.{book_of, core_behind}
use Rattle.bind_core.proofs.Deciding.{wish-places, wish-steady}
use Rattle.spec_binding.proofs.Offered.{works-behind}
use Rattle.bind_core.proofs.Asking.{ledger-behind, ready-behind}
use Rattle.bind_core.proofs.Performing.{works-as}
use Rattle.bind_core.proofs.cores.Core.want.Goals as goal

pub carry_out-requires-clause-fits : goal.carry_out-requires-clause-fits
carry_out-requires-clause-fits c =
    let b = book_of c.args.self.now in
    subst (λ (w : PortRequest). Fits b w.row.change) (sym c.wish_for-wish.ensures) (c.rows_fit.ensures.wished b c.is_apart-apart.result c.is_link_full-full.result c.args.endpoint c.recall.ensures.book c.requires.formed)

pub carry_out-requires-clause-kept : goal.carry_out-requires-clause-kept
carry_out-requires-clause-kept c =
    let b = book_of c.args.self.now in
    subst (λ (w : PortRequest). IsBook (after b w.row)) (sym c.wish_for-wish.ensures) (c.books_keep.ensures.wished b c.is_apart-apart.result c.is_link_full-full.result c.args.endpoint c.recall.ensures.book c.requires.formed)

pub carry_out-requires-clause-formed : goal.carry_out-requires-clause-formed
carry_out-requires-clause-formed c =
    let b = book_of c.args.self.now in
    subst (λ (w : PortRequest). IfSome w.row.answer IsWellFormedRecord) (sym c.wish_for-wish.ensures) (c.answers_fit.ensures.wished b c.is_apart-apart.result c.is_link_full-full.result c.args.endpoint c.recall.ensures.book c.requires.formed)

pub carry_out-requires-clause-ready : goal.carry_out-requires-clause-ready
carry_out-requires-clause-ready c = λ adds. c.requires.ready

pub carry_out-requires-clause-steady : goal.carry_out-requires-clause-steady
carry_out-requires-clause-steady c =
    let b = book_of c.args.self.now in
    subst (λ (w : PortRequest). is_promised b ≡ true → IsSteady b w.row.change) (sym c.wish_for-wish.ensures) (wish-steady b c.is_apart-apart.result c.is_link_full-full.result c.args.endpoint c.recall.ensures.book)

pub carry_out-requires-clause-places : goal.carry_out-requires-clause-places
carry_out-requires-clause-places c =
    let b = book_of c.args.self.now in
    let is = c.wish_for-wish.ensures ∙ ap (λ (full : Bool). wish_of b c.is_apart-apart.result full c.args.endpoint) c.is_link_full-full.ensures ∙ ap (λ (apart : Bool). wish_of b apart (is_full c.args.link.now) c.args.endpoint) c.is_apart-apart.ensures in
    subst (λ (w : PortRequest). is_some w.row.answer ≡ true → 0 < free_places c.args.link.now) (sym is) (wish-places b c.args.link.now (is_apart b c.args.link.now c.args.now) c.args.endpoint)

pub wish_for-wish-requires : goal.wish_for-wish-requires
wish_for-wish-requires c =
    let b = book_of c.args.self.now in
    let is = ap (λ (full : Bool). (wish_of b c.is_apart-apart.result full c.args.endpoint).answer) c.is_link_full-full.ensures ∙ ap (λ (apart : Bool). (wish_of b apart (is_full c.args.link.now) c.args.endpoint).answer) c.is_apart-apart.ensures in
    subst (λ (w : Want). IfSome c.args.looked (λ port. w ≡ want.Port port)) (sym is) c.requires.looked

pub returns : goal.returns
returns c =
    let b = book_of c.args.self.now in
    let e = c.args.link.now in
    let is = c.wish_for-wish.ensures ∙ ap (λ (full : Bool). wish_of b c.is_apart-apart.result full c.args.endpoint) c.is_link_full-full.ensures ∙ ap (λ (apart : Bool). wish_of b apart (is_full e) c.args.endpoint) c.is_apart-apart.ensures in
    let row = (wish_of b (is_apart b e c.args.now) (is_full e) c.args.endpoint).row in
    let link = c.carry_out.ensures.link ∙ ap (λ (w : PortRequest). answered (answered e w.row.answer) (behind b e w.row).answer) is in
    let core = c.carry_out.ensures.core ∙ ap (λ (w : PortRequest). core_behind c.args.now c.args.self.now e w.row) is in
    let ledger = ledger-behind c.args.now c.args.self.now c.carry_out.new.self e row core in
    record {
      answer = ap (λ (w : PortRequest). w.answer) is;
      link = link;
      ledger = ledger;
      ready = ready-behind c.args.now c.args.self.now c.carry_out.new.self e row core;
      pasts = subst (λ (w : PortRequest). LivesOn c.args.now w.row.change c.args.self.now.table c.carry_out.new.self.table) is c.carry_out.ensures.pasts;
      notes = c.carry_out.ensures.notes ∙ ap (λ (w : PortRequest). c.args.notes.now.items ++ noted_by c.args.self.now.id c.args.now w.row.what) is;
      len = c.carry_out.ensures.len;
      capacity = c.carry_out.ensures.capacity;
      works = λ h n stands.
          works-as c.args.now _ _ b e n (after (after b row) (behind b e row)) (book_of c.carry_out.new.self) (answered (answered e row.answer) (behind b e row).answer) c.carry_out.new.link n _ h (ap (λ (l : Ledger). l.book) ledger) link
          (works-behind c.args.now [] [] b e (answered e row.answer) n n (noted_by b.id c.args.now row.what) h (is_full (answered e row.answer)) row.change
          (c.wish_works.ensures c.args.now b e n h (is_apart b e c.args.now) (is_full e) c.args.endpoint stands));
    }
