use Rattle.std.proofs.Common.{slice_get, sym, ap, ◌∙◌, Bool}
use Rattle.gateway.specs.Numbers.{number_by}
use Rattle.gateway.proofs.Numbering.{by-frames, by-number}
use Rattle.gateway.proofs.numbers.number_next.Goals as goal

pub returns-then-number_frame-clause-told : goal.returns-then-number_frame-clause-told
returns-then-number_frame-clause-told c =
    let told = c.args.page.now.told in
    by-frames (slice_get told.frames c.args.k) c.number_frame.result c.args.networks.now told c.number_frame.new.page.told c.args.id c.args.number c.args.k c.number_of.result told.frames
    c.number_frame.ensures.numbered c.number_of.ensures c.number_frame.ensures.told

pub returns-else-number_frame-clause-told : goal.returns-else-number_frame-clause-told
returns-else-number_frame-clause-told c =
    let told = c.args.page.now.told in
    by-frames (slice_get told.frames c.args.k) c.number_frame.result c.args.networks.now told c.number_frame.new.page.told c.args.id c.args.number c.args.k c.number_of.result told.frames
    c.number_frame.ensures.numbered c.number_of.ensures c.number_frame.ensures.told

pub returns-then-number_frame-clause-next : goal.returns-then-number_frame-clause-next
returns-then-number_frame-clause-next c =
    by-number (slice_get c.args.page.now.told.frames c.args.k) c.number_frame.result c.args.networks.now c.args.number c.next_number.result c.number_frame.ensures.numbered
    (c.next_number.ensures ∙ ap (λ (b : Bool). number_by b c.args.number) (sym c.if-number_frame.true))

pub returns-else-number_frame-clause-next : goal.returns-else-number_frame-clause-next
returns-else-number_frame-clause-next c =
    by-number (slice_get c.args.page.now.told.frames c.args.k) c.number_frame.result c.args.networks.now c.args.number c.args.number c.number_frame.ensures.numbered
    (ap (λ (b : Bool). number_by b c.args.number) (sym c.if-number_frame.false))
