use Rattle.std.proofs.Common.{ℕ, List, ap, ◌∙◌}
use Rattle.port_range.specs.Words.{has_bit}
use Rattle.port_range.specs.Marks.{Marked, has_both}
use Rattle.port_range.specs.Drawn.{drawn_like}
use Rattle.port_range.proofs.marks.Marks.drawn.Goals as goal

pub returns-clause-chosen : goal.returns-clause-chosen
returns-clause-chosen c =
    c.drawn_open.ensures.chosen
    ∙ ap (λ (l : List ℕ). drawn_like (has_both l c.deref-3.result.now) (has_bit c.deref-3.result.now) c.args.parity c.args.x c.args.y) c.deref-2.ensures.value
    ∙ ap (λ (l : List ℕ). drawn_like (has_both c.self.inside.free.items l) (has_bit l) c.args.parity c.args.x c.args.y) c.deref-3.ensures.value
    ∙ ap (λ (m : Marked). drawn_like (has_both m.free m.owned) (has_bit m.owned) c.args.parity c.args.x c.args.y) c.self.view_is
