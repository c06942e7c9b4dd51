-- The draw of a range by its marks.
use Rattle.std.proofs.Common.{◌≡◌, ℕ, ◌+◌, ◌≤◌, Bool, Option, Some, None, IfSome, IfNone, ap, ◌∙◌, sym, arith}
use Rattle.std.proofs.lemmas.Bool.{cond-true, cond-false}
use Rattle.addresses.specs.declared.transport.Parity.{Parity}
use Rattle.addresses.specs.declared.transport.Port.{Port}
use Rattle.addresses.specs.Transport.{parity_of}
use Rattle.port_range.specs.Ports.{is_owned, is_available, same_parity, or_else}
use Rattle.port_range.specs.Words.{has_bit}
use Rattle.port_range.specs.Marks.{Marked, has_both, other_parity, ranged, HasMarks}
use Rattle.port_range.specs.Drawn.{drawn_like, drawn_open, drawn_port, words_drawn_at}
use Rattle.port_range.proofs.Choice.{parity-true}
use Rattle.port_range.proofs.Listed.{available-is, where-is, other-parity}
use Rattle.port_range.proofs.Drawing.{drawn-same, like-some}

-- the port that is drawn of a range is drawn by its marks
drawn-marks : (lowest highest : ℕ) (marks : Marked) (parity : Parity) (x y : ℕ) → HasMarks lowest highest marks
    → drawn_port (ranged lowest highest marks) parity x y ≡ drawn_open (has_both marks.free marks.owned) (has_bit marks.owned) parity x y
drawn-marks lowest highest marks parity x y h =
    drawn-same (is_available (ranged lowest highest marks)) (has_both marks.free marks.owned) (is_owned (ranged lowest highest marks)) (has_bit marks.owned) parity x y
    (available-is lowest highest marks h) (where-is lowest highest (has_bit marks.owned) h.order h.owned)

-- a port that is drawn of the parity is the drawn one
pub drawn-first : (lowest highest : ℕ) (marks : Marked) (parity : Parity) (x y : ℕ) (port : Port) → HasMarks lowest highest marks
    → Some port ≡ drawn_like (has_both marks.free marks.owned) (has_bit marks.owned) parity x y → Some port ≡ drawn_port (ranged lowest highest marks) parity x y
drawn-first lowest highest marks parity x y port h is =
    sym (drawn-marks lowest highest marks parity x y h
    ∙ ap (λ (o : Option Port). or_else o (drawn_like (has_both marks.free marks.owned) (has_bit marks.owned) (other_parity parity) x y)) (sym is))

-- where none is drawn of the parity, what is drawn of the other is
pub drawn-second : (lowest highest : ℕ) (marks : Marked) (parity : Parity) (x y : ℕ) (answer : Option Port) → HasMarks lowest highest marks
    → None ≡ drawn_like (has_both marks.free marks.owned) (has_bit marks.owned) parity x y
    → answer ≡ drawn_like (has_both marks.free marks.owned) (has_bit marks.owned) (other_parity parity) x y → answer ≡ drawn_port (ranged lowest highest marks) parity x y
drawn-second lowest highest marks parity x y answer h none is =
    sym (drawn-marks lowest highest marks parity x y h
    ∙ ap (λ (o : Option Port). or_else o (drawn_like (has_both marks.free marks.owned) (has_bit marks.owned) (other_parity parity) x y)) (sym none) ∙ sym is)

-- ---- how many words are looked at

pub some-holds : {P : Type 0} (answer : Option Port) (port : Port) → answer ≡ Some port → IfSome answer (λ p. P) → P
some-holds None port e h = cc
some-holds (Some p) port e h = h

pub none-holds : {P : Type 0} (answer : Option Port) → answer ≡ None → IfNone answer P → P
none-holds None e h = h
none-holds (Some p) e h = cc

pub looked-first : (test owned : ℕ → Bool) (parity : Parity) (x y : ℕ) (port : Port) (looked : ℕ) → Some port ≡ drawn_like test owned parity x y → looked ≡ 19
    → (looked ≡ words_drawn_at parity (Some port)) × (looked ≤ 35)
looked-first test owned parity x y port looked is many =
    let kind = (like-some test owned parity x y port (sym is)).1 in
    let same = cond-true {A = ℕ} (same_parity (parity_of port.0) parity) 19 35 (parity-true (parity_of port.0) parity kind) in
    (omega (arith, same, many), omega (arith, many))

pub looked-second : (test owned : ℕ → Bool) (parity : Parity) (x y : ℕ) (answer : Option Port) (looked more : ℕ) → answer ≡ drawn_like test owned (other_parity parity) x y → looked ≡ 16
    → IfSome answer (λ port. more ≡ 19) → IfNone answer (more ≡ 16) → (looked + more ≡ words_drawn_at parity answer) × (looked + more ≤ 35)
looked-second test owned parity x y None looked more is whole some none = (omega (arith, whole, none), omega (arith, whole, none))
looked-second test owned parity x y (Some port) looked more is whole some none =
    let kind = (like-some test owned (other_parity parity) x y port (sym is)).1 in
    let apart = cond-false {A = ℕ} (same_parity (parity_of port.0) parity) 19 35 (ap (λ (p : Parity). same_parity p parity) kind ∙ other-parity parity) in
    (omega (arith, apart, whole, some), omega (arith, whole, some))
