-- The chosen port and the drawn one, by the ports that may be given out.
use Rattle.std.proofs.Common.{◌≡◌, ℕ, ◌<◌, true, false, Option, Some, None, nat_le, List, IfSome, IfNone, sym, arith}
use Rattle.std.proofs.lemmas.Bool.{and_parts, leb-true}
use Rattle.addresses.specs.declared.transport.Protocol.{Protocol}
use Rattle.addresses.specs.declared.transport.Parity.{Parity}
use Rattle.addresses.specs.declared.transport.Port.{Port}
use Rattle.port_range.specs.Ports.{is_listed, IsChosen}
use Rattle.port_range.specs.Drawn.{IsLike}
use Rattle.port_range.proofs.Offered.{Between, AreOwned, ArePorts, chosen-is, chosen-none, drawn-is, drawn-none}
use Rattle.bindings.specs.declared.entries.Entry.{Entry}
use Rattle.bindings.specs.declared.entries.PortBounds.{PortBounds}
use Rattle.bindings.specs.Ports.{is_free_in, is_open_in, in_either, lowest_of, highest_of, chosen_port, drawn_port}
use Rattle.bindings.proofs.Holding.{in-both}

-- all owned ports lie in the ranges
abbrev pub AreInside : List ℕ → PortBounds → PortBounds → Type 0
AreInside owned zero one = (port : ℕ) → is_listed port owned ≡ true → in_either zero one port ≡ true

-- each port that may be given out lies between the lowest and the highest of both ranges
open-between : (es : List Entry) (owned : List ℕ) (zero one : PortBounds) (x : Protocol) → AreInside owned zero one → Between (is_open_in es owned x) (lowest_of zero one) (highest_of zero one)
open-between es owned zero one x inside q holds =
    let within = in-both zero one q (inside q (and_parts (is_listed q owned) (is_free_in es x q) holds).0) in
    let parts = and_parts (nat_le (lowest_of zero one) q) (nat_le q (highest_of zero one)) within in
    (leb-true (lowest_of zero one) q parts.0, leb-true q (highest_of zero one) parts.1)

-- where the answer is a port, the port is one that `IsChosen` allows
pub answer-like : (es : List Entry) (owned : List ℕ) (zero one : PortBounds) (x : Protocol) (parity : Parity) (answer : Option Port) → AreInside owned zero one → answer ≡ chosen_port es owned zero one x parity → IfSome answer (IsChosen (is_open_in es owned x) parity)
answer-like es owned zero one x parity None inside e = tt
answer-like es owned zero one x parity (Some port) inside e = chosen-is (is_open_in es owned x) (lowest_of zero one) (highest_of zero one) parity port (open-between es owned zero one x inside) (sym e)

-- where the answer is None, no port may be given out
pub answer-none : (es : List Entry) (owned : List ℕ) (zero one : PortBounds) (x : Protocol) (parity : Parity) (answer : Option Port) → AreInside owned zero one → answer ≡ chosen_port es owned zero one x parity → IfNone answer ((port : ℕ) → is_open_in es owned x port ≡ false)
answer-none es owned zero one x parity None inside e = chosen-none (is_open_in es owned x) (lowest_of zero one) (highest_of zero one) parity (open-between es owned zero one x inside) (sym e)
answer-none es owned zero one x parity (Some port) inside e = tt

-- ---- the drawn port

open-owned : (es : List Entry) (owned : List ℕ) (x : Protocol) → AreOwned (is_open_in es owned x) (λ q. is_listed q owned)
open-owned es owned x q holds = (and_parts (is_listed q owned) (is_free_in es x q) holds).0

open-ports : (es : List Entry) (owned : List ℕ) (zero one : PortBounds) (x : Protocol) → AreInside owned zero one → highest_of zero one < 65536 → ArePorts (is_open_in es owned x)
open-ports es owned zero one x inside small q holds = (let to = (open-between es owned zero one x inside q holds).1 in omega (arith, to, small))

-- where the drawn port is one, it is one that `IsLike` allows
pub drawn-like : (es : List Entry) (owned : List ℕ) (zero one : PortBounds) (x : Protocol) (parity : Parity) (m n : ℕ) (answer : Option Port) → AreInside owned zero one → highest_of zero one < 65536 → answer ≡ drawn_port es owned x parity m n → IfSome answer (IsLike (is_open_in es owned x) parity)
drawn-like es owned zero one x parity m n None inside small e = tt
drawn-like es owned zero one x parity m n (Some port) inside small e =
    drawn-is (is_open_in es owned x) (λ q. is_listed q owned) parity m n port (open-owned es owned x) (open-ports es owned zero one x inside small) (sym e)

-- where no port is drawn, no port may be given out
pub drawn-nothing : (es : List Entry) (owned : List ℕ) (zero one : PortBounds) (x : Protocol) (parity : Parity) (m n : ℕ) (answer : Option Port) → AreInside owned zero one → highest_of zero one < 65536 → answer ≡ drawn_port es owned x parity m n → IfNone answer ((port : ℕ) → is_open_in es owned x port ≡ false)
drawn-nothing es owned zero one x parity m n None inside small e =
    drawn-none (is_open_in es owned x) (λ q. is_listed q owned) parity m n (open-owned es owned x) (open-ports es owned zero one x inside small) (sym e)
drawn-nothing es owned zero one x parity m n (Some port) inside small e = tt
