-- Where no port is chosen for an endpoint.
use Rattle.std.proofs.Common.{◌≡◌, ℕ, false, None, List}
use Rattle.std.proofs.lemmas.Bool.{and_parts}
use Rattle.addresses.specs.Transport.{parity_of}
use Rattle.nat_types.specs.declared.pairs.Endpoint.{Endpoint}
use Rattle.bindings.specs.Numbers.{numbers_of as drawn_numbers}
use Rattle.bindings.specs.Ports.{is_free_in, is_open_in}
use Rattle.port_range.specs.Ports.{is_listed}
use Rattle.port_range.proofs.Offered.{drawn-none}
use Rattle.spec_binding.specs.declared.setups.Choice.TheVariants.{Drawn}
use Rattle.spec_binding.specs.Books.{Book, IsBook, owns}
use Rattle.spec_binding.specs.Rows.{port_by}
use Rattle.spec_binding.proofs.Moves.{ranges-port}

-- where no port is drawn, no port may be given out
pub drawn-busy : (b : Book) (e : Endpoint) (key : List ℕ) → IsBook b → port_by (Drawn key) b e ≡ None → (port : ℕ) → is_open_in b.entries b.owned e.protocol port ≡ false
drawn-busy b e key is none port =
    drawn-none (is_open_in b.entries b.owned e.protocol) (λ q. is_listed q b.owned) (parity_of e.port.0) (drawn_numbers key e).0 (drawn_numbers key e).1
    (λ q may. (and_parts (owns b q) (is_free_in b.entries e.protocol q) may).0)
    (λ q may. (ranges-port b q is (is.owned q (and_parts (owns b q) (is_free_in b.entries e.protocol q) may).0)).1)
    none port
