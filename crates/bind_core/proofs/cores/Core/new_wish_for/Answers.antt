use Rattle.std.proofs.Common.{◌≡◌, Option, Some, sym, ap, ◌∙◌}
use Rattle.addresses.specs.declared.internet.Ip.{Ip}
use Rattle.addresses.specs.declared.transport.Port.{Port}
use Rattle.addresses.specs.declared.transport.Protocol.{Protocol}
use Rattle.nat_types.specs.declared.pairs.Endpoint.{Endpoint}
use Rattle.nat_types.specs.declared.pairs.Key.{Key}
use Rattle.spec_binding.specs.Rows.{new_wish}
use Rattle.bind_core.specs.Cores.{book_of}
use Rattle.bind_core.proofs.cores.Core.new_wish_for.Goals as goal

endpoint-from : (e f : Endpoint) → e.address ≡ f.address → e.port ≡ f.port → e.protocol ≡ f.protocol → e ≡ f
endpoint-from e f address port protocol =
    ap (λ (x : Ip). let z : Endpoint = record { address = x; port = e.port; protocol = e.protocol } in z) address
    ∙ ap (λ (x : Port). let z : Endpoint = record { address = f.address; port = x; protocol = e.protocol } in z) port
    ∙ ap (λ (x : Protocol). let z : Endpoint = record { address = f.address; port = f.port; protocol = x } in z) protocol

pub returns-in-Some : goal.returns-in-Some
returns-in-Some c =
    let b = book_of c.args.self.now in
    let pair = c.new.ensures in
    c.new_pair.ensures
    ∙ ap (λ (e : Endpoint). new_wish b c.args.apart c.args.full e (Some c.new.result.key.port)) (endpoint-from c.new.result.endpoint c.args.endpoint pair.address pair.port pair.protocol)
    ∙ ap (λ (k : Key). new_wish b c.args.apart c.args.full c.args.endpoint (Some k.port)) pair.key
    ∙ ap (λ (o : Option Port). new_wish b c.args.apart c.args.full c.args.endpoint o) (sym c.in-Some.is)
