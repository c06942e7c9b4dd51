use Rattle.std.proofs.Common.{◌≡◌, nat_lt, false, ◌∙◌, sym, arith}
use Rattle.std.proofs.lemmas.Bool.Decides.{nat_tests}
use Rattle.ipv4.proofs.Routes.{route-short}
use Rattle.ipv4.proofs.header.source_route.Goals as goal

pub returns-else-header_length-gt-FIXED : goal.returns-else-header_length-gt-FIXED
returns-else-header_length-gt-FIXED c =
    let none : nat_lt 20 c.args.header_length ≡ false = grind (arith, nat_tests) in
    none ∙ sym (route-short c.args.bytes.now (omega (arith, c.requires.header)))
