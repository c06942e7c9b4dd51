-- The texts of addresses, and what is none.
use Rattle.std.proofs.Common.{◌≡◌, List, ℕ, Option, Some, None, Result, Ok, Err, MatchOption, subst, sym}
use Rattle.std.specs.Result.{result_ok}
use Rattle.std.specs.Net.Grammar.{IsIpv4Text, Parses}
use Rattle.std.specs.declared.net.ipv4_addr.Ipv4Addr.{Ipv4Addr}
use Rattle.command_line.specs.Filters.{LacksAddress}

-- a refusal is None
pub refused : {A : Type 0} (P : Type 0) (Q : A → Type 0) (r : Option A) → r ≡ None → P → MatchOption r P Q
refused P Q r is holds = subst (λ o. MatchOption o P Q) (sym is) holds

pub parsed : {E : Type 0} (text : List ℕ) (r : Result Ipv4Addr E) (a : Ipv4Addr) → Parses IsIpv4Text text r → result_ok r ≡ Some a → IsIpv4Text text a
parsed text (Ok b) a written is =
    let same : b ≡ a = cc in
    subst (λ x. IsIpv4Text text x) same written
parsed text (Err e) a written is = absurd (cc)

pub not_parsed : {E : Type 0} (text : List ℕ) (r : Result Ipv4Addr E) → Parses IsIpv4Text text r → result_ok r ≡ None → LacksAddress (Some text)
not_parsed text (Ok b) written is = absurd (cc)
not_parsed text (Err e) none is = λ ip w. none w.address w.written
