-- The link and the protocol agree on whether the peer was heard lately.
use Rattle.std.proofs.Common.{◌≡◌, ℕ, Option, Some, None, refl}
use Rattle.link.specs.Hearing as link
use Rattle.spec_binding.specs.Ledgers.{is_heard}

pub same_heard : (heard : Option ℕ) (now : ℕ) → link.is_heard heard now ≡ is_heard heard now
same_heard None now = refl
same_heard (Some last) now = refl
