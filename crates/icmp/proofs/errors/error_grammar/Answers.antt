use Rattle.icmp.specs.Error.{has_error_kind, has_no_error}
use Rattle.icmp.specs.declared.faults.IcmpFault.TheVariants.{NotError, BadError}
use Rattle.icmp.proofs.Told.{two-clear, clear-two, error-told, told-error}
use Rattle.icmp.proofs.errors.error_grammar.Goals as goal

pub returns-clause-grammar : goal.returns-clause-grammar
returns-clause-grammar c = λ message. (
  λ e. let p = two-clear NotError BadError (has_error_kind message) (has_no_error message) e in error-told message p.0 p.1,
  λ g. clear-two NotError BadError (has_error_kind message) (has_no_error message) g.kind (told-error message g),
)
