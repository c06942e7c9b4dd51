-- The answers to a packet of an endpoint without a pair, where nothing is made yet, and what is asked for behind a row.
use Rattle.std.specs.Prelude.{◌&&◌, Bool, Option, Some, None, not, if◌then◌else◌}
use Rattle.addresses.specs.declared.transport.Port.{Port}
use Rattle.spec_binding.specs.declared.changes.Change.{Change}
use Rattle.spec_binding.specs.declared.changes.Transition.{Transition}
use Rattle.spec_binding.specs.declared.changes.Want.{Want}
use Rattle.spec_binding.specs.declared.changes.Want.TheVariants as want
use Rattle.spec_binding.specs.Books.{Book}
use Rattle.spec_binding.specs.Rows.{is_short_after, quiet, wanting_row}

-- where the pair would be made at once: the port, if one is free
abbrev pub given_answer : Option Port → Want
given_answer None = want.NoPort
given_answer (Some port) = want.Port port

-- where the pair would be proposed: the packet would wait, where a port is free and the link isn't full
abbrev pub offered_answer : Bool → Bool → Want
offered_answer has_port full = if not has_port then want.NoPort else (if full then want.NotNow else want.Wait)

-- what is asked for behind a change that was made, where the change is a cause to ask for ports ahead
abbrev pub asked_row : Bool → Book → Bool → Change → Transition
asked_row is_cause b full c = if is_cause && is_short_after b c then wanting_row b full else quiet
