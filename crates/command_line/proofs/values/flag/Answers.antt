use Rattle.std.proofs.Common.{◌∙◌, ap, codes, false, Bool, Option}
use Rattle.std.specs.Option.{option_map_or}
use Rattle.std.specs.Str.{bytes_eq}
use Rattle.clap.specs.Words.{Text}
use Rattle.command_line.proofs.values.flag.Goals as goal

abbrev is_true : Option Text → Bool
is_true o = option_map_or (λ text. bytes_eq text (codes "true")) o false

pub returns-in-Some : goal.returns-in-Some
returns-in-Some c = c.eq.ensures ∙ ap is_true c.in-Some.ensures

pub returns-in-None : goal.returns-in-None
returns-in-None c = ap is_true c.in-None.ensures
