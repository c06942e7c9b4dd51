use Rattle.std.proofs.Common.{◌≡◌, ◌∙◌, ◌⊎◌, List, [], ◌∷◌, Option, ap, sym, subst, true, refl, inl, inr, map, string_bytes}
use Rattle.clap.specs.Kinds.{HasKind, IsAmong, Kinds}
use Rattle.clap.specs.Values.{kind_of}
use Rattle.clap.specs.Words.{App, HasMatchesOf, Row, Text, app_of, fault_of, is_simple, is_simple_and_free, subcommand_rows_of}
use Rattle.clap.specs.declared.builder.command.Command.{Command}
use Rattle.clap.specs.declared.error.Error.{Error}
use Rattle.clap.specs.declared.error.kind.ErrorKind.{ErrorKind}
use Rattle.clap.specs.declared.error.kind.ErrorKind.TheVariants as kind
use Rattle.clap.specs.declared.parser.matches.ArgMatches.{ArgMatches}
use Rattle.command_line.specs.Arguments.{TakesSo}
use Rattle.command_line.specs.Faults.{IsOfClap}
use Rattle.command_line.specs.Line.{Takes, entered_by, faults_of, line_app}
use Rattle.command_line.specs.Tasks.{Enters, Numbered, RefusesWords}
use Rattle.command_line.specs.declared.faults.LineFault.{LineFault}
use Rattle.command_line.specs.declared.faults.LineFault.TheVariants.{Refused, Values, NoMemory}
use Rattle.command_line.proofs.Entering.{enters}
use Rattle.command_line.proofs.Numbers.{numbered}
use Rattle.command_line.proofs.tasks.parse.Goals as goal

is_free : is_simple_and_free line_app ≡ true
is_free = refl

is_plain : is_simple line_app ≡ true
is_plain = refl

-- what a command that takes words as the line does makes of them
taken_by : (line : Command) (words : List Text) → TakesSo line line_app
    → (is_simple_and_free (app_of line) ≡ true → fault_of (app_of line) words ≡ []) → Takes words
taken_by line words so none = subst (λ (a : App). fault_of a words ≡ []) so.0 (none (ap is_simple_and_free so.0 ∙ is_free))

values_by : (line : Command) (words : List Text) (m : ArgMatches) → TakesSo line line_app → HasMatchesOf (app_of line) words m
    → subcommand_rows_of m ≡ entered_by words
values_by line words m so has = (subst (λ (a : App). HasMatchesOf a words m) so.0 has is_plain).1

kinds_by : (line : Command) (words : List Text) (e : Error) → TakesSo line line_app
    → (is_simple_and_free (app_of line) ≡ true → HasKind (fault_of (app_of line) words) e) → HasKind (faults_of words) e
kinds_by line words e so has = subst (λ (a : App). HasKind (fault_of a words) e) so.0 (has (ap is_simple_and_free so.0 ∙ is_free))

pub returns-in-Ok-clause-taken : goal.returns-in-Ok-clause-taken
returns-in-Ok-clause-taken c = taken_by c.in_ok-line.line (map string_bytes c.args.words.now) c.in_ok-line.ensures c.in-Ok.ensures.kinds

pub returns-in-Ok-clause-values : goal.returns-in-Ok-clause-values
returns-in-Ok-clause-values c =
    values_by c.in_ok-line.line (map string_bytes c.args.words.now) c.in-Ok.matches c.in_ok-line.ensures c.in-Ok.ensures.matches

pub returns-in-Ok-clause-numbers : goal.returns-in-Ok-clause-numbers
returns-in-Ok-clause-numbers c =
    let words = map string_bytes c.args.words.now in
    let taken = taken_by c.in_ok-line.line words c.in_ok-line.ensures c.in-Ok.ensures.kinds in
    let values = values_by c.in_ok-line.line words c.in-Ok.matches c.in_ok-line.ensures c.in-Ok.ensures.matches in
    subst (λ (o : Option (Text × List Row)). Numbered o) (sym values) (numbered words taken)

pub returns-in-Ok-clause-one : goal.returns-in-Ok-clause-one
returns-in-Ok-clause-one c =
    let words = map string_bytes c.args.words.now in
    let taken = taken_by c.in_ok-line.line words c.in_ok-line.ensures c.in-Ok.ensures.kinds in
    let values = values_by c.in_ok-line.line words c.in-Ok.matches c.in_ok-line.ensures c.in-Ok.ensures.matches in
    subst (λ (o : Option (Text × List Row)). Enters o) (sym values) (enters words taken)

-- an error of another kind than memory is among the kinds
among : (kinds : Kinds) (e : Error) → HasKind kinds e → (kind_of e ≡ kind.OutOfMemory → ⊥) → IsAmong (kind_of e) kinds
among kinds e (inl memory) others = absurd (others memory)
among kinds e (inr is) others = is

-- of one kind there is only that one
alone : (k : ErrorKind) (kinds : Kinds) → kinds ≡ kind.DisplayVersion ∷ [] → IsAmong k kinds → k ≡ kind.DisplayVersion
alone k kinds is h = go (subst (IsAmong k) is h)
  where
    go : (k ≡ kind.DisplayVersion) ⊎ ⊥ → k ≡ kind.DisplayVersion
    go (inl same) = same
    go (inr none) = absurd none

-- the fault of an error of one of the kinds that the words have says why they are refused
refuses : (words : List Text) (e : Error) (f : LineFault) → IsOfClap e f → HasKind (faults_of words) e → RefusesWords words f
refuses words e (Refused told) h kinds =
    let same : kind_of told ≡ kind_of e = ap kind_of h.0 in
    let found = among (faults_of words) e kinds h.1 in (
      λ taken. subst (IsAmong (kind_of e)) taken found,
      λ is. subst (λ (k : ErrorKind). IsAmong k (faults_of words)) (sym same ∙ is) found,
      λ asked. same ∙ alone (kind_of e) (faults_of words) asked found,
      subst (λ (k : ErrorKind). IsAmong k (faults_of words)) (sym same) found,
    )
refuses words e (Values why) h kinds = absurd h
refuses words e NoMemory h kinds = tt

pub returns-in-Err-clause-err : goal.returns-in-Err-clause-err
returns-in-Err-clause-err c =
    refuses (map string_bytes c.args.words.now) c.in-Err.error c.from.result c.from.ensures
    (kinds_by c.in_ok-line.line (map string_bytes c.args.words.now) c.in-Err.error c.in_ok-line.ensures c.in-Err.ensures.kinds)
