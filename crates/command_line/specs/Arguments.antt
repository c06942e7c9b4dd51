-- The arguments of a command, and the commands of a program, as clap takes them.
use Rattle.std.specs.Prelude.{◌≡◌, Bool, true, false, List, [], ◌∷◌}
use Rattle.clap.specs.Words.{App, Rule, Text, app_of, new_app, with_rule, with_subcommand}
use Rattle.clap.specs.declared.builder.action.ArgAction.{ArgAction}
use Rattle.clap.specs.declared.builder.action.ArgAction.TheVariants.{Set, SetTrue}
use Rattle.clap.specs.declared.builder.command.Command.{Command}
use Rattle.clap.specs.declared.builder.command.Command.TheViews.{out-Command as fields_of}
use Rattle.command_line.specs.Line.{file_rule, flag_rule, parsed_rule, text_rule, way_rule, word_rule}
use Rattle.command_line.specs.declared.options.Argument.{Argument}
use Rattle.command_line.specs.declared.options.ArgumentKind.{ArgumentKind}
use Rattle.command_line.specs.declared.options.ArgumentKind.TheVariants as kinds
use Rattle.command_line.specs.declared.outlines.Outline.{Outline}

-- one that has to be there
abbrev pub is_needed : ArgumentKind → Bool
is_needed kinds.Positional = true
is_needed (kinds.RequiredNumber parser) = true
is_needed _ = false

-- what clap does where it meets one
abbrev pub action_for : ArgumentKind → ArgAction
action_for kinds.Flag = SetTrue
action_for _ = Set

-- of a name, by how it is given
abbrev pub rule_by : ArgumentKind → Text → Rule
rule_by kinds.Positional name = file_rule name
rule_by kinds.OptionalPositional name = word_rule name
rule_by kinds.Text name = text_rule name
rule_by kinds.Way name = way_rule name
rule_by kinds.Flag name = flag_rule name
rule_by (kinds.Number parser) name = parsed_rule name parser
rule_by (kinds.RequiredNumber parser) name = record (parsed_rule name parser) { required = true }

abbrev pub rule_for : Argument → Rule
rule_for argument = rule_by argument.kind argument.name.now

-- a command with these arguments, in order
abbrev pub with_all : App → List Argument → App
with_all a [] = a
with_all a (argument ∷ rest) = with_all (with_rule a (rule_for argument)) rest

-- the command of an outline
abbrev pub app_in : Outline → App
app_in outline = with_all (new_app outline.name.now) outline.arguments.now

-- a program with these commands, in order
abbrev pub with_each : App → List Outline → App
with_each a [] = a
with_each a (outline ∷ rest) = with_each (with_subcommand a (app_in outline).top) rest

-- clap's command takes words so
abbrev pub TakesSo : Command → App → Type 0
TakesSo command app = (app_of command ≡ app) × ((fields_of command).has_globals ≡ false)
