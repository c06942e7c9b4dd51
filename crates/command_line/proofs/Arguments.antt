-- The arguments of a command, and the commands of a program, one after the other.
use Rattle.std.proofs.Common.{◌≡◌, ◌∙◌, ◌++◌, ◌∷◌, [], ℕ, ◌+◌, ◌<◌, ◌≤◌, ap, codes, get_or, length, refl, subst, sym, take, List}
use Rattle.std.proofs.lemmas.List.{take_all, take_more}
use Rattle.clap.specs.Words.{App, new_app, with_rule, with_subcommand}
use Rattle.clap.specs.declared.builder.command.Command.{Command}
use Rattle.command_line.specs.Arguments.{TakesSo, app_in, rule_for, with_all, with_each}
use Rattle.command_line.specs.Line.{line_app, wanting_command}
use Rattle.command_line.specs.declared.outlines.Outline.{Outline}
use Rattle.command_line.specs.declared.options.Argument.{Argument}

all_more : (a : App) (xs : List Argument) (x : Argument) → with_all a (xs ++ x ∷ []) ≡ with_rule (with_all a xs) (rule_for x)
all_more a [] x = refl
all_more a (y ∷ ys) x = all_more (with_rule a (rule_for y)) ys x

each_more : (a : App) (os : List Outline) (o : Outline) → with_each a (os ++ o ∷ []) ≡ with_subcommand (with_each a os) (app_in o).top
each_more a [] o = refl
each_more a (p ∷ ps) o = each_more (with_subcommand a (app_in p).top) ps o

-- one argument more is added
pub one_told : (c : Command) (a : App) (xs : List Argument) (i : ℕ) (x : Argument) → i < length xs
    → TakesSo c (with_rule (with_all a (take i xs)) (rule_for (get_or xs i x))) → TakesSo c (with_all a (take (i + 1) xs))
one_told c a xs i x within told =
    subst (TakesSo c) (sym (ap (with_all a) (take_more xs i x within) ∙ all_more a (take i xs) _)) told

-- once none is left all of them are
pub all_told : (c : Command) (a : App) (xs : List Argument) (i : ℕ) → length xs ≤ i → TakesSo c (with_all a (take i xs)) → TakesSo c (with_all a xs)
all_told c a xs i none told = subst (λ (ys : List Argument). TakesSo c (with_all a ys)) (take_all i xs none) told

-- one command more
pub one_command : (c : Command) (a : App) (os : List Outline) (i : ℕ) (o : Outline) → i < length os
    → TakesSo c (with_subcommand (with_each a (take i os)) (app_in (get_or os i o)).top) → TakesSo c (with_each a (take (i + 1) os))
one_command c a os i o within told =
    subst (TakesSo c) (sym (ap (with_each a) (take_more os i o within) ∙ each_more a (take i os) _)) told

-- once none is left the program is the line
pub all_commands : (c : Command) (os : List Outline) (i : ℕ) → length os ≤ i → wanting_command (with_each (new_app (codes "natpair")) os) ≡ line_app
    → TakesSo c (wanting_command (with_each (new_app (codes "natpair")) (take i os))) → TakesSo c line_app
all_commands c os i none is told =
    subst (TakesSo c) (ap (λ (ps : List Outline). wanting_command (with_each (new_app (codes "natpair")) ps)) (take_all i os none) ∙ is) told
