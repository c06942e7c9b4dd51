-- Words that clap takes enter one of the commands.
use Rattle.std.proofs.Common.{◌≡◌, ◌&&◌, Bool, true, false, not, List, [], ◌∷◌, Option, Some, None, is_some, refl, subst}
use Rattle.std.specs.Prelude.{find}
use Rattle.std.specs.List.{list_any}
use Rattle.clap.specs.Facts.{explicit_source}
use Rattle.clap.specs.Takes.{is_given}
use Rattle.clap.specs.Kinds.{Kinds, check_kinds, or_else}
use Rattle.clap.specs.Walk.{Held, Row, Text, answers_to, finished, nothing_held, settled_rows, walk, walk_from}
use Rattle.clap.specs.Simple.{App, Shape, argument_words, built, entered, label_of, names_of}
use Rattle.clap.specs.Faults.{built_fault, check_fault, defaults_fault, entered_fault, settle_fault, walk_fault}
use Rattle.command_line.specs.Line.{Takes, entered_by, line_app}
use Rattle.command_line.specs.Tasks.{Enters, is_named}

-- neither of two has a kind
pub neither : (a b : Kinds) → or_else a b ≡ [] → (a ≡ []) × (b ≡ [])
neither [] b e = (refl, e)
neither (k ∷ ks) b e = cc

-- a command that has to be named is named
named_there : (help has wanted required : Bool) → required ≡ true → check_kinds (not has && help) (not has && required) wanted ≡ [] → has ≡ true
named_there help true wanted required is e = refl
named_there true false wanted required is e = cc
named_there false false wanted true is e = cc
named_there false false wanted false is e = cc

named_at : (s : Shape) (rows : List Row) (has : Bool) → s.subcommand_required ≡ true → check_fault s rows has ≡ [] → has ≡ true
named_at s rows has is e =
    named_there (s.arg_required_else_help && not (list_any (λ r. explicit_source r.source) rows)) has
    (not (s.subcommand_negates_reqs && has) && list_any (λ a. a.required && not (is_given a.id rows)) s.rules) s.subcommand_required is e

-- a fact of each of a list
abbrev pub Each : {X : Type 0} → (X → Type 0) → List X → Type 0
Each P [] = Unit {0}
Each P (x ∷ xs) = P x × Each P xs

-- which then holds of one that is found in it
pub found_each : {X : Type 0} (P : X → Type 0) (p : X → Bool) (xs : List X) (x : X) → Each P xs → find p xs ≡ Some x → P x
found_each P p [] x all e = cc
found_each P p (y ∷ ys) x all e = go (p y) refl (λ rest. found_each P p ys x all.1 rest)
  where
    go : (b : Bool) → p y ≡ b → (find p ys ≡ Some x → P x) → P x
    go true t later =
        let same : Some y ≡ Some x = rw t at e in
        let is : y ≡ x = cc in
        subst P is all.0
    go false t later = later (rw t at e)

-- the command has a name of ours
abbrev IsOurs : Shape → Type 0
IsOurs s = is_named s.name ≡ true

entered_named : (a : App) (stop : Option (Text × List Text)) → Each IsOurs a.subs → is_some (entered a stop) ≡ true → Enters (entered a stop)
entered_named a None all has = cc
entered_named a (Some p) all has = go (find (λ s. answers_to p.0 (label_of s)) a.subs) refl
  where
    go : (o : Option Shape) → find (λ s. answers_to p.0 (label_of s)) a.subs ≡ o → Enters (entered a (Some p))
    go None e =
        let bad : false ≡ true = rw e at has in
        cc
    go (Some s) e = rw e (found_each IsOurs (λ x. answers_to p.0 (label_of x)) a.subs s all e)

enters_of : (a : App) (h : Held) (words : List Text) → a.top.subcommand_required ≡ true → Each IsOurs a.subs → built_fault a h words ≡ []
    → Enters (entered a (walk a.top.rules (names_of a) h words).stopped)
enters_of a h words required all none =
    let end = walk a.top.rules (names_of a) h words in
    let walked = neither (walk_fault a.top (names_of a) (walk_from h) words) _ none in
    let below = neither (entered_fault a end.stopped) _ walked.1 in
    let settled = neither (settle_fault a.top.rules a.top.args_override_self end.held) _ below.1 in
    let defaults = neither (defaults_fault (settled_rows a.top.rules end.held.pending end.held.rows) a.top.rules) _ settled.1 in
    entered_named a end.stopped all (named_at a.top (finished a.top.rules end.held) (is_some (entered a end.stopped)) required defaults.1)

required : (built line_app).top.subcommand_required ≡ true
required = refl

all_ours : Each IsOurs (built line_app).subs
all_ours = (refl, (refl, (refl, (refl, (refl, (refl, (refl, (refl, (refl, (refl, tt))))))))))

pub enters : (words : List Text) → Takes words → Enters (entered_by words)
enters words taken = enters_of (built line_app) nothing_held (argument_words line_app words) required all_ours taken
