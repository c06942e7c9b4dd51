-- After a walk in which clap finds no fault, what stands at a required option of numbers has passed the option's parser.
use Rattle.std.proofs.Common.{◌≡◌, ◌++◌, ◌+◌, ◌∙◌, ◌⊎◌, ◌&&◌, ◌||◌, ℕ, zero, suc, Bool, true, false, not, cond, List, [], ◌∷◌, length, min, drop, Option, Some, None, is_some, refl, sym, ap, subst, inl, inr}
use Rattle.std.specs.Prelude.{encode_utf8, find, fold, option_and_then, slice_get}
use Rattle.std.specs.List.{list_any}
use Rattle.std.specs.Option.{option_map, option_map_or}
use Rattle.std.specs.Str.{bytes_eq, chars}
use Rattle.clap.specs.Lexer.{long_of, short_of}
use Rattle.clap.specs.Facts.{explicit_source, parser_of_value, unwrap_or_range}
use Rattle.clap.specs.Values.{Accepts, read_as, reading_of}
use Rattle.clap.specs.ValueTests.{accepts}
use Rattle.clap.specs.Matches.{count_text}
use Rattle.clap.specs.Kinds.{Kinds, check_kinds, or_else, range_kinds, value_kinds, values_kinds}
use Rattle.clap.specs.Takes.{is_given}
use Rattle.clap.specs.Walk.{Held, Names, Outcome, Row, Rule, Step, Text, Waiting, Walk, action_of, after_flag, after_step, arg_by_id, arg_by_index, arg_by_long, arg_by_short, at_row, attached_value, bundle_met, bundle_step, count_of, default_rows, done, finished, flag_met, has_row, idle, is_pending, long_met, long_or_other, more_values, new_count, next, nothing_held, one_of, option, option_met, option_word, plain, plain_word, positional, positional_held, reacted, reading_by, refused, row_text, rows_after, settled, settled_rows, short_met, short_or_plain, subcommand, subcommand_met, subcommand_or_other, takes_several, takes_values, to_positional, trailing, used, used_as, used_by_id, value, values_or_missing, waits, walk, walk_from, walked, walked_from, with_count, with_default, with_values, without, word_met}
use Rattle.clap.specs.Simple.{Shape}
use Rattle.clap.specs.Faults.{action_fault, bundle_step_fault, defaults_fault, flag_word_fault, flags_fault, level_fault, long_fault, option_fault, other_fault, positional_fault, react_fault, repeat_fault, set_fault, settle_fault, short_fault, step_fault, stray_fault, turn_fault, use_fault, values_fault, walk_fault, word_fault}
use Rattle.clap.specs.declared.builder.action.ArgAction.{ArgAction}
use Rattle.clap.specs.declared.builder.action.ArgAction.TheVariants as action
use Rattle.clap.specs.declared.builder.value_parser.Reading.{Reading}
use Rattle.clap.specs.declared.builder.value_parser.ValueParser.{ValueParser}
use Rattle.clap.specs.declared.parser.matches.ValueSource.{ValueSource}
use Rattle.clap.specs.declared.parser.matches.ValueSource.TheVariants.{DefaultValue, CommandLine}
use Rattle.clap.proofs.ValueTestLemmas.{accepts-Accepts}
use Rattle.command_line.proofs.Entering.{neither}

-- the first of the values passes the parser, and they are read as it says
abbrev pub Passes : ValueParser → List Text → Reading → Type 0
Passes q values how = (v : Text) × (slice_get values 0 ≡ Some v) × Accepts false q v × (how ≡ reading_of q)

-- an option of one value, which the parser has to pass
pub record IsOption (q : ValueParser) (a : Rule) : Type 0 where
  pub parser : a.parser ≡ Some q
  pub ignore_case : a.ignore_case ≡ false
  pub action : action_of a ≡ action.Set
  pub least : (unwrap_or_range a.range).start_inclusive ≡ 1
  pub defaults : a.defaults ≡ []

-- a command wants something at a name
abbrev pub Wants : Text → List Rule → Type 0
Wants k [] = ⊥
Wants k (a ∷ rest) = ((a.id ≡ k) × (a.required ≡ true)) ⊎ Wants k rest

accepted : (i : Bool) (q : ValueParser) (t : Text) → value_kinds i q t ≡ [] → Accepts i q t
accepted i q t none = go (accepts i q t) refl
  where
    go : (b : Bool) → accepts i q t ≡ b → Accepts i q t
    go true e = accepts-Accepts i q t e
    go false e =
        let bad = rw e at none in
        cc

first_stays : (values more : List Text) (v : Text) → slice_get values 0 ≡ Some v → slice_get (values ++ more) 0 ≡ Some v
first_stays [] more v e = cc
first_stays (x ∷ xs) more v e = e

longer : (q : ValueParser) (values more : List Text) (how : Reading) → Passes q values how → Passes q (values ++ more) how
longer q values more how p = (p.0, first_stays values more p.0 p.1, p.2, p.3)

-- what an option was given passed
given_pass : (q : ValueParser) (a : Rule) (values : List Text) (least most : ℕ) → IsOption q a → least ≡ 1 → range_kinds least most (length values) ≡ []
    → values_kinds a.ignore_case (parser_of_value a.parser) (values_or_missing a values) ≡ [] → Passes q (values_or_missing a values) (reading_by a)
given_pass q a [] least most is one range none =
    let bad : range_kinds 1 most 0 ≡ [] = subst (λ l. range_kinds l most 0 ≡ []) one range in
    cc
given_pass q a (v ∷ vs) least most is one range none =
    let first = neither (value_kinds a.ignore_case (parser_of_value a.parser) v) _ none in
    let cased : value_kinds false (parser_of_value a.parser) v ≡ [] = subst (λ i. value_kinds i (parser_of_value a.parser) v ≡ []) is.ignore_case first.0 in
    let parsed : value_kinds false q v ≡ [] = subst (λ o. value_kinds false (parser_of_value o) v ≡ []) is.parser cased in
    (v, refl, accepted false q v parsed, ap (λ o. reading_of (parser_of_value o)) is.parser)

wanted_first : (required given rest : Bool) → required ≡ true → ((required && not given) || rest) ≡ false → given ≡ true
wanted_first true true rest r e = refl
wanted_first true false rest r e = cc
wanted_first false given rest r e = cc

wanted_rest : (x rest : Bool) → (x || rest) ≡ false → rest ≡ false
wanted_rest true rest e = cc
wanted_rest false rest e = e

-- what is wanted is given
given_there : (k : Text) (c : List Rule) (rows : List Row) → Wants k c → list_any (λ a. a.required && not (is_given a.id rows)) c ≡ false → is_given k rows ≡ true
given_there k [] rows wants e = absurd wants
given_there k (a ∷ rest) rows (inl here) e = subst (λ id. is_given id rows ≡ true) here.0 (wanted_first a.required (is_given a.id rows) _ here.1 e)
given_there k (a ∷ rest) rows (inr later) e = given_there k rest rows later (wanted_rest (a.required && not (is_given a.id rows)) _ e)

none_wanted : (help wanted missing : Bool) → check_kinds help wanted missing ≡ [] → missing ≡ false
none_wanted true wanted missing e = cc
none_wanted false true missing e = cc
none_wanted false false true e = cc
none_wanted false false false e = refl

none_missing : (negates missing : Bool) → (not (negates && false) && missing) ≡ false → missing ≡ false
none_missing true missing e = e
none_missing false missing e = e

module _ (k : Text) (q : ValueParser) where
  -- where a row stands at the name, its first value passed
  abbrev pub RowPasses : Row → Type 0
  RowPasses r = bytes_eq r.id k ≡ true → Passes q r.values r.reading

  abbrev pub AllPass : List Row → Type 0
  AllPass [] = Unit {0}
  AllPass (r ∷ rs) = RowPasses r × AllPass rs

  -- where a rule has the name, it is that of the option
  abbrev pub RuleFits : Rule → Type 0
  RuleFits a = bytes_eq a.id k ≡ true → IsOption q a

  abbrev pub AllFit : List Rule → Type 0
  AllFit [] = Unit {0}
  AllFit (a ∷ rest) = RuleFits a × AllFit rest

  -- ---- rows

  append_pass : (xs ys : List Row) → AllPass xs → AllPass ys → AllPass (xs ++ ys)
  append_pass [] ys h g = g
  append_pass (x ∷ xs) ys h g = (h.0, append_pass xs ys h.1 g)

  at_row_pass : (id : Text) (change : Row → List Row) (missing rows : List Row) → ((r : Row) → RowPasses r → AllPass (change r)) → AllPass missing
      → AllPass rows → AllPass (at_row id change missing rows)
  at_row_pass id change missing [] changed new h = new
  at_row_pass id change missing (r ∷ rs) changed new h = go (bytes_eq r.id id) (at_row_pass id change missing rs changed new h.1)
    where
      go : (b : Bool) → AllPass (at_row id change missing rs) → AllPass (cond b (change r ++ rs) (r ∷ at_row id change missing rs))
      go true later = append_pass (change r) rs (changed r h.0) h.1
      go false later = (h.0, later)

  without_pass : (id : Text) (rows : List Row) → AllPass rows → AllPass (without id rows)
  without_pass id rows h = at_row_pass id (λ _. []) [] rows (λ r p. tt) tt h

  with_values_pass : (id : Text) (how : Reading) (s : ValueSource) (values : List Text) (rows : List Row) → (bytes_eq id k ≡ true → Passes q values how)
      → AllPass rows → AllPass (with_values id how s values rows)
  with_values_pass id how s values rows new h =
      at_row_pass id (more_values s values) _ rows (λ r p. (λ is. longer q r.values values r.reading (p is), tt)) (new, tt) h

  with_count_pass : (id : Text) (how : Reading) (s : ValueSource) (n : ℕ) (rows : List Row) → (bytes_eq id k ≡ true → ⊥)
      → AllPass rows → AllPass (with_count id how s n rows)
  with_count_pass id how s n rows apart h =
      at_row_pass id (new_count s n) _ rows (λ r p. (λ is. longer q r.values (count_text n ∷ []) r.reading (p is), tt)) (λ is. absurd (apart is), tt) h

  -- a use of another argument
  other_pass : (x : ArgAction) (id : Text) (how : Reading) (values : List Text) (rows : List Row) → (bytes_eq id k ≡ true → ⊥)
      → AllPass rows → AllPass (used_as x id how values rows)
  other_pass action.Set id how values rows apart h = with_values_pass id how CommandLine values _ (λ is. absurd (apart is)) (without_pass id rows h)
  other_pass action.SetTrue id how values rows apart h = with_values_pass id how CommandLine values _ (λ is. absurd (apart is)) (without_pass id rows h)
  other_pass action.SetFalse id how values rows apart h = with_values_pass id how CommandLine values _ (λ is. absurd (apart is)) (without_pass id rows h)
  other_pass action.Append id how values rows apart h = with_values_pass id how CommandLine values rows (λ is. absurd (apart is)) h
  other_pass action.Count id how [] rows apart h = with_count_pass id how CommandLine (min (count_of id rows + 1) 255) (without id rows) apart (without_pass id rows h)
  other_pass action.Count id how (v ∷ vs) rows apart h = with_values_pass id how CommandLine (v ∷ vs) _ (λ is. absurd (apart is)) (without_pass id rows h)
  other_pass action.Help id how values rows apart h = h
  other_pass action.HelpShort id how values rows apart h = h
  other_pass action.HelpLong id how values rows apart h = h
  other_pass action.Version id how values rows apart h = h

  -- a use in which clap finds no fault
  use_pass : (again : Bool) (a : Rule) (values : List Text) (rows : List Row) → RuleFits a → use_fault again a values rows ≡ [] → AllPass rows
      → AllPass (used a values rows)
  use_pass again a values rows fits none h = go (bytes_eq a.id k) refl
    where
      own : IsOption q a → AllPass (used a values rows)
      own is =
          let least = (unwrap_or_range a.range).start_inclusive in
          let most = (unwrap_or_range a.range).end_inclusive in
          let given = values_or_missing a values in
          let ranged = neither (range_kinds least most (length values)) (action_fault (action_of a) again a given rows) none in
          let set : set_fault again a given rows ≡ [] = subst (λ x. action_fault x again a given rows ≡ []) is.action ranged.1 in
          let once = neither (repeat_fault again a.id rows) (values_fault a given) set in
          let passed = given_pass q a values least most is is.least ranged.0 once.1 in
          subst (λ x. AllPass (used_as x a.id (reading_by a) given rows)) (sym is.action)
          (with_values_pass a.id (reading_by a) CommandLine given (without a.id rows) (λ is. passed) (without_pass a.id rows h))

      go : (b : Bool) → bytes_eq a.id k ≡ b → AllPass (used a values rows)
      go true e = own (fits e)
      go false e = other_pass (action_of a) a.id (reading_by a) (values_or_missing a values) rows (λ is. let bad : false ≡ true = rw e at is in cc) h

  found_fits : (p : Rule → Bool) (c : List Rule) (a : Rule) → AllFit c → find p c ≡ Some a → RuleFits a
  found_fits p [] a all e = cc
  found_fits p (x ∷ xs) a all e = go (p x) refl (λ rest. found_fits p xs a all.1 rest)
    where
      go : (b : Bool) → p x ≡ b → (find p xs ≡ Some a → RuleFits a) → RuleFits a
      go true t later =
          let same : Some x ≡ Some a = rw t at e in
          let is : x ≡ a = cc in
          subst RuleFits is all.0
      go false t later = later (rw t at e)

  -- what stands where something was given
  found_row : (rows : List Row) (r : Row) → AllPass rows → find (λ (x : Row). bytes_eq x.id k) rows ≡ Some r → Passes q r.values r.reading
  found_row [] r h e = cc
  found_row (x ∷ xs) r h e = go (bytes_eq x.id k) refl (λ rest. found_row xs r h.1 rest)
    where
      go : (b : Bool) → bytes_eq x.id k ≡ b → (find (λ (y : Row). bytes_eq y.id k) xs ≡ Some r → Passes q r.values r.reading) → Passes q r.values r.reading
      go true t later =
          let same : Some x ≡ Some r = rw t at e in
          let is : x ≡ r = cc in
          subst (λ (y : Row). Passes q y.values y.reading) is (h.0 t)
      go false t later = later (rw t at e)

  given_reads : (rows : List Row) → AllPass rows → is_given k rows ≡ true → (v : Text) × (one_of k rows ≡ Some (read_as (reading_of q) v)) × Accepts false q v
  given_reads rows h given = go (find (λ (r : Row). bytes_eq r.id k) rows) refl given
    where
      go : (o : Option Row) → find (λ (r : Row). bytes_eq r.id k) rows ≡ o → option_map_or (λ (r : Row). explicit_source r.source) o false ≡ true
          → (v : Text) × (one_of k rows ≡ Some (read_as (reading_of q) v)) × Accepts false q v
      go None e there = cc
      go (Some r) e there =
          let p = found_row rows r h e in
          (p.0, ap (option_and_then row_text) e ∙ (ap (option_map (read_as r.reading)) p.1 ∙ ap (λ how. Some (read_as how p.0)) p.3), p.2)

  given_reads_if : (rows : List Row) → AllPass rows
      → (one_of k rows ≡ None) ⊎ ((v : Text) × (one_of k rows ≡ Some (read_as (reading_of q) v)) × Accepts false q v)
  given_reads_if rows h = go (find (λ (r : Row). bytes_eq r.id k) rows) refl
    where
      go : (o : Option Row) → find (λ (r : Row). bytes_eq r.id k) rows ≡ o
          → (one_of k rows ≡ None) ⊎ ((v : Text) × (one_of k rows ≡ Some (read_as (reading_of q) v)) × Accepts false q v)
      go None e = inl (ap (option_and_then row_text) e)
      go (Some r) e =
          let p = found_row rows r h e in
          inr (p.0, ap (option_and_then row_text) e ∙ (ap (option_map (read_as r.reading)) p.1 ∙ ap (λ how. Some (read_as how p.0)) p.3), p.2)

  -- ---- one level of a parse

  module _ (s : Shape) (all : AllFit s.rules) where
    by_id_pass : (o : Option Rule) (values : List Text) (rows : List Row) → ((a : Rule) → o ≡ Some a → RuleFits a)
        → option_map_or (λ a. use_fault s.args_override_self a values rows) o [] ≡ [] → AllPass rows → AllPass (used_by_id o values rows)
    by_id_pass None values rows fits e h = h
    by_id_pass (Some a) values rows fits e h = use_pass s.args_override_self a values rows (fits a refl) e h

    settle_pass : (h : Held) → settle_fault s.rules s.args_override_self h ≡ [] → AllPass h.rows → AllPass (settled s.rules h).rows
    settle_pass h none rows = go h.pending none
      where
        go : (o : Option (Text × List Text)) → option_map_or (λ p. option_map_or (λ a. use_fault s.args_override_self a p.1 h.rows) (arg_by_id s.rules p.0) []) o [] ≡ []
            → AllPass (settled_rows s.rules o h.rows)
        go None e = rows
        go (Some p) e = by_id_pass (arg_by_id s.rules p.0) p.1 h.rows (λ a is. found_fits _ s.rules a all is) e rows

    react_pass : (a : Rule) (values : List Text) (h : Held) → RuleFits a → react_fault s.rules s.args_override_self a values h ≡ [] → AllPass h.rows
        → AllPass (reacted s.rules a values h).rows
    react_pass a values h fits none rows =
        let parts = neither (settle_fault s.rules s.args_override_self h) _ none in
        use_pass s.args_override_self a values (settled s.rules h).rows fits parts.1 (settle_pass h parts.0 rows)

    option_pass : (a : Rule) (v : Option Text) (h : Held) → RuleFits a → option_fault s.rules s.args_override_self a v h ≡ [] → AllPass h.rows
        → AllPass (option_met s.rules a v h).0.rows
    option_pass a (Some v) h fits none rows = react_pass a (v ∷ []) h fits none rows
    option_pass a None h fits none rows = settle_pass h none rows

    flag_pass : (a : Rule) (v : Option Text) (h : Held) (some : Kinds) → RuleFits a → cond (is_some v) some (react_fault s.rules s.args_override_self a [] h) ≡ []
        → AllPass h.rows → AllPass (flag_met s.rules a v h).0.rows
    flag_pass a (Some v) h some fits none rows = rows
    flag_pass a None h some fits none rows = react_pass a [] h fits none rows

    long_pass : (o : Option Rule) (v : Option Text) (h : Held) → ((a : Rule) → o ≡ Some a → RuleFits a) → long_fault s.rules s.args_override_self o v h ≡ []
        → AllPass h.rows → AllPass (long_met s.rules o v h).0.rows
    long_pass None v h fits none rows = rows
    long_pass (Some a) v h fits none rows = go (takes_values a) refl
      where
        go : (b : Bool) → takes_values a ≡ b → AllPass (long_met s.rules (Some a) v h).0.rows
        go true t = rw t (option_pass a v h (fits a refl) (rw t at none) rows)
        go false t = rw t (flag_pass a v h _ (fits a refl) (rw t at none) rows)

    short_pass : (o : Option Rule) (rest : Text) (h : Held) (faults : Held → Kinds) (after : Held → Held × Outcome) → ((a : Rule) → o ≡ Some a → RuleFits a)
        → ((g : Held) → faults g ≡ [] → AllPass g.rows → AllPass (after g).0.rows) → short_fault s.rules s.args_override_self o rest h faults ≡ []
        → AllPass h.rows → AllPass (short_met s.rules o rest h after).0.rows
    short_pass None rest h faults after fits more none rows = rows
    short_pass (Some a) rest h faults after fits more none rows = go (takes_values a) refl
      where
        flag : or_else (react_fault s.rules s.args_override_self a [] h) (faults (reacted s.rules a [] h)) ≡ [] → AllPass (after (reacted s.rules a [] h)).0.rows
        flag e =
            let parts = neither (react_fault s.rules s.args_override_self a [] h) _ e in
            more (reacted s.rules a [] h) parts.1 (react_pass a [] h (fits a refl) parts.0 rows)

        go : (b : Bool) → takes_values a ≡ b → AllPass (short_met s.rules (Some a) rest h after).0.rows
        go true t = rw t (option_pass a (attached_value rest) h (fits a refl) (rw t at none) rows)
        go false t = rw t (flag (rw t at none))

    flag_step_pass : (x : Option ℕ) (flags : Text) (skip : ℕ) (so_far : Outcome) (h : Held) (faults : Text → ℕ → Held → Kinds) (after : Text → ℕ → Outcome → Held → Held × Outcome)
        → ((f : Text) (n : ℕ) (o : Outcome) (g : Held) → faults f n g ≡ [] → AllPass g.rows → AllPass (after f n o g).0.rows)
        → bundle_step_fault s.rules s.args_override_self x flags skip h faults ≡ [] → AllPass h.rows → AllPass (bundle_step s.rules x flags skip so_far h after).0.rows
    flag_step_pass None flags skip so_far h faults after more none rows = rows
    flag_step_pass (Some x) flags zero so_far h faults after more none rows =
        let rest = drop (length (encode_utf8 x)) flags in
        short_pass (arg_by_short s.rules x) rest h (faults rest 0) (after rest 0 done) (λ a is. found_fits _ s.rules a all is) (λ g. more rest 0 done g) none rows
    flag_step_pass (Some x) flags (suc skip) so_far h faults after more none rows = more (drop (length (encode_utf8 x)) flags) skip so_far h none rows

    flags_pass : (n : ℕ) (flags : Text) (skip : ℕ) (so_far : Outcome) (h : Held) → flags_fault s.rules s.args_override_self n flags skip h ≡ [] → AllPass h.rows
        → AllPass (bundle_met s.rules n flags skip so_far h).0.rows
    unfolding flags_fault bundle_met
    flags_pass zero flags skip so_far h none rows = rows
    flags_pass (suc n) flags skip so_far h none rows =
        flag_step_pass (slice_get (chars flags) 0) flags skip so_far h (flags_fault s.rules s.args_override_self n) (bundle_met s.rules n)
        (λ f m o g e r. flags_pass n f m o g e r) none rows

    -- ---- a word

    option_word_pass : (o : Option Rule) (id word : Text) (h : Held) → AllPass h.rows → AllPass (option_word o id word h).0.rows
    option_word_pass None id word h rows = rows
    option_word_pass (Some a) id word h rows = rows

    plain_pass : (waiting : Waiting) (word : Text) (h : Held) → AllPass h.rows → AllPass (plain_word s.rules waiting word h).0.rows
    plain_pass (option id) word h rows = option_word_pass (arg_by_id s.rules id) id word h rows
    plain_pass idle word h rows = rows
    plain_pass positional word h rows = rows

    after_flag_pass : (waiting : Waiting) (word : Text) (h : Held) (o : Outcome) → AllPass h.rows → AllPass (after_flag s.rules waiting word h o).0.rows
    after_flag_pass waiting word h done rows = rows
    after_flag_pass waiting word h (waits id) rows = rows
    after_flag_pass waiting word h plain rows = plain_pass waiting word h rows
    after_flag_pass waiting word h refused rows = plain_pass waiting word h rows

    short_word_pass : (o : Option Text) (waiting : Waiting) (word : Text) (h : Held)
        → option_map_or (λ flags. flags_fault s.rules s.args_override_self (length flags) flags h.skip (record h { skip = 0 })) o [] ≡ []
        → AllPass h.rows → AllPass (short_or_plain s.rules waiting word o h).0.rows
    short_word_pass None waiting word h none rows = plain_pass waiting word h rows
    short_word_pass (Some flags) waiting word h none rows =
        after_flag_pass waiting word _ _ (flags_pass (length flags) flags h.skip plain (record h { skip = 0 }) none rows)

    flag_word_pass : (o : Option (Text × Option Text)) (waiting : Waiting) (word : Text) (h : Held) → flag_word_fault s.rules s.args_override_self o word h ≡ []
        → AllPass h.rows → AllPass (long_or_other s.rules waiting word o h).0.rows
    flag_word_pass (Some p) waiting word h none rows =
        after_flag_pass waiting word _ _ (long_pass (arg_by_long s.rules p.0) p.1 h (λ a is. found_fits _ s.rules a all is) none rows)
    flag_word_pass None waiting word h none rows = short_word_pass (short_of word) waiting word h none rows

    other_word_pass : (o : Option Text) (waiting : Waiting) (position : ℕ) (word : Text) (h : Held) → other_fault s o word h ≡ []
        → AllPass h.rows → AllPass (subcommand_or_other s.rules o waiting position word h).0.rows
    other_word_pass (Some name) waiting position word h none rows = rows
    other_word_pass None waiting position word h none rows = go (bytes_eq word (45 ∷ 45 ∷ [])) refl
      where
        go : (b : Bool) → bytes_eq word (45 ∷ 45 ∷ []) ≡ b → AllPass (subcommand_or_other s.rules None waiting position word h).0.rows
        go true t = rw t rows
        go false t = rw t (flag_word_pass (long_of word) waiting word h (rw t at none) rows)

    word_pass : (names : Names) (is_trailing : Bool) (waiting : Waiting) (position : ℕ) (word : Text) (h : Held) → word_fault s names is_trailing waiting word h ≡ []
        → AllPass h.rows → AllPass (word_met s.rules names is_trailing waiting position word h).0.rows
    word_pass names true waiting position word h none rows = rows
    word_pass names false waiting position word h none rows = other_word_pass (subcommand_met names waiting word) waiting position word h none rows

    positional_pass : (a : Rule) (word : Text) (h : Held) → positional_fault s.rules s.args_override_self a h ≡ [] → AllPass h.rows
        → AllPass (positional_held s.rules a word h).rows
    positional_pass a word h none rows = go (is_pending a h.pending && takes_several a) refl
      where
        go : (b : Bool) → (is_pending a h.pending && takes_several a) ≡ b → AllPass (positional_held s.rules a word h).rows
        go true t = rw t rows
        go false t = rw t (settle_pass h (rw t at none) rows)

    index_pass : (o : Option Rule) (word : Text) (w : Walk) (h : Held)
        → option_map_or (λ a. positional_fault s.rules s.args_override_self a h) o (stray_fault s) ≡ [] → AllPass h.rows
        → AllPass (to_positional s.rules o word w h).held.rows
    index_pass None word w h none rows = rows
    index_pass (Some a) word w h none rows = positional_pass a word h none rows

    step_pass : (word : Text) (w : Walk) (h : Held) (step : Step) → step_fault s w.position h step ≡ [] → AllPass h.rows
        → AllPass (after_step s.rules word w h step).held.rows
    step_pass word w h (next waiting) none rows = rows
    step_pass word w h (trailing position) none rows = rows
    step_pass word w h (subcommand name) none rows = rows
    step_pass word w h value none rows = index_pass (arg_by_index s.rules w.position) word w h none rows

    turn_pass : (names : Names) (w : Walk) (word : Text) → turn_fault s names w word ≡ [] → AllPass w.held.rows → AllPass (walked s.rules names w word).held.rows
    unfolding walked
    turn_pass names w word none rows = go w.stopped none
      where
        met : Held × Step
        met = word_met s.rules names w.is_trailing w.waiting w.position word w.held

        go : (o : Option (Text × List Text))
            → cond (is_some o) [] (or_else (word_fault s names w.is_trailing w.waiting word w.held) (step_fault s w.position met.0 met.1)) ≡ []
            → AllPass (walked_from s.rules names o w word).held.rows
        go (Some p) e = rows
        go None e =
            let parts = neither (word_fault s names w.is_trailing w.waiting word w.held) _ e in
            step_pass word w met.0 met.1 parts.1 (word_pass names w.is_trailing w.waiting w.position word w.held parts.0 rows)

    walk_pass : (names : Names) (w : Walk) (words : List Text) → walk_fault s names w words ≡ [] → AllPass w.held.rows
        → AllPass (fold (walked s.rules names) w words).held.rows
    unfolding walk_fault
    walk_pass names w [] none rows = rows
    walk_pass names w (word ∷ rest) none rows =
        let parts = neither (turn_fault s names w word) _ none in
        walk_pass names (walked s.rules names w word) rest parts.1 (turn_pass names w word parts.0 rows)

  -- ---- after the walk

  default_rows_pass : (id : Text) (how : Reading) (values : List Text) (rows : List Row) → (bytes_eq id k ≡ true → values ≡ []) → AllPass rows
      → AllPass (default_rows id how values rows)
  default_rows_pass id how [] rows none h = h
  default_rows_pass id how (v ∷ vs) rows none h =
      with_values_pass id how DefaultValue (v ∷ vs) rows (λ is. let bad : v ∷ vs ≡ [] = none is in cc) h

  default_pass : (a : Rule) (rows : List Row) → RuleFits a → AllPass rows → AllPass (with_default rows a)
  default_pass a rows fits h = go (has_row a.id rows)
    where
      go : (b : Bool) → AllPass (cond b rows (default_rows a.id (reading_by a) a.defaults rows))
      go true = h
      go false = default_rows_pass a.id (reading_by a) a.defaults rows (λ is. (fits is).defaults) h

  defaults_pass : (c : List Rule) (rows : List Row) → AllFit c → AllPass rows → AllPass (fold with_default rows c)
  defaults_pass [] rows all h = h
  defaults_pass (a ∷ rest) rows all h = defaults_pass rest (with_default rows a) all.1 (default_pass a rows all.0 h)

  -- the rows of a level all passed
  level_passes : (s : Shape) → AllFit s.rules → (words : List Text) → level_fault s [] nothing_held words false [] ≡ []
      → AllPass (rows_after s.rules [] words)
  level_passes s all words none =
      let end = (walk s.rules [] nothing_held words).held in
      let walking = neither (walk_fault s [] (walk_from nothing_held) words) _ none in
      let settling = neither (settle_fault s.rules s.args_override_self end) _ walking.1 in
      let walked_through = walk_pass s all [] (walk_from nothing_held) words walking.0 tt in
      defaults_pass s.rules (settled s.rules end).rows all (settle_pass s all end settling.0 walked_through)

  -- what stands at the name, if anything does, passed the parser
  pub level_reads_if : (s : Shape) → AllFit s.rules → (words : List Text) → level_fault s [] nothing_held words false [] ≡ []
      → (one_of k (rows_after s.rules [] words) ≡ None)
      ⊎ ((v : Text) × (one_of k (rows_after s.rules [] words) ≡ Some (read_as (reading_of q) v)) × Accepts false q v)
  level_reads_if s all words none = given_reads_if (rows_after s.rules [] words) (level_passes s all words none)

  -- what is wanted at the name stands there, and passed the parser
  pub level_reads : (s : Shape) → AllFit s.rules → Wants k s.rules → (words : List Text) → level_fault s [] nothing_held words false [] ≡ []
      → (v : Text) × (one_of k (rows_after s.rules [] words) ≡ Some (read_as (reading_of q) v)) × Accepts false q v
  level_reads s all wants words none =
      let end = (walk s.rules [] nothing_held words).held in
      let rows = finished s.rules end in
      let walking = neither (walk_fault s [] (walk_from nothing_held) words) _ none in
      let settling = neither (settle_fault s.rules s.args_override_self end) _ walking.1 in
      let defaults = neither (defaults_fault (settled s.rules end).rows s.rules) _ settling.1 in
      let passed = level_passes s all words none in
      let missing = none_wanted _ _ _ defaults.1 in
      given_reads rows passed (given_there k s.rules rows wants (none_missing s.subcommand_negates_reqs _ missing))
