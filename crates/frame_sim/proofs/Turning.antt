-- The founding can come about, and a crash and a boot lead from a world that can to one that can.
use Rattle.std.proofs.Common.{◌≡◌, ◌<◌, ℕ, nat_lt, true, false, not, ◌||◌, inl, inr, List, [], ◌∷◌, ◌++◌, reverse, Option, Some, None, refl, sym, ap, subst, ◌∙◌, ltb-true, arith}
use Rattle.std.proofs.lemmas.Bool.{and_parts, both_ways, not-true, or_cases}
use Rattle.std.proofs.lemmas.List.{reverse-append}
use Rattle.nat_types.specs.Same.{other}
use Rattle.nat_types.specs.declared.gateways.GatewayId.{GatewayId}
use Rattle.nat_types.specs.declared.gateways.GatewayId.TheVariants.{Zero, One}
use Rattle.nat_types.specs.declared.notes.NoteKind.TheVariants.{Crashed, Booted}
use Rattle.nat_types.specs.declared.notes.Note.{Note}
use Rattle.nat_types.specs.declared.records.Record.{Record}
use Rattle.settings.specs.declared.ranges.PortRanges.{PortRanges}
use Rattle.settings.specs.declared.values.Values.{Values}
use Rattle.settings.specs.Values.{values_of}
use Rattle.settings.specs.declared.whole.Settings.{Settings}
use Rattle.bindings.specs.declared.entries.PortBounds.{PortBounds}
use Rattle.bindings.specs.Ports.{AreBounds}
use Rattle.spec_pair.specs.Acts as act
use Rattle.spec_pair.specs.Box.{Box, bare, booted}
use Rattle.spec_pair.specs.World as machine
use Rattle.spec_pair.specs.World.{Can, IsWorld, Scene, after_event, seen_by}
use Rattle.spec_step.specs.Founding.{begun, bounds_of, founded, link_places, rules_of}
use Rattle.spec_step.specs.Machine.{box_of}
use Rattle.spec_step.specs.Shown.{Shown}
use Rattle.spec_gateway.specs.State.{beginning}
use Rattle.frame_sim.specs.World.{HaveSameValues, World, founding_of, gateway_at, half, is_up, settings_of, state_at, synced_at, with_half}
use Rattle.frame_sim.specs.Events.{may_boot, may_crash, noting}
use Rattle.frame_sim.specs.Scene.{IsHalf, IsSound, IsThat, KeepsPartsAt, box_at, ranges_of, scene_of}
use Rattle.frame_sim.proofs.Laws.{Begins, BegunAccounts, BoxBooted, BoxFounded, FoundedAccounts, GoesTo, OthersBoot, OthersCrash, PartsBegin}
use Rattle.frame_sim.proofs.Accounting.{boot-accounted, crash-accounted, founding-accounted}
use Rattle.frame_sim.proofs.BySettings.{boot-by-settings, crash-by-settings, founding-by-settings}
use Rattle.frame_sim.proofs.Stepping.{halves-are, parts-are, with_pushed}

-- ---- what a box shows of a gateway that may be down

up-of : (g : Option Shown) (boot : ℕ) (h : List Record) → (box_at g boot h).up ≡ is_up g
up-of None boot h = refl
up-of (Some g) boot h = refl

pub synced-of : (g : Option Shown) (boot : ℕ) (h : List Record) → (box_at g boot h).synced ≡ synced_at g
synced-of None boot h = refl
synced-of (Some g) boot h = refl

boot-of : (ports : PortRanges) (i : GatewayId) (g : Option Shown) (boot : ℕ) (h : List Record) → IsHalf ports i boot g h → (box_at g boot h).boot ≡ boot
boot-of ports i None boot h is = refl
boot-of ports i (Some g) boot h is = is.boot

one-more : (t : List Note) (n : Note) → n ∷ reverse t ≡ reverse (t ++ n ∷ [])
one-more t n = sym (reverse-append t (n ∷ []))

-- ---- a crash

abbrev crash : GatewayId → ℕ → machine.MachineEvent
crash i moment = record { by = i; moment = moment; act = act.Crash }

abbrev pub crashed_world : World → GatewayId → ℕ → World
crashed_world w i moment = with_half w i (record (half w i) { gateway = None }) (w.trace ++ noting i moment Crashed ∷ [])

crash-parts : (w : World) (i : GatewayId) → may_crash w i ≡ true → (is_up (gateway_at w i) ≡ true) × (synced_at (gateway_at w i) ≡ true → synced_at (gateway_at w (other i)) ≡ true)
crash-parts w i may =
    let mine = synced_at (gateway_at w i) in let theirs = synced_at (gateway_at w (other i)) in
    let parts = and_parts (is_up (gateway_at w i)) (not mine || theirs) may in (
      parts.0,
      λ s. elim (or_cases (not mine) theirs parts.1) [
        | inl unsynced ↦ absurd (both_ways mine (not-true mine unsynced) s)
        | inr synced ↦ synced
      ],
    )

can-crash : (w : World) (pushed : GatewayId → List Record) (i : GatewayId) → may_crash w i ≡ true → Can (ranges_of w.settings.ports) i (seen_by i (scene_of w pushed)) act.Crash
can-crash w pushed Zero may =
    let parts = crash-parts w Zero may in
    (up-of (gateway_at w Zero) w.zero.boot (pushed Zero) ∙ parts.0, (λ l h. absurd h), λ s. synced-of (gateway_at w One) w.one.boot (pushed One) ∙ parts.1 (sym (synced-of (gateway_at w Zero) w.zero.boot (pushed Zero)) ∙ s))
can-crash w pushed One may =
    let parts = crash-parts w One may in
    (up-of (gateway_at w One) w.one.boot (pushed One) ∙ parts.0, (λ l h. absurd h), λ s. synced-of (gateway_at w Zero) w.zero.boot (pushed Zero) ∙ parts.1 (sym (synced-of (gateway_at w One) w.one.boot (pushed One)) ∙ s))

crashed-is : (w : World) (pushed : GatewayId → List Record) (i : GatewayId) (moment : ℕ) → ((j : GatewayId) → IsHalf w.settings.ports j (half w j).boot (gateway_at w j) (pushed j))
    → after_event (ranges_of w.settings.ports) (scene_of w pushed) (crash i moment) ≡ scene_of (crashed_world w i moment) (with_pushed pushed i [])
crashed-is w pushed Zero moment all =
    let s = scene_of w pushed in
    ap (λ (b : ℕ). let x : Scene = record s { mine = bare false b; trace = noting Zero moment Crashed ∷ reverse w.trace } in x) (boot-of w.settings.ports Zero (gateway_at w Zero) w.zero.boot (pushed Zero) (all Zero))
    ∙ ap (λ (t : List Note). let x : Scene = record s { mine = bare false w.zero.boot; trace = t } in x) (one-more w.trace (noting Zero moment Crashed))
crashed-is w pushed One moment all =
    let s = scene_of w pushed in
    ap (λ (b : ℕ). let x : Scene = record s { theirs = bare false b; trace = noting One moment Crashed ∷ reverse w.trace } in x) (boot-of w.settings.ports One (gateway_at w One) w.one.boot (pushed One) (all One))
    ∙ ap (λ (t : List Note). let x : Scene = record s { theirs = bare false w.one.boot; trace = t } in x) (one-more w.trace (noting One moment Crashed))

pub crash-sound : GoesTo → OthersCrash → (w : World) (i : GatewayId) (moment : ℕ) → IsSound w → may_crash w i ≡ true → IsSound (crashed_world w i moment)
crash-sound goes others w i moment sound may =
    let r = ranges_of w.settings.ports in
    record {
      values = sound.values;
      pushed = with_pushed sound.pushed i [];
      halves = halves-are w sound.pushed i (record (half w i) { gateway = None }) [] (w.trace ++ noting i moment Crashed ∷ []) sound.halves tt;
      scene = subst (IsWorld r) (crashed-is w sound.pushed i moment sound.halves)
          (goes r (scene_of w sound.pushed) (crash i moment) sound.scene (can-crash w sound.pushed i may));
      accounted = crash-accounted others w sound.pushed i moment sound.halves sound.accounted;
      by_settings = crash-by-settings w i moment sound.by_settings;
      parts = parts-are w i (record (half w i) { gateway = None }) (w.trace ++ noting i moment Crashed ∷ []) tt sound.parts;
    }

-- ---- a boot

abbrev boot : GatewayId → ℕ → machine.MachineEvent
boot i n = record { by = i; moment = 0; act = act.Boot n }

abbrev pub booted_world : World → GatewayId → ℕ → World
booted_world w i n = with_half w i (record (half w i) { gateway = Some (beginning (begun (settings_of w i) i n)); boot = n }) (w.trace ++ noting i 0 (Booted n) ∷ [])

can-boot : (w : World) (pushed : GatewayId → List Record) (i : GatewayId) (n : ℕ) → ((j : GatewayId) → IsHalf w.settings.ports j (half w j).boot (gateway_at w j) (pushed j))
    → may_boot w i n ≡ true → Can (ranges_of w.settings.ports) i (seen_by i (scene_of w pushed)) (act.Boot n)
can-boot w pushed Zero n all may =
    let parts = and_parts (not (is_up (gateway_at w Zero))) (nat_lt w.zero.boot n) may in
    let less = subst (λ b. b < n) (sym (boot-of w.settings.ports Zero (gateway_at w Zero) w.zero.boot (pushed Zero) (all Zero))) (ltb-true w.zero.boot n parts.1) in
    ((up-of (gateway_at w Zero) w.zero.boot (pushed Zero) ∙ not-true (is_up (gateway_at w Zero)) parts.0, less), (λ l h. absurd h), tt)
can-boot w pushed One n all may =
    let parts = and_parts (not (is_up (gateway_at w One))) (nat_lt w.one.boot n) may in
    let less = subst (λ b. b < n) (sym (boot-of w.settings.ports One (gateway_at w One) w.one.boot (pushed One) (all One))) (ltb-true w.one.boot n parts.1) in
    ((up-of (gateway_at w One) w.one.boot (pushed One) ∙ not-true (is_up (gateway_at w One)) parts.0, less), (λ l h. absurd h), tt)

begun-box : BoxBooted → (settings : Settings) (i : GatewayId) (n : ℕ) → booted n ≡ box_of (begun settings i n) []
unfolding begun
begun-box law settings i n =
    let zero = bounds_of settings.ports.zero in let one = bounds_of settings.ports.one in
    sym (law i zero one (rules_of settings) n (link_places zero one) (values_of settings))

-- a gateway that begins is that of its number, by the ranges of either settings
begun-that : (settings own : Settings) (i : GatewayId) (n : ℕ) → bounds_of own.ports.zero ≡ bounds_of settings.ports.zero → bounds_of own.ports.one ≡ bounds_of settings.ports.one → IsThat settings.ports i n (begun own i n) []
unfolding begun
begun-that settings own i n zero one = record { id = refl; zero = zero; one = one; boot = refl; pushed = record { counted = omega arith; coming = refl; behind = refl } }

-- settings with the same values have the same ranges
range-zero : (settings settings_one : Settings) → HaveSameValues settings settings_one → bounds_of settings_one.ports.zero ≡ bounds_of settings.ports.zero
range-zero settings settings_one same = ap (λ (v : Values). let b : PortBounds = record { lowest = v.zero_lowest; highest = v.zero_highest } in b) same

range-one : (settings settings_one : Settings) → HaveSameValues settings settings_one → bounds_of settings_one.ports.one ≡ bounds_of settings.ports.one
range-one settings settings_one same = ap (λ (v : Values). let b : PortBounds = record { lowest = v.one_lowest; highest = v.one_highest } in b) same

begun-at : (w : World) (i : GatewayId) (n : ℕ) → HaveSameValues w.settings w.settings_one → IsThat w.settings.ports i n (begun (settings_of w i) i n) []
begun-at w Zero n same = begun-that w.settings w.settings Zero n refl refl
begun-at w One n same = begun-that w.settings w.settings_one One n (range-zero w.settings w.settings_one same) (range-one w.settings w.settings_one same)

booted-is : BoxBooted → (w : World) (pushed : GatewayId → List Record) (i : GatewayId) (n : ℕ)
    → after_event (ranges_of w.settings.ports) (scene_of w pushed) (boot i n) ≡ scene_of (booted_world w i n) (with_pushed pushed i [])
booted-is law w pushed Zero n =
    let s = scene_of w pushed in
    ap (λ (b : Box). let x : Scene = record s { mine = b; trace = noting Zero 0 (Booted n) ∷ reverse w.trace } in x) (begun-box law w.settings Zero n)
    ∙ ap (λ (t : List Note). let x : Scene = record s { mine = box_of (begun w.settings Zero n) []; trace = t } in x) (one-more w.trace (noting Zero 0 (Booted n)))
booted-is law w pushed One n =
    let s = scene_of w pushed in
    ap (λ (b : Box). let x : Scene = record s { theirs = b; trace = noting One 0 (Booted n) ∷ reverse w.trace } in x) (begun-box law w.settings_one One n)
    ∙ ap (λ (t : List Note). let x : Scene = record s { theirs = box_of (begun w.settings_one One n) []; trace = t } in x) (one-more w.trace (noting One 0 (Booted n)))

pub boot-sound : GoesTo → BoxBooted → OthersBoot → BegunAccounts → PartsBegin → (w : World) (i : GatewayId) (n : ℕ) → IsSound w → may_boot w i n ≡ true → IsSound (booted_world w i n)
boot-sound goes law others begins bytes w i n sound may =
    let r = ranges_of w.settings.ports in
    record {
      values = sound.values;
      pushed = with_pushed sound.pushed i [];
      halves = halves-are w sound.pushed i (record (half w i) { gateway = Some (beginning (begun (settings_of w i) i n)); boot = n }) [] (w.trace ++ noting i 0 (Booted n) ∷ []) sound.halves (begun-at w i n sound.values);
      scene = subst (IsWorld r) (booted-is law w sound.pushed i n)
          (goes r (scene_of w sound.pushed) (boot i n) sound.scene (can-boot w sound.pushed i n sound.halves may));
      accounted = boot-accounted others begins w sound.pushed i n sound.halves sound.accounted;
      by_settings = boot-by-settings w i n sound.by_settings;
      parts = parts-are w i (record (half w i) { gateway = Some (beginning (begun (settings_of w i) i n)); boot = n }) (w.trace ++ noting i 0 (Booted n) ∷ []) (bytes (begun (settings_of w i) i n)) sound.parts;
    }

-- ---- the founding

founded-box : BoxFounded → (settings settings_one : Settings) → AreBounds (bounds_of settings.ports.zero) → machine.founding (ranges_of settings.ports) ≡ scene_of (founding_of settings settings_one) (λ i. [])
unfolding founded begun
founded-box law settings settings_one are =
    let zero = bounds_of settings.ports.zero in let one = bounds_of settings.ports.one in
    ap (λ (b : Box). let x : Scene = record (machine.founding (ranges_of settings.ports)) { mine = b } in x) (sym (law zero one (rules_of settings) (link_places zero one) (values_of settings) are))

founded-that : (settings : Settings) → IsThat settings.ports Zero 1 (founded settings 1) []
unfolding founded begun
founded-that settings = record { id = refl; zero = refl; one = refl; boot = refl; pushed = record { counted = omega arith; coming = refl; behind = refl } }

pub founding-sound : Begins → BoxFounded → FoundedAccounts → PartsBegin → (settings settings_one : Settings) → AreBounds (bounds_of settings.ports.zero) → HaveSameValues settings settings_one → IsSound (founding_of settings settings_one)
founding-sound begins law founds bytes settings settings_one are same = record {
  values = same;
  pushed = λ i. [];
  halves = halves;
  scene = subst (IsWorld (ranges_of settings.ports)) (founded-box law settings settings_one are) (begins (ranges_of settings.ports));
  accounted = founding-accounted founds settings settings_one;
  by_settings = founding-by-settings settings settings_one;
  parts = parts;
}
  where
    halves : (i : GatewayId) → IsHalf settings.ports i (half (founding_of settings settings_one) i).boot (gateway_at (founding_of settings settings_one) i) []
    halves Zero = founded-that settings
    halves One = tt

    parts : (i : GatewayId) → KeepsPartsAt (state_at (founding_of settings settings_one) i)
    parts Zero = bytes (founded settings 1)
    parts One = tt

pub founded-zero : (settings : Settings) → (founded settings 1).ledger.book.zero ≡ bounds_of settings.ports.zero
unfolding founded begun
founded-zero settings = refl
