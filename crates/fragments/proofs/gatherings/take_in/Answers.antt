use Rattle.std.proofs.Common.{◌≡◌, ◌⊎◌, ℕ, false, Option, Some, None, unwrap_or, IfOk, OnOk, OnErr, List, ap, ◌∙◌, sym, subst}
use Rattle.std.specs.List.{position}
use Rattle.fragments.specs.Fragment.{is_broken, trimmed}
use Rattle.fragments.specs.Gathered.{Taking, is_named, left_first, taken}
use Rattle.fragments.specs.Memory.{LacksCopy, LacksWhole}
use Rattle.fragments.specs.Name.{name_of}
use Rattle.fragments.specs.Places.{joined_at}
use Rattle.fragments.specs.declared.gatherings.Came.TheVariants.{Held}
use Rattle.fragments.specs.declared.gatherings.Loss.{Loss}
use Rattle.fragments.specs.declared.gatherings.Outcome.{Outcome}
use Rattle.fragments.specs.declared.names.Name.{Name}
use Rattle.fragments.proofs.Takings.{taken-none, taken-some}
use Rattle.fragments.proofs.gatherings.take_in.Goals as goal

pub returns-in-Some-clause-outcome : goal.returns-in-Some-clause-outcome
returns-in-Some-clause-outcome c =
    let frame = c.args.frame.now in
    let f = c.trimmed-fragment.result.frame.now in
    let ds = c.args.datagrams.now.items in
    let is : f ≡ trimmed frame = c.trimmed-fragment.ensures ∙ ap trimmed c.new.ensures in
    let fine : is_broken f ≡ false = sym c.is_broken.ensures ∙ c.if-is_broken.false in
    let there : position (is_named (name_of f)) ds ≡ Some c.in-Some.at =
    ap (λ (n : Name). position (is_named n) ds) (sym c.name-name.ensures)
    ∙ ap (position (is_named c.name-name.result)) (sym c.deref.ensures.value) ∙ sym c.place_of.ensures ∙ c.in-Some.is in
    let same : joined_at c.in-Some.at f ds ≡ taken c.args.now frame ds = taken-some c.args.now c.in-Some.at frame f ds is fine there in
    subst (λ (t : Taking). IfOk c.join.result (λ (o : Outcome). o ≡ record { came = t.came; lost = t.lost })) same c.join.ensures.outcome

pub returns-in-Some-clause-left : goal.returns-in-Some-clause-left
returns-in-Some-clause-left c =
    let frame = c.args.frame.now in
    let f = c.trimmed-fragment.result.frame.now in
    let ds = c.args.datagrams.now.items in
    let is : f ≡ trimmed frame = c.trimmed-fragment.ensures ∙ ap trimmed c.new.ensures in
    let fine : is_broken f ≡ false = sym c.is_broken.ensures ∙ c.if-is_broken.false in
    let there : position (is_named (name_of f)) ds ≡ Some c.in-Some.at =
    ap (λ (n : Name). position (is_named n) ds) (sym c.name-name.ensures)
    ∙ ap (position (is_named c.name-name.result)) (sym c.deref.ensures.value) ∙ sym c.place_of.ensures ∙ c.in-Some.is in
    let same : joined_at c.in-Some.at f ds ≡ taken c.args.now frame ds = taken-some c.args.now c.in-Some.at frame f ds is fine there in
    subst (λ (t : Taking). OnOk c.join.result (c.join.new.datagrams.items ≡ left_first t ds)) same c.join.ensures.left

pub returns-in-Some-clause-whole : goal.returns-in-Some-clause-whole
returns-in-Some-clause-whole c =
    let frame = c.args.frame.now in
    let f = c.trimmed-fragment.result.frame.now in
    let ds = c.args.datagrams.now.items in
    let is : f ≡ trimmed frame = c.trimmed-fragment.ensures ∙ ap trimmed c.new.ensures in
    let fine : is_broken f ≡ false = sym c.is_broken.ensures ∙ c.if-is_broken.false in
    let there : position (is_named (name_of f)) ds ≡ Some c.in-Some.at =
    ap (λ (n : Name). position (is_named n) ds) (sym c.name-name.ensures)
    ∙ ap (position (is_named c.name-name.result)) (sym c.deref.ensures.value) ∙ sym c.place_of.ensures ∙ c.in-Some.is in
    let same : joined_at c.in-Some.at f ds ≡ taken c.args.now frame ds = taken-some c.args.now c.in-Some.at frame f ds is fine there in
    subst (λ (t : Taking). OnOk c.join.result (c.join.new.buffers.whole.items ≡ unwrap_or t.made c.args.buffers.now.whole.items)) same c.join.ensures.whole

pub returns-in-Some-clause-refused : goal.returns-in-Some-clause-refused
returns-in-Some-clause-refused c =
    let frame = c.args.frame.now in
    let f = c.trimmed-fragment.result.frame.now in
    let ds = c.args.datagrams.now.items in
    let is : f ≡ trimmed frame = c.trimmed-fragment.ensures ∙ ap trimmed c.new.ensures in
    let fine : is_broken f ≡ false = sym c.is_broken.ensures ∙ c.if-is_broken.false in
    let there : position (is_named (name_of f)) ds ≡ Some c.in-Some.at =
    ap (λ (n : Name). position (is_named n) ds) (sym c.name-name.ensures)
    ∙ ap (position (is_named c.name-name.result)) (sym c.deref.ensures.value) ∙ sym c.place_of.ensures ∙ c.in-Some.is in
    let same : joined_at c.in-Some.at f ds ≡ taken c.args.now frame ds = taken-some c.args.now c.in-Some.at frame f ds is fine there in
    subst (λ (x : List ℕ). OnErr c.join.result (LacksCopy x ⊎ LacksWhole (taken c.args.now frame ds).made)) is
    (subst (λ (t : Taking). OnErr c.join.result (LacksCopy f ⊎ LacksWhole t.made)) same c.join.ensures.refused)

pub returns-in_ok-lost-in-None-clause-outcome : goal.returns-in_ok-lost-in-None-clause-outcome
returns-in_ok-lost-in-None-clause-outcome c =
    let frame = c.args.frame.now in
    let f = c.trimmed-fragment.result.frame.now in
    let ds = c.args.datagrams.now.items in
    let is : f ≡ trimmed frame = c.trimmed-fragment.ensures ∙ ap trimmed c.new.ensures in
    let fine : is_broken f ≡ false = sym c.is_broken.ensures ∙ c.if-is_broken.false in
    let there : position (is_named (name_of f)) ds ≡ None =
    ap (λ (n : Name). position (is_named n) ds) (sym c.name-name.ensures)
    ∙ ap (position (is_named c.name-name.result)) (sym c.deref.ensures.value) ∙ sym c.place_of.ensures ∙ c.in-None.is in
    let same = taken-none c.args.now frame f ds is fine there in
    c.held.ensures
    ∙ ap (λ (l : Option Loss). let o : Outcome = record { came = Held; lost = l } in o) c.in_ok-lost-in-None.ensures.lost
    ∙ ap (λ (t : Taking). let o : Outcome = record { came = t.came; lost = t.lost } in o) same

pub returns-in_ok-lost-in-None-clause-left : goal.returns-in_ok-lost-in-None-clause-left
returns-in_ok-lost-in-None-clause-left c =
    let frame = c.args.frame.now in
    let f = c.trimmed-fragment.result.frame.now in
    let ds = c.args.datagrams.now.items in
    let is : f ≡ trimmed frame = c.trimmed-fragment.ensures ∙ ap trimmed c.new.ensures in
    let fine : is_broken f ≡ false = sym c.is_broken.ensures ∙ c.if-is_broken.false in
    let there : position (is_named (name_of f)) ds ≡ None =
    ap (λ (n : Name). position (is_named n) ds) (sym c.name-name.ensures)
    ∙ ap (position (is_named c.name-name.result)) (sym c.deref.ensures.value) ∙ sym c.place_of.ensures ∙ c.in-None.is in
    let same = taken-none c.args.now frame f ds is fine there in
    c.in_ok-lost-in-None.ensures.ok ∙ ap (λ (t : Taking). left_first t ds) same

pub returns-in_ok-lost-in-None-clause-whole : goal.returns-in_ok-lost-in-None-clause-whole
returns-in_ok-lost-in-None-clause-whole c =
    let frame = c.args.frame.now in
    let f = c.trimmed-fragment.result.frame.now in
    let ds = c.args.datagrams.now.items in
    let is : f ≡ trimmed frame = c.trimmed-fragment.ensures ∙ ap trimmed c.new.ensures in
    let fine : is_broken f ≡ false = sym c.is_broken.ensures ∙ c.if-is_broken.false in
    let there : position (is_named (name_of f)) ds ≡ None =
    ap (λ (n : Name). position (is_named n) ds) (sym c.name-name.ensures)
    ∙ ap (position (is_named c.name-name.result)) (sym c.deref.ensures.value) ∙ sym c.place_of.ensures ∙ c.in-None.is in
    let same = taken-none c.args.now frame f ds is fine there in
    ap (λ (t : Taking). unwrap_or t.made c.args.buffers.now.whole.items) same
