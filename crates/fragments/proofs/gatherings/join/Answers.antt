use Rattle.std.proofs.Common.{◌≤◌, ◌+◌, ℕ, List, [], length, ap, ◌∙◌, sym, subst}
use Rattle.fragments.specs.Gathered.{Datagram, effect_of, is_named}
use Rattle.fragments.specs.Name.{name_of}
use Rattle.fragments.specs.Memory.{LacksUpTo}
use Rattle.fragments.specs.Places.{fragments_at, with_at}
use Rattle.fragments.specs.Whole.{IsReady, whole_length}
use Rattle.fragments.proofs.Joining.{few-there, left-contradicts, left-too_long, left-waits, ready-at}
use Rattle.fragments.proofs.Placing.{first-at}
use Rattle.fragments.proofs.Takings.{lacks-join, on_err}
use Rattle.fragments.proofs.gatherings.join.Goals as goal

abbrev any_datagram : List ℕ → Datagram
any_datagram f = record { name = name_of f; since = 0; fragments = [] }

pub effect_at-requires-clause-few : goal.effect_at-requires-clause-few
effect_at-requires-clause-few c =
    let f = c.args.fragment.now.frame.now in
    let ds = c.args.datagrams.now.items in
    let first = first-at (is_named (name_of f)) ds c.args.at (any_datagram f) c.requires.at in
    subst (λ (xs : List Datagram). length (fragments_at c.args.at xs) ≤ 64) (sym c.deref.ensures.value) (few-there ds c.args.at c.requires.kept.each first.within)

pub make_whole-requires-clause-ready : goal.make_whole-requires-clause-ready
make_whole-requires-clause-ready c =
    let f = c.args.fragment.now.frame.now in
    let ds = c.args.datagrams.now.items in
    subst (λ (xs : List Datagram). IsReady (with_at c.args.at f xs)) (sym c.deref-in-Completes.ensures.value)
    (ready-at c.args.at f ds (any_datagram f) c.args.fragment.now.fragment c.requires.unbroken c.requires.kept c.requires.at
    (ap (λ (xs : List Datagram). effect_of (fragments_at c.args.at xs) f) (sym c.deref.ensures.value) ∙ sym c.effect_at.ensures ∙ c.in-Completes.is)).0

pub returns-in_err-make_whole-in-Completes-clause-refused : goal.returns-in_err-make_whole-in-Completes-clause-refused
returns-in_err-make_whole-in-Completes-clause-refused c =
    let f = c.args.fragment.now.frame.now in
    let ds = c.args.datagrams.now.items in
    on_err c.from_residual-in_err-make_whole-in-Completes.result
    (lacks-join c.args.at f ds c.args.fragment.now.fragment c.requires.unbroken c.requires.kept c.requires.at
    (ap (λ (xs : List Datagram). effect_of (fragments_at c.args.at xs) f) (sym c.deref.ensures.value) ∙ sym c.effect_at.ensures ∙ c.in-Completes.is)
    (subst (λ (xs : List Datagram). LacksUpTo (14 + whole_length (with_at c.args.at f xs))) c.deref-in-Completes.ensures.value c.in_err-make_whole-in-Completes.ensures.refused))

pub returns-in-Contradicts-clause-left : goal.returns-in-Contradicts-clause-left
returns-in-Contradicts-clause-left c =
    let f = c.args.fragment.now.frame.now in
    let ds = c.args.datagrams.now.items in
    c.remove.ensures.items ∙ sym (left-contradicts c.args.at f ds (any_datagram f) c.requires.at
    (ap (λ (xs : List Datagram). effect_of (fragments_at c.args.at xs) f) (sym c.deref.ensures.value) ∙ sym c.effect_at.ensures ∙ c.in-Contradicts.is))

pub returns-in-TooLong-clause-left : goal.returns-in-TooLong-clause-left
returns-in-TooLong-clause-left c =
    let f = c.args.fragment.now.frame.now in
    let ds = c.args.datagrams.now.items in
    c.remove-in-TooLong.ensures.items ∙ sym (left-too_long c.args.at f ds (any_datagram f) c.requires.at
    (ap (λ (xs : List Datagram). effect_of (fragments_at c.args.at xs) f) (sym c.deref.ensures.value) ∙ sym c.effect_at.ensures ∙ c.in-TooLong.is))

pub returns-in_ok-add-in-Waits-clause-left : goal.returns-in_ok-add-in-Waits-clause-left
returns-in_ok-add-in-Waits-clause-left c =
    let f = c.args.fragment.now.frame.now in
    let ds = c.args.datagrams.now.items in
    c.in_ok-add-in-Waits.ensures.ok ∙ sym (left-waits c.args.at f ds (any_datagram f) c.requires.at
    (ap (λ (xs : List Datagram). effect_of (fragments_at c.args.at xs) f) (sym c.deref.ensures.value) ∙ sym c.effect_at.ensures ∙ c.in-Waits.is))
