-- The ports that the two gateways own.
use Rattle.std.proofs.Common.{◌≡◌, ℕ, ◌==◌, Bool, true, false, ◌||◌, ◌⊎◌, inl, inr, IsTrue, List, [], ◌∷◌, map, length, Option, Some, None, if◌then◌else◌, refl, sym, subst, ◌∙◌, arith}
use Rattle.std.specs.List.{Contains}
use Rattle.std.proofs.lemmas.Bool.{eqb-true}
use Rattle.std.proofs.lemmas.Bool.Decides.{nat_tests}
use Rattle.std.proofs.lemmas.List.{length-map}
use Rattle.std.proofs.lemmas.List.Elements.{Contains-append_cases, Contains-append_left, Contains-append_right, Contains-push, Contains-push_cases}
use Rattle.addresses.specs.declared.transport.Port.{Port}
use Rattle.nat_types.specs.declared.gateways.GatewayId.{GatewayId}
use Rattle.nat_types.specs.declared.gateways.GatewayId.TheVariants.{Zero, One}
use Rattle.nat_types.specs.declared.records.Record.{Record}
use Rattle.port_range.specs.Ports.{is_listed}
use Rattle.settings.specs.declared.ranges.PortRanges.{PortRanges}
use Rattle.bindings.specs.Ports.{in_either}
use Rattle.bindings.specs.Runs.{port_at}
use Rattle.link.specs.Link.{pushed_count}
use Rattle.link.proofs.Offered.{pushed_is}
use Rattle.spec_pair.specs.Mapped.{machine_record}
use Rattle.spec_pair.specs.Ownership.{Ranges}
use Rattle.spec_pair.specs.World as machine
use Rattle.spec_binding.specs.Books.{is_synced, owns}
use Rattle.spec_binding.specs.Machine.{machine_records}
use Rattle.spec_step.specs.Founding.{bounds_of}
use Rattle.spec_step.specs.Machine.{HasPushed}
use Rattle.spec_step.specs.Shown.{Shown}
use Rattle.frame_sim.specs.World.{HaveTakenAll, IsOwned, World, gateway_at, is_to_own, owned_by, synced_at}
use Rattle.frame_sim.specs.Scene.{IsHalf, IsSound, box_at, ranges_of, scene_of}

first : (a b : Bool) → a ≡ true → (a || b) ≡ true
first true b is = refl
first false b is = absurd (cc)

second : (a b : Bool) → b ≡ true → (a || b) ≡ true
second true b is = refl
second false b is = is

self-same : (x : ℕ) → (x == x) ≡ true
self-same x = grind (arith, nat_tests)

listed : (xs : List ℕ) (p : Port) → Contains (map port_at xs) p → is_listed p.0 xs ≡ true
listed [] p h = absurd (omega (arith, h.1))
listed (x ∷ xs) p h =
    elim (Contains-append_cases (port_at x ∷ []) (map port_at xs) p h) [
      | inl one ↦
          elim (Contains-push_cases [] (port_at x) p one) [
            | inl none ↦ absurd (omega (arith, none.1))
            | inr same ↦ first (x == p.0) (is_listed p.0 xs) (subst (λ (q : Port). (x == q.0) ≡ true) same (self-same x))
          ]
      | inr more ↦ second (x == p.0) (is_listed p.0 xs) (listed xs p more)
    ]

at-synced : (b : Bool) (xs : List ℕ) (p : Port) → Contains (if b then map port_at xs else []) p → (b ≡ true) × (is_listed p.0 xs ≡ true)
at-synced true xs p h = (refl, listed xs p h)
at-synced false xs p h = absurd (omega (arith, h.1))

-- a gateway that owns a port is synced, and its box owns it
pub owned-so : (g : Option Shown) (boot : ℕ) (h : List Record) (p : Port) → Contains (owned_by g) p → ((box_at g boot h).synced ≡ true) × ((box_at g boot h).owned p.0 ≡ true)
owned-so None boot h p is = absurd (omega (arith, is.1))
owned-so (Some g) boot h p is = at-synced (is_synced g.ledger.book.stage) g.ledger.book.owned p is

abbrev pub Owners : Type 0
Owners = (r : Ranges) (s : machine.Scene) → machine.IsWorld r s → machine.HasOwners r s

sound-apart : Owners → (w : World) → IsSound w → (p : Port) → Contains (owned_by (gateway_at w Zero)) p → Contains (owned_by (gateway_at w One)) p → ⊥
sound-apart law w sound p zero one =
    let a = owned-so (gateway_at w Zero) w.zero.boot (sound.pushed Zero) p zero in
    let b = owned-so (gateway_at w One) w.one.boot (sound.pushed One) p one in
    (law (ranges_of w.settings.ports) (scene_of w sound.pushed) sound.scene).apart a.0 b.0 p.0 a.1 b.1

-- ---- each port has an owner

unlisted : (xs : List ℕ) (p : Port) → is_listed p.0 xs ≡ true → Contains (map port_at xs) p
unlisted [] p is = absurd (cc)
unlisted (x ∷ xs) p is =
    elim (x == p.0) as (λ b. (x == p.0) ≡ b → (b || is_listed p.0 xs) ≡ true → Contains (map port_at (x ∷ xs)) p) [
      | true ↦ λ same more. Contains-append_left (port_at x ∷ []) (map port_at xs) p
          (subst (λ (n : ℕ). Contains (port_at x ∷ []) (port_at n)) (eqb-true x p.0 same) (Contains-push [] (port_at x)))
      | false ↦ λ other more. Contains-append_right (port_at x ∷ []) (map port_at xs) p (unlisted xs p more)
    ] refl is

synced-owns : (b : Bool) (xs : List ℕ) (p : Port) → b ≡ true → is_listed p.0 xs ≡ true → Contains (if b then map port_at xs else []) p
synced-owns true xs p so is = unlisted xs p is
synced-owns false xs p so is = absurd (cc)

-- a synced gateway owns each port that its box owns
so-owned : (g : Option Shown) (boot : ℕ) (h : List Record) (p : Port) → synced_at g ≡ true → (box_at g boot h).owned p.0 ≡ true → Contains (owned_by g) p
so-owned None boot h p so is = absurd (cc)
so-owned (Some g) boot h p so is = synced-owns (is_synced g.ledger.book.stage) g.ledger.book.owned p so is

either-of : (a b : Bool) → (a || b) ≡ true → (a ≡ true) ⊎ (b ≡ true)
either-of true b is = inl refl
either-of false b is = inr is

synced-so : (g : Option Shown) (boot : ℕ) (h : List Record) → synced_at g ≡ true → (box_at g boot h).synced ≡ true
synced-so None boot h so = absurd (cc)
synced-so (Some g) boot h so = so

-- the link's number of pushed records is the length of the list of those pushed
pushed-so : (g : Shown) (h : List Record) → HasPushed g h → pushed_count g.link ≡ length (machine_records h)
pushed-so g h has = pushed_is h g.ledger.book.coming g.link has ∙ sym (length-map h machine_record)

-- where both gateways have taken all, each port that the machine says has an owner has one
whole-so : (ports : PortRanges) (these : ℕ → Bool) (a b : Option Shown) (m n : ℕ) (h k : List Record) → IsHalf ports Zero m a h → IsHalf ports One n b k
    → ((box_at a m h).synced ≡ true → (box_at b n k).synced ≡ true → (box_at a m h).taken ≡ length (box_at b n k).sent → (box_at b n k).taken ≡ length (box_at a m h).sent
    → (p : ℕ) → IsTrue (these p) → IsTrue ((box_at a m h).owned p || (box_at b n k).owned p))
    → synced_at a ≡ true → synced_at b ≡ true → HaveTakenAll a b → (p : Port) → IsTrue (these p.0) → Contains (owned_by a) p ⊎ Contains (owned_by b) p
whole-so ports these None b m n h k x y law sa sb even p is = absurd even
whole-so ports these (Some a) None m n h k x y law sa sb even p is = absurd even
whole-so ports these (Some a) (Some b) m n h k x y law sa sb even p is =
    elim (either-of (owns a.ledger.book p.0) (owns b.ledger.book p.0) (law sa sb (even.0 ∙ pushed-so b k y.pushed) (even.1 ∙ pushed-so a h x.pushed) p.0 is)) [
      | inl mine ↦ inl (so-owned (Some a) m h p sa mine)
      | inr theirs ↦ inr (so-owned (Some b) n k p sb theirs)
    ]

sound-within : Owners → (w : World) → IsSound w → (i : GatewayId) → (p : Port) → Contains (owned_by (gateway_at w i)) p → IsTrue (is_to_own w.settings.ports p)
sound-within law w sound Zero p is =
    let a = owned-so (gateway_at w Zero) w.zero.boot (sound.pushed Zero) p is in
    (law (ranges_of w.settings.ports) (scene_of w sound.pushed) sound.scene).within Zero a.0 p.0 a.1
sound-within law w sound One p is =
    let a = owned-so (gateway_at w One) w.one.boot (sound.pushed One) p is in
    (law (ranges_of w.settings.ports) (scene_of w sound.pushed) sound.scene).within One a.0 p.0 a.1

pub sound-owned : Owners → (w : World) → IsSound w → IsOwned w
sound-owned law w sound = record {
  apart = sound-apart law w sound;
  whole = whole-so w.settings.ports (λ p. in_either (bounds_of w.settings.ports.zero) (bounds_of w.settings.ports.one) p) (gateway_at w Zero) (gateway_at w One) w.zero.boot w.one.boot (sound.pushed Zero) (sound.pushed One)
      (sound.halves Zero) (sound.halves One) (law (ranges_of w.settings.ports) (scene_of w sound.pushed) sound.scene).whole;
  within = sound-within law w sound;
}
