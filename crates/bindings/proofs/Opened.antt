-- The owned ports that no entry of a protocol has.
use Rattle.std.proofs.Common.{◌≡◌, ℕ, Bool, true, cond, ◌&&◌, ◌==◌, List, [], ◌∷◌, refl, sym, ap, ◌∙◌, eq-eqb}
use Rattle.std.specs.List.{filter}
use Rattle.std.proofs.lemmas.Bool.{or_left, or_right}
use Rattle.addresses.specs.declared.transport.Protocol.{Protocol}
use Rattle.port_range.specs.Ports.{is_free, is_owned, is_within, is_listed, IsRange}
use Rattle.port_range.specs.Ports.{open_ports as open_of}
use Rattle.bindings.specs.declared.entries.Entry.{Entry}
use Rattle.bindings.specs.declared.ports.Ports.{Ports}
use Rattle.bindings.specs.Ports.{range_of, is_free_in, open_ports, AreAlike, AreFree, key_of}
use Rattle.bindings.proofs.Owning.{like-of}
use Rattle.bindings.proofs.Rising.{same-rising}

-- two tests that agree on the ports of a list leave the same ports of it
filter-same : (f g : ℕ → Bool) (xs : List ℕ) → ((q : ℕ) → is_listed q xs ≡ true → f q ≡ g q) → filter f xs ≡ filter g xs
filter-same f g [] same = refl
filter-same f g (x ∷ xs) same =
    ap (λ b. cond b (x ∷ filter f xs) (filter f xs)) (same x (or_left (x == x) (is_listed x xs) (eq-eqb x x refl)))
    ∙ ap (λ ys. cond (g x) (x ∷ ys) ys) (filter-same f g xs (λ q there. same q (or_right (x == q) (is_listed q xs) there)))

-- the ports of a protocol's range that are owned and free are the owned ports without an entry of the protocol
pub open-is : (low high : ℕ) (es : List Entry) (ports : Ports) (x : Protocol) → AreFree low high es ports → AreAlike low high ports → IsRange (range_of ports x) → IsRange ports.tcp → open_of (range_of ports x) ≡ open_ports es ports.tcp.owned x
open-is low high es ports x free alike is first =
    ap (filter (is_free (range_of ports x))) (same-rising 0 (range_of ports x).owned ports.tcp.owned is.rising first.rising (like-of low high ports alike x).owned)
    ∙ filter-same (is_free (range_of ports x)) (is_free_in es x) ports.tcp.owned (λ q there. free (key_of x q) ∙ ap (λ b. b && is_free_in es x q) (within q there))
  where
    within : (q : ℕ) → is_owned ports.tcp q ≡ true → is_within low high q ≡ true
    within q there = ap (λ n. is_within n high q) (sym alike.tcp.low) ∙ ap (λ n. is_within ports.tcp.lowest n q) (sym alike.tcp.high) ∙ first.owned q there
