-- What a look-up by the equality of endpoints gives, and after the slots of one endpoint were changed.
use Rattle.std.proofs.Common.{◌≡◌, Bool, true, false, cond, Option, Some, None, List, [], ◌∷◌, ◌&&◌, ◌==◌, refl, ap, sym, ◌∙◌}
use Rattle.std.specs.Map.{lookup}
use Rattle.std.specs.Option.{unwrap_or}
use Rattle.std.proofs.Math.Bool.{and_assoc, and_comm}
use Rattle.addresses.specs.declared.transport.Protocol.{Protocol}
use Rattle.addresses.specs.declared.transport.Protocol.TheVariants.{Icmp, Tcp, Udp}
use Rattle.nat_types.specs.declared.pairs.Endpoint.{Endpoint}
use Rattle.addresses.specs.Transport.{same_protocol}
use Rattle.addresses.specs.contracts.transport.ProtocolPartialEq.TheImpl.{eq-value as protocol_eq}
use Rattle.nat_types.specs.contracts.pairs.EndpointPartialEq.TheImpl.{eq-value as endpoint_eq}
use Rattle.nat_types.specs.Same.{same_endpoint}
use Rattle.nat_types.proofs.Offered.{endpoint-eq}
use Rattle.slots.specs.declared.numbers.SlotNumber.{SlotNumber}
use Rattle.slots.specs.declared.ranks.Rank.{Rank}
use Rattle.slots.specs.declared.ranks.Rank.TheVariants.{First, Second}
use Rattle.slots.specs.declared.ranks.Places.{Places}
use Rattle.slots.specs.Ranks.{same_rank, no_places, slot_in, with_slot}
use Rattle.slots.specs.Endpoints.{look_up}

protocols : (p q : Protocol) → protocol_eq.it p q ≡ same_protocol p q
protocols Icmp Icmp = refl
protocols Icmp Tcp = refl
protocols Icmp Udp = refl
protocols Tcp Icmp = refl
protocols Tcp Tcp = refl
protocols Tcp Udp = refl
protocols Udp Icmp = refl
protocols Udp Tcp = refl
protocols Udp Udp = refl

last-first : (a b c : Bool) → (a && (b && c)) ≡ (c && (a && b))
last-first a b c = sym (and_assoc a b c) ∙ and_comm (a && b) c

-- equal endpoints have equal parts
pub equal : (x y : Endpoint) → endpoint_eq.it x y ≡ same_endpoint x y
unfolding same_endpoint
equal x y =
    ap (λ b. (x.address.0 == y.address.0) && ((x.port.0 == y.port.0) && b)) (protocols x.protocol y.protocol)
    ∙ last-first (x.address.0 == y.address.0) (x.port.0 == y.port.0) (same_protocol x.protocol y.protocol)

pub looked-up : (es : List (Endpoint × Places)) (x : Endpoint) → unwrap_or (lookup (endpoint_eq.it x) es) no_places ≡ look_up es x
looked-up [] x = refl
looked-up (e ∷ es) x = by (endpoint_eq.it x e.0) (equal x e.0) (looked-up es x)
  where
    by : (b : Bool) → b ≡ same_endpoint x e.0 → unwrap_or (lookup (endpoint_eq.it x) es) no_places ≡ look_up es x
        → unwrap_or (cond b (Some e.1) (lookup (endpoint_eq.it x) es)) no_places ≡ cond (same_endpoint x e.0) e.1 (look_up es x)
    by true h rest = ap (λ b. cond b e.1 (look_up es x)) h
    by false h rest = rest ∙ ap (λ b. cond b e.1 (look_up es x)) h

-- the look-ups after the slots of one endpoint were changed
pub changed-one : (es fs : List (Endpoint × Places)) (x : Endpoint) (o : Option Places) → ((q : Endpoint) → lookup (endpoint_eq.it q) fs ≡ cond (endpoint_eq.it x q) o (lookup (endpoint_eq.it q) es))
    → (q : Endpoint) → look_up fs q ≡ cond (same_endpoint x q) (unwrap_or o no_places) (look_up es q)
changed-one es fs x o h q =
    sym (looked-up fs q) ∙ ap (λ r. unwrap_or r no_places) (h q) ∙ through (endpoint_eq.it x q)
    ∙ ap (λ b. cond b (unwrap_or o no_places) (unwrap_or (lookup (endpoint_eq.it q) es) no_places)) (equal x q)
    ∙ ap (cond (same_endpoint x q) (unwrap_or o no_places)) (looked-up es q)
  where
    through : (b : Bool) → unwrap_or (cond b o (lookup (endpoint_eq.it q) es)) no_places ≡ cond b (unwrap_or o no_places) (unwrap_or (lookup (endpoint_eq.it q) es) no_places)
    through true = refl
    through false = refl

-- ---- the slot of one rank

slot-with : (rank r : Rank) (slot : Option SlotNumber) (p : Places) → slot_in r (with_slot rank slot p) ≡ cond (same_rank rank r && true) slot (slot_in r p)
slot-with First First slot p = refl
slot-with First Second slot p = refl
slot-with Second First slot p = refl
slot-with Second Second slot p = refl

neither : (a : Bool) → (a && false) ≡ false
neither true = refl
neither false = refl

-- the slots of each rank after one slot of one endpoint was changed
pub changed-slot : (es fs : List (Endpoint × Places)) (x : Endpoint) (rank : Rank) (slot : Option SlotNumber) → ((q : Endpoint) → look_up fs q ≡ cond (same_endpoint x q) (with_slot rank slot (look_up es x)) (look_up es q))
    → (r : Rank) (q : Endpoint) → slot_in r (look_up fs q) ≡ cond (same_rank rank r && same_endpoint x q) slot (slot_in r (look_up es q))
changed-slot es fs x rank slot h r q = ap (slot_in r) (h q) ∙ by (same_endpoint x q) refl
  where
    by : (b : Bool) → same_endpoint x q ≡ b → slot_in r (cond b (with_slot rank slot (look_up es x)) (look_up es q)) ≡ cond (same_rank rank r && b) slot (slot_in r (look_up es q))
    by true s = slot-with rank r slot (look_up es x) ∙ ap (λ (y : Endpoint). cond (same_rank rank r && true) slot (slot_in r (look_up es y))) (endpoint-eq x q s)
    by false s = ap (λ b. cond b slot (slot_in r (look_up es q))) (sym (neither (same_rank rank r)))

rank-eq : (a b : Rank) → same_rank a b ≡ true → a ≡ b
rank-eq First First h = refl
rank-eq First Second h = absurd (cc)
rank-eq Second First h = absurd (cc)
rank-eq Second Second h = refl

-- where an endpoint has no slot of a rank, the slots are those without it
pub absent-slot : (es : List (Endpoint × Places)) (x : Endpoint) (rank : Rank) → slot_in rank (look_up es x) ≡ None
    → (r : Rank) (q : Endpoint) → slot_in r (look_up es q) ≡ cond (same_rank rank r && same_endpoint x q) None (slot_in r (look_up es q))
absent-slot es x rank none r q = by (same_rank rank r) (same_endpoint x q) refl refl
  where
    by : (a b : Bool) → same_rank rank r ≡ a → same_endpoint x q ≡ b → slot_in r (look_up es q) ≡ cond (a && b) None (slot_in r (look_up es q))
    by true true f g = ap (λ (y : Rank). slot_in y (look_up es q)) (sym (rank-eq rank r f)) ∙ ap (λ (y : Endpoint). slot_in rank (look_up es y)) (sym (endpoint-eq x q g)) ∙ none
    by true false f g = refl
    by false b f g = refl
