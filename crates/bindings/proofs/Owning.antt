-- The free and owned ports after a change.
use Rattle.std.proofs.Common.{◌≡◌, ℕ, ◌+◌, ◌-◌, ◌*◌, ◌<◌, ◌≤◌, Bool, true, false, cond, ◌&&◌, ◌||◌, ◌==◌, is_none, Option, Some, None, IfSome, IfNone, List, inl, inr, bit_and, refl, sym, ap, ◌∙◌, eq-eqb, arith}
use Rattle.std.proofs.lemmas.Bool.{cond-true, cond-false, cases_Bool, cases_lt, both_ways, eqb-true, false_from_ne_true}
use Rattle.addresses.specs.declared.transport.Protocol.{Protocol}
use Rattle.addresses.specs.declared.transport.Protocol.TheVariants.{Icmp, Tcp, Udp}
use Rattle.addresses.specs.declared.transport.Parity.{Parity}
use Rattle.addresses.specs.declared.transport.Port.{Port}
use Rattle.nat_types.specs.declared.pairs.Key.{Key}
use Rattle.nat_types.specs.Same.{same_key}
use Rattle.nat_types.proofs.Offered.{key-eq, key-true}
use Rattle.port_range.specs.Ports.{Range, is_free, is_owned, is_within, is_available, is_listed, chosen_port as chosen_of, IsRange}
use Rattle.bindings.specs.declared.ports.Ports.{Ports}
use Rattle.port_range.specs.Ports.{chosen_open}
use Rattle.port_range.specs.Searches.{IsLastBelow}
use Rattle.port_range.specs.Words.{is_set}
use Rattle.port_range.specs.Drawn.{drawn_port as drawn_of}
use Rattle.port_range.proofs.Offered.{chosen-same, drawn-same, is_set-and}
use Rattle.addresses.specs.Transport.{same_protocol}
use Rattle.addresses.proofs.Offered.{protocol-eq, protocol-self}
use Rattle.bindings.specs.declared.entries.Entry.{Entry}
use Rattle.bindings.specs.declared.entries.PortBounds.{PortBounds}
use Rattle.bindings.specs.Entries.{slot_of, set_at}
use Rattle.bindings.specs.Ports.{range_of, is_free_at, is_free_in, is_open_in, is_spare, is_spare_in, lowest_of, highest_of, chosen_port, drawn_port, IsLike, AreAlike, SameEnds, SameBounds, SameOwned, AreFree, key_of}

-- a test of ports is replaced at one port
abbrev pub IsSetAt : (ℕ → Bool) → (ℕ → Bool) → ℕ → Bool → Type 0
IsSetAt new old port b = (p : ℕ) → new p ≡ cond (p == port) b (old p)

set-here : (new old : ℕ → Bool) (port p : ℕ) (b : Bool) → IsSetAt new old port b → p ≡ port → new p ≡ b
set-here new old port p b is same = is p ∙ cond-true (p == port) b (old p) (eq-eqb p port same)

set-there : (new old : ℕ → Bool) (port p : ℕ) (b : Bool) → IsSetAt new old port b → (p ≡ port → ⊥) → new p ≡ old p
set-there new old port p b is other = is p ∙ cond-false (p == port) b (old p) (false_from_ne_true (p == port) (λ e. other (eqb-true p port e)))

by-protocol : (a b : Key) → a.protocol ≡ b.protocol → a.port.0 ≡ b.port.0 → a ≡ b
by-protocol a b one two = ap (λ (x : Protocol). let k : Key = record { protocol = x; port = a.port } in k) one ∙ ap (λ (y : ℕ). let k : Key = record { protocol = b.protocol; port = record { 0 = y } } in k) two

-- the free keys change at one key where the range of its protocol changes at its port
pub range-set : (x : Protocol) (old new : Ports) (key : Key) (b : Bool) → key.protocol ≡ x → IsSetAt (is_free (range_of new x)) (is_free (range_of old x)) key.port.0 b → ((y : Protocol) → (y ≡ x → ⊥) → range_of new y ≡ range_of old y) → (q : Key) → is_free_at new q ≡ cond (same_key key q) b (is_free_at old q)
range-set x old new key b of is rest q =
    elim (cases_Bool (same_key key q)) [
      | inl same ↦
          (let one : key ≡ q = key-eq key q same in
          let p : q.protocol ≡ x = ap (λ (k : Key). k.protocol) (sym one) ∙ of in
          ap (λ y. is_free (range_of new y) q.port.0) p ∙ set-here (is_free (range_of new x)) (is_free (range_of old x)) key.port.0 q.port.0 b is (ap (λ (k : Key). k.port.0) (sym one))
          ∙ sym (cond-true (same_key key q) b (is_free_at old q) same))
      | inr other ↦ (elim (cases_Bool (same_protocol q.protocol x)) [
        | inl same ↦
            (let p : q.protocol ≡ x = protocol-eq q.protocol x same in
            ap (λ y. is_free (range_of new y) q.port.0) p
            ∙ set-there (is_free (range_of new x)) (is_free (range_of old x)) key.port.0 q.port.0 b is (λ e. both_ways (same_key key q) other (key-true key q (by-protocol key q (of ∙ sym p) (sym e))))
            ∙ ap (λ y. is_free (range_of old y) q.port.0) (sym p))
        | inr differs ↦ ap (λ r. is_free r q.port.0) (rest q.protocol (λ e. both_ways (same_protocol q.protocol x) differs (ap (λ y. same_protocol y x) e ∙ protocol-self x)))
      ]) ∙ sym (cond-false (same_key key q) b (is_free_at old q) other)
    ]

-- the ranges of the other protocols stay
pub icmp-rest : (old new : Ports) → new.tcp ≡ old.tcp → new.udp ≡ old.udp → (y : Protocol) → (y ≡ Icmp → ⊥) → range_of new y ≡ range_of old y
icmp-rest old new t u Icmp differs = absurd (differs refl)
icmp-rest old new t u Tcp differs = t
icmp-rest old new t u Udp differs = u

pub tcp-rest : (old new : Ports) → new.icmp ≡ old.icmp → new.udp ≡ old.udp → (y : Protocol) → (y ≡ Tcp → ⊥) → range_of new y ≡ range_of old y
tcp-rest old new i u Icmp differs = i
tcp-rest old new i u Tcp differs = absurd (differs refl)
tcp-rest old new i u Udp differs = u

pub udp-rest : (old new : Ports) → new.icmp ≡ old.icmp → new.tcp ≡ old.tcp → (y : Protocol) → (y ≡ Udp → ⊥) → range_of new y ≡ range_of old y
udp-rest old new i t Icmp differs = i
udp-rest old new i t Tcp differs = t
udp-rest old new i t Udp differs = absurd (differs refl)

already : (c b : Bool) (o : Bool) → (c ≡ true → o ≡ b) → o ≡ cond c b o
already true b o h = h refl
already false b o h = refl

-- a port that is taken already stays taken
pub port-already : (range : Range) (port : ℕ) → is_free range port ≡ false → (p : ℕ) → is_free range p ≡ cond (p == port) false (is_free range p)
port-already range port is p = already (p == port) false (is_free range p) (λ same. ap (is_free range) (eqb-true p port same) ∙ is)

-- each range is like the others
pub like-of : (low high : ℕ) (ports : Ports) → AreAlike low high ports → (x : Protocol) → IsLike ports.tcp low high (range_of ports x)
like-of low high ports alike Icmp = alike.icmp
like-of low high ports alike Tcp = alike.tcp
like-of low high ports alike Udp = alike.udp

-- ---- the free keys of a table

taken : (w c : Bool) (o : Option Entry) (e : Entry) → cond c false (w && is_none o) ≡ (w && is_none (cond c (Some e) o))
taken true true o e = refl
taken true false o e = refl
taken false true o e = refl
taken false false o e = refl

-- the free ports are those of the entries after a key was taken and has an entry
pub free-taken : (low high : ℕ) (es es2 : List Entry) (ports ports2 : Ports) (key : Key) (e : Entry) → AreFree low high es ports → ((q : Key) → is_free_at ports2 q ≡ cond (same_key key q) false (is_free_at ports q)) → ((q : Key) → slot_of es2 q ≡ set_at (slot_of es) key (Some e) q) → AreFree low high es2 ports2
free-taken low high es es2 ports ports2 key e free ports-are slots q =
    ports-are q ∙ ap (cond (same_key key q) false) (free q)
    ∙ taken (is_within low high q.port.0) (same_key key q) (slot_of es q) e
    ∙ ap (λ o. is_within low high q.port.0 && is_none o) (sym (slots q))

freed : (w c : Bool) (o : Option Entry) → cond c w (w && is_none o) ≡ (w && is_none (cond c None o))
freed true true o = refl
freed true false o = refl
freed false true o = refl
freed false false o = refl

-- the free ports are those of the entries after a key was freed and has no entry
pub free-put_back : (low high : ℕ) (es es2 : List Entry) (ports ports2 : Ports) (key : Key) → AreFree low high es ports → ((q : Key) → is_free_at ports2 q ≡ cond (same_key key q) (is_within low high key.port.0) (is_free_at ports q)) → ((q : Key) → slot_of es2 q ≡ set_at (slot_of es) key None q) → AreFree low high es2 ports2
free-put_back low high es es2 ports ports2 key free ports-are slots q =
    ports-are q ∙ ap (cond (same_key key q) (is_within low high key.port.0)) (free q)
    ∙ here
    ∙ freed (is_within low high q.port.0) (same_key key q) (slot_of es q)
    ∙ ap (λ o. is_within low high q.port.0 && is_none o) (sym (slots q))
  where
    one : (c : Bool) → same_key key q ≡ c → cond c (is_within low high key.port.0) (is_within low high q.port.0 && is_none (slot_of es q)) ≡ cond c (is_within low high q.port.0) (is_within low high q.port.0 && is_none (slot_of es q))
    one true same = ap (λ (k : Key). is_within low high k.port.0) (key-eq key q same)
    one false other = refl

    here : cond (same_key key q) (is_within low high key.port.0) (is_within low high q.port.0 && is_none (slot_of es q)) ≡ cond (same_key key q) (is_within low high q.port.0) (is_within low high q.port.0 && is_none (slot_of es q))
    here = one (same_key key q) refl

-- the free ports are those of the entries where the same keys have entries
pub free-same : (low high : ℕ) (es es2 : List Entry) (ports : Ports) → AreFree low high es ports → ((q : Key) → is_none (slot_of es2 q) ≡ is_none (slot_of es q)) → AreFree low high es2 ports
free-same low high es es2 ports free same q = free q ∙ ap (λ b. is_within low high q.port.0 && b) (sym (same q))

-- ---- the port that is chosen

flip : (w n o : Bool) → (o ≡ true → w ≡ true) → ((w && n) && o) ≡ (o && n)
flip true true true h = refl
flip true true false h = refl
flip true false true h = refl
flip true false false h = refl
flip false n true h = absurd (let e = h refl in both_ways false refl e)
flip false n false h = refl

-- a port of a protocol may be given out where it is owned and has no entry
available-is : (low high : ℕ) (es : List Entry) (ports : Ports) (x : Protocol) → AreFree low high es ports → AreAlike low high ports → IsRange (range_of ports x) → (port : ℕ) → is_available (range_of ports x) port ≡ is_open_in es ports.tcp.owned x port
available-is low high es ports x free alike is port =
    ap (λ b. b && is_owned (range_of ports x) port) (free (key_of x port))
    ∙ flip (is_within low high port) (is_free_in es x port) (is_owned (range_of ports x) port) within
    ∙ ap (λ b. b && is_free_in es x port) (like.owned port)
  where
    like : IsLike ports.tcp low high (range_of ports x)
    like = like-of low high ports alike x

    within : is_owned (range_of ports x) port ≡ true → is_within low high port ≡ true
    within h = ap (λ n. is_within n high port) (sym like.low) ∙ ap (λ n. is_within (range_of ports x).lowest n port) (sym like.high) ∙ is.owned port h

pub chosen-is : (es : List Entry) (zero one : PortBounds) (ports : Ports) (x : Protocol) (parity : Parity) → AreFree (lowest_of zero one) (highest_of zero one) es ports → AreAlike (lowest_of zero one) (highest_of zero one) ports → IsRange (range_of ports x) → chosen_of (range_of ports x) parity ≡ chosen_port es ports.tcp.owned zero one x parity
chosen-is es zero one ports x parity free alike is =
    chosen-same (is_available (range_of ports x)) (is_open_in es ports.tcp.owned x) (range_of ports x).lowest (range_of ports x).highest parity (available-is (lowest_of zero one) (highest_of zero one) es ports x free alike is)
    ∙ ap (λ n. chosen_open (is_open_in es ports.tcp.owned x) n (range_of ports x).highest parity) like.low
    ∙ ap (λ n. chosen_open (is_open_in es ports.tcp.owned x) (lowest_of zero one) n parity) like.high
  where
    like : IsLike ports.tcp (lowest_of zero one) (highest_of zero one) (range_of ports x)
    like = like-of (lowest_of zero one) (highest_of zero one) ports alike x

-- the highest port of a range is a port
pub port-high : (low high : ℕ) (ports : Ports) (x : Protocol) → AreAlike low high ports → IsRange (range_of ports x) → high < 65536
port-high low high ports x alike is = (let same = (like-of low high ports alike x).high in let top = is.high in omega (arith, same, top))

-- the port that is drawn of a protocol's range is that of the owned ports and the entries
pub drawn-is : (low high : ℕ) (es : List Entry) (ports : Ports) (x : Protocol) (parity : Parity) (m n : ℕ) → AreFree low high es ports → AreAlike low high ports → IsRange (range_of ports x) → drawn_of (range_of ports x) parity m n ≡ drawn_port es ports.tcp.owned x parity m n
drawn-is low high es ports x parity m n free alike is =
    drawn-same (is_available (range_of ports x)) (is_open_in es ports.tcp.owned x) (is_owned (range_of ports x)) (is_owned ports.tcp) parity m n
    (available-is low high es ports x free alike is) (like-of low high ports alike x).owned

-- the ranges stay alike
pub alike-same : (low high : ℕ) (old new : Ports) → AreAlike low high old → SameBounds old new → SameOwned old new → AreAlike low high new
alike-same low high old new a b o = record {
  icmp = like-same old.icmp new.icmp a.icmp b.icmp o.icmp;
  tcp = like-same old.tcp new.tcp a.tcp b.tcp o.tcp;
  udp = like-same old.udp new.udp a.udp b.udp o.udp;
}
  where
    like-same : (range range2 : Range) → IsLike old.tcp low high range → SameEnds range range2 → range2.owned ≡ range.owned → IsLike new.tcp low high range2
    like-same range range2 l e same = record {
      low = e.low ∙ l.low;
      high = e.high ∙ l.high;
      owned = λ port. ap (is_listed port) same ∙ l.owned port ∙ sym (ap (is_listed port) o.tcp);
    }

-- bounds are the same as themselves
pub bounds-refl : (ports : Ports) → SameBounds ports ports
bounds-refl ports = record {
  icmp = record { low = refl; high = refl };
  tcp = record { low = refl; high = refl };
  udp = record { low = refl; high = refl };
}

pub owned-refl : (ports : Ports) → SameOwned ports ports
owned-refl ports = record { icmp = refl; tcp = refl; udp = refl }

-- bounds that stay in two changes stay in both together
pub bounds-trans : (first second third : Ports) → SameBounds first second → SameBounds second third → SameBounds first third
bounds-trans first second third a b = record {
  icmp = record { low = b.icmp.low ∙ a.icmp.low; high = b.icmp.high ∙ a.icmp.high };
  tcp = record { low = b.tcp.low ∙ a.tcp.low; high = b.tcp.high ∙ a.tcp.high };
  udp = record { low = b.udp.low ∙ a.udp.low; high = b.udp.high ∙ a.udp.high };
}

pub owned-trans : (first second third : Ports) → SameOwned first second → SameOwned second third → SameOwned first third
owned-trans first second third a b = record { icmp = b.icmp ∙ a.icmp; tcp = b.tcp ∙ a.tcp; udp = b.udp ∙ a.udp }

-- more ports are owned, the same in each range
abbrev pub OwnsMore : (ℕ → Bool) → Range → Range → Type 0
OwnsMore more old new = (port : ℕ) → is_owned new port ≡ (is_owned old port || more port)

pub alike-more : (low high : ℕ) (old new : Ports) (more : ℕ → Bool) → AreAlike low high old → SameBounds old new → OwnsMore more old.icmp new.icmp → OwnsMore more old.tcp new.tcp → OwnsMore more old.udp new.udp → AreAlike low high new
alike-more low high old new more a b icmp tcp udp = record {
  icmp = like-more old.icmp new.icmp a.icmp b.icmp icmp;
  tcp = like-more old.tcp new.tcp a.tcp b.tcp tcp;
  udp = like-more old.udp new.udp a.udp b.udp udp;
}
  where
    like-more : (range range2 : Range) → IsLike old.tcp low high range → SameEnds range range2 → OwnsMore more range range2 → IsLike new.tcp low high range2
    like-more range range2 l e owns = record {
      low = e.low ∙ l.low;
      high = e.high ∙ l.high;
      owned = λ port. owns port ∙ ap (λ b. b || more port) (l.owned port) ∙ sym (tcp port);
    }

-- ---- spare ports

-- a bit of four words' conjunction is the conjunction of their bits
pub four-bits : (a b c d i : ℕ) (w x y z : Bool) → is_set a i ≡ w → is_set b i ≡ x → is_set c i ≡ y → is_set d i ≡ z → is_set (bit_and (bit_and (bit_and a b) c) d) i ≡ (((w && x) && y) && z)
four-bits a b c d i w x y z p q r s =
    is_set-and (bit_and (bit_and a b) c) d i
    ∙ ap (λ t. t && is_set d i) (is_set-and (bit_and a b) c i)
    ∙ ap (λ t. (t && is_set c i) && is_set d i) (is_set-and a b i)
    ∙ ap (λ t. ((t && is_set b i) && is_set c i) && is_set d i) p
    ∙ ap (λ t. ((w && t) && is_set c i) && is_set d i) q
    ∙ ap (λ t. ((w && x) && t) && is_set d i) r
    ∙ ap (λ t. ((w && x) && y) && t) s

spare-flip : (o w i t u : Bool) → (o ≡ true → w ≡ true) → (((o && (w && i)) && (w && t)) && (w && u)) ≡ (o && (i && (t && u)))
spare-flip false w i t u h = refl
spare-flip true true true true u h = refl
spare-flip true true true false u h = refl
spare-flip true true false t u h = refl
spare-flip true false i t u h = absurd (let e = h refl in both_ways false refl e)

-- a port that is owned and free for each protocol is one that no entry has
pub spare-is : (low high : ℕ) (es : List Entry) (ports : Ports) → AreFree low high es ports → ((port : ℕ) → is_listed port ports.tcp.owned ≡ true → is_within low high port ≡ true)
    → (port : ℕ) → is_spare es ports.tcp.owned port ≡ is_spare_in ports port
spare-is low high es ports free within port =
    let owned = is_owned ports.tcp port in
    let w = is_within low high port in
    let t = is_free_in es Tcp port in
    let u = is_free_in es Udp port in
    sym (spare-flip owned w (is_free_in es Icmp port) t u (within port))
    ∙ ap (λ b. ((owned && b) && (w && t)) && (w && u)) (sym (free (key_of Icmp port)))
    ∙ ap (λ b. ((owned && is_free ports.icmp port) && b) && (w && u)) (sym (free (key_of Tcp port)))
    ∙ ap (λ b. ((owned && is_free ports.icmp port) && is_free ports.tcp port) && b) (sym (free (key_of Udp port)))

-- the last port that passes a test is the last that passes another test that agrees
pub some-last : (answer : Option Port) (a b : ℕ → Bool) (end : ℕ) → ((q : ℕ) → b q ≡ a q) → IfSome answer (λ port. IsLastBelow a end port.0) → IfSome answer (λ port. IsLastBelow b end port.0)
some-last None a b end same h = tt
some-last (Some port) a b end same h = record {
  passes = same port.0 ∙ h.passes;
  below = h.below;
  last = λ q above below. same q ∙ h.last q above below;
}

pub none-last : (answer : Option Port) (a b : ℕ → Bool) (end : ℕ) → ((q : ℕ) → b q ≡ a q) → IfNone answer ((port : ℕ) → port < end → a port ≡ false) → IfNone answer ((port : ℕ) → port < end → b port ≡ false)
none-last None a b end same h = λ port below. same port ∙ h port below
none-last (Some port) a b end same h = tt

-- a word has the tests of 64 numbers
abbrev pub HasTests : (ℕ → Bool) → ℕ → ℕ → Type 0
HasTests test index word = (i : ℕ) → i < 64 → is_set word i ≡ test (index * 64 + i)

-- no number from one on, below an end, passes
abbrev pub NonePast : (ℕ → Bool) → ℕ → ℕ → Type 0
NonePast test rest end = (q : ℕ) → rest ≤ q → q < end → test q ≡ false

-- a word's last bit below the rest is the last number of all that passes
pub last-here : (test : ℕ → Bool) (end rest index word bit : ℕ) → index * 64 ≤ rest → rest ≤ index * 64 + 64 → rest ≤ end → HasTests test index word
    → IsLastBelow (is_set word) (rest - index * 64) bit → NonePast test rest end → IsLastBelow test end (index * 64 + bit)
last-here test end rest index word bit from to within is found past = record {
  passes = (let low = found.below in sym (is bit (omega (arith, low, to))) ∙ found.passes);
  below = (let low = found.below in omega (arith, low, from, within));
  last = λ q above below. elim (cases_lt q rest) [
    | inr behind ↦ past q behind below
    | inl here ↦
        (let place : index * 64 + (q - index * 64) ≡ q = omega (arith, above) in
        ap test (sym place) ∙ sym (is (q - index * 64) (omega (arith, here, to, above))) ∙ found.last (q - index * 64) (omega (arith, above)) (omega (arith, here, above)))
  ];
}

-- where a word has no bit, no port from the word's first one on passes
pub last-earlier : (test : ℕ → Bool) (end rest index word : ℕ) → index * 64 ≤ rest → rest ≤ index * 64 + 64 → HasTests test index word
    → ((i : ℕ) → i < rest - index * 64 → is_set word i ≡ false) → NonePast test rest end → NonePast test (index * 64) end
last-earlier test end rest index word from to is none past q above below =
    elim (cases_lt q rest) [
      | inr behind ↦ past q behind below
      | inl here ↦
          (let place : index * 64 + (q - index * 64) ≡ q = omega (arith, above) in
          ap test (sym place) ∙ sym (is (q - index * 64) (omega (arith, here, to, above))) ∙ none (q - index * 64) (omega (arith, here, above)))
    ]
