-- An idle pair has rested since each use.
use Rattle.std.proofs.Common.{◌≡◌, ℕ, zero, suc, ◌+◌, ◌-◌, ◌<◌, ◌≤◌, Bool, true, false, cond, not, ◌&&◌, ◌||◌, ◌⊎◌, inl, inr, List, [], ◌∷◌, ◌++◌, length, map, get_or, refl, arith, sym, subst}
use Rattle.std.specs.List.{list_all}
use Rattle.std.proofs.lemmas.Bool.{leb-true, and_parts}
use Rattle.addresses.specs.declared.transport.Protocol.{Protocol}
use Rattle.addresses.specs.declared.transport.Protocol.TheVariants.{Icmp, Tcp, Udp}
use Rattle.activity.specs.declared.packets.Packet.{Packet}
use Rattle.activity.specs.declared.places.Place.{Place}
use Rattle.activity.specs.declared.places.Place.TheVariants.{Known, Free, Passed, Nowhere}
use Rattle.activity.specs.declared.sessions.Class.{Class}
use Rattle.activity.specs.declared.sessions.Class.TheVariants.{Opening, Established, Closed}
use Rattle.activity.specs.declared.TheConstants.{QUERY_REST, UDP_REST, TRANSITORY_REST, ESTABLISHED_REST}
use Rattle.activity.specs.Packets.{same_remote, sets_last, does_count}
use Rattle.activity.specs.Places.{changed_at, put_at, is_nowhere}
use Rattle.activity.specs.Sessions.{has_rested, rest_of}
use Rattle.activity.specs.Lives.{Course, History, Activity, Agrees, came, with_packet, renewed, courses, course_place, is_crowded, is_empty, is_idle, is_unused, is_loose, counts, counts_at, has_passed, first_course, longer, class_of, last_of, last_set}
use Rattle.activity.specs.Rests.{CameBy, CameBetween, AllRested, AllBefore, IsAmong, WasCarried, HaveRested, LiesBehind, AccountsFor, counted, with_use}
use Rattle.activity.specs.Lives.{least_rest}
use Rattle.activity.proofs.Items.{known-within, passed-within}
use Rattle.activity.proofs.Pasts.{counts-is}

-- where the newest of the packets has rested, all have
all-since : (rest now last : ℕ) (packets : List Packet) → CameBy last packets → last + rest ≤ now → AllRested rest now packets
all-since rest now last [] by h = tt
all-since rest now last (p ∷ older) by h = (let low = by.0 in omega arith, all-since rest now p.at older by.1 (let low = by.0 in omega arith))

rested-by : (rest least since now : ℕ) → 0 < least → least ≤ rest → has_rested rest since now ≡ true → since + least ≤ now
rested-by rest least since now some fits h = let low : rest ≤ now - since = leb-true rest (now - since) h in omega arith

-- what came by a moment came by a later one
came-later : (since now : ℕ) (packets : List Packet) → since ≤ now → CameBy since packets → CameBy now packets
came-later since now [] h by = tt
came-later since now (p ∷ older) h by = (let low = by.0 in omega (arith, low, h), by.1)

-- ---- the uses that count

-- where all packets have rested, those that count have
fewer-rested : (protocol : Protocol) (rest now : ℕ) (packets : List Packet) → AllRested rest now packets → AllRested rest now (counted protocol packets)
fewer-rested protocol rest now [] all = tt
fewer-rested protocol rest now (p ∷ older) all = at (counts protocol older p) (fewer-rested protocol rest now older all.1)
  where
    at : (b : Bool) → AllRested rest now (counted protocol older) → AllRested rest now (cond b (p ∷ counted protocol older) (counted protocol older))
    at true rested = (all.0, rested)
    at false rested = rested

-- a use that counts sets the last use
counts-sets : (protocol : Protocol) (loose : Bool) (p : Packet) → sets_last protocol loose p ≡ false → does_count protocol loose p ≡ false
counts-sets Icmp loose p h = h
counts-sets Tcp true p h = refl
counts-sets Tcp false p h = at p.inward_refresh h
  where
    at : (b : Bool) → (b || true) ≡ false → true ≡ false
    at true bad = bad
    at false bad = bad
counts-sets Udp loose p h = h

-- where the last use has rested, those that count have
set-rested : (protocol : Protocol) (since rest now : ℕ) (packets : List Packet) → CameBy now packets → last_set protocol since packets + rest ≤ now → AllRested rest now (counted protocol packets)
set-rested protocol since rest now [] by h = tt
set-rested protocol since rest now (p ∷ older) by h = at (sets_last protocol (is_loose older p) p) refl h (λ low. set-rested protocol since rest now older (came-later p.at now older by.0 by.1) low)
  where
    at : (b : Bool) → sets_last protocol (is_loose older p) p ≡ b → (let n : ℕ = cond b p.at (last_set protocol since older) in n) + rest ≤ now → (last_set protocol since older + rest ≤ now → AllRested rest now (counted protocol older)) → AllRested rest now (counted protocol (p ∷ older))
    at true is low before = fewer-rested protocol rest now (p ∷ older) (low, all-since rest now p.at older by.1 low)
    at false is low before =
        subst (λ b. AllRested rest now (cond b (p ∷ counted protocol older) (counted protocol older))) (sym (counts-sets protocol (is_loose older p) p is))
        (before low)

-- a pair has rested since each use that counts, where it has since its last use
newest : (protocol : Protocol) (since rest least now : ℕ) (packets : List Packet) → 0 < least → least ≤ rest → CameBy now packets → has_rested rest (last_set protocol since packets) now ≡ true → AllRested least now (counted protocol packets)
newest protocol since rest least now packets some fits by h =
    set-rested protocol since least now packets by (rested-by rest least (last_set protocol since packets) now some fits h)

-- ---- TCP

class-rest : (class : Class) → TRANSITORY_REST ≤ rest_of class
class-rest Opening = omega arith
class-rest Established = omega arith
class-rest Closed = omega arith

course-rested : (now : ℕ) (c : Course) → has_passed now c ≡ true → c.latest.at + TRANSITORY_REST ≤ now
course-rested now c h = rested-by (rest_of (class_of c)) TRANSITORY_REST c.latest.at now (omega arith) (class-rest (class_of c)) h

all-changed : {A : Type 0} (q : A → Bool) (f : A → A) (xs : List A) (i : ℕ) (d : A) → i < length xs → list_all q (changed_at i f xs) ≡ true → q (f (get_or xs i d)) ≡ true
all-changed q f [] i d low h = absurd (omega (arith, low))
all-changed q f (x ∷ xs) zero d low h = (and_parts (q (f x)) (list_all q xs) h).0
all-changed q f (x ∷ xs) (suc i) d low h = all-changed q f xs i d (omega arith) (and_parts (q x) (list_all q (changed_at i f xs)) h).1

all-last : {A : Type 0} (q : A → Bool) (xs : List A) (y : A) → list_all q (xs ++ y ∷ []) ≡ true → q y ≡ true
all-last q [] y h = (and_parts (q y) true h).0
all-last q (x ∷ xs) y h = all-last q xs y (and_parts (q x) (list_all q (xs ++ y ∷ [])) h).1

-- the session of the newest packet has rested, where it has a place
place-rested : (now : ℕ) (p : Packet) (cs : List Course) (place : Place) → place ≡ course_place p cs → is_nowhere place ≡ false → list_all (has_passed now) (put_at place (longer p) (first_course p) cs) ≡ true → p.at + TRANSITORY_REST ≤ now
place-rested now p cs (Known i) is some h =
    course-rested now (longer p (get_or cs i (first_course p))) (all-changed (has_passed now) (longer p) cs i (first_course p) (known-within (λ (c : Course). same_remote c.remote p.remote) (has_passed p.at) cs i (first_course p) is) h)
place-rested now p cs Free is some h = course-rested now (first_course p) (all-last (has_passed now) cs (first_course p) h)
place-rested now p cs (Passed i) is some h =
    course-rested now (first_course p) (all-changed (has_passed now) (λ c. first_course p) cs i (first_course p) (passed-within (λ (c : Course). same_remote c.remote p.remote) (has_passed p.at) cs i (first_course p) is) h)
place-rested now p cs Nowhere is some h = cc

or-parts : (a b : Bool) → (a || b) ≡ false → (a ≡ false) × (b ≡ false)
or-parts true b h = cc
or-parts false b h = (refl, h)

-- where a segment is loose nothing changes; else its session has a place
not-crowded : (now : ℕ) (packets : List Packet) → CameBy now packets → is_crowded packets ≡ false → list_all (has_passed now) (courses packets) ≡ true → AllRested TRANSITORY_REST now (counted Tcp packets)
not-crowded now [] by calm h = tt
not-crowded now (p ∷ older) by calm h = at (is_loose older p) calm h (not-crowded now older (came-later p.at now older by.0 by.1))
  where
    at : (b : Bool) → (is_crowded older || (not b && is_nowhere (course_place p (courses older)))) ≡ false → list_all (has_passed now) (cond b (courses older) (put_at (course_place p (courses older)) (longer p) (first_course p) (courses older))) ≡ true
        → (is_crowded older ≡ false → list_all (has_passed now) (courses older) ≡ true → AllRested TRANSITORY_REST now (counted Tcp older)) → AllRested TRANSITORY_REST now (cond (not b) (p ∷ counted Tcp older) (counted Tcp older))
    at true calm all before = before (or-parts (is_crowded older) false calm).0 all
    at false calm all before =
        let parts = or-parts (is_crowded older) (is_nowhere (course_place p (courses older))) calm in
        let rested = place-rested now p (courses older) (course_place p (courses older)) refl parts.1 all in
        (rested, fewer-rested Tcp TRANSITORY_REST now older (all-since TRANSITORY_REST now p.at older by.1 rested))

tcp-idle : (past : History) (now : ℕ) (b : Bool) → CameBy now past.packets → (is_crowded past.packets || is_empty (courses past.packets)) ≡ b → cond b (has_rested ESTABLISHED_REST (last_of Tcp past) now) (list_all (has_passed now) (courses past.packets)) ≡ true → AllRested TRANSITORY_REST now (counted Tcp past.packets)
tcp-idle past now true by is h = newest Tcp past.since ESTABLISHED_REST TRANSITORY_REST now past.packets (omega arith) (omega arith) by h
tcp-idle past now false by is h = not-crowded now past.packets by (or-parts (is_crowded past.packets) (is_empty (courses past.packets)) is).0 h

pub idle-rests : (protocol : Protocol) (past : History) (now : ℕ) → CameBy now past.packets → is_idle protocol past now ≡ true → AllRested (least_rest protocol) now (counted protocol past.packets)
idle-rests Icmp past now by h = newest Icmp past.since QUERY_REST QUERY_REST now past.packets (omega arith) (omega arith) by h
idle-rests Udp past now by h = newest Udp past.since UDP_REST UDP_REST now past.packets (omega arith) (omega arith) by h
idle-rests Tcp past now by h = tcp-idle past now (is_crowded past.packets || is_empty (courses past.packets)) by refl h

no-packets : (rest now : ℕ) (packets : List Packet) → is_empty packets ≡ true → AllRested rest now packets
no-packets rest now [] h = tt
no-packets rest now (p ∷ older) h = cc

pub unused-rests : (past : History) (rest now : ℕ) → is_unused past ≡ true → AllRested rest now past.packets
unused-rests past rest now h = no-packets rest now past.packets (and_parts past.by_install (is_empty past.packets) h).1

pub later-rests : (rest since now : ℕ) (moments : List ℕ) → since ≤ now → AllBefore rest since moments → AllBefore rest now moments
later-rests rest since now [] h all = tt
later-rests rest since now (m ∷ ms) h all = (let low = all.0 in omega arith, later-rests rest since now ms h all.1)

pub both-rest : (rest now : ℕ) (packets : List Packet) (moments : List ℕ) → AllRested rest now packets → AllBefore rest now moments → AllBefore rest now (map (λ (p : Packet). p.at) packets ++ moments)
both-rest rest now [] moments rested all = all
both-rest rest now (p ∷ older) moments rested all = (rested.0, both-rest rest now older moments rested.1 all)

-- ---- a list of uses

pub accounts-came : (protocol : Protocol) (by_install : Bool) (now : ℕ) (uses : List ℕ) → HaveRested (least_rest protocol) now uses → AccountsFor protocol now (came by_install now) uses
accounts-came protocol by_install now uses rested = record {
  packets = omega arith;
  accounted = λ at is. inr (record { behind = (let low = rested at is in omega (arith, low)); rested = λ _. rested at is });
}

pub accounts-renewed : (protocol : Protocol) (past : History) (now : ℕ) (uses : List ℕ) → HaveRested (least_rest protocol) now uses → AccountsFor protocol now (renewed now past) uses
accounts-renewed protocol past now uses rested = record {
  packets = omega arith;
  accounted = λ at is. inr (record { behind = (let low = rested at is in omega (arith, low)); rested = λ _. rested at is });
}

-- ---- the moments of a past, in order

between-later : (begun since now : ℕ) (packets : List Packet) → since ≤ now → CameBetween begun since packets → CameBetween begun now packets
between-later begun since now [] h by = omega (arith, by, h)
between-later begun since now (p ∷ older) h by = (let low = by.0 in omega (arith, low, h), by.1)

between-by : (begun now : ℕ) (packets : List Packet) → CameBetween begun now packets → CameBy now packets
between-by begun now [] by = tt
between-by begun now (p ∷ older) by = (by.0, between-by begun p.at older by.1)

-- a past began by now
begun-by : (begun now : ℕ) (packets : List Packet) → CameBetween begun now packets → begun ≤ now
begun-by begun now [] by = by
begun-by begun now (p ∷ older) by = let low = by.0 in let lower = begun-by begun p.at older by.1 in omega (arith, low, lower)

-- the last use is not before the past began
begun-last : (protocol : Protocol) (begun now : ℕ) (packets : List Packet) → CameBetween begun now packets → begun ≤ last_set protocol begun packets
begun-last protocol begun now [] by = omega arith
begun-last protocol begun now (p ∷ older) by = at (sets_last protocol (is_loose older p) p) (begun-last protocol begun p.at older by.1)
  where
    at : (b : Bool) → begun ≤ last_set protocol begun older → begun ≤ (let n : ℕ = cond b p.at (last_set protocol begun older) in n)
    at true before = begun-by begun p.at older by.1
    at false before = before

pub accounts-later : (protocol : Protocol) (past : History) (since now : ℕ) (uses : List ℕ) → since ≤ now → AccountsFor protocol since past uses → AccountsFor protocol now past uses
accounts-later protocol past since now uses h a = record {
  packets = between-later past.since since now past.packets h a.packets;
  accounted = a.accounted;
}

pub accounts-more : (protocol : Protocol) (since : ℕ) (past : History) (uses : List ℕ) (p : Packet) → since ≤ p.at → AccountsFor protocol since past uses → AccountsFor protocol p.at (with_packet p past) (with_use protocol p past uses)
accounts-more protocol since past uses p h a = record {
  packets = (omega arith, between-later past.since since p.at past.packets h a.packets);
  accounted = λ at is. by at (counts protocol past.packets p) is;
}
  where
    behind : (at : ℕ) → LiesBehind protocol past at → LiesBehind protocol (with_packet p past) at
    behind at lies = record { behind = lies.behind; rested = lies.rested }

    old : (at : ℕ) (b : Bool) → WasCarried at (counted protocol past.packets) ⊎ LiesBehind protocol past at → WasCarried at (cond b (p ∷ counted protocol past.packets) (counted protocol past.packets)) ⊎ LiesBehind protocol (with_packet p past) at
    old at true (inl carried) = inl (inr carried)
    old at false (inl carried) = inl carried
    old at b (inr lies) = inr (behind at lies)

    by : (at : ℕ) (b : Bool) → IsAmong at (cond b (p.at ∷ uses) uses) → WasCarried at (cond b (p ∷ counted protocol past.packets) (counted protocol past.packets)) ⊎ LiesBehind protocol (with_packet p past) at
    by at true (inl here) = inl (inl here)
    by at true (inr is) = old at true (a.accounted at is)
    by at false is = old at false (a.accounted at is)

-- the same by what is kept
pub accounts-kept : (protocol : Protocol) (since : ℕ) (past : History) (life : Activity) (uses : List ℕ) (p : Packet) → since ≤ p.at → Agrees protocol past life → AccountsFor protocol since past uses
    → AccountsFor protocol p.at (with_packet p past) (cond (counts_at protocol life p) (p.at ∷ uses) uses)
accounts-kept protocol since past life uses p h agrees a =
    subst (λ b. AccountsFor protocol p.at (with_packet p past) (cond b (p.at ∷ uses) uses)) (sym (counts-is protocol past life p agrees)) (accounts-more protocol since past uses p h a)

-- what was carried and counts was carried by now
carried-by : (protocol : Protocol) (begun now at : ℕ) (packets : List Packet) → CameBetween begun now packets → WasCarried at (counted protocol packets) → at ≤ now
carried-by protocol begun now at [] by was = absurd was
carried-by protocol begun now at (p ∷ older) by was = here (counts protocol older p) (carried-by protocol begun p.at at older by.1) was
  where
    here : (b : Bool) → (WasCarried at (counted protocol older) → at ≤ p.at) → WasCarried at (cond b (p ∷ counted protocol older) (counted protocol older)) → at ≤ now
    here true before (inl is) = let low = by.0 in omega (arith, low, is)
    here true before (inr was) = let low = by.0 in let more = before was in omega (arith, low, more)
    here false before was = let low = by.0 in let more = before was in omega (arith, low, more)

-- a pair that carried a packet isn't unused
used-by : (protocol : Protocol) (at : ℕ) (packets : List Packet) → WasCarried at (counted protocol packets) → is_empty packets ≡ true → ⊥
used-by protocol at [] was none = absurd was
used-by protocol at (p ∷ older) was none = cc

-- a past still accounts for the uses where the list of packets begins anew while the pair is in use
pub accounts-anew : (protocol : Protocol) (past : History) (now : ℕ) (uses : List ℕ) → AccountsFor protocol now past uses → AccountsFor protocol now (renewed now past) uses
accounts-anew protocol past now uses a = record {
  packets = omega arith;
  accounted = λ at is. inr (old at (a.accounted at is));
}
  where
    high : past.since ≤ now
    high = begun-by past.since now past.packets a.packets

    old : (at : ℕ) → WasCarried at (counted protocol past.packets) ⊎ LiesBehind protocol past at → LiesBehind protocol (renewed now past) at
    old at (inl carried) = record {
      behind = carried-by protocol past.since now at past.packets a.packets carried;
      rested = λ unused. absurd (used-by protocol at past.packets carried (and_parts past.by_install (is_empty past.packets) unused).1);
    }
    old at (inr lies) = record {
      behind = (let low = lies.behind in omega (arith, low, high));
      rested = λ unused. (let low = lies.rested (and_parts past.by_install (is_empty past.packets) unused).0 in omega (arith, low, high));
    }

carried-rested : (rest now at : ℕ) (packets : List Packet) → AllRested rest now packets → WasCarried at packets → at + rest ≤ now
carried-rested rest now at [] rested was = absurd was
carried-rested rest now at (p ∷ older) rested (inl here) = let low = rested.0 in omega (arith, low, here)
carried-rested rest now at (p ∷ older) rested (inr was) = carried-rested rest now at older rested.1 was

-- where the limits of some sessions have passed, a pair has rested since its life began
courses-rested : (begun since now : ℕ) (packets : List Packet) → CameBetween begun since packets → is_crowded packets ≡ false → is_empty (courses packets) ≡ false → list_all (has_passed now) (courses packets) ≡ true → begun + TRANSITORY_REST ≤ now
courses-rested begun since now [] by calm some h = cc
courses-rested begun since now (p ∷ older) by calm some h = at (is_loose older p) calm some h (courses-rested begun p.at now older by.1)
  where
    at : (b : Bool) → (is_crowded older || (not b && is_nowhere (course_place p (courses older)))) ≡ false → is_empty (cond b (courses older) (put_at (course_place p (courses older)) (longer p) (first_course p) (courses older))) ≡ false
        → list_all (has_passed now) (cond b (courses older) (put_at (course_place p (courses older)) (longer p) (first_course p) (courses older))) ≡ true
        → (is_crowded older ≡ false → is_empty (courses older) ≡ false → list_all (has_passed now) (courses older) ≡ true → begun + TRANSITORY_REST ≤ now) → begun + TRANSITORY_REST ≤ now
    at true calm some all before = before (or-parts (is_crowded older) false calm).0 some all
    at false calm some all before =
        let parts = or-parts (is_crowded older) (is_nowhere (course_place p (courses older))) calm in
        let rested = place-rested now p (courses older) (course_place p (courses older)) refl parts.1 all in
        let low = begun-by begun p.at older by.1 in
        omega (arith, low, rested)

-- an idle pair has rested since its life began
begin-rested : (protocol : Protocol) (past : History) (since now : ℕ) → CameBetween past.since since past.packets → is_idle protocol past now ≡ true → past.since + least_rest protocol ≤ now
begin-rested Icmp past since now by h =
    let low = begun-last Icmp past.since since past.packets by in
    let rested = rested-by QUERY_REST QUERY_REST (last_of Icmp past) now (omega arith) (omega arith) h in
    omega (arith, low, rested)
begin-rested Udp past since now by h =
    let low = begun-last Udp past.since since past.packets by in
    let rested = rested-by UDP_REST UDP_REST (last_of Udp past) now (omega arith) (omega arith) h in
    omega (arith, low, rested)
begin-rested Tcp past since now by h = at (is_crowded past.packets || is_empty (courses past.packets)) refl h
  where
    at : (b : Bool) → (is_crowded past.packets || is_empty (courses past.packets)) ≡ b → cond b (has_rested ESTABLISHED_REST (last_of Tcp past) now) (list_all (has_passed now) (courses past.packets)) ≡ true → past.since + TRANSITORY_REST ≤ now
    at true is idle =
        let low = begun-last Tcp past.since since past.packets by in
        let rested = rested-by ESTABLISHED_REST TRANSITORY_REST (last_of Tcp past) now (omega arith) (omega arith) idle in
        omega (arith, low, rested)
    at false is idle = let parts = or-parts (is_crowded past.packets) (is_empty (courses past.packets)) is in courses-rested past.since since now past.packets by parts.0 parts.1 idle

pub accounts-idle : (protocol : Protocol) (past : History) (now : ℕ) (uses : List ℕ) → AccountsFor protocol now past uses → is_idle protocol past now ≡ true → HaveRested (least_rest protocol) now uses
accounts-idle protocol past now uses a h at is = each (a.accounted at is)
  where
    each : WasCarried at (counted protocol past.packets) ⊎ LiesBehind protocol past at → at + least_rest protocol ≤ now
    each (inl was) = carried-rested (least_rest protocol) now at (counted protocol past.packets) (idle-rests protocol past now (between-by past.since now past.packets a.packets) h) was
    each (inr lies) =
        let low = lies.behind in
        let rested = begin-rested protocol past now now a.packets h in
        omega (arith, low, rested)

pub accounts-unused : (protocol : Protocol) (past : History) (now : ℕ) (uses : List ℕ) → AccountsFor protocol now past uses → is_unused past ≡ true → HaveRested (least_rest protocol) now uses
accounts-unused protocol past now uses a h at is = each (a.accounted at is)
  where
    parts : (past.by_install ≡ true) × (is_empty past.packets ≡ true)
    parts = and_parts past.by_install (is_empty past.packets) h

    each : WasCarried at (counted protocol past.packets) ⊎ LiesBehind protocol past at → at + least_rest protocol ≤ now
    each (inl was) = absurd (used-by protocol at past.packets was parts.1)
    each (inr lies) = let low = lies.rested parts.0 in let high = begun-by past.since now past.packets a.packets in omega (arith, low, high)

pub rested-later : (rest since now : ℕ) (uses : List ℕ) → since ≤ now → HaveRested rest since uses → HaveRested rest now uses
rested-later rest since now uses h rested at is = let low = rested at is in omega (arith, low, h)
