-- What a passive packet leaves as it was.
use Rattle.std.proofs.Common.{◌≡◌, ℕ, Bool, true, false, cond, not, ◌&&◌, ◌||◌, List, ◌∷◌, refl, ap, ◌∙◌}
use Rattle.std.specs.List.{list_all}
use Rattle.addresses.specs.declared.transport.Protocol.{Protocol}
use Rattle.addresses.specs.declared.transport.Protocol.TheVariants.{Icmp, Tcp, Udp}
use Rattle.activity.specs.declared.packets.Packet.{Packet}
use Rattle.activity.specs.declared.packets.Way.TheVariants.{Outward, Inward}
use Rattle.activity.specs.declared.TheConstants.{QUERY_REST, UDP_REST, ESTABLISHED_REST}
use Rattle.activity.specs.Packets.{same_way, is_passive}
use Rattle.activity.specs.Places.{is_nowhere, put_at}
use Rattle.activity.specs.Sessions.{has_rested}
use Rattle.activity.specs.Kept.{all_passed, session_place, with_session}
use Rattle.activity.specs.Lives.{History, Activity, with_packet, has_course, courses, course_place, first_course, longer, has_passed, is_crowded, is_empty, is_idle, is_loose, last_of, looks_idle, is_loose_at, last_after, life_carried}

-- a segment inward whose remote has no session is loose
pub stranger-loose : (older : List Packet) (p : Packet) → p.way ≡ Inward → has_course p.remote (courses older) ≡ false → is_loose older p ≡ true
stranger-loose older p inward none =
    ap (λ way. not (same_way way Outward && not (p.flags.rst && not (is_empty older))) && not (has_course p.remote (courses older))) inward
    ∙ ap not none

-- a loose segment changes no session, and doesn't make the pair crowded
pub loose-courses : (older : List Packet) (p : Packet) → is_loose older p ≡ true → courses (p ∷ older) ≡ courses older
loose-courses older p loose = ap (λ b. cond b (courses older) (put_at (course_place p (courses older)) (longer p) (first_course p) (courses older))) loose

or-none : (b : Bool) → (b || false) ≡ b
or-none true = refl
or-none false = refl

pub loose-crowded : (older : List Packet) (p : Packet) → is_loose older p ≡ true → is_crowded (p ∷ older) ≡ is_crowded older
loose-crowded older p loose = ap (λ b. is_crowded older || (not b && is_nowhere (course_place p (courses older)))) loose ∙ or-none (is_crowded older)

-- a passive packet doesn't set the last use, where what comes inward doesn't
passive-last : (protocol : Protocol) (past : History) (p : Packet) → p.inward_refresh ≡ false → is_passive protocol (is_loose past.packets p) p ≡ true → last_of protocol (with_packet p past) ≡ last_of protocol past
passive-last protocol past p off passive =
    ap (λ b. let n : ℕ = cond (b || not (is_passive protocol (is_loose past.packets p) p)) p.at (last_of protocol past) in n) off
    ∙ ap (λ b. let n : ℕ = cond (not b) p.at (last_of protocol past) in n) passive

pub passive-idle : (protocol : Protocol) (past : History) (p : Packet) (now : ℕ) → p.inward_refresh ≡ false → is_passive protocol (is_loose past.packets p) p ≡ true → is_idle protocol (with_packet p past) now ≡ is_idle protocol past now
passive-idle Icmp past p now off passive = ap (λ n. has_rested QUERY_REST n now) (passive-last Icmp past p off passive)
passive-idle Udp past p now off passive = ap (λ n. has_rested UDP_REST n now) (passive-last Udp past p off passive)
passive-idle Tcp past p now off loose =
    ap (λ b. cond (b || is_empty (courses (p ∷ past.packets))) (has_rested ESTABLISHED_REST (last_of Tcp (with_packet p past)) now) (list_all (has_passed now) (courses (p ∷ past.packets)))) (loose-crowded past.packets p loose)
    ∙ ap (λ cs. cond (is_crowded past.packets || is_empty cs) (has_rested ESTABLISHED_REST (last_of Tcp (with_packet p past)) now) (list_all (has_passed now) cs)) (loose-courses past.packets p loose)
    ∙ ap (λ n. cond (is_crowded past.packets || is_empty (courses past.packets)) (has_rested ESTABLISHED_REST n now) (list_all (has_passed now) (courses past.packets))) (passive-last Tcp past p off loose)

-- a packet inward of a pair without sessions is passive
pub inward-idle : (protocol : Protocol) (past : History) (p : Packet) (now : ℕ) → (protocol ≡ Tcp → ⊥) → p.way ≡ Inward → p.inward_refresh ≡ false → is_idle protocol (with_packet p past) now ≡ is_idle protocol past now
inward-idle Icmp past p now plain inward off = passive-idle Icmp past p now off (ap (λ way. same_way way Inward) inward)
inward-idle Tcp past p now plain inward off = absurd (plain refl)
inward-idle Udp past p now plain inward off = passive-idle Udp past p now off (ap (λ way. same_way way Inward) inward)

-- ---- the same by what is kept

pub kept-sessions : (life : Activity) (p : Packet) → is_loose_at life p ≡ true → (life_carried Tcp p life).sessions ≡ life.sessions
kept-sessions life p loose = ap (λ b. cond b life.sessions (with_session p life.sessions)) loose

kept-crowded : (life : Activity) (p : Packet) → is_loose_at life p ≡ true → (life_carried Tcp p life).is_crowded ≡ life.is_crowded
kept-crowded life p loose = ap (λ b. life.is_crowded || (not b && is_nowhere (session_place p life.sessions))) loose ∙ or-none life.is_crowded

kept-last : (protocol : Protocol) (life : Activity) (p : Packet) → p.inward_refresh ≡ false → is_passive protocol (is_loose_at life p) p ≡ true → last_after protocol p life ≡ life.last
kept-last protocol life p off passive =
    ap (λ b. let n : ℕ = cond (b || not (is_passive protocol (is_loose_at life p) p)) p.at life.last in n) off
    ∙ ap (λ b. let n : ℕ = cond (not b) p.at life.last in n) passive

pub kept-idle : (protocol : Protocol) (life : Activity) (p : Packet) (now : ℕ) → p.inward_refresh ≡ false → is_passive protocol (is_loose_at life p) p ≡ true → looks_idle protocol (life_carried protocol p life) now ≡ looks_idle protocol life now
kept-idle Icmp life p now off passive = ap (λ n. has_rested QUERY_REST n now) (kept-last Icmp life p off passive)
kept-idle Udp life p now off passive = ap (λ n. has_rested UDP_REST n now) (kept-last Udp life p off passive)
kept-idle Tcp life p now off loose =
    ap (λ b. cond (b || is_empty (life_carried Tcp p life).sessions) (has_rested ESTABLISHED_REST (last_after Tcp p life) now) (all_passed now (life_carried Tcp p life).sessions)) (kept-crowded life p loose)
    ∙ ap (λ xs. cond (life.is_crowded || is_empty xs) (has_rested ESTABLISHED_REST (last_after Tcp p life) now) (all_passed now xs)) (kept-sessions life p loose)
    ∙ ap (λ n. cond (life.is_crowded || is_empty life.sessions) (has_rested ESTABLISHED_REST n now) (all_passed now life.sessions)) (kept-last Tcp life p off loose)
