-- What is kept of a life agrees with its past.
use Rattle.std.proofs.Common.{◌≡◌, ℕ, Bool, true, false, cond, not, ◌&&◌, ◌||◌, List, [], ◌∷◌, map, refl, ap, ◌∙◌}
use Rattle.std.proofs.lemmas.List.Folds.{list_all-map}
use Rattle.addresses.specs.declared.transport.Protocol.{Protocol}
use Rattle.addresses.specs.declared.transport.Protocol.TheVariants.{Icmp, Tcp, Udp}
use Rattle.activity.specs.declared.packets.Packet.{Packet}
use Rattle.activity.specs.declared.sessions.Session.{Session}
use Rattle.activity.specs.declared.TheConstants.{ESTABLISHED_REST}
use Rattle.activity.specs.declared.packets.Remote.{Remote}
use Rattle.activity.specs.Packets.{same_remote, is_loose_by, sets_last, does_count}
use Rattle.activity.specs.Sessions.{stepped, begun_session, has_passed_by, has_rested}
use Rattle.activity.specs.Places.{put_at, is_nowhere}
use Rattle.activity.specs.Kept.{has_session, session_place, with_session, all_passed}
use Rattle.activity.specs.Lives.{Course, History, Activity, Agrees, came, with_packet, renewed, last_of, has_course, is_loose, counts, courses, course_place, is_crowded, is_empty, is_idle, is_unused, looks_idle, first_course, longer, session_of, least_rest, is_loose_at, counts_at, last_after, life_begun, life_carried, life_renewed}
use Rattle.activity.proofs.Items.{put-map, place-map}
use Rattle.activity.proofs.Segments.{stepped-is, begun-is}

-- a packet has the same place among the kept sessions as among those of the past
pub place-is : (p : Packet) (cs : List Course) → session_place p (map session_of cs) ≡ course_place p cs
place-is p cs = place-map session_of (λ x. same_remote x.remote p.remote) (has_passed_by p.at) cs

-- the kept sessions after a packet are those of the past after the packet
pub followed-is : (p : Packet) (cs : List Course) → with_session p (map session_of cs) ≡ map session_of (put_at (course_place p cs) (longer p) (first_course p) cs)
followed-is p cs =
    ap (λ place. put_at place (λ x. stepped x p) (begun_session p) (map session_of cs)) (place-is p cs)
    ∙ ap (λ (x : Session). put_at (course_place p cs) (λ y. stepped y p) x (map session_of cs)) (begun-is p)
    ∙ put-map session_of (course_place p cs) (longer p) (λ x. stepped x p) (first_course p) cs (λ c. stepped-is p c)

-- a remote has a session among the kept ones where it has one in the past
has-is : (remote : Remote) (cs : List Course) → has_session remote (map session_of cs) ≡ has_course remote cs
has-is remote [] = refl
has-is remote (c ∷ cs) = ap (λ b. same_remote c.remote remote || b) (has-is remote cs)

-- a segment is loose by what is kept where it is by the past
pub loose-is : (past : History) (life : Activity) (p : Packet) → Agrees Tcp past life → is_loose_at life p ≡ is_loose past.packets p
loose-is past life p a =
    ap (λ xs. is_loose_by (has_session p.remote xs) life.has_carried p) (a.sessions refl)
    ∙ ap (λ b. is_loose_by b life.has_carried p) (has-is p.remote (courses past.packets))
    ∙ ap (λ b. is_loose_by (has_course p.remote (courses past.packets)) b p) a.carried

-- a use counts by what is kept where it does by the past
pub counts-is : (protocol : Protocol) (past : History) (life : Activity) (p : Packet) → Agrees protocol past life → counts_at protocol life p ≡ counts protocol past.packets p
counts-is Icmp past life p a = refl
counts-is Tcp past life p a = ap (λ b. does_count Tcp b p) (loose-is past life p a)
counts-is Udp past life p a = refl

-- the last use after a packet is that of the past with the packet
last-is : (protocol : Protocol) (past : History) (life : Activity) (p : Packet) → Agrees protocol past life → last_after protocol p life ≡ last_of protocol (with_packet p past)
last-is Icmp past life p a = ap (λ (n : ℕ). cond (sets_last Icmp false p) p.at n) a.last
last-is Tcp past life p a =
    ap (λ b. cond (sets_last Tcp b p) p.at life.last) (loose-is past life p a)
    ∙ ap (λ (n : ℕ). cond (sets_last Tcp (is_loose past.packets p) p) p.at n) a.last
last-is Udp past life p a = ap (λ (n : ℕ). cond (sets_last Udp false p) p.at n) a.last

both-true : (b : Bool) → b ≡ (b && true)
both-true true = refl
both-true false = refl

no_use : (b : Bool) → false ≡ (b && false)
no_use true = refl
no_use false = refl

-- what is kept as a pair comes into a table agrees with the past that begins
pub agrees-came : (protocol : Protocol) (by_install : Bool) (now : ℕ) → Agrees protocol (came by_install now) (life_begun by_install now)
agrees-came protocol by_install now = record {
  last = refl;
  unused = both-true by_install;
  carried = refl;
  sessions = λ tcp. refl;
  crowded = λ tcp. refl;
}

-- what is kept as a life begins anew agrees with the past that begins anew
pub agrees-renewed : (protocol : Protocol) (past : History) (life : Activity) (now : ℕ) → Agrees protocol past life → Agrees protocol (renewed now past) (life_renewed now life)
agrees-renewed protocol past life now a = record {
  last = refl;
  unused = a.unused ∙ both-true (is_unused past);
  carried = refl;
  sessions = λ tcp. refl;
  crowded = λ tcp. refl;
}

-- a life of a pair without sessions agrees with its past after a packet
agrees-plain : (protocol : Protocol) (past : History) (life life2 : Activity) (p : Packet) → (protocol ≡ Tcp → ⊥) → Agrees protocol past life → life2.last ≡ last_after protocol p life → life2.is_unused ≡ false → life2.has_carried ≡ true → Agrees protocol (with_packet p past) life2
agrees-plain protocol past life life2 p plain a last unused carried = record {
  last = last ∙ last-is protocol past life p a;
  unused = unused ∙ no_use past.by_install;
  carried = carried;
  sessions = λ tcp. absurd (plain tcp);
  crowded = λ tcp. absurd (plain tcp);
}

-- the kept sessions after a segment, which may be loose, are those of the past after the segment
sessions-is : (past : History) (life : Activity) (p : Packet) → Agrees Tcp past life → cond (is_loose_at life p) life.sessions (with_session p life.sessions) ≡ map session_of (courses (p ∷ past.packets))
sessions-is past life p a =
    ap (λ b. cond b life.sessions (with_session p life.sessions)) (loose-is past life p a)
    ∙ ap (λ xs. cond (is_loose past.packets p) xs (with_session p xs)) (a.sessions refl)
    ∙ at (is_loose past.packets p)
  where
    cs : List Course
    cs = courses past.packets

    at : (b : Bool) → cond b (map session_of cs) (with_session p (map session_of cs)) ≡ map session_of (cond b cs (put_at (course_place p cs) (longer p) (first_course p) cs))
    at true = refl
    at false = followed-is p cs

-- a segment, which may be loose, finds no place among the kept sessions where it finds none in the past
crowded-is : (past : History) (life : Activity) (p : Packet) → Agrees Tcp past life → (life.is_crowded || (not (is_loose_at life p) && is_nowhere (session_place p life.sessions))) ≡ is_crowded (p ∷ past.packets)
crowded-is past life p a =
    ap (λ b. b || (not (is_loose_at life p) && is_nowhere (session_place p life.sessions))) (a.crowded refl)
    ∙ ap (λ b. is_crowded past.packets || (not b && is_nowhere (session_place p life.sessions))) (loose-is past life p a)
    ∙ ap (λ xs. is_crowded past.packets || (not (is_loose past.packets p) && is_nowhere (session_place p xs))) (a.sessions refl)
    ∙ ap (λ place. is_crowded past.packets || (not (is_loose past.packets p) && is_nowhere place)) (place-is p (courses past.packets))

-- what is kept of a TCP pair after a segment, part by part
pub kept-tcp : (life : Activity) (p : Packet) (loose sets nowhere : Bool) (last : ℕ) (sessions : List Session) → loose ≡ is_loose_at life p → sets ≡ sets_last Tcp loose p → last ≡ cond sets p.at life.last
    → sessions ≡ cond loose life.sessions (with_session p life.sessions) → nowhere ≡ (not loose && is_nowhere (session_place p life.sessions))
    → (let x : Activity = record { last = last; is_unused = false; has_carried = true; is_crowded = life.is_crowded || nowhere; sessions = sessions } in x) ≡ life_carried Tcp p life
kept-tcp life p loose sets nowhere last sessions is set at kept place =
    ap (λ (n : ℕ). let x : Activity = record { last = n; is_unused = false; has_carried = true; is_crowded = life.is_crowded || nowhere; sessions = sessions } in x)
    (at ∙ ap (λ b. cond b p.at life.last) (set ∙ ap (λ b. sets_last Tcp b p) is))
    ∙ ap (λ b. let x : Activity = record { last = last_after Tcp p life; is_unused = false; has_carried = true; is_crowded = life.is_crowded || b; sessions = sessions } in x)
    (place ∙ ap (λ b. not b && is_nowhere (session_place p life.sessions)) is)
    ∙ ap (λ (xs : List Session). let x : Activity = record { last = last_after Tcp p life; is_unused = false; has_carried = true; is_crowded = life.is_crowded || (not (is_loose_at life p) && is_nowhere (session_place p life.sessions)); sessions = xs } in x)
    (kept ∙ ap (λ b. cond b life.sessions (with_session p life.sessions)) is)

-- what is kept after a packet agrees with the past with the packet
pub agrees-carried : (protocol : Protocol) (past : History) (life : Activity) (p : Packet) → Agrees protocol past life → Agrees protocol (with_packet p past) (life_carried protocol p life)
agrees-carried Icmp past life p a = agrees-plain Icmp past life (life_carried Icmp p life) p (λ same. cc) a refl refl refl
agrees-carried Tcp past life p a = record {
  last = last-is Tcp past life p a;
  unused = no_use past.by_install;
  carried = refl;
  sessions = λ tcp. sessions-is past life p a;
  crowded = λ tcp. crowded-is past life p a;
}
agrees-carried Udp past life p a = agrees-plain Udp past life (life_carried Udp p life) p (λ same. cc) a refl refl refl

none-kept : (cs : List Course) → is_empty (map session_of cs) ≡ is_empty cs
none-kept [] = refl
none-kept (c ∷ cs) = refl

-- a TCP life that agrees with a past is idle where the past is
pub idle-tcp : (past : History) (life : Activity) (now : ℕ) → Agrees Tcp past life → cond (life.is_crowded || is_empty life.sessions) (has_rested ESTABLISHED_REST life.last now) (all_passed now life.sessions) ≡ is_idle Tcp past now
idle-tcp past life now a =
    ap (λ b. cond (b || is_empty life.sessions) (has_rested ESTABLISHED_REST life.last now) (all_passed now life.sessions)) (a.crowded refl)
    ∙ ap (λ xs. cond (is_crowded past.packets || is_empty xs) (has_rested ESTABLISHED_REST life.last now) (all_passed now xs)) (a.sessions refl)
    ∙ ap (λ b. cond (is_crowded past.packets || b) (has_rested ESTABLISHED_REST life.last now) (all_passed now (map session_of (courses past.packets)))) (none-kept (courses past.packets))
    ∙ ap (λ n. cond (is_crowded past.packets || is_empty (courses past.packets)) (has_rested ESTABLISHED_REST n now) (all_passed now (map session_of (courses past.packets)))) a.last
    ∙ ap (cond (is_crowded past.packets || is_empty (courses past.packets)) (has_rested ESTABLISHED_REST (last_of Tcp past) now)) (list_all-map (has_passed_by now) session_of (courses past.packets))

-- a life that agrees with a past is idle where the past is
pub looks-is : (protocol : Protocol) (past : History) (life : Activity) (now : ℕ) → Agrees protocol past life → looks_idle protocol life now ≡ is_idle protocol past now
looks-is Tcp past life now a = idle-tcp past life now a
looks-is protocol past life now a = ap (λ n. has_rested (least_rest protocol) n now) a.last
