-- Packed sessions, as the sessions that they stand for.
use Rattle.std.proofs.Common.{◌≡◌, ℕ, zero, suc, ◌+◌, ◌<◌, Bool, false, cond, ◌||◌, List, [], ◌∷◌, ◌++◌, length, max, take, get_or, set, refl, ap, ◌∙◌, sym, arith}
use Rattle.std.proofs.lemmas.List.{map-set, map_push, take_more_set}
use Rattle.std.proofs.lemmas.List.Folds.{list_all-map}
use Rattle.std.proofs.Math.Seq.{take-set-lt}
use Rattle.activity.specs.declared.TheConstants.{ESTABLISHED_REST}
use Rattle.activity.specs.declared.packed.PackedSession.{PackedSession}
use Rattle.activity.specs.declared.packets.Packet.{Packet}
use Rattle.activity.specs.declared.packets.Remote.{Remote}
use Rattle.activity.specs.declared.places.Place.{Place}
use Rattle.activity.specs.declared.places.Place.TheVariants.{Known, Free, Passed, Nowhere}
use Rattle.activity.specs.declared.sessions.Session.{Session}
use Rattle.activity.specs.Packets.{same_remote}
use Rattle.activity.specs.Sessions.{begun_session, stepped, rest_of, has_passed_by, has_rested}
use Rattle.activity.specs.Places.{put_at, is_nowhere}
use Rattle.activity.specs.Kept.{has_session, session_place, with_session, all_passed}
use Rattle.activity.specs.Lives.{is_empty}
use Rattle.activity.specs.Dues.{last_end}
use Rattle.activity.specs.Packed.{session_in, moment_in, all_sessions, sessions_in, is_known_among, place_among, have_passed, end_of}
use Rattle.activity.proofs.Items.{place-map, known-within, passed-within, set-changed, set-new}

-- ---- a session is kept in a place

pub kept_there : (count place : ℕ) (places : List PackedSession) (x : PackedSession) (session : Session) → session_in x ≡ session → place < count → sessions_in count (set places place x) ≡ set (sessions_in count places) place session
kept_there count place places x session is low =
    ap all_sessions (take-set-lt count places place x low)
    ∙ map-set session_in (take count places) place x
    ∙ ap (set (sessions_in count places) place) is

pub kept_more : (place : ℕ) (places : List PackedSession) (x : PackedSession) (session : Session) → session_in x ≡ session → place < length places → sessions_in (place + 1) (set places place x) ≡ sessions_in place places ++ session ∷ []
kept_more place places x session is low =
    ap all_sessions (take_more_set places place x low)
    ∙ map_push session_in (take place places) x
    ∙ ap (λ s. sessions_in place places ++ s ∷ []) is

-- ---- what is seen of them

seen_there : (count i : ℕ) (places : List PackedSession) (d : PackedSession) → i < count → get_or (sessions_in count places) i (session_in d) ≡ session_in (get_or places i d)
seen_there zero i places d low = absurd (omega (arith, low))
seen_there (suc n) i [] d low = refl
seen_there (suc n) zero (x ∷ xs) d low = refl
seen_there (suc n) (suc i) (x ∷ xs) d low = seen_there n i xs d (omega (arith, low))

pub place_seen : (p : Packet) (kept : List PackedSession) → session_place p (all_sessions kept) ≡ place_among p kept
place_seen p kept = place-map session_in (λ x. same_remote x.remote p.remote) (has_passed_by p.at) kept

-- a remote has a session among the packed ones where it has one among those that they stand for
pub known_seen : (remote : Remote) (kept : List PackedSession) → is_known_among remote kept ≡ has_session remote (all_sessions kept)
known_seen remote [] = refl
known_seen remote (k ∷ ks) = ap (λ b. same_remote (session_in k).remote remote || b) (known_seen remote ks)

end_seen : (kept : List PackedSession) → end_of kept ≡ last_end (all_sessions kept)
end_seen [] = refl
end_seen (k ∷ ks) = ap (max (moment_in k.last + rest_of k.class)) (end_seen ks)

pub idle_seen : (kept : List PackedSession) (crowded : Bool) (last now : ℕ) → cond (crowded || is_empty kept) (has_rested ESTABLISHED_REST last now) (have_passed now kept) ≡ cond (crowded || is_empty (all_sessions kept)) (has_rested ESTABLISHED_REST last now) (all_passed now (all_sessions kept))
idle_seen [] crowded last now = refl
idle_seen (k ∷ ks) crowded last now = ap (cond (crowded || false) (has_rested ESTABLISHED_REST last now)) (sym (list_all-map (has_passed_by now) session_in (k ∷ ks)))

pub due_seen : (kept : List PackedSession) (crowded : Bool) (last : ℕ) → cond (crowded || is_empty kept) (last + ESTABLISHED_REST) (end_of kept) ≡ cond (crowded || is_empty (all_sessions kept)) (last + ESTABLISHED_REST) (last_end (all_sessions kept))
due_seen [] crowded last = refl
due_seen (k ∷ ks) crowded last = ap (cond (crowded || false) (last + ESTABLISHED_REST)) (end_seen (k ∷ ks))

-- ---- a packet is followed

pub known_followed : (p : Packet) (count i : ℕ) (places new : List PackedSession) (d : PackedSession) (y : Session) → i < count → Known i ≡ place_among p (take count places) → y ≡ stepped (session_in (get_or places i d)) p → sessions_in count new ≡ set (sessions_in count places) i y → sessions_in count new ≡ with_session p (sessions_in count places)
known_followed p count i places new d y low place is put =
    let xs = sessions_in count places in
    let here : Known i ≡ session_place p xs = place ∙ sym (place_seen p (take count places)) in
    let within : i < length xs = known-within (λ (x : Session). same_remote x.remote p.remote) (has_passed_by p.at) xs i (session_in d) here in
    put
    ∙ ap (set xs i) (is ∙ ap (λ x. stepped x p) (sym (seen_there count i places d low)))
    ∙ set-changed (λ x. stepped x p) xs i (session_in d) within
    ∙ ap (λ place. put_at place (λ x. stepped x p) (begun_session p) xs) here

pub passed_followed : (p : Packet) (count i : ℕ) (places new : List PackedSession) (d : Session) (y : Session) → Passed i ≡ place_among p (take count places) → y ≡ begun_session p → sessions_in count new ≡ set (sessions_in count places) i y → sessions_in count new ≡ with_session p (sessions_in count places)
passed_followed p count i places new d y place is put =
    let xs = sessions_in count places in
    let here : Passed i ≡ session_place p xs = place ∙ sym (place_seen p (take count places)) in
    let within : i < length xs = passed-within (λ (x : Session). same_remote x.remote p.remote) (has_passed_by p.at) xs i d here in
    put
    ∙ ap (set xs i) is
    ∙ set-new (begun_session p) xs i within
    ∙ ap (λ place. put_at place (λ x. stepped x p) (begun_session p) xs) here

pub free_followed : (p : Packet) (count : ℕ) (places new : List PackedSession) (y : Session) → Free ≡ place_among p (take count places) → y ≡ begun_session p → sessions_in (count + 1) new ≡ sessions_in count places ++ y ∷ [] → sessions_in (count + 1) new ≡ with_session p (sessions_in count places)
free_followed p count places new y place is put =
    let xs = sessions_in count places in
    put
    ∙ ap (λ s. xs ++ s ∷ []) is
    ∙ ap (λ place. put_at place (λ x. stepped x p) (begun_session p) xs) (place ∙ sym (place_seen p (take count places)))

pub nowhere_followed : (p : Packet) (count : ℕ) (places : List PackedSession) → Nowhere ≡ place_among p (take count places) → sessions_in count places ≡ with_session p (sessions_in count places)
nowhere_followed p count places place =
    ap (λ place. put_at place (λ x. stepped x p) (begun_session p) (sessions_in count places)) (place ∙ sym (place_seen p (take count places)))

-- a packet that finds no place in the kept sessions finds none in the packed ones
pub nowhere_seen : (p : Packet) (count : ℕ) (places : List PackedSession) (place : Place) → place ≡ place_among p (take count places) → is_nowhere place ≡ is_nowhere (session_place p (sessions_in count places))
nowhere_seen p count places place is = ap is_nowhere (is ∙ sym (place_seen p (take count places)))
