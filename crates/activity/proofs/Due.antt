-- A pair is idle from its due moment on.
use Rattle.std.proofs.Common.{◌≡◌, ℕ, ◌+◌, ◌-◌, ◌<◌, max, nat_le, Bool, true, false, cond, ◌&&◌, ◌||◌, inl, inr, List, [], ◌∷◌, sym, ap, ◌∙◌, arith}
use Rattle.std.proofs.lemmas.Bool.{cases_lt, le-leb, lt-leb, and_from, and_left, and_right}
use Rattle.addresses.specs.declared.transport.Protocol.{Protocol}
use Rattle.addresses.specs.declared.transport.Protocol.TheVariants.{Icmp, Tcp, Udp}
use Rattle.activity.specs.declared.sessions.Session.{Session}
use Rattle.activity.specs.declared.sessions.Class.{Class}
use Rattle.activity.specs.declared.sessions.Class.TheVariants.{Opening, Established, Closed}
use Rattle.activity.specs.declared.TheConstants.{QUERY_REST, UDP_REST, ESTABLISHED_REST}
use Rattle.activity.specs.Sessions.{rest_of, has_rested}
use Rattle.activity.specs.Kept.{all_passed}
use Rattle.activity.specs.Lives.{Activity, is_empty, looks_idle}
use Rattle.activity.specs.Dues.{last_end, due_moment}

-- a rest has passed exactly from its end on
rested-from : (rest since now : ℕ) → 0 < rest → has_rested rest since now ≡ nat_le (since + rest) now
rested-from rest since now some =
    elim (cases_lt now (since + rest)) [
      | inl early ↦ lt-leb rest (now - since) (omega arith) ∙ sym (lt-leb (since + rest) now early)
      | inr late ↦ le-leb rest (now - since) (omega arith) ∙ sym (le-leb (since + rest) now late)
    ]

both-by : (a b now : ℕ) → (nat_le a now && nat_le b now) ≡ nat_le (max a b) now
both-by a b now =
    elim (cases_lt now a) [
      | inl early ↦ and_left (nat_le a now) (nat_le b now) (lt-leb a now early) ∙ sym (lt-leb (max a b) now (omega arith))
      | inr late ↦ elim (cases_lt now b) [
        | inl early ↦ and_right (nat_le a now) (nat_le b now) (lt-leb b now early) ∙ sym (lt-leb (max a b) now (omega arith))
        | inr later ↦ and_from (nat_le a now) (nat_le b now) (le-leb a now late) (le-leb b now later) ∙ sym (le-leb (max a b) now (omega arith))
      ]
    ]

some-rest : (class : Class) → 0 < rest_of class
some-rest Opening = omega arith
some-rest Established = omega arith
some-rest Closed = omega arith

all-from : (now : ℕ) (xs : List Session) → all_passed now xs ≡ nat_le (last_end xs) now
all-from now [] = sym (le-leb 0 now (omega arith))
all-from now (x ∷ xs) =
    ap (λ b. b && all_passed now xs) (rested-from (rest_of x.class) x.last now (some-rest x.class))
    ∙ ap (λ b. nat_le (x.last + rest_of x.class) now && b) (all-from now xs)
    ∙ both-by (x.last + rest_of x.class) (last_end xs) now

-- a pair is idle exactly from its due moment on
pub idle-from : (protocol : Protocol) (life : Activity) (now : ℕ) → looks_idle protocol life now ≡ nat_le (due_moment protocol life) now
idle-from Icmp life now = rested-from QUERY_REST life.last now (omega arith)
idle-from Udp life now = rested-from UDP_REST life.last now (omega arith)
idle-from Tcp life now = at (life.is_crowded || is_empty life.sessions)
  where
    at : (b : Bool) → cond b (has_rested ESTABLISHED_REST life.last now) (all_passed now life.sessions) ≡ nat_le (let n : ℕ = cond b (life.last + ESTABLISHED_REST) (last_end life.sessions) in n) now
    at true = rested-from ESTABLISHED_REST life.last now (omega arith)
    at false = all-from now life.sessions
