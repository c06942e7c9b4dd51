-- One more segment of a session, kept small.
use Rattle.std.proofs.Common.{◌≡◌, ℕ, Bool, true, false, cond, ◌&&◌, ◌||◌, List, [], ◌∷◌, refl, ap, ◌∙◌, sym}
use Rattle.addresses.specs.declared.transport.TcpFlags.{TcpFlags}
use Rattle.activity.specs.declared.packets.Packet.{Packet}
use Rattle.activity.specs.declared.packets.Remote.{Remote}
use Rattle.activity.specs.declared.packets.Way.{Way}
use Rattle.activity.specs.declared.packets.Way.TheVariants.{Outward, Inward}
use Rattle.activity.specs.declared.sessions.Class.TheVariants.{Opening, Established, Closed}
use Rattle.activity.specs.declared.sessions.Marks.{Marks}
use Rattle.activity.specs.declared.sessions.Session.{Session}
use Rattle.activity.specs.Packets.{same_way, is_fin, is_plain}
use Rattle.activity.specs.Sessions.{is_closed, is_opening, are_both, marked_if, no_marks, noted, in_class, reopened, stepped, begun_session}
use Rattle.activity.specs.Lives.{Standing, Course, went, went_both_ways, begun, went_on, standing, first_course, longer, marks_of, summed_up, session_of}

mark : (way : Way) (holds : Bool) (out back : Bool) → (let m : Marks = record { outward = (same_way way Outward && holds) || out; inward = (same_way way Inward && holds) || back } in m) ≡ marked_if holds way (record { outward = out; inward = back })
mark Outward holds out back = refl
mark Inward holds out back = refl

-- the marks of the segments and one more are the marks with that one's way added
marks-more : (test : TcpFlags → Bool) (s : Packet) (segments : List Packet) → marks_of test (s ∷ segments) ≡ marked_if (test s.flags) s.way (marks_of test segments)
marks-more test s segments = mark s.way (test s.flags) (went test Outward segments) (went test Inward segments)

-- a noted segment is one more marked segment, in the same class
noted-is : (remote : Remote) (x : Standing) (last : ℕ) (s : Packet) → noted (summed_up remote x last) s ≡ summed_up remote (record { class = x.class; marked = s ∷ x.marked }) s.at
noted-is remote x last s =
    ap (λ (m : Marks). let y : Session = record { remote = remote; class = x.class; fin = m; plain = marked_if (is_plain s.flags) s.way (marks_of is_plain x.marked); last = s.at } in y) (sym (marks-more is_fin s x.marked))
    ∙ ap (λ (m : Marks). let y : Session = record { remote = remote; class = x.class; fin = marks_of is_fin (s ∷ x.marked); plain = m; last = s.at } in y) (sym (marks-more is_plain s x.marked))

through : {A B : Type 0} (f : A → B) (a b c d : Bool) (u v w y z : A) → cond a (f u) (cond b (f v) (cond c (f w) (cond d (f y) (f z)))) ≡ f (cond a u (cond b v (cond c w (cond d y z))))
through f true b c d u v w y z = refl
through f false true c d u v w y z = refl
through f false false true d u v w y z = refl
through f false false false true u v w y z = refl
through f false false false false u v w y z = refl

choice : (x : Session) (s : Packet) → Session → Session
choice x s n = cond s.flags.rst (in_class Closed n) (cond (is_closed x.class && s.flags.syn) (reopened n) (cond (are_both n.fin) (in_class Closed n) (cond (is_opening x.class && are_both n.plain) (in_class Established n) n)))

stepped-standing : (remote : Remote) (x : Standing) (last : ℕ) (s : Packet) → stepped (summed_up remote x last) s ≡ summed_up remote (went_on x s) s.at
unfolding choice
stepped-standing remote x last s =
    ap (choice (summed_up remote x last) s) (noted-is remote x last s)
    ∙ through (λ y. summed_up remote y s.at) s.flags.rst (is_closed x.class && s.flags.syn) (went_both_ways is_fin (s ∷ x.marked)) (is_opening x.class && went_both_ways is_plain (s ∷ x.marked))
    (record { class = Closed; marked = s ∷ x.marked }) (record { class = Opening; marked = [] }) (record { class = Closed; marked = s ∷ x.marked }) (record { class = Established; marked = s ∷ x.marked }) (record { class = x.class; marked = s ∷ x.marked })

-- what is kept of a session after one more segment is what is kept of the longer session
pub stepped-is : (s : Packet) (c : Course) → stepped (session_of c) s ≡ session_of (longer s c)
stepped-is s c = stepped-standing c.remote (standing c.latest c.earlier) c.latest.at s

-- what is kept of a session after its first segment is what is kept of that session
pub begun-is : (s : Packet) → begun_session s ≡ session_of (first_course s)
begun-is s =
    ap (λ (m : Marks). let y : Session = record { remote = s.remote; class = (begun s).class; fin = m; plain = marked_if (is_plain s.flags) s.way no_marks; last = s.at } in y) (sym (marks-more is_fin s []))
    ∙ ap (λ (m : Marks). let y : Session = record { remote = s.remote; class = (begun s).class; fin = marks_of is_fin (s ∷ []); plain = m; last = s.at } in y) (sym (marks-more is_plain s []))
