-- A datagram that is dropped, and one that begins no session; and whether the other gateway was heard lately.
use Rattle.std.proofs.Common.{◌≡◌, ℕ, Bool, false, List, Option, Some, None, Result, Ok, Err, refl, sym, ap, ◌∙◌}
use Rattle.std.proofs.lemmas.Bool.{cond-false}
use Rattle.nat_types.specs.declared.records.Record.{Record}
use Rattle.link.specs.declared.datagrams.Datagram.{Datagram}
use Rattle.link.specs.declared.datagrams.Taken.{Taken}
use Rattle.link.specs.declared.faults.LinkFault.{LinkFault}
use Rattle.link.specs.Hearing as link
use Rattle.link.specs.Link.{IsTaken, Link, after_take, is_restart, records_taken, refusal, taken_of, taken_unless, taken_with, taking}
use Rattle.spec_binding.specs.Ledgers.{is_heard}
use Rattle.spec_step.specs.Parts.{datagram_read, datagram_taken, heard_unless, records_done, reset, with_link}
use Rattle.spec_step.specs.Shown.{GatewayAndOutput}

unless-is : (s : GatewayAndOutput) (d : Datagram) (o : Option LinkFault) (f : LinkFault) → taken_unless o (taken_of s.shown.link d) ≡ Err f → heard_unless s d o ≡ s
unless-is s d None f is = absurd (cc)
unless-is s d (Some g) f is = refl

-- a datagram that is refused changes nothing
pub unheard-is : (s : GatewayAndOutput) (r : Result Datagram LinkFault) (f : LinkFault) → taking s.shown.link r ≡ Err f → datagram_read s r ≡ s
unheard-is s (Ok d) f is = unless-is s d (refusal s.shown.link d) f is
unheard-is s (Err g) f is = refl

-- a datagram that begins no session has its records taken, and nothing else
pub further-is : (s : GatewayAndOutput) (bytes : List ℕ) (e2 : Link) (restarted : Bool) (rs : List Record) (d : Datagram) → IsTaken bytes s.shown.link s.shown.moment (taken_with restarted rs) e2 d
    → is_restart s.shown.link d ≡ false → datagram_taken s bytes ≡ records_done (with_link s e2) rs
further-is s bytes e2 restarted rs d taken further =
    let e = s.shown.link in
    let after = with_link s (after_take e d s.shown.moment) in
    let start = cond-false (is_restart e d) (reset after) after further in
    let all : rs ≡ records_taken e d = ap (λ (t : Taken). t.records.items) taken.taken in
    ap (datagram_read s) taken.read ∙ ap (heard_unless s d) taken.passed
    ∙ ap (λ (x : GatewayAndOutput). records_done x (records_taken e d)) start
    ∙ ap (λ (x : Link). records_done (with_link s x) (records_taken e d)) (sym taken.after)
    ∙ ap (λ (x : List Record). records_done (with_link s e2) x) (sym all)

-- the link and the protocol agree on whether the peer was heard lately
pub same_heard : (heard : Option ℕ) (now : ℕ) → link.is_heard heard now ≡ is_heard heard now
same_heard None now = refl
same_heard (Some last) now = refl
