-- Frames by their kind: the gateway's own, of a translation, of an error that was passed on, or of none of these.
use Rattle.std.proofs.Common.{◌≡◌, ℕ, Bool, true, false, not, ◌&&◌, ◌||◌, ◌==◌, List, slice_index, refl, arith}
use Rattle.std.proofs.lemmas.Bool.Decides.{nat_tests}
use Rattle.frames.specs.Frame.{frame_of}
use Rattle.icmp.specs.Error.{is_error}
use Rattle.icmp.specs.Query.{kind_number}
use Rattle.ipv4.specs.Header.{header_of, payload_of}
use Rattle.nat_types.specs.declared.gateways.Side.{Side}
use Rattle.nat_types.specs.declared.gateways.Side.TheVariants.{Inside, Outside}
use Rattle.packet_rules.specs.declared.networks.Networks.{Networks}
use Rattle.packet_rules.specs.Errors.{is_error_frame}
use Rattle.packet_rules.specs.Frames.{is_translation}
use Rattle.packet_rules.specs.Own.{is_own_frame}
use Rattle.packet_rules.specs.Queries.{kind_leaving}
use Rattle.spec_step.specs.Others.{is_other}

apart : (exit : Side) (type protocol kind : ℕ) → ((type == 2048) && ((protocol == 6) || (protocol == 17) || ((protocol == 1) && (kind == kind_number (kind_leaving exit))))) ≡ true
    → ((type == 2048) && (protocol == 1) && is_error kind) ≡ false
apart Inside type protocol kind is = grind (arith, nat_tests)
apart Outside type protocol kind is = grind (arith, nat_tests)

-- a translation is no error
pub sent-no_error : (exit : Side) (bytes : List ℕ) → is_translation exit bytes ≡ true → is_error_frame bytes ≡ false
unfolding is_translation is_error_frame
sent-no_error exit bytes is = apart exit (frame_of bytes).ethertype (header_of (frame_of bytes).body).protocol (slice_index (payload_of (frame_of bytes).body) 0) is

pub other-by : (networks : Networks) (exit : Side) (bytes : List ℕ) → is_own_frame networks exit bytes ≡ false → is_translation exit bytes ≡ false → is_error_frame bytes ≡ false → is_other networks exit bytes ≡ true
unfolding is_other
other-by networks exit bytes o a b = rw (o, a, b) refl

neither : (a b c : Bool) → (not a && (not b && not c)) ≡ true → (a ≡ false) × ((b ≡ false) × (c ≡ false))
neither true b c is = absurd (cc)
neither false true c is = absurd (cc)
neither false false true is = absurd (cc)
neither false false false is = (refl, (refl, refl))

-- a frame of another kind is neither the gateway's own, nor a translation, nor an error
pub other-none : (networks : Networks) (exit : Side) (bytes : List ℕ) → is_other networks exit bytes ≡ true → (is_own_frame networks exit bytes ≡ false) × ((is_translation exit bytes ≡ false) × (is_error_frame bytes ≡ false))
unfolding is_other
other-none networks exit bytes is = neither (is_own_frame networks exit bytes) (is_translation exit bytes) (is_error_frame bytes) is

pub own-no_other : (networks : Networks) (exit : Side) (bytes : List ℕ) → is_own_frame networks exit bytes ≡ true → is_other networks exit bytes ≡ false
unfolding is_other
own-no_other networks exit bytes is = rw is refl

pub sent-no_other : (networks : Networks) (exit : Side) (bytes : List ℕ) → is_own_frame networks exit bytes ≡ false → is_translation exit bytes ≡ true → is_other networks exit bytes ≡ false
unfolding is_other
sent-no_other networks exit bytes o is = rw (o, is) refl

pub error-no_other : (networks : Networks) (exit : Side) (bytes : List ℕ) → is_own_frame networks exit bytes ≡ false → is_translation exit bytes ≡ false → is_error_frame bytes ≡ true → is_other networks exit bytes ≡ false
unfolding is_other
error-no_other networks exit bytes o a b = rw (o, a, b) refl
