-- What is told of an error that is passed on is true.
use Rattle.std.proofs.Common.{◌≡◌, inl, ℕ, true, false, Some, List, [], ◌∷◌, refl, sym, ◌∙◌, arith}
use Rattle.std.proofs.lemmas.List.{append-nil}
use Rattle.std.proofs.lemmas.List.Sorted.{IsPermutation-refl}
use Rattle.addresses.specs.declared.ethernet.Mac.{Mac}
use Rattle.nat_types.specs.declared.gateways.Side.{Side}
use Rattle.spec_binding.specs.Books.{IsBook, is_synced}
use Rattle.packet_rules.specs.declared.translations.Translation.{Translation}
use Rattle.packet_rules.specs.Errors.{is_error_frame, passed_frame}
use Rattle.packet_rules.specs.Flows.{error_flow_in}
use Rattle.packet_rules.specs.Frames.{hop_of, is_translation}
use Rattle.packet_rules.specs.Own.{is_own_frame}
use Rattle.packet_rules.specs.Steps.{IsPassable}
use Rattle.output.specs.Output.{Sent}
use Rattle.spec_step.specs.Others.{MayGoBy}
use Rattle.spec_step.specs.Parts.{framed}
use Rattle.spec_step.specs.PassedOn.{IsPassedOn}
use Rattle.spec_step.specs.Shown.{GatewayAndOutput, Shown}
use Rattle.spec_step.specs.Truly.{Sending, known_of, packets_of}
use Rattle.spec_step.specs.Verdict.{exit_by, next_to}
use Rattle.spec_step.proofs.Erring.{IsErrorGoing, error-may, error-pairs}
use Rattle.spec_step.proofs.Sending.{near-mac}
use Rattle.spec_step.proofs.Steady.{ServesNow, served-now, steady-same}
use Rattle.spec_step.proofs.Telling.{Told, at_hand}

-- the frame by which an error is passed on, and the side at which it is sent
abbrev pub passing : Shown → List ℕ → Translation → Mac → Sent
passing g bytes by next = record { side = exit_by by; bytes = passed_frame g.networks by next bytes }

pub is-passed : (g : Shown) (side : Side) (bytes : List ℕ) (by : Translation) (next : Mac) → IsPassable bytes → IsBook g.ledger.book → is_synced g.ledger.book.stage ≡ true → IsErrorGoing g side (error_flow_in bytes) by
    → next_to g by (error_flow_in bytes).destination ≡ Some next → IsPassedOn (known_of g) (MayGoBy g []) (at_hand side bytes) by (passing g bytes by next)
is-passed g side bytes by next passes book synced going next_is =
    let flow = error_flow_in bytes in
    record {
      goes = record { passes = passes; way = going.way; pairs = error-pairs g flow by synced going.pairs };
      translate = error-may g flow by book synced going.pairs;
      side = refl;
      next = next;
      hop = near-mac g (exit_by by) (hop_of g.networks by flow.destination.0) ∙ next_is;
      bytes_are = refl;
    }

pub passed-tells : (s : GatewayAndOutput) (side : Side) (bytes : List ℕ) (by : Translation) (next : Mac) → IsPassedOn (known_of s.shown) (MayGoBy s.shown []) (at_hand side bytes) by (passing s.shown bytes by next)
    → ServesNow s.shown.ledger.book by → is_own_frame s.shown.networks (exit_by by) (passed_frame s.shown.networks by next bytes) ≡ false → is_translation (exit_by by) (passed_frame s.shown.networks by next bytes) ≡ false → is_error_frame (passed_frame s.shown.networks by next bytes) ≡ true
    → Told (at_hand side bytes ∷ []) s (framed s (exit_by by) (passed_frame s.shown.networks by next bytes))
passed-tells s side bytes by next passed serves own apart is =
    let d : Sending = record { packet = at_hand side bytes; by = by; sent = passing s.shown bytes by next } in
    record {
      all = record {
        frames = passing s.shown bytes by next ∷ [];
        frames_are = refl;
        notes = [];
        notes_are = sym (append-nil s.told.notes);
        done = [];
        translated = rw (own, apart) refl;
        used = refl;
        each = tt;
        served = tt;
        passed = d ∷ [];
        errors = rw (own, is) refl;
        each_error = (passed, tt);
        served_errors = (served-now s (framed s (exit_by by) (passed_frame s.shown.networks by next bytes)) by refl serves, tt);
        own = [];
        own_are = rw own refl;
        each_own = tt;
        counted_inside = refl;
        counted_outside = refl;
        dropped = [];
        once = IsPermutation-refl (at_hand side bytes ∷ packets_of s.shown.kept);
      };
      roots = λ p t. inl t;
      steady = steady-same s (framed s (exit_by by) (passed_frame s.shown.networks by next bytes)) [] (refl, (refl, refl));
      within = λ h. h;
      later = omega arith;
    }
