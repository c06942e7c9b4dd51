-- Text that is written part by part.
use Rattle.std.proofs.Common.{◌≡◌, ◌∙◌, ◌++◌, ℕ, List, [], Option, Result, Ok, Err, refl, ap, sym, subst, append_assoc, append-nil}
use Rattle.std.specs.Io.KnownBytes.{Appends}
use Rattle.std.proofs.KnownBytes.{Appends-nil, Appends-trans}
use Rattle.simulation.specs.Printed.{Prints}

-- a front of the text is appended to what was there, where that is known, and this rest of it is missing
pub record IsPart (before after : Option (List ℕ)) (text rest : List ℕ) : Type 0 where
  pub written : List ℕ
  pub split : text ≡ written ++ rest
  pub appended : Appends before after written

-- nothing is written yet
pub part_none : (a : Option (List ℕ)) (text : List ℕ) → IsPart a a text text
part_none a text = record { written = []; split = refl; appended = Appends-nil a }

-- more of it is written
pub part_more : (a b c : Option (List ℕ)) (text rest more rest2 : List ℕ) → IsPart a b text rest → rest ≡ more ++ rest2 → Appends b c more
    → IsPart a c text rest2
part_more a b c text rest more rest2 h split written = record {
  written = h.written ++ more;
  split = h.split ∙ ap (λ l. h.written ++ l) split ∙ sym (append_assoc h.written more rest2);
  appended = Appends-trans a b c h.written more h.appended written;
}

-- all of it is written
pub part_whole : (a b : Option (List ℕ)) (text rest : List ℕ) → IsPart a b text rest → rest ≡ [] → Appends a b text
part_whole a b text rest h none =
    subst (λ (l : List ℕ). Appends a b l) (sym (h.split ∙ ap (λ l. h.written ++ l) none ∙ append-nil h.written)) h.appended

-- what comes next is all that is missing
pub part_end : (a b c : Option (List ℕ)) (text rest : List ℕ) → IsPart a b text rest → Appends b c rest → Appends a c text
part_end a b c text rest h next = part_whole a c text [] (part_more a b c text rest rest [] h (sym (append-nil rest)) next) refl

pub part_rest : {T E : Type 0} (r : Result T E) (a b c : Option (List ℕ)) (text rest : List ℕ) → IsPart a b text rest → Prints b r c rest → Prints a r c text
part_rest (Ok x) a b c text rest h next = part_end a b c text rest h next
part_rest (Err e) a b c text rest h next = tt

-- a text that is the same
pub prints_as : {T E : Type 0} (r : Result T E) (a b : Option (List ℕ)) (text same : List ℕ) → text ≡ same → Prints a r b same → Prints a r b text
prints_as r a b text same is h = subst (λ (l : List ℕ). Prints a r b l) (sym is) h
