use Rattle.std.proofs.Common.{reverse, IsTrue}
use Rattle.std.proofs.lemmas.Bool.{both_ways}
use Rattle.spec_trace.proofs.Plain as laws
use Rattle.spec_trace.proofs.laws.none_was_alone.Goals as goal

pub returns : goal.returns
returns c = record { private = λ i p t h a. both_ways _ (laws.none_private i p (reverse t) h) a; alone = λ p t. laws.was_none p (reverse t); goes_on = λ i p t. laws.goes_plain i p (reverse t); fits = λ t. laws.fits_plain (reverse t); agreed = λ i p t. laws.agreed_plain i p (reverse t); opens = λ p t. laws.open_plain p (reverse t); kept = λ holds t. laws.kept_plain (λ i p. IsTrue (holds i p)) (reverse t) }
