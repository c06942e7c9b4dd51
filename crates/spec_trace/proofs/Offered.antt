-- The lemmas that crates above this one use.
pub use Rattle.spec_trace.proofs.Plain.{all_go_plain, fits_plain, kept_plain, was_none}
