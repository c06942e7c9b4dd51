-- The lemmas that proofs of other crates may cite.

-- Sums of words of a list in parts, and of a list with one word replaced.
-- the words of two lists, the first of even length, add up to the words of both, one list after the other
pub use Rattle.sums.proofs.Words.{word_sum-append}
-- where the word at an even place is replaced by the bytes a and b, the sum changes by the difference
pub use Rattle.sums.proofs.Words.{word_sum-replace}
