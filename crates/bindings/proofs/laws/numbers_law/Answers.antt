use Rattle.std.proofs.Common.{refl}
use Rattle.sha2.specs.Sha256.{compress, digest_bytes, first_words, hash_after, rounds, schedule, sha256}
use Rattle.bindings.proofs.laws.numbers_law.Goals as goal

pub returns-clause-zeros : goal.returns-clause-zeros
unfolding first_words schedule rounds compress hash_after digest_bytes sha256
returns-clause-zeros c = refl

pub returns-clause-ones : goal.returns-clause-ones
unfolding first_words schedule rounds compress hash_after digest_bytes sha256
returns-clause-ones c = refl
