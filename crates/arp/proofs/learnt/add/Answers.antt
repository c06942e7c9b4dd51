use Rattle.std.proofs.Common.{◌≡◌, true, false, length, nat_lt, refl, arith}
use Rattle.std.proofs.lemmas.Bool.Decides.{nat_tests}
use Rattle.arp.specs.Log.{kept}
use Rattle.arp.proofs.learnt.add.Goals as goal

pub returns-then-len-lt-ENTRIES-clause-entries : goal.returns-then-len-lt-ENTRIES-clause-entries
returns-then-len-lt-ENTRIES-clause-entries c =
    let few : nat_lt (length (kept c.args.learnt.now.log.items)) 1024 ≡ true = grind (arith, nat_tests, c.requires.holds.indexed.count, c.len.ensures, c.if-len-lt-ENTRIES.true) in
    rw (c.append.ensures.entries, few) refl

pub returns-else-len-lt-ENTRIES-clause-entries : goal.returns-else-len-lt-ENTRIES-clause-entries
returns-else-len-lt-ENTRIES-clause-entries c =
    let full : nat_lt (length (kept c.args.learnt.now.log.items)) 1024 ≡ false = grind (arith, nat_tests, c.requires.holds.indexed.count, c.requires.holds.indexed.most, c.len.ensures, c.if-len-lt-ENTRIES.false) in
    rw (c.supplant.ensures.entries, full) refl
