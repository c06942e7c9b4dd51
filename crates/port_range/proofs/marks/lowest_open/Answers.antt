use Rattle.std.proofs.Common.{ℕ, ◌+◌, ◌*◌, ap, ◌∙◌, arith, w64}
use Rattle.std.specs.Int.{trailing_zeros}
use Rattle.port_range.proofs.Summing.{summary-within, open-port, open-looked, lowest-found, lowest-none}
use Rattle.port_range.proofs.marks.lowest_open.Goals as goal

pub open_word-word-requires-clause-free : goal.open_word-word-requires-clause-free
open_word-word-requires-clause-free c =
    let first = rw c.in-Some.is at c.lowest_bit-index.ensures.some in
    let within = summary-within c.args.parity c.args.free.now c.args.owned.now c.args.summary.now c.in-Some.index c.requires.summary first.here in
    omega (arith, within, c.requires.free)

pub open_word-word-requires-clause-owned : goal.open_word-word-requires-clause-owned
open_word-word-requires-clause-owned c =
    let first = rw c.in-Some.is at c.lowest_bit-index.ensures.some in
    let within = summary-within c.args.parity c.args.free.now c.args.owned.now c.args.summary.now c.in-Some.index c.requires.summary first.here in
    omega (arith, within, c.requires.owned)

pub overflow_mul-port : goal.overflow_mul-port
overflow_mul-port c =
    let first = rw c.in-Some.is at c.lowest_bit-index.ensures.some in
    let within = summary-within c.args.parity c.args.free.now c.args.owned.now c.args.summary.now c.in-Some.index c.requires.summary first.here in
    omega (arith, within)

pub overflow_add-port : goal.overflow_add-port
overflow_add-port c =
    let first = rw c.in-Some.is at c.lowest_bit-index.ensures.some in
    let port = open-port c.args.parity c.args.free.now c.args.owned.now c.args.summary.now c.in-Some.index c.open_word-word.result c.requires.summary first.here c.open_word-word.ensures in
    omega (arith, port)

pub overflow_cast-result : goal.overflow_cast-result
overflow_cast-result c =
    let first = rw c.in-Some.is at c.lowest_bit-index.ensures.some in
    let port = open-port c.args.parity c.args.free.now c.args.owned.now c.args.summary.now c.in-Some.index c.open_word-word.result c.requires.summary first.here c.open_word-word.ensures in
    omega (arith, port)

pub returns-in-None-clause-none : goal.returns-in-None-clause-none
returns-in-None-clause-none c =
    let nothing = rw c.in-None.is at c.lowest_bit-index.ensures.none in
    lowest-none c.args.parity c.args.free.now c.args.owned.now c.args.summary.now c.requires.free c.requires.summary nothing

pub returns-in-Some-clause-some : goal.returns-in-Some-clause-some
returns-in-Some-clause-some c =
    let first = rw c.in-Some.is at c.lowest_bit-index.ensures.some in
    lowest-found c.args.parity c.args.free.now c.args.owned.now c.args.summary.now c.in-Some.index _ c.requires.summary first
    (ap (λ (w : ℕ). c.in-Some.index * 64 + trailing_zeros w64 w) c.open_word-word.ensures)

pub overflow_add-result : goal.overflow_add-result
overflow_add-result c =
    let first = rw c.in-Some.is at c.lowest_bit-index.ensures.some in
    let within = summary-within c.args.parity c.args.free.now c.args.owned.now c.args.summary.now c.in-Some.index c.requires.summary first.here in
    let looked = rw c.in-Some.is at c.lowest_bit-index.ensures.looked_some in
    omega (arith, within, looked)

pub returns-in-Some-clause-looked_some : goal.returns-in-Some-clause-looked_some
returns-in-Some-clause-looked_some c =
    let first = rw c.in-Some.is at c.lowest_bit-index.ensures.some in
    let looked = rw c.in-Some.is at c.lowest_bit-index.ensures.looked_some in
    ap (λ (n : ℕ). n + 2) looked
    ∙ open-looked c.args.parity c.args.free.now c.args.owned.now c.args.summary.now c.in-Some.index c.open_word-word.result c.requires.summary first.here c.open_word-word.ensures
