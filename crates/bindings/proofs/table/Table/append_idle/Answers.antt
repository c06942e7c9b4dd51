use Rattle.std.proofs.Common.{ℕ, ◌+◌, length, max, vec_len, vec_capacity, ap, sym, subst, ◌∙◌, arith}
use Rattle.std.proofs.lemmas.Bool.{false≢true}
use Rattle.std.proofs.lemmas.List.Sums.{length-filter}
use Rattle.memory.specs.Memory.{WasRefused}
use Rattle.bindings.specs.Dues.{is_idle_key}
use Rattle.bindings.specs.Stores.{Store}
use Rattle.bindings.proofs.Readied.{lacking}
use Rattle.bindings.proofs.table.Table.append_idle.Goals as goal

pub returns-in_err-reserve_exact-clause-room : goal.returns-in_err-reserve_exact-clause-room
returns-in_err-reserve_exact-clause-room c =
    let i = c.self.inside in
    let keys = c.find_due.new.self.found in
    let entries = ap (λ (s : Store). s.entries) c.find_due.ensures.same in
    let lives = ap (λ (s : Store). s.lives) c.find_due.ensures.same in
    let count = rw (c.found.ensures, entries, lives) at c.count_idle-count.ensures in
    let long = ap length c.find_due.ensures.among ∙ length-filter (is_idle_key c.args.watch c.args.now i.store.entries i.store.lives) keys in
    rw (← c.self.view_is) (λ room. absurd (false≢true (c.in_err-reserve_exact.ensures.succeeds (omega (arith, count, long, room)))))

pub returns-in_err-reserve_exact-clause-refused : goal.returns-in_err-reserve_exact-clause-refused
returns-in_err-reserve_exact-clause-refused c =
    let i = c.self.inside in
    let keys = c.find_due.new.self.found in
    let entries = ap (λ (s : Store). s.entries) c.find_due.ensures.same in
    let lives = ap (λ (s : Store). s.lives) c.find_due.ensures.same in
    let count = rw (c.found.ensures, entries, lives) at c.count_idle-count.ensures in
    let long = ap length c.find_due.ensures.among ∙ length-filter (is_idle_key c.args.watch c.args.now i.store.entries i.store.lives) keys in
    rw (← c.self.view_is) (lacking c.from_residual.result (subst WasRefused (count ∙ sym long) c.in_err-reserve_exact.ensures.refused))

pub returns-clause-exact : goal.returns-clause-exact
returns-clause-exact c =
    let i = c.self.inside in
    let keys = c.find_due.new.self.found in
    let entries = ap (λ (s : Store). s.entries) c.find_due.ensures.same in
    let lives = ap (λ (s : Store). s.lives) c.find_due.ensures.same in
    let count = rw (c.found.ensures, entries, lives) at c.count_idle-count.ensures in
    let long = ap length c.find_due.ensures.among ∙ length-filter (is_idle_key c.args.watch c.args.now i.store.entries i.store.lives) keys in
    let more = λ (n : ℕ). max (vec_capacity c.args.keys.now) (vec_len c.args.keys.now + n) in
    rw (← c.self.view_is) (c.list_idle.ensures.capacity ∙ c.in_ok-reserve_exact.ensures.exact ∙ ap more (count ∙ sym long))
