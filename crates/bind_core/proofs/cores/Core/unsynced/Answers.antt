use Rattle.std.proofs.Common.{sym, subst, ◌∙◌, arith}
use Rattle.bindings.specs.Table.{Table}
use Rattle.spec_binding.specs.Books.{Book, IsBook, empty_book}
use Rattle.spec_binding.specs.Ledgers.{Ledger}
use Rattle.resync.specs.Loading.{Progress}
use Rattle.std.proofs.Common.{ap}
use Rattle.bind_core.proofs.Performing.{empty-is}
use Rattle.bind_core.proofs.cores.Core.unsynced.Goals as goal

pub invariant_of-result : goal.invariant_of-result
invariant_of-result c =
    let t = c.in_ok-table.ensures in
    let low0 = c.requires.zero.low in
    let low1 = c.requires.one.low in
    let order0 = c.requires.zero.order in
    let order1 = c.requires.one.order in
    let exact = c.in_ok-idle.ensures.capacity in
    record {
      book = subst IsBook (sym (empty-is c.args.id c.args.bounds.zero c.args.bounds.one c.args.rules c.in_ok-table.table c.new-2.result t.zero t.one t.entries t.owned c.new-2.ensures))
          (c.books_begin.ensures.empty c.args.id c.args.bounds.zero c.args.bounds.one c.args.rules c.requires.zero c.requires.one (omega (arith, low0, order0), c.recall_port.ensures) (omega (arith, low1, order1), c.recall_port-2.ensures));
      bounds = record { zero = t.zero; one = t.one };
      zero = ap (λ (p : Progress). p.zero) c.new-2.ensures ∙ sym t.zero;
      one = ap (λ (p : Progress). p.one) c.new-2.ensures ∙ sym t.one;
      room = let a = t.capacity in let b = c.count_keys.ensures in omega (arith, a, b, exact);
    }

pub returns-clause-ledger : goal.returns-clause-ledger
returns-clause-ledger c =
    let t = c.in_ok-table.ensures in
    ap (λ (b : Book). let l : Ledger = record { book = b; lives = c.in_ok-table.table.lives; inward_refresh = c.args.rules.inward_refresh; hashers = c.in_ok-table.table.hashers } in l) (empty-is c.args.id c.args.bounds.zero c.args.bounds.one c.args.rules c.in_ok-table.table c.new-2.result t.zero t.one t.entries t.owned c.new-2.ensures)
    ∙ ap (λ (u : Table). let l : Ledger = record { book = empty_book c.args.id c.args.bounds.zero c.args.bounds.one c.args.rules; lives = u.lives; inward_refresh = c.args.rules.inward_refresh; hashers = u.hashers } in l) t.empty

pub returns-clause-hashers : goal.returns-clause-hashers
returns-clause-hashers c = c.in_ok-table.ensures.hashers
