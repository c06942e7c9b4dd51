use Rattle.std.proofs.Common.{◌≡◌, sym, subst}
use Rattle.arp.specs.Log.{kept, entry_addresses, tally}
use Rattle.arp.proofs.Sending.{asks-none, sent-none}
use Rattle.arp.proofs.learnt.ask_in_log.Goals as goal

pub returns-in-None-clause-asks : goal.returns-in-None-clause-asks
returns-in-None-clause-asks c =
    let none = subst (λ log. tally c.args.address.0 (entry_addresses (kept log)) ≡ 0) c.deref.ensures.value c.in-None.ensures in
    sym (asks-none c.args.address.0 c.args.now (kept c.args.log.now.items) none)

pub returns-in-None-clause-entries : goal.returns-in-None-clause-entries
returns-in-None-clause-entries c =
    let none = subst (λ log. tally c.args.address.0 (entry_addresses (kept log)) ≡ 0) c.deref.ensures.value c.in-None.ensures in
    sym (sent-none c.args.address.0 c.args.now (kept c.args.log.now.items) none)
