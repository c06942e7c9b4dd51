use Rattle.std.proofs.Common.{◌≡◌, None, get_or, sym, subst, ◌∙◌}
use Rattle.std.proofs.lemmas.List.{get_or_default}
use Rattle.arp.specs.Log.{kept, entry_addresses, tally, IsPlaceOf}
use Rattle.arp.proofs.Logs.{entry-taken, kept-clear, front-clear, without-none}
use Rattle.arp.proofs.learnt.take_out.Goals as goal

pub returns-in-Some-clause-entry : goal.returns-in-Some-clause-entry
returns-in-Some-clause-entry c =
    let place = subst (λ log. IsPlaceOf c.args.address.0 log c.in-Some.place) c.deref.ensures.value c.in-Some.ensures in
    let read : c.index-entry.result.now ≡ get_or c.args.log.now.items c.in-Some.place None = c.index-entry.ensures ∙ get_or_default c.args.log.now.items c.in-Some.place _ None place.within in
    rw read (entry-taken c.args.address.0 c.args.log.now.items c.in-Some.place place c.requires).0

pub returns-in-Some-clause-entries : goal.returns-in-Some-clause-entries
returns-in-Some-clause-entries c =
    let place = subst (λ log. IsPlaceOf c.args.address.0 log c.in-Some.place) c.deref.ensures.value c.in-Some.ensures in
    kept-clear c.args.address.0 c.args.log.now.items c.in-Some.place place c.requires

pub returns-in-Some-clause-front : goal.returns-in-Some-clause-front
returns-in-Some-clause-front c n front = front-clear n c.args.log.now.items c.in-Some.place front

pub returns-in-None-clause-entries : goal.returns-in-None-clause-entries
returns-in-None-clause-entries c =
    let none = subst (λ log. tally c.args.address.0 (entry_addresses (kept log)) ≡ 0) c.deref.ensures.value c.in-None.ensures in
    sym (without-none c.args.address.0 (kept c.args.log.now.items) none)
