use Rattle.std.proofs.Common.{sym, ◌∙◌, subst, arith}
use Rattle.arp.specs.Log.{spot_addresses, IsAt, IsGapFor}
use Rattle.arp.proofs.Tallies.{tally-at, tally-gap}
use Rattle.arp.proofs.Logs.{mac-none}
use Rattle.arp.proofs.learnt.mac_in.Goals as goal

pub mac_in_log-requires : goal.mac_in_log-requires
mac_in_log-requires c =
    let there = subst (λ xs. IsAt (spot_addresses xs) c.args.address.0 c.in-Ok.at) c.deref.ensures.value c.in-Ok.ensures.found in
    rw c.deref-in-Ok.ensures.value (omega (arith, c.requires.indexed.same c.args.address.0, tally-at _ c.requires.indexed.rising _ _ there))

pub returns-in-Err : goal.returns-in-Err
returns-in-Err c =
    let gap = subst (λ xs. IsGapFor (spot_addresses xs) c.args.address.0 c.in-Err.field-0) c.deref.ensures.value c.in-Err.ensures.absent in
    sym (mac-none _ _ _ (c.requires.indexed.same c.args.address.0 ∙ tally-gap _ _ _ gap))
