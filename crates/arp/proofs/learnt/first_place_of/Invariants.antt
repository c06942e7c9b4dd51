use Rattle.std.proofs.Common.{◌≡◌, take}
use Rattle.arp.specs.Log.{kept, entry_addresses, tally}
use Rattle.arp.proofs.learnt.first_place_of.Given as goal

-- no place so far has the address
abbrev pub invariant-loop-place : goal.invariant-loop-place
invariant-loop-place l = tally l.address.0 (entry_addresses (kept (take l.place l.log))) ≡ 0
