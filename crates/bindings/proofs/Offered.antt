-- The lemmas that proofs of other crates may cite.

-- The slots after an entry is removed, or its state is changed.
pub use Rattle.bindings.proofs.Edits.{restated, either_slot}
-- the slots without the entry of a key
pub use Rattle.bindings.proofs.Edits.{slot-without}
-- the slots with the entry of a key in another state
pub use Rattle.bindings.proofs.Edits.{slot-with_state}
-- What the function `find` finds.
pub use Rattle.bindings.proofs.Found.{none_from_is_none}
-- where nothing is found in a list, its first item fails the test and nothing is found in the rest
pub use Rattle.bindings.proofs.Found.{find-none}
-- the first of a list is found, or it doesn't pass
pub use Rattle.bindings.proofs.Found.{find-some}
-- what is found passes
pub use Rattle.bindings.proofs.Found.{find-passes}
-- Each change leaves a table what each table keeps.
pub use Rattle.bindings.proofs.Holding.{length-insert}
-- A pair is listed where its slot holds it.
-- a pair in the slot of its key, in a state that passes, is listed
pub use Rattle.bindings.proofs.Members.{listed-slot}
-- a listed pair is in the slot of its key, in a state that passes
pub use Rattle.bindings.proofs.Members.{slot-listed}
-- Changes keep the entries in order.
pub use Rattle.bindings.proofs.Orders.{order-put, turned-pair, order-turn, order-drop}
-- The lives of the entries after a change of the list.
pub use Rattle.bindings.proofs.Pasts.{length-lives_without, life-turned, put-keeps, put-begins, without-keeps}
-- a key with no entry agrees with no past
pub use Rattle.bindings.proofs.Pasts.{no-past}
-- The place of an entry in the list.
pub use Rattle.bindings.proofs.Places.{length-put, length-keep, rest-none}
-- any entry, as the default of a read past the end of a list
pub use Rattle.bindings.proofs.Places.{any_entry}
-- a list where the key has no entry is the same after its state is set
pub use Rattle.bindings.proofs.Places.{turn-none}
-- The lives of a table after each of them begins anew.
-- the life of a key after all were changed
pub use Rattle.bindings.proofs.Renewed.{life-all}
-- each past begins anew with its life
pub use Rattle.bindings.proofs.Renewed.{past-renewed}
-- Which entries are idle.
-- no more keys are idle than there are entries
pub use Rattle.bindings.proofs.Resting.{few-idle}
-- no more idle keys pass a test than there are entries
pub use Rattle.bindings.proofs.Resting.{few-passing}
-- a key with an entry is listed exactly where that entry is idle and may be released
pub use Rattle.bindings.proofs.Resting.{listed-is}
-- The lists of a table after the peer began anew.
pub use Rattle.bindings.proofs.Revived.{length-revived}
-- the slot of a key after the peer began anew
pub use Rattle.bindings.proofs.Revived.{slot-revived}
-- the life of a pair stays
pub use Rattle.bindings.proofs.Revived.{life-revived}
-- A rising list of ports is determined by the ports in it.
pub use Rattle.bindings.proofs.Rising.{rise-filter, rise-range, listed-filter, listed-range, listed-own_in, rise-own_in}
-- a number below all of a rising list isn't in the list
pub use Rattle.bindings.proofs.Rising.{not-below}
-- a port is one of all ports of both ranges where it is in either range
pub use Rattle.bindings.proofs.Rising.{listed-all}
-- A table's entries are no more than the ports of both ranges for the three protocols, where they lie in the ranges.
pub use Rattle.bindings.proofs.Rooms.{few}
-- a table whose entries are in the ranges has capacity for a key of the ranges without an entry
pub use Rattle.bindings.proofs.Rooms.{has-room}
-- The ranks of pairs, by their states.
-- a state has a rank exactly where it is that of a pair
pub use Rattle.bindings.proofs.Ranked.{pair-is}
-- a state of a rank is of the rank, and the other way round
pub use Rattle.bindings.proofs.Ranked.{rank-is, is-rank}
-- a state of a rank is that of a pair, and a pair's state is of some rank
pub use Rattle.bindings.proofs.Ranked.{rank-pair, pair-rank}
-- a state of a rank is of no other
pub use Rattle.bindings.proofs.Ranked.{one-rank}
-- The slots of a table: by key, and by endpoint.
pub use Rattle.bindings.proofs.Slots.{keys-put, keys-filter, none-map, keys-map}
-- where nothing is found in a list, nothing is found after entries are left out
pub use Rattle.bindings.proofs.Slots.{find-filter_none}
-- the slots after one more entry, whose key had none
pub use Rattle.bindings.proofs.Slots.{slot-put}
-- two keys that differ in one order of the test differ in the other
pub use Rattle.bindings.proofs.Slots.{other_way}
-- no reason refuses an entry where there is capacity, a free key and an endpoint without a pair
pub use Rattle.bindings.proofs.Slots.{refusal-none}
-- no reason refuses an entry where there is capacity, a free key and an endpoint without a pair of that rank
pub use Rattle.bindings.proofs.Slots.{refusal-free}
-- an endpoint without a pair has none of either rank
pub use Rattle.bindings.proofs.Slots.{none-ranked}
-- the entry of a key has the key
pub use Rattle.bindings.proofs.Slots.{slot-key}
-- the pair of a rank of an endpoint is of the rank and serves it
pub use Rattle.bindings.proofs.Slots.{ranked-serves}
-- the pair of an endpoint is that of one rank
pub use Rattle.bindings.proofs.Slots.{some-ranked}
-- the entry of an endpoint is a pair that serves it
pub use Rattle.bindings.proofs.Slots.{entry-serves}
-- whatever is found is the entry of its key
pub use Rattle.bindings.proofs.Slots.{found-slot}
-- the pair of an endpoint is the entry of its key
pub use Rattle.bindings.proofs.Slots.{entry-slot}
-- a pair that is found is that of its rank and endpoint
pub use Rattle.bindings.proofs.Slots.{found-entry}
-- A search for the next entry whose state passes.
-- the first entry after a key that passes is the first that passes of those after the key
pub use Rattle.bindings.proofs.Seeking.{first-behind}
-- where none passes, there is none after a key
pub use Rattle.bindings.proofs.Seeking.{none-counted}
-- The rules of a list of entries still hold after the state of one entry was changed.
pub use Rattle.bindings.proofs.Turned.{keys-turn, length-turn}
-- The ports of a rising list from a port on, and their unbroken runs.
-- the ports from one on are all ports, where each is at least that one
pub use Rattle.bindings.proofs.Unbroken.{from-all}
-- there is no port from one on, where each is lower
pub use Rattle.bindings.proofs.Unbroken.{from-none}
