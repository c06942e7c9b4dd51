-- The pairs by which a packet from the inside leaves.
use Rattle.std.specs.Prelude.{◌≡◌, Option, None, Some}
use Rattle.nat_types.specs.declared.pairs.Endpoint.{Endpoint}
use Rattle.nat_types.specs.declared.pairs.Pair.{Pair}
use Rattle.ipv4.specs.declared.flows.Flow.{Flow}
use Rattle.packet_rules.specs.declared.translations.Translation.{Translation}
use Rattle.packet_rules.specs.declared.translations.Translation.TheVariants.{Outward, Inward, Hairpin}
use Rattle.packet_rules.specs.Flows.{source_of}
use Rattle.spec_binding.specs.declared.changes.Want.{Want}
use Rattle.spec_binding.specs.declared.changes.Want.TheVariants.{Port}
use Rattle.spec_binding.specs.Rows.{is_full, wish_of}
use Rattle.spec_step.specs.Shown.{Shown, is_apart}

-- by its own pair; and where the port that it goes to has a pair, to that pair's endpoint
abbrev pub leaving_by : Option Pair → Pair → Translation
leaving_by None = Outward
leaving_by (Some other) = λ own. Hairpin own other

-- the answer to the wish of an endpoint
abbrev pub looked_at : Shown → Endpoint → Want
looked_at g e = (wish_of g.ledger.book (is_apart g) (is_full g.link) e).answer

-- the own pair is that of the packet's source, and has the port that its wish is answered with
abbrev pub IsOwn : Shown → Flow → Translation → Type 0
IsOwn g flow (Outward own) = (own.endpoint ≡ source_of flow) × (looked_at g own.endpoint ≡ Port own.key.port)
IsOwn g flow (Inward pair) = Unit {0}
IsOwn g flow (Hairpin own other) = (own.endpoint ≡ source_of flow) × (looked_at g own.endpoint ≡ Port own.key.port)
