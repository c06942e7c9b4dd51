-- The cues for a virtual router.
use Rattle.vrrp_states.specs.Table as table
use Rattle.vrrp_states.specs.Table.{Event}
use Rattle.gateway.specs.declared.routers.Cue.{Cue}
use Rattle.gateway.specs.declared.routers.Cue.TheVariants.{Tick, Stop, Heard}

-- a cue as an event of the state table
abbrev pub event_of : Cue → Event
event_of Tick = table.Tick
event_of Stop = table.Stop
event_of (Heard advert from) = table.Heard advert.priority advert.interval from.0
