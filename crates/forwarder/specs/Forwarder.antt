-- The view of a forwarder that contracts use.
use Rattle.bind_core.specs.Cores.{ledger_of}
use Rattle.output.specs.Output.{Paged}
use Rattle.spec_step.specs.Shown.{GatewayAndOutput, Shown, scene}
use Rattle.forwarder.specs.declared.forwarders.Forwarder.{Forwarder}

-- the gateway that a forwarder shows: its core as the book, with what the pairs carried
abbrev pub shown_of : Forwarder → Shown
shown_of f = record {
  networks = f.networks;
  moment = f.moment;
  stopped = f.stopped;
  away = f.away;
  ledger = ledger_of f.core;
  link = f.link;
  inside = f.inside;
  outside = f.outside;
  kept = f.kept;
}

-- the gateway, and its output on a page
abbrev pub scene_on : Forwarder → Paged → GatewayAndOutput
scene_on f page = scene (shown_of f) page.told
