-- A step with a frame or a datagram doesn't depend on where its bytes are in memory.
use Rattle.std.proofs.Common.{◌≡◌, ℕ, List, Option, Some, None, subst}
use Rattle.std.specs.Borrow.{Bor}
use Rattle.nat_types.specs.declared.gateways.GatewayId.{GatewayId}
use Rattle.nat_types.specs.declared.gateways.Side.{Side}
use Rattle.output.specs.Output.{Output}
use Rattle.spec_step.specs.declared.events.Event.TheVariants as given
use Rattle.spec_step.specs.declared.events.Outcome.{Outcome}
use Rattle.spec_gateway.specs.State.{GatewayState}
use Rattle.spec_gateway.specs.Steps.{lent}
use Rattle.frame_sim.specs.World.{World}
use Rattle.frame_sim.specs.Events.{TakesAt}

anywhere : (w : World) (i : GatewayId) (g : Option GatewayState) (side : Side) (b : Bor (List ℕ)) (told : Output) (o : Outcome) (told2 : Output) (w2 : World) → TakesAt w i g (given.Frame side b) told o told2 w2
    → TakesAt w i g (given.Frame side (lent b.now)) told o told2 w2
anywhere w i None side b told o told2 w2 t = t
anywhere w i (Some g) side b told o told2 w2 t = record {
  new = t.new;
  step = let s = t.step in record { whole = s.whole; takes = s.takes; sent = s.sent; sent_are = s.sent_are; told_is = s.told_is; gathered_is = s.gathered_is; numbered_is = s.numbered_is };
  truly = t.truly;
  bytes = t.bytes;
  was = t.was;
  set_up = t.set_up;
  answer = t.answer;
  world = t.world;
}

pub takes-lent : (w : World) (i : GatewayId) (g : Option GatewayState) (side : Side) (b : Bor (List ℕ)) (bytes : List ℕ) (told : Output) (o : Outcome) (told2 : Output) (w2 : World) → b.now ≡ bytes → TakesAt w i g (given.Frame side b) told o told2 w2
    → TakesAt w i g (given.Frame side (lent bytes)) told o told2 w2
takes-lent w i g side b bytes told o told2 w2 same t = subst (λ (x : List ℕ). TakesAt w i g (given.Frame side (lent x)) told o told2 w2) same (anywhere w i g side b told o told2 w2 t)

pub datagram-lent : (w : World) (i : GatewayId) (g : Option GatewayState) (b : Bor (List ℕ)) (told : Output) (o : Outcome) (told2 : Output) (w2 : World) → TakesAt w i g (given.Datagram b) told o told2 w2
    → TakesAt w i g (given.Datagram (lent b.now)) told o told2 w2
datagram-lent w i None b told o told2 w2 t = t
datagram-lent w i (Some g) b told o told2 w2 t = record {
  new = t.new;
  step = let s = t.step in let x = s.takes in record {
    whole = s.whole;
    takes = record { done = x.done; does = x.does; sends = x.sends };
    sent = s.sent;
    sent_are = s.sent_are;
    told_is = s.told_is;
    gathered_is = s.gathered_is;
    numbered_is = s.numbered_is;
  };
  truly = t.truly;
  bytes = t.bytes;
  was = t.was;
  set_up = t.set_up;
  answer = t.answer;
  world = t.world;
}
