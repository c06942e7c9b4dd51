use Rattle.spec_step.specs.Shown.{Shown}
use Rattle.forwarder.specs.Forwarder.{shown_of}
use Rattle.gateway.proofs.routers.cue_router.Goals as goal

pub returns-in-Inside-clause-acts : goal.returns-in-Inside-clause-acts
returns-in-Inside-clause-acts c =
    let g : Shown = shown_of (record c.args.forwarder.now { inside = c.tell-action.new.station }) in
    let told = rw c.in-Inside.is at (c.send_action.ensures.told g) in
    rw c.in-Inside.is (record {
      station = c.tell-action.new.station;
      action = c.tell-action.result;
      step = c.tell-action.ensures;
      is = told;
    })

pub returns-in-Outside-clause-acts : goal.returns-in-Outside-clause-acts
returns-in-Outside-clause-acts c =
    let g : Shown = shown_of (record c.args.forwarder.now { outside = c.tell-action-in-Outside.new.station }) in
    let told = rw c.in-Outside.is at (c.send_action-in-Outside.ensures.told g) in
    rw c.in-Outside.is (record {
      station = c.tell-action-in-Outside.new.station;
      action = c.tell-action-in-Outside.result;
      step = c.tell-action-in-Outside.ensures;
      is = told;
    })
