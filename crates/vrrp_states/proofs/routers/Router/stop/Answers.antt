use Rattle.vrrp_states.proofs.routers.Router.stop.Goals as goal

pub returns : goal.returns
returns c now = rw (← c.self.view_is) (c.stopped-action.ensures now)
