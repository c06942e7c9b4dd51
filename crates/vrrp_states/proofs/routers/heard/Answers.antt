use Rattle.vrrp_states.specs.Table.{Heard}
use Rattle.vrrp_states.proofs.Lines.{initialize_other}
use Rattle.vrrp_states.proofs.routers.heard.Goals as goal

pub returns-in-Initialize : goal.returns-in-Initialize
returns-in-Initialize c = initialize_other c.args.own c.args.status (Heard c.args.advert.priority c.args.advert.interval c.args.from.0) c.args.now c.in-Initialize.is (λ e. absurd (cc))
