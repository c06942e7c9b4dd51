use Rattle.bindings.proofs.Slots.{slot-key}
use Rattle.bindings.proofs.Resting.{few-idle, listed-is, watched-all}
use Rattle.bindings.proofs.table.Table.idle_keys.Goals as goal

pub returns-clause-keys : goal.returns-clause-keys
returns-clause-keys c =
    let t = c.args.self.now in
    rw (← watched-all c.args.lone c.of.result c.args.now t.entries t.lives c.of.ensures) c.append_idle.ensures.keys

pub returns-clause-listed : goal.returns-clause-listed
returns-clause-listed c =
    let t = c.args.self.now in
    λ key entry past held has. listed-is c.args.lone c.args.now t.entries t.lives key entry past c.recall.ensures.keys held (slot-key t.entries key entry held) has

pub returns-clause-few : goal.returns-clause-few
returns-clause-few c = few-idle c.args.lone c.args.now c.args.self.now.entries c.args.self.now.lives

pub returns-clause-room : goal.returns-clause-room
returns-clause-room c =
    let t = c.args.self.now in
    rw (← watched-all c.args.lone c.of.result c.args.now t.entries t.lives c.of.ensures) c.append_idle.ensures.room

pub returns-clause-exact : goal.returns-clause-exact
returns-clause-exact c =
    let t = c.args.self.now in
    rw (← watched-all c.args.lone c.of.result c.args.now t.entries t.lives c.of.ensures) c.append_idle.ensures.exact

pub returns-clause-refused : goal.returns-clause-refused
returns-clause-refused c =
    let t = c.args.self.now in
    rw (← watched-all c.args.lone c.of.result c.args.now t.entries t.lives c.of.ensures) c.append_idle.ensures.refused
