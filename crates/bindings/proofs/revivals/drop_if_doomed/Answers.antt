use Rattle.std.proofs.Common.{ap, ◌∙◌, cond}
use Rattle.port_range.specs.Ports.{is_within}
use Rattle.nat_types.specs.declared.pairs.Key.{Key}
use Rattle.nat_types.specs.Same.{same_key}
use Rattle.bindings.specs.Lists.{without}
use Rattle.bindings.specs.Ports.{is_free_at}
use Rattle.bindings.proofs.Edits.{slot-without}
use Rattle.bindings.proofs.Owning.{free-put_back}
use Rattle.bindings.proofs.revivals.drop_if_doomed.Goals as goal

pub returns-then-not-is_pair_state-clause-free : goal.returns-then-not-is_pair_state-clause-free
returns-then-not-is_pair_state-clause-free c =
    let es = c.args.store.now.entries in
    let old = c.args.ports.now in
    let key = c.args.pair.key in
    let low = old.tcp.lowest in
    let high = old.tcp.highest in
    let gone = c.take_out.ensures.entries ∙ ap (λ (k : Key). without k es) c.key_of-key.ensures in
    let freed = λ (q : Key). c.put_back.ensures.free q ∙ ap (λ (k : Key). cond (same_key k q) (is_within low high k.port.0) (is_free_at old q)) c.key_of-key.ensures in
    rw gone (free-put_back low high es (without key es) old c.put_back.new.self key c.requires.free freed (λ q. slot-without key es q))
