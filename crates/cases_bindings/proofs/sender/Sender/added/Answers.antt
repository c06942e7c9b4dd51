use Rattle.std.proofs.Common.{◌≡◌, ◌-◌, List, refl, sym, ap, ◌∙◌}
use Rattle.nat_types.specs.declared.pairs.Key.{Key}
use Rattle.bindings.specs.declared.entries.Entry.{Entry}
use Rattle.bindings.specs.Entries.{slot_of}
use Rattle.bindings.specs.Table.{Table}
use Rattle.link.specs.Grammar.{IsWellFormedPair}
use Rattle.resync.specs.Batch.{CanBeSent}
use Rattle.cases_bindings.proofs.Turned.{KeepsAll, added-keeps, sent-alike}
use Rattle.cases_bindings.proofs.sender.Sender.added.Goals as goal

pub invariant_of-self-2 : goal.invariant_of-self-2
invariant_of-self-2 c =
    let old = c.args.self.now.table in
    let ready = c.ready.new.self in
    let added = c.add.new.self in
    let well : IsWellFormedPair c.args.pair = c.is_spelled_pair.ensures (let b = c.if-not-is_spelled_pair.false in cc) in
    let made = c.in_ok-ready.ensures.ok in
    let zero : ready.zero ≡ old.zero = ap (λ (t : Table). t.zero) made in
    let one : ready.one ≡ old.one = ap (λ (t : Table). t.one) made in
    let entries : ready.entries ≡ old.entries = ap (λ (t : Table). t.entries) made in
    let sent : CanBeSent ready = sent-alike old ready zero one (λ q x h. c.args.self.now.sent.pairs q x (ap (λ (es : List Entry). slot_of es q) (sym entries) ∙ h)) c.args.self.now.sent in
    let kept : KeepsAll ready added = added-keeps c.add.result ready added (record ready { entries = added.entries; lives = added.lives; ready = ready.ready - 1 }) c.args.pair c.args.state well sent refl refl c.add.ensures.slots c.add.ensures.same c.add.ensures.err in
    record {
      sent = kept.sent;
      first = kept.zero ∙ zero ∙ c.args.self.now.first;
      second = kept.one ∙ one ∙ c.args.self.now.second;
    }
