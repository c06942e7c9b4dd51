use Rattle.std.proofs.Common.{◌≡◌, None, get_or, ap, ◌∙◌}
use Rattle.std.proofs.lemmas.List.{get_or_default}
use Rattle.arp.specs.Log.{place_asks}
use Rattle.arp.proofs.Sending.{asks-place, kept-sent, front-sent}
use Rattle.arp.proofs.learnt.ask_at.Goals as goal

pub returns-clause-asks : goal.returns-clause-asks
returns-clause-asks c =
    let read : c.index.result.now ≡ get_or c.args.log.now.items c.args.place None = c.index.ensures ∙ get_or_default c.args.log.now.items c.args.place _ None c.requires.at.within in
    c.place_asks-asks.ensures ∙ ap (place_asks c.args.now) read ∙ asks-place c.args.address.0 c.args.now c.args.log.now.items c.args.place c.requires.at c.requires.once

pub returns-clause-entries : goal.returns-clause-entries
returns-clause-entries c =
    let read : c.index-2.result.now ≡ get_or c.args.log.now.items c.args.place None = c.index-2.ensures ∙ get_or_default c.args.log.now.items c.args.place _ None c.requires.at.within in
    rw (c.place_sent.ensures, read) (kept-sent c.args.address.0 c.args.now c.args.log.now.items c.args.place c.requires.at c.requires.once)

pub returns-clause-front : goal.returns-clause-front
returns-clause-front c n front =
    let read : c.index-2.result.now ≡ get_or c.args.log.now.items c.args.place None = c.index-2.ensures ∙ get_or_default c.args.log.now.items c.args.place _ None c.requires.at.within in
    rw (c.place_sent.ensures, read) (front-sent n c.args.now c.args.log.now.items c.args.place front)
