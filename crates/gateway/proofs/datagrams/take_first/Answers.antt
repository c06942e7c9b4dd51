use Rattle.std.proofs.Common.{◌≡◌, Err, ap, sym, ◌∙◌, arith}
use Rattle.link.specs.Link.{Link, answers_count, taking}
use Rattle.link.specs.Reading.{reading}
use Rattle.forwarder.specs.Forwarder.{scene_on}
use Rattle.gateway.proofs.Hearing.{unheard-is}
use Rattle.gateway.proofs.Taking.{count-most}
use Rattle.gateway.proofs.datagrams.take_first.Goals as goal

pub take_records-requires-clause-places : goal.take_records-requires-clause-places
take_records-requires-clause-places c =
    let most = count-most c.as_slice.result.now in
    let fits = c.as_slice.ensures.fits in
    c.reset_where.ensures.places (answers_count c.as_slice.result.now) (omega (arith, most, fits)) (rw c.as_slice.ensures.value c.in-Ok.ensures.room)

pub returns-in-Err-clause-scene : goal.returns-in-Err-clause-scene
returns-in-Err-clause-scene c =
    let refused : taking c.args.forwarder.now.link (reading c.args.bytes.now) ≡ Err c.in-Err._fault = sym c.in-Err.ensures.exact in
    let same = unheard-is (scene_on c.args.forwarder.now c.args.page.now) (reading c.args.bytes.now) c.in-Err._fault refused in
    ap (λ (e : Link). scene_on (record c.args.forwarder.now { link = e }) c.args.page.now) c.in-Err.ensures.err ∙ sym same
