use Rattle.std.proofs.Common.{◌≡◌, List, Err, ap, sym, ◌∙◌}
use Rattle.nat_types.specs.declared.records.Record.{Record}
use Rattle.link.specs.Link.{Link, taking}
use Rattle.link.specs.Reading.{reading}
use Rattle.spec_step.specs.Parts.{records_done, with_link}
use Rattle.forwarder.specs.Forwarder.{scene_on}
use Rattle.gateway.proofs.Hearing.{further-is, unheard-is}
use Rattle.gateway.proofs.datagrams.take_further.Goals as goal

pub take_records-requires-clause-places : goal.take_records-requires-clause-places
take_records-requires-clause-places c = rw c.as_slice.ensures.value c.in-Ok.ensures.room

pub returns-in-Ok-clause-scene : goal.returns-in-Ok-clause-scene
returns-in-Ok-clause-scene c =
    let came = c.in-Ok.ensures.came in
    let s = scene_on c.args.forwarder.now c.args.page.now in
    let same = further-is s c.args.bytes.now _ _ _ came.0 came.1 (c.requires.further came.0 came.1.read) in
    c.take_records.ensures.scene ∙ ap (λ (rs : List Record). records_done (with_link s c.take_into.new.self) rs) c.as_slice.ensures.value ∙ sym same

pub returns-in-Err-clause-scene : goal.returns-in-Err-clause-scene
returns-in-Err-clause-scene c =
    let refused : taking c.args.forwarder.now.link (reading c.args.bytes.now) ≡ Err c.in-Err._fault = sym c.in-Err.ensures.exact in
    let same = unheard-is (scene_on c.args.forwarder.now c.args.page.now) (reading c.args.bytes.now) c.in-Err._fault refused in
    ap (λ (e : Link). scene_on (record c.args.forwarder.now { link = e }) c.args.page.now) c.in-Err.ensures.err ∙ sym same
