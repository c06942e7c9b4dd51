use Rattle.spec_step.specs.Truly.{hand_of}
use Rattle.spec_step.proofs.Hiding.{named-mtu, step-shows-nothing}
use Rattle.spec_step.proofs.Truths.{step-tells}
use Rattle.spec_step.proofs.laws.own_frames_show_nothing.Goals as goal

pub returns-clause-mtu : goal.returns-clause-mtu
returns-clause-mtu c = named-mtu

pub returns-clause-hosts : goal.returns-clause-hosts
returns-clause-hosts c = λ s event s2 frames step has book kept set are.
    let f = c.frames_law.ensures in
    let o = c.own_frames_law.ensures in
    let l = c.tallies_law.ensures in
    let h = c.shows_nothing_inside.ensures in
    let told = step-tells (record { reads = c.readings_law.ensures.carries; asked = c.readings_law.ensures.asked; tallies = record { replied = l.replied; complained = l.complained }; own = record { answer = o.answer; complaint = o.complaint; sent = o.sent; passed = o.passed; arp = o.arp; request = o.request; gratuitous = o.gratuitous; advert = o.advert }; sent = f.sent; answer = f.answer; request = f.request; gratuitous = f.gratuitous; advert = f.advert; passed = f.passed; passed_apart = f.passed_apart; answer_no_error = f.answer_no_error; request_no_error = f.request_no_error; gratuitous_no_error = f.gratuitous_no_error; advert_no_error = f.advert_no_error })
    s event s2 step has (record { book = book; kept = kept }) set in
    step-shows-nothing (record { answer = h.answer; complaint = h.complaint }) (hand_of event) s s2 frames told.0 told.1 are
