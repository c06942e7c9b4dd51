use Rattle.spec_step.specs.Truly.{hand_of}
use Rattle.spec_step.proofs.Hiding.{step-hides}
use Rattle.spec_step.proofs.Truths.{step-tells}
use Rattle.spec_step.proofs.laws.errors_hide.Goals as goal

pub returns : goal.returns
returns c = λ s event s2 frames step has book kept wired fits are.
    let f = c.frames_law.ensures in
    let o = c.own_frames_law.ensures in
    let l = c.tallies_law.ensures in
    let told = step-tells (record { reads = c.readings_law.ensures.carries; asked = c.readings_law.ensures.asked; tallies = record { replied = l.replied; complained = l.complained }; own = record { answer = o.answer; complaint = o.complaint; sent = o.sent; passed = o.passed; arp = o.arp; request = o.request; gratuitous = o.gratuitous; advert = o.advert }; sent = f.sent; answer = f.answer; request = f.request; gratuitous = f.gratuitous; advert = f.advert; passed = f.passed; passed_apart = f.passed_apart; answer_no_error = f.answer_no_error; request_no_error = f.request_no_error; gratuitous_no_error = f.gratuitous_no_error; advert_no_error = f.advert_no_error })
    s event s2 step has (record { book = book; kept = kept }) wired in
    step-hides (record { source = c.hides_inside.ensures.source; inside = c.hides_inside.ensures.destination_inside }) (hand_of event) s s2 frames told.0 told.1 fits are
