use Rattle.spec_step.proofs.Accounting.{step-rests}
use Rattle.spec_step.proofs.OwnSteps.{step-just, step-nets}
use Rattle.spec_step.proofs.Refreshing.{step-refresh}
use Rattle.spec_step.proofs.laws.steps_stay.Goals as goal

pub returns-clause-networks : goal.returns-clause-networks
returns-clause-networks c = λ s event s2 step has book kept wired.
    let f = c.frames_law.ensures in
    let o = c.own_frames_law.ensures in
    let l = c.tallies_law.ensures in
    step-nets (record { reads = c.readings_law.ensures.carries; asked = c.readings_law.ensures.asked; tallies = record { replied = l.replied; complained = l.complained }; own = record { answer = o.answer; complaint = o.complaint; sent = o.sent; passed = o.passed; arp = o.arp; request = o.request; gratuitous = o.gratuitous; advert = o.advert }; sent = f.sent; answer = f.answer; request = f.request; gratuitous = f.gratuitous; advert = f.advert; passed = f.passed; passed_apart = f.passed_apart; answer_no_error = f.answer_no_error; request_no_error = f.request_no_error; gratuitous_no_error = f.gratuitous_no_error; advert_no_error = f.advert_no_error })
    s event s2 step has (record { book = book; kept = kept }) wired

pub returns-clause-id : goal.returns-clause-id
returns-clause-id c = λ s event s2 step has book kept. (step-rests c.readings_law.ensures.carries s event s2 step has book kept).id

pub returns-clause-frames : goal.returns-clause-frames
returns-clause-frames c = λ s event s2 step has book kept wired.
    let f = c.frames_law.ensures in
    let o = c.own_frames_law.ensures in
    let l = c.tallies_law.ensures in
    let said = step-just (record { reads = c.readings_law.ensures.carries; asked = c.readings_law.ensures.asked; tallies = record { replied = l.replied; complained = l.complained }; own = record { answer = o.answer; complaint = o.complaint; sent = o.sent; passed = o.passed; arp = o.arp; request = o.request; gratuitous = o.gratuitous; advert = o.advert }; sent = f.sent; answer = f.answer; request = f.request; gratuitous = f.gratuitous; advert = f.advert; passed = f.passed; passed_apart = f.passed_apart; answer_no_error = f.answer_no_error; request_no_error = f.request_no_error; gratuitous_no_error = f.gratuitous_no_error; advert_no_error = f.advert_no_error })
    s event s2 step has (record { book = book; kept = kept }) wired in
    (said.1.1.frames, said.1.1.frames_are)

pub returns-clause-refresh : goal.returns-clause-refresh
returns-clause-refresh c = step-refresh
