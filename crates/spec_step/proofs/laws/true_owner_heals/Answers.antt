use Rattle.spec_step.proofs.Healing.{asked-at-once, known-taught, owner-heals}
use Rattle.spec_step.proofs.laws.true_owner_heals.Goals as goal

pub returns-clause-asked : goal.returns-clause-asked
returns-clause-asked c = asked-at-once

pub returns-clause-taught : goal.returns-clause-taught
returns-clause-taught c = λ s side bytes s2 p step book kept wired.
    let f = c.frames_law.ensures in
    let o = c.own_frames_law.ensures in
    let l = c.tallies_law.ensures in
    owner-heals (record { reads = c.readings_law.ensures.carries; asked = c.readings_law.ensures.asked; tallies = record { replied = l.replied; complained = l.complained }; own = record { answer = o.answer; complaint = o.complaint; sent = o.sent; passed = o.passed; arp = o.arp; request = o.request; gratuitous = o.gratuitous; advert = o.advert }; sent = f.sent; answer = f.answer; request = f.request; gratuitous = f.gratuitous; advert = f.advert; passed = f.passed; passed_apart = f.passed_apart; answer_no_error = f.answer_no_error; request_no_error = f.request_no_error; gratuitous_no_error = f.gratuitous_no_error; advert_no_error = f.advert_no_error })
    s side bytes s2 p step (record { book = book; kept = kept }) wired

pub returns-clause-renewed : goal.returns-clause-renewed
returns-clause-renewed c = known-taught
