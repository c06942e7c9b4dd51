use Rattle.std.proofs.Common.{arith}
use Rattle.spec_step.proofs.Beginning.{begun-within, founded-within}
use Rattle.spec_step.proofs.InSeconds.{few-answers, few-complaints}
use Rattle.spec_step.proofs.laws.few_in_one_second.Goals as goal

pub returns-clause-answers : goal.returns-clause-answers
returns-clause-answers c = λ g steps g2 set within says second side.
    let f = c.frames_law.ensures in
    let o = c.own_frames_law.ensures in
    let l = c.tallies_law.ensures in
    let few = few-answers (record { reads = c.readings_law.ensures.carries; asked = c.readings_law.ensures.asked; tallies = record { replied = l.replied; complained = l.complained }; own = record { answer = o.answer; complaint = o.complaint; sent = o.sent; passed = o.passed; arp = o.arp; request = o.request; gratuitous = o.gratuitous; advert = o.advert }; sent = f.sent; answer = f.answer; request = f.request; gratuitous = f.gratuitous; advert = f.advert; passed = f.passed; passed_apart = f.passed_apart; answer_no_error = f.answer_no_error; request_no_error = f.request_no_error; gratuitous_no_error = f.gratuitous_no_error; advert_no_error = f.advert_no_error })
    side g steps g2 set within says second in
    omega (arith, few, c.limits_law.ensures.most_replies)

pub returns-clause-complaints : goal.returns-clause-complaints
returns-clause-complaints c = λ g steps g2 set within says second side.
    let f = c.frames_law.ensures in
    let o = c.own_frames_law.ensures in
    let l = c.tallies_law.ensures in
    let few = few-complaints (record { reads = c.readings_law.ensures.carries; asked = c.readings_law.ensures.asked; tallies = record { replied = l.replied; complained = l.complained }; own = record { answer = o.answer; complaint = o.complaint; sent = o.sent; passed = o.passed; arp = o.arp; request = o.request; gratuitous = o.gratuitous; advert = o.advert }; sent = f.sent; answer = f.answer; request = f.request; gratuitous = f.gratuitous; advert = f.advert; passed = f.passed; passed_apart = f.passed_apart; answer_no_error = f.answer_no_error; request_no_error = f.request_no_error; gratuitous_no_error = f.gratuitous_no_error; advert_no_error = f.advert_no_error })
    side g steps g2 set within says second in
    omega (arith, few, c.limits_law.ensures.most_errors)

pub returns-clause-begun : goal.returns-clause-begun
returns-clause-begun c = begun-within

pub returns-clause-founded : goal.returns-clause-founded
returns-clause-founded c = founded-within
