-- What holds of a plan, and of the drop for a packet that is too long, holds of the plan that drops
-- what is too long.
use Rattle.std.proofs.Common.{Bool, true, false, Result, Ok, Err}
use Rattle.packet_rules.specs.declared.reasons.Reason.{Reason}
use Rattle.packet_rules.specs.declared.reasons.Reason.TheVariants.{TooLong}
use Rattle.packet_rules.specs.Steps.{and_then}
use Rattle.spec_step.specs.declared.plans.Plan.{Plan}
use Rattle.spec_step.specs.declared.plans.Plan.TheVariants.{Send, Ask, AskAgain, Wait as WaitFor}
use Rattle.spec_step.specs.declared.plans.Reply.{Reply}
use Rattle.spec_step.specs.declared.plans.Reply.TheVariants as reply
use Rattle.spec_step.specs.Verdict.{if_fits, if_reply_fits}

pub fitted : (Q : Result Plan Reason → Type 0) → Q (Err TooLong) → (fits : Bool) (r : Result Plan Reason) → Q r → Q (and_then r (if_fits fits))
fitted Q long fits (Err reason) q = q
fitted Q long true (Ok (Send by next)) q = q
fitted Q long false (Ok (Send by next)) q = long
fitted Q long true (Ok (Ask by hop)) q = q
fitted Q long false (Ok (Ask by hop)) q = long
fitted Q long fits (Ok (AskAgain by hop)) q = q
fitted Q long true (Ok (WaitFor e)) q = q
fitted Q long false (Ok (WaitFor e)) q = long

pub reply-fitted : (Q : Result Reply Reason → Type 0) → Q (Err TooLong) → (fits : Bool) (r : Result Reply Reason) → Q r → Q (and_then r (if_reply_fits fits))
reply-fitted Q long fits (Err reason) q = q
reply-fitted Q long true (Ok (reply.Send next)) q = q
reply-fitted Q long false (Ok (reply.Send next)) q = long
reply-fitted Q long true (Ok (reply.Ask hop)) q = q
reply-fitted Q long false (Ok (reply.Ask hop)) q = long
reply-fitted Q long fits (Ok (reply.AskAgain hop)) q = q
