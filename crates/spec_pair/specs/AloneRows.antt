-- Whole runs in which gateways make pairs alone and go on with them, told of each other afterwards.
use Rattle.std.specs.Prelude.{false, true, List, [], ◌∷◌}
use Rattle.nat_types.specs.declared.gateways.GatewayId.TheVariants.{Zero, One}
use Rattle.nat_types.specs.declared.notes.NoteKind.TheVariants.{Used, Released, Retaken, Synced, Crashed, Booted}
use Rattle.nat_types.specs.declared.notes.NoteKind.TheVariants as kinds
use Rattle.nat_types.specs.declared.notes.Note.{Note}
use Rattle.nat_types.specs.declared.pairs.Pair.{Pair}
use Rattle.spec_pair.specs.Acts.{Send, Take, LoadBegin, LoadPut, LoadDone, Hear, HearAnew, Do, Crash, Boot}
use Rattle.spec_pair.specs.Box.{Letter, Parcel}
use Rattle.spec_pair.specs.Rows.{zero_at, one_at, letter_of, udp, host, pair_p, parcel_p, k1, hello_2}
use Rattle.spec_pair.specs.Talk.{note, pair_of, Begin, Put, Tell, Install, Accept, Refuse, Ask, Yes, Done, Propose, Close, Use, Mark, MakeAlone, Report, Reject, Agree, Adopt, Agreed, Rejected, Rebuffed, Leave, Parted}
use Rattle.spec_pair.specs.World.{MachineEvent}

-- the second pair of the first host: on gateway 1's first port
abbrev pub pair_c : Pair
pair_c = pair_of k1 (host 5000)

-- another host's pair on gateway 1's first port
abbrev pub pair_b : Pair
pair_b = pair_of k1 (host 6000)

-- gateway 0 makes the first host's pair alone, and uses it
abbrev pub made_alone : List MachineEvent
made_alone =
    zero_at 470 (Do (MakeAlone pair_p.key pair_p.endpoint))
    ∷ zero_at 470 (Do (Use pair_p.key pair_p.endpoint true))
    ∷ []

-- the notes of `made_alone`
abbrev pub made_alone_notes : List Note
made_alone_notes = note Zero 470 (kinds.Alone pair_p) ∷ note Zero 470 (Used pair_p) ∷ []

-- gateway 0's Tell of that pair
abbrev pub tell_p : Letter
tell_p = letter_of 1 1 2 (Tell pair_p.key pair_p.endpoint ∷ [])

-- gateway 1's answer to it, and its Tell of its own pair
abbrev pub told_too : Pair → Letter
told_too q = letter_of 1 1 0 (Accept pair_p.key ∷ Tell q.key q.endpoint ∷ [])

-- gateway 0's answer to that
abbrev pub accept_of : Pair → Letter
accept_of q = letter_of 1 1 3 (Accept q.key ∷ [])

-- Gateway 1 made a pair alone too, on its own port. Each tells the other of its pair, and both accept.
abbrev pub meeting : Pair → List MachineEvent
meeting q =
    one_at 464 (Do (MakeAlone q.key q.endpoint))
    ∷ one_at 464 (Do (Use q.key q.endpoint true))
    ∷ zero_at 480 (Do (Report pair_p.key pair_p.endpoint))
    ∷ zero_at 480 (Send 2 1)
    ∷ one_at 470
    (Take tell_p 0 (Tell pair_p.key pair_p.endpoint) (Adopt pair_p.key pair_p.endpoint))
    ∷ one_at 474 (Do (Report q.key q.endpoint))
    ∷ one_at 474 (Send 0 2)
    ∷ zero_at 481
    (Take (told_too q) 0 (Accept pair_p.key) (Agreed pair_p.key pair_p.endpoint))
    ∷ zero_at 481
    (Take (told_too q) 1 (Tell q.key q.endpoint) (Adopt q.key q.endpoint))
    ∷ zero_at 481 (Send 3 1)
    ∷ one_at 475 (Take (accept_of q) 0 (Accept q.key) (Agreed q.key q.endpoint))
    ∷ []

-- the notes of `meeting`
abbrev pub meeting_notes : Pair → List Note
meeting_notes q =
    note One 464 (kinds.Alone q)
    ∷ note One 464 (Used q)
    ∷ note One 470 (Retaken pair_p)
    ∷ note Zero 481 (Retaken pair_p)
    ∷ note Zero 481 (Retaken q)
    ∷ note One 475 (Retaken q)
    ∷ []

-- the parcel of the first host's second pair, as a Tell
abbrev pub told_c : Parcel
told_c = record { pair = pair_c; told = true }

-- gateway 0's batch with both pairs of the first host
abbrev pub batch_c : Letter
batch_c =
    letter_of 1 2 0
    (Begin ∷ Put pair_p.key pair_p.endpoint ∷ Tell pair_c.key pair_c.endpoint ∷ Done ∷ [])

-- After `meeting` the first host has two pairs, and gateway 1 boots again: the second pair goes as a Tell in the batch.
abbrev pub reloading : List MachineEvent
reloading =
    one_at 480 Crash
    ∷ one_at 0 (Boot 2)
    ∷ one_at 0 (Send 0 0)
    ∷ zero_at 490 (Hear hello_2 [] [] (parcel_p ∷ told_c ∷ []) false)
    ∷ zero_at 490 (Send 0 4)
    ∷ one_at 1 (HearAnew batch_c)
    ∷ one_at 1 (LoadBegin batch_c 0)
    ∷ one_at 1 (LoadPut batch_c 1 parcel_p)
    ∷ one_at 1 (LoadPut batch_c 2 told_c)
    ∷ one_at 1 (LoadDone batch_c 3)
    ∷ []

-- the notes of `reloading`
abbrev pub reloading_notes : List Note
reloading_notes =
    note One 480 Crashed
    ∷ note One 0 (Booted 2)
    ∷ note One 1 (Retaken pair_p)
    ∷ note One 1 (Retaken pair_c)
    ∷ note One 1 Synced
    ∷ []

-- gateway 1's proposal for the endpoint that gateway 0 has alone, and its answer behind that
abbrev pub install_c : Letter
install_c = letter_of 1 1 0 (Install pair_c.key pair_c.endpoint ∷ Accept pair_p.key ∷ [])

-- gateway 0's refusal of that proposal
abbrev pub refuse_c : Letter
refuse_c = letter_of 1 1 3 (Refuse pair_c.key ∷ [])

-- Gateway 0 tells of its pair while gateway 1 proposes one for the same endpoint: the told pair is taken beside the
-- proposal, and the proposal is refused.
abbrev pub tell_crosses : List MachineEvent
tell_crosses =
    zero_at 480 (Do (Report pair_p.key pair_p.endpoint))
    ∷ zero_at 480 (Send 2 1)
    ∷ one_at 470 (Do (Propose pair_c.key pair_c.endpoint))
    ∷ one_at 471
    (Take tell_p 0 (Tell pair_p.key pair_p.endpoint) (Adopt pair_p.key pair_p.endpoint))
    ∷ one_at 471 (Send 0 2)
    ∷ zero_at 481
    (Take install_c 0 (Install pair_c.key pair_c.endpoint) (Reject pair_c.key pair_c.endpoint))
    ∷ zero_at 481 (Take install_c 1 (Accept pair_p.key) (Agreed pair_p.key pair_p.endpoint))
    ∷ zero_at 481 (Send 3 1)
    ∷ one_at 472 (Take refuse_c 0 (Refuse pair_c.key) (Rejected pair_c.key))
    ∷ one_at 472 (Do (Use pair_p.key pair_p.endpoint true))
    ∷ []

-- the notes of `tell_crosses`
abbrev pub tell_crosses_notes : List Note
tell_crosses_notes =
    note One 471 (Retaken pair_p)
    ∷ note Zero 481 (Retaken pair_p)
    ∷ note One 472 (Used pair_p)
    ∷ []

-- the proposals of both for one endpoint
abbrev pub install_0 : Letter
install_0 = letter_of 1 1 2 (Install pair_p.key pair_p.endpoint ∷ [])

-- gateway 1's proposal, and its refusal of gateway 0's
abbrev pub refuse_0 : Letter
refuse_0 = letter_of 1 1 0 (Install pair_c.key pair_c.endpoint ∷ Refuse pair_p.key ∷ [])

-- Both propose for one endpoint and get no answer. Both go on alone with their pairs; the proposals are then refused,
-- and each has its pair alone.
abbrev pub going_on : List MachineEvent
going_on =
    zero_at 400 (Do (Propose pair_p.key pair_p.endpoint))
    ∷ zero_at 400 (Send 2 1)
    ∷ one_at 400 (Do (Propose pair_c.key pair_c.endpoint))
    ∷ zero_at 470 (Do (Mark pair_p.key pair_p.endpoint))
    ∷ zero_at 470 (Do (Use pair_p.key pair_p.endpoint true))
    ∷ one_at 464 (Do (Mark pair_c.key pair_c.endpoint))
    ∷ one_at 464 (Do (Use pair_c.key pair_c.endpoint true))
    ∷ one_at 470
    (Take install_0 0 (Install pair_p.key pair_p.endpoint) (Reject pair_p.key pair_p.endpoint))
    ∷ one_at 470 (Send 0 2)
    ∷ zero_at 480
    (Take refuse_0 0 (Install pair_c.key pair_c.endpoint) (Reject pair_c.key pair_c.endpoint))
    ∷ zero_at 480 (Take refuse_0 1 (Refuse pair_p.key) (Rebuffed pair_p.key pair_p.endpoint))
    ∷ zero_at 480 (Send 3 1)
    ∷ one_at 471
    (Take refuse_c 0 (Refuse pair_c.key) (Rebuffed pair_c.key pair_c.endpoint))
    ∷ []

-- the notes of `going_on`
abbrev pub going_on_notes : List Note
going_on_notes =
    note Zero 470 (kinds.Alone pair_p)
    ∷ note Zero 470 (Used pair_p)
    ∷ note One 464 (kinds.Alone pair_c)
    ∷ note One 464 (Used pair_c)
    ∷ []

-- gateway 0's Ask, and gateway 1's Yes to it
abbrev pub ask_p : Letter
ask_p = letter_of 1 1 3 (Ask pair_p.key ∷ [])

-- gateway 1's Yes
abbrev pub yes_p : Letter
yes_p = letter_of 1 1 1 (Yes pair_p.key ∷ [])

-- gateway 0's Tell of the pair that it asked to close
abbrev pub tell_again : Letter
tell_again = letter_of 1 1 4 (Tell pair_p.key pair_p.endpoint ∷ [])

-- gateway 1's answer to that
abbrev pub accept_again : Letter
accept_again = letter_of 1 1 2 (Accept pair_p.key ∷ [])

-- Gateway 0 asks to close the pair, and goes on with it alone before the Yes comes: the pair isn't deleted, is alone
-- then, and is told of again.
abbrev pub taking_back : List MachineEvent
taking_back =
    zero_at 30371 (Do (Close pair_p.key pair_p.endpoint))
    ∷ zero_at 30371 (Send 3 1)
    ∷ one_at 30361 (Take ask_p 0 (Ask pair_p.key) (Leave pair_p.key pair_p.endpoint))
    ∷ one_at 30361 (Send 1 1)
    ∷ zero_at 30470 (Do (Mark pair_p.key pair_p.endpoint))
    ∷ zero_at 30470 (Do (Use pair_p.key pair_p.endpoint true))
    ∷ zero_at 30472 (Take yes_p 0 (Yes pair_p.key) (Parted pair_p.key pair_p.endpoint))
    ∷ zero_at 30480 (Do (Report pair_p.key pair_p.endpoint))
    ∷ zero_at 30480 (Send 4 1)
    ∷ one_at 30470
    (Take tell_again 0 (Tell pair_p.key pair_p.endpoint) (Adopt pair_p.key pair_p.endpoint))
    ∷ one_at 30470 (Send 2 1)
    ∷ zero_at 30481 (Take accept_again 0 (Accept pair_p.key) (Agreed pair_p.key pair_p.endpoint))
    ∷ []

-- the notes of `taking_back`
abbrev pub taking_back_notes : List Note
taking_back_notes =
    note Zero 30371 (Released pair_p)
    ∷ note One 30361 (Released pair_p)
    ∷ note Zero 30470 (kinds.Alone pair_p)
    ∷ note Zero 30470 (Used pair_p)
    ∷ note One 30470 (Retaken pair_p)
    ∷ note Zero 30481 (Retaken pair_p)
    ∷ []

-- gateway 1's batch of an empty table for gateway 0's second boot
abbrev pub empty_again : Letter
empty_again = letter_of 1 2 0 (Begin ∷ Done ∷ [])

-- another host's pair on the port of the pair that is lost
abbrev pub pair_d : Pair
pair_d = pair_of (udp 20000) (host 5001)

-- gateway 0's proposal of that pair, in its second boot
abbrev pub install_d : Letter
install_d = letter_of 2 1 0 (Install pair_d.key pair_d.endpoint ∷ [])

-- Gateway 0 crashes after it told of its pair, and gateway 1 hears gateway 0's next boot before the Tell: the pair is
-- lost with its box, and its port serves another host.
abbrev pub dying : List MachineEvent
dying =
    zero_at 480 (Do (Report pair_p.key pair_p.endpoint))
    ∷ zero_at 480 (Send 2 1)
    ∷ zero_at 490 Crash
    ∷ zero_at 0 (Boot 2)
    ∷ zero_at 0 (Send 0 0)
    ∷ one_at 480 (Hear hello_2 [] [] [] false)
    ∷ one_at 480 (Send 0 2)
    ∷ zero_at 1 (HearAnew empty_again)
    ∷ zero_at 1 (LoadBegin empty_again 0)
    ∷ zero_at 1 (LoadDone empty_again 1)
    ∷ zero_at 2 (Do (Propose pair_d.key pair_d.endpoint))
    ∷ zero_at 2 (Send 0 1)
    ∷ one_at 481
    (Take install_d 0 (Install pair_d.key pair_d.endpoint) (Agree pair_d.key pair_d.endpoint))
    ∷ one_at 481 (Do (Use pair_d.key pair_d.endpoint true))
    ∷ []

-- the notes of `dying`
abbrev pub dying_notes : List Note
dying_notes =
    note Zero 490 Crashed
    ∷ note Zero 0 (Booted 2)
    ∷ note Zero 1 Synced
    ∷ note One 481 (Retaken pair_d)
    ∷ note One 481 (Used pair_d)
    ∷ []
