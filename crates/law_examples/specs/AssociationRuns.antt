-- What a thread is told that associates ends of pipes with ports, in turns that are known beforehand.
use Rattle.std.specs.Prelude.{ℕ, List, [], ◌∷◌, Option, None, Some, false, true, map}
use Rattle.dk_base.specs.declared.error.Errno.TheVariants.{ENOENT, ETIME}
use Rattle.dk_base.specs.declared.object.Src.TheVariants as source
use Rattle.dk_base.specs.declared.request.Request.TheVariants as request
use Rattle.dk_base.specs.declared.answer.Answer.TheVariants as answer
use Rattle.dk_base.specs.declared.set.TheConstants.PollSet.{IN, OUT}
use Rattle.spec_records.specs.Words.{Port}
use Rattle.spec_kernel.specs.Types.{Answer, Event, EventRec, Queued}
use Rattle.spec_kernel.specs.Words.{State, Turn, opening, with_new_thread}
use Rattle.spec_events.specs.Words.{events_of}
use Rattle.law_runs.specs.OneShot.{queue_in}
use Rattle.law_examples.specs.PortLaws.{fd}

abbrev pub answer_of : Event → Answer
answer_of e = e.answer

abbrev pub answers_of : State → List Turn → List Answer
answers_of m xs = map answer_of (events_of m xs)

abbrev pub associations_start : State
associations_start = with_new_thread (opening (256 ∷ [])) 1 false

-- an event of an association, as it is told
abbrev pub of_descriptor : ℕ → ℕ → ℕ → EventRec
of_descriptor object events user = record { source = source.Fd; object = object; events = events; user = user }

-- the associations of what is queued, in order
abbrev pub queued_of : Option Port → List (Option ℕ)
queued_of o = map (λ (e : Queued). e.assoc) (queue_in o)

-- the port with the event of an association with descriptor 0, which may be read, and this user value
abbrev pub with_event_of : ℕ → ℕ → Port
with_event_of n user = record { number = 1; alert = None; queue = record { rec = of_descriptor 0 1 user; assoc = Some n; timer = None } ∷ [] }

-- One that is ready at once, and is told once; one that another replaces while its event is queued; and one whose descriptor is closed
-- while its event is queued.
abbrev pub reading_turns : List Turn
reading_turns =
    record { thread = 1; request = Some request.Pipe }
    ∷ record { thread = 1; request = Some (request.Write (fd 1) (122 ∷ [])) }
    ∷ record { thread = 1; request = Some request.PortCreate }
    ∷ record { thread = 1; request = Some (request.Associate (fd 2) (fd 0) IN 5) }
    ∷ record { thread = 1; request = Some (request.Get (fd 2) true) }
    ∷ record { thread = 1; request = Some (request.Get (fd 2) false) }
    ∷ record { thread = 1; request = Some (request.Associate (fd 2) (fd 0) IN 6) }
    ∷ record { thread = 1; request = Some (request.Associate (fd 2) (fd 0) IN 7) }
    ∷ record { thread = 1; request = Some (request.GetN (fd 2) 4 1 false) }
    ∷ record { thread = 1; request = Some (request.Associate (fd 2) (fd 0) IN 8) }
    ∷ record { thread = 1; request = Some (request.Close (fd 0)) }
    ∷ record { thread = 1; request = Some (request.Get (fd 2) false) }
    ∷ record { thread = 1; request = Some request.Exit }
    ∷ []

abbrev pub reading_answers : List Answer
reading_answers =
    answer.TwoFds (fd 0) (fd 1)
    ∷ answer.Count 1
    ∷ answer.NewFd (fd 2)
    ∷ answer.Done
    ∷ answer.OneEvent (of_descriptor 0 1 5)
    ∷ answer.Failure ETIME
    ∷ answer.Done
    ∷ answer.Done
    ∷ answer.Events (of_descriptor 0 1 7 ∷ [])
    ∷ answer.Done
    ∷ answer.Done
    ∷ answer.Failure ETIME
    ∷ answer.Done
    ∷ []

-- A reading end that fires for hup, which it was not asked for, when the last writing end goes; and one that is
-- dissociated.
abbrev pub writing_turns : List Turn
writing_turns =
    record { thread = 1; request = Some request.Pipe }
    ∷ record { thread = 1; request = Some request.PortCreate }
    ∷ record { thread = 1; request = Some (request.Associate (fd 2) (fd 0) OUT 1) }
    ∷ record { thread = 1; request = Some (request.Get (fd 2) false) }
    ∷ record { thread = 1; request = Some (request.Close (fd 1)) }
    ∷ record { thread = 1; request = Some (request.Get (fd 2) false) }
    ∷ record { thread = 1; request = Some (request.Associate (fd 2) (fd 0) IN 2) }
    ∷ record { thread = 1; request = Some (request.Dissociate (fd 2) (fd 0)) }
    ∷ record { thread = 1; request = Some (request.Get (fd 2) false) }
    ∷ record { thread = 1; request = Some (request.Dissociate (fd 2) (fd 0)) }
    ∷ []

abbrev pub writing_answers : List Answer
writing_answers =
    answer.TwoFds (fd 0) (fd 1)
    ∷ answer.NewFd (fd 2)
    ∷ answer.Done
    ∷ answer.Failure ETIME
    ∷ answer.Done
    ∷ answer.OneEvent (of_descriptor 0 16 1)
    ∷ answer.Done
    ∷ answer.Done
    ∷ answer.Failure ETIME
    ∷ answer.Failure ENOENT
    ∷ []
