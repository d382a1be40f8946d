-- Runs with timers, and the answers of their events.
use Rattle.std.specs.Prelude.{ℕ, ◌++◌, List, [], ◌∷◌, true, false, map, replicate}
use Rattle.dk_base.specs.declared.error.Errno.TheVariants.{EAGAIN, EINVAL, ETIME}
use Rattle.dk_base.specs.declared.object.Src.TheVariants as source
use Rattle.dk_base.specs.declared.request.Request.TheVariants as request
use Rattle.dk_base.specs.declared.answer.Answer.TheVariants as answer
use Rattle.spec_kernel.specs.Types.{Answer, EventRec}
use Rattle.spec_kernel.specs.Words.{Turn}
use Rattle.law_examples.specs.ForkRuns.{asks, goes_on}
use Rattle.law_examples.specs.PortLaws.{fd}

-- what a timer queues, as it is told
abbrev pub tick : ℕ → ℕ → ℕ → EventRec
tick id count user = record { source = source.Timer; object = id; events = count; user = user }

abbrev pub sent : ℕ → ℕ → EventRec
sent events user = record { source = source.User; object = 0; events = events; user = user }

-- a timer with an interval, whose moments one event counts; the same set again, once; and one that was deleted

abbrev pub timers_turns : List Turn
timers_turns =
    asks 1 request.PortCreate
    ∷ asks 1 (request.TimerCreate (fd 0) 7)
    ∷ asks 1 (request.TimerSet 0 3 2)
    ∷ asks 1 (request.Advance 2)
    ∷ asks 1 (request.Get (fd 0) false)
    ∷ asks 1 (request.Advance 6)
    ∷ asks 1 (request.Get (fd 0) true)
    ∷ asks 1 (request.TimerSet 0 5 0)
    ∷ asks 1 (request.Advance 4)
    ∷ asks 1 (request.Advance 10)
    ∷ asks 1 (request.GetN (fd 0) 4 1 true)
    ∷ asks 1 (request.TimerDelete 0)
    ∷ asks 1 (request.TimerSet 0 1 1)
    ∷ asks 1 request.Exit
    ∷ []

abbrev pub timers_answers : List Answer
timers_answers =
    answer.NewFd (fd 0)
    ∷ answer.Count 0
    ∷ answer.Done
    ∷ answer.Done
    ∷ answer.Failure ETIME
    ∷ answer.Done
    ∷ answer.OneEvent (tick 0 3 7)
    ∷ answer.Done
    ∷ answer.Done
    ∷ answer.Done
    ∷ answer.Events (tick 0 1 7 ∷ [])
    ∷ answer.Done
    ∷ answer.Failure EINVAL
    ∷ answer.Done
    ∷ []

-- an event that counts more and keeps its place before a user event; one that is withdrawn as its timer is set again; 32 timers

abbrev pub counts_turns : List Turn
counts_turns =
    asks 1 request.PortCreate
    ∷ asks 1 (request.TimerCreate (fd 0) 1)
    ∷ asks 1 (request.TimerSet 0 1 1)
    ∷ asks 1 (request.Advance 4)
    ∷ asks 1 (request.Send (fd 0) 2 9)
    ∷ asks 1 (request.Advance 3)
    ∷ asks 1 (request.GetN (fd 0) 4 2 false)
    ∷ asks 1 (request.Advance 1)
    ∷ asks 1 (request.TimerSet 0 9 0)
    ∷ asks 1 (request.Get (fd 0) false)
    ∷ (replicate 32 (asks 1 (request.TimerCreate (fd 0) 1)) ++ asks 1 request.Exit ∷ [])

abbrev pub counts_answers : List Answer
counts_answers =
    answer.NewFd (fd 0)
    ∷ answer.Count 0
    ∷ answer.Done
    ∷ answer.Done
    ∷ answer.Done
    ∷ answer.Done
    ∷ answer.Events (tick 0 7 1 ∷ sent 2 9 ∷ [])
    ∷ answer.Done
    ∷ answer.Done
    ∷ answer.Failure ETIME
    ∷ (map (λ (n : ℕ). answer.Count n) (1 ∷ 2 ∷ 3 ∷ 4 ∷ 5 ∷ 6 ∷ 7 ∷ 8 ∷ 9 ∷ 10 ∷ 11 ∷ 12 ∷ 13 ∷ 14 ∷ 15 ∷ 16 ∷ 17 ∷ 18 ∷ 19 ∷ 20 ∷ 21 ∷ 22 ∷ 23 ∷ 24 ∷ 25 ∷ 26 ∷ 27 ∷ 28 ∷ 29 ∷ 30 ∷ 31 ∷ [])
    ++ answer.Failure EAGAIN ∷ answer.Done ∷ [])

-- a child has none of its parent's timers; a thread that waits for two events is woken as another process moves the clock; and the end of
-- the child ends its timer, whose event is withdrawn

abbrev pub children_turns : List Turn
children_turns =
    asks 1 request.PortCreate
    ∷ asks 1 (request.TimerCreate (fd 0) 7)
    ∷ asks 1 (request.TimerSet 0 1 0)
    ∷ asks 1 (request.Fork (record { 0 = 2 }))
    ∷ asks 2 (request.TimerSet 0 1 1)
    ∷ asks 2 (request.TimerCreate (fd 0) 8)
    ∷ asks 2 (request.TimerSet 0 1 1)
    ∷ asks 1 (request.GetN (fd 0) 4 2 true)
    ∷ asks 2 (request.Advance 3)
    ∷ goes_on 1
    ∷ asks 2 (request.Advance 1)
    ∷ asks 2 (request.Ncd (120 ∷ []))
    ∷ asks 1 (request.Kill (record { 0 = 2 }))
    ∷ asks 1 (request.Get (fd 0) false)
    ∷ asks 1 (request.Advance 1)
    ∷ asks 1 (request.Get (fd 0) false)
    ∷ asks 1 request.Exit
    ∷ []

abbrev pub children_answers : List Answer
children_answers =
    answer.NewFd (fd 0)
    ∷ answer.Count 0
    ∷ answer.Done
    ∷ answer.Child (record { 0 = 2 })
    ∷ answer.Failure EINVAL
    ∷ answer.Count 0
    ∷ answer.Done
    ∷ answer.Wait
    ∷ answer.Done
    ∷ answer.Events (tick 0 1 7 ∷ tick 0 3 8 ∷ [])
    ∷ answer.Done
    ∷ answer.Data []
    ∷ answer.Done
    ∷ answer.Failure ETIME
    ∷ answer.Done
    ∷ answer.Failure ETIME
    ∷ answer.Done
    ∷ []
