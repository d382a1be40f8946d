-- Runs with pipes and event ports, each with the answers of its events.
use Rattle.std.specs.Prelude.{ℕ, ◌≡◌, ◌++◌, List, [], ◌∷◌, Option, Bool, false, true, Some, None, map, not, replicate, ◌&&◌}
use Rattle.dk_base.specs.declared.error.Errno.TheVariants.{EAGAIN, EBADF, EBADFD, EBUSY, EINTR, EINVAL, EMFILE, EPIPE, ETIME}
use Rattle.dk_base.specs.declared.object.Src.TheVariants as source
use Rattle.dk_base.specs.declared.request.AlertMode.TheVariants as mode
use Rattle.dk_base.specs.declared.request.Request.TheVariants as request
use Rattle.dk_base.specs.declared.answer.Answer.TheVariants as answer
use Rattle.spec_kernel.specs.Types.{Answer, Request}
use Rattle.spec_kernel.specs.Words.{IsOpening, State, Turn, is_runnable, is_running, least_runnable, opening, state_after, state_after_turn, with_new_thread}
use Rattle.spec_events.specs.Words.{events_of}
use Rattle.law_examples.specs.WorkedRun.{answer_of}

-- a thread that runs makes a request, and one that can go on from its wait makes none
abbrev pub takes_turn : State → ℕ → Option Request → Bool
takes_turn m t (Some r) = is_running m t
takes_turn m t None = is_runnable m t && not (is_running m t)

abbrev pub take_turns : State → List Turn → Bool
take_turns m [] = true
take_turns m (x ∷ xs) = takes_turn m x.thread x.request && take_turns (state_after_turn m x) xs

-- a run from an opening: each thread can take its turn, these are the answers, and in the end no thread can take one
pub record GoesAs (m : State) (xs : List Turn) (answers : List Answer) : Type 0 where
  pub opens : IsOpening m
  pub taken : take_turns m xs ≡ true
  pub answered : map answer_of (events_of m xs) ≡ answers
  pub over : least_runnable (state_after m xs) ≡ None

-- a pipe that is full, then read; whose reading end is closed; and one whose writing end is closed

abbrev pub pipe_start : State
pipe_start = with_new_thread (opening (256 ∷ [])) 1 false

abbrev pub pipe_turns : List Turn
pipe_turns =
    record { thread = 1; request = Some request.Pipe }
    ∷ record { thread = 1; request = Some (request.Write (record { 0 = 1 }) (replicate 4097 120)) }
    ∷ record { thread = 1; request = Some (request.Write (record { 0 = 1 }) (120 ∷ [])) }
    ∷ record { thread = 1; request = Some (request.Read (record { 0 = 0 }) 3) }
    ∷ record { thread = 1; request = Some (request.Close (record { 0 = 0 })) }
    ∷ record { thread = 1; request = Some (request.Write (record { 0 = 1 }) (120 ∷ [])) }
    ∷ record { thread = 1; request = Some request.Pipe }
    ∷ record { thread = 1; request = Some (request.Read (record { 0 = 0 }) 1) }
    ∷ record { thread = 1; request = Some (request.Close (record { 0 = 2 })) }
    ∷ record { thread = 1; request = Some (request.Read (record { 0 = 0 }) 1) }
    ∷ record { thread = 1; request = Some request.Exit }
    ∷ []

abbrev pub pipe_answers : List Answer
pipe_answers =
    answer.TwoFds (record { 0 = 0 }) (record { 0 = 1 })
    ∷ answer.Count 4096
    ∷ answer.Failure EAGAIN
    ∷ answer.Data (120 ∷ 120 ∷ 120 ∷ [])
    ∷ answer.Done
    ∷ answer.Failure EPIPE
    ∷ answer.TwoFds (record { 0 = 0 }) (record { 0 = 2 })
    ∷ answer.Failure EAGAIN
    ∷ answer.Done
    ∷ answer.Data []
    ∷ answer.Done
    ∷ []

-- two threads that wait for more events than there are, and are told an alert, which stays

abbrev pub alert_start : State
alert_start = with_new_thread (with_new_thread (with_new_thread (opening (256 ∷ [])) 1 false) 1 false) 1 false

abbrev pub alert_turns : List Turn
alert_turns =
    record { thread = 1; request = Some request.PortCreate }
    ∷ record { thread = 2; request = Some (request.GetN (record { 0 = 0 }) 2 2 true) }
    ∷ record { thread = 3; request = Some (request.GetN (record { 0 = 0 }) 2 2 true) }
    ∷ record { thread = 1; request = Some (request.Send (record { 0 = 0 }) 3 9) }
    ∷ record { thread = 1; request = Some (request.Alert (record { 0 = 0 }) mode.Set 1 4) }
    ∷ record { thread = 1; request = Some (request.Alert (record { 0 = 0 }) mode.Update 2 5) }
    ∷ record { thread = 2; request = None }
    ∷ record { thread = 3; request = None }
    ∷ record { thread = 1; request = Some (request.Alert (record { 0 = 0 }) mode.Set 0 0) }
    ∷ record { thread = 1; request = Some (request.Get (record { 0 = 0 }) false) }
    ∷ record { thread = 1; request = Some request.Exit }
    ∷ record { thread = 2; request = Some request.Exit }
    ∷ record { thread = 3; request = Some request.Exit }
    ∷ []

abbrev pub alert_answers : List Answer
alert_answers =
    answer.NewFd (record { 0 = 0 })
    ∷ answer.Wait
    ∷ answer.Wait
    ∷ answer.Done
    ∷ answer.Done
    ∷ answer.Failure EBUSY
    ∷ answer.Events (record { source = source.Alert; object = 0; events = 1; user = 4 } ∷ [])
    ∷ answer.Events (record { source = source.Alert; object = 0; events = 1; user = 4 } ∷ [])
    ∷ answer.Done
    ∷ answer.OneEvent (record { source = source.User; object = 0; events = 3; user = 9 })
    ∷ answer.Done
    ∷ answer.Done
    ∷ answer.Done
    ∷ []

-- a thread that waits for an event, and is interrupted

abbrev pub interrupted_get_start : State
interrupted_get_start = with_new_thread (with_new_thread (opening (256 ∷ 256 ∷ [])) 1 false) 2 false

abbrev pub interrupted_get_turns : List Turn
interrupted_get_turns =
    record { thread = 1; request = Some request.PortCreate }
    ∷ record { thread = 1; request = Some (request.Get (record { 0 = 0 }) true) }
    ∷ record { thread = 2; request = Some (request.Interrupt (record { 0 = 1 })) }
    ∷ record { thread = 1; request = None }
    ∷ record { thread = 1; request = Some request.Exit }
    ∷ record { thread = 2; request = Some request.Exit }
    ∷ []

abbrev pub interrupted_get_answers : List Answer
interrupted_get_answers =
    answer.NewFd (record { 0 = 0 })
    ∷ answer.Wait
    ∷ answer.Done
    ∷ answer.Failure EINTR
    ∷ answer.Done
    ∷ answer.Done
    ∷ []

-- the ends of a pipe that are passed to a server with too few descriptors, and one that is passed to it

abbrev pub passed_ends_start : State
passed_ends_start = with_new_thread (with_new_thread (opening (2 ∷ 256 ∷ [])) 1 false) 2 false

abbrev pub passed_ends_turns : List Turn
passed_ends_turns =
    record { thread = 1; request = Some (request.Create 0 0 (record { 0 = 0 })) }
    ∷ record { thread = 1; request = Some (request.Attach (record { 0 = 0 }) (record { 0 = 0 })) }
    ∷ record { thread = 1; request = Some (request.Return [] []) }
    ∷ record { thread = 2; request = Some (request.Open (record { 0 = 0 })) }
    ∷ record { thread = 2; request = Some request.Pipe }
    ∷ record { thread = 2; request = Some (request.Call (record { 0 = 0 }) (116 ∷ 119 ∷ 111 ∷ []) (record { fd = record { 0 = 1 }; release = false } ∷ record { fd = record { 0 = 2 }; release = false } ∷ []) 4096) }
    ∷ record { thread = 1; request = None }
    ∷ record { thread = 2; request = None }
    ∷ record { thread = 2; request = Some (request.Call (record { 0 = 0 }) (111 ∷ 110 ∷ 101 ∷ []) (record { fd = record { 0 = 1 }; release = false } ∷ []) 4096) }
    ∷ record { thread = 1; request = None }
    ∷ record { thread = 1; request = Some (request.Return (110 ∷ 111 ∷ []) []) }
    ∷ record { thread = 2; request = None }
    ∷ record { thread = 2; request = Some request.Exit }
    ∷ []

abbrev pub passed_ends_answers : List Answer
passed_ends_answers =
    answer.NewFd (record { 0 = 0 })
    ∷ answer.Done
    ∷ answer.Wait
    ∷ answer.NewFd (record { 0 = 0 })
    ∷ answer.TwoFds (record { 0 = 1 }) (record { 0 = 2 })
    ∷ answer.WaitCall 1
    ∷ answer.EnterFailed 1
    ∷ answer.Failure EMFILE
    ∷ answer.WaitCall 2
    ∷ answer.Entered 2 0 0 (111 ∷ 110 ∷ 101 ∷ []) (record { 0 = 1 } ∷ [])
    ∷ answer.Wait
    ∷ answer.Results (110 ∷ 111 ∷ []) [] false
    ∷ answer.Done
    ∷ []

-- gets of several events and their refusals; and a port that is closed while a thread waits at it

abbrev pub closed_port_start : State
closed_port_start = with_new_thread (with_new_thread (opening (256 ∷ [])) 1 false) 1 false

abbrev pub closed_port_turns : List Turn
closed_port_turns =
    record { thread = 1; request = Some request.PortCreate }
    ∷ record { thread = 1; request = Some (request.Send (record { 0 = 0 }) 1 2) }
    ∷ record { thread = 1; request = Some (request.Send (record { 0 = 0 }) 3 4) }
    ∷ record { thread = 1; request = Some (request.GetN (record { 0 = 0 }) 5 3 false) }
    ∷ record { thread = 1; request = Some (request.GetN (record { 0 = 0 }) 2 3 false) }
    ∷ record { thread = 1; request = Some (request.GetN (record { 0 = 0 }) 0 3 false) }
    ∷ record { thread = 1; request = Some (request.GetN (record { 0 = 0 }) 5 0 false) }
    ∷ record { thread = 1; request = Some (request.Alert (record { 0 = 0 }) mode.Nothing 1 1) }
    ∷ record { thread = 1; request = Some (request.Send (record { 0 = 1 }) 1 1) }
    ∷ record { thread = 1; request = Some request.Pipe }
    ∷ record { thread = 1; request = Some (request.Send (record { 0 = 1 }) 1 1) }
    ∷ record { thread = 2; request = Some (request.Get (record { 0 = 0 }) true) }
    ∷ record { thread = 1; request = Some (request.Close (record { 0 = 0 })) }
    ∷ record { thread = 2; request = None }
    ∷ record { thread = 1; request = Some request.Exit }
    ∷ record { thread = 2; request = Some request.Exit }
    ∷ []

abbrev pub closed_port_answers : List Answer
closed_port_answers =
    answer.NewFd (record { 0 = 0 })
    ∷ answer.Done
    ∷ answer.Done
    ∷ answer.Failure ETIME
    ∷ answer.Failure EINVAL
    ∷ answer.Available 2
    ∷ answer.Events (record { source = source.User; object = 0; events = 1; user = 2 } ∷ record { source = source.User; object = 0; events = 3; user = 4 } ∷ [])
    ∷ answer.Failure EINVAL
    ∷ answer.Failure EBADF
    ∷ answer.TwoFds (record { 0 = 1 }) (record { 0 = 2 })
    ∷ answer.Failure EBADFD
    ∷ answer.Wait
    ∷ answer.Done
    ∷ answer.Failure EBADF
    ∷ answer.Done
    ∷ answer.Done
    ∷ []

-- a port that is sent as many events as it takes, and one more

abbrev pub full_port_start : State
full_port_start = with_new_thread (opening (256 ∷ [])) 1 false

abbrev pub full_port_turns : List Turn
full_port_turns =
    record { thread = 1; request = Some request.PortCreate }
    ∷ replicate 1025 (record { thread = 1; request = Some (request.Send (record { 0 = 0 }) 1 1) })
    ++ record { thread = 1; request = Some (request.SendN (record { 0 = 0 } ∷ record { 0 = 7 } ∷ []) 2 2) }
    ∷ record { thread = 1; request = Some (request.GetN (record { 0 = 0 }) 0 0 false) }
    ∷ record { thread = 1; request = Some request.Exit }
    ∷ []

abbrev pub full_port_answers : List Answer
full_port_answers =
    answer.NewFd (record { 0 = 0 })
    ∷ replicate 1024 answer.Done
    ++ answer.Failure EAGAIN
    ∷ answer.Errors (Some EAGAIN ∷ Some EBADF ∷ [])
    ∷ answer.Available 1024
    ∷ answer.Done
    ∷ []

-- the last references to a writing end and to a port are in transit, and are dropped

abbrev pub dropped_in_transit_start : State
dropped_in_transit_start = with_new_thread (with_new_thread (with_new_thread (with_new_thread (opening (256 ∷ 256 ∷ [])) 1 false) 2 false) 2 false) 2 false

abbrev pub dropped_in_transit_turns : List Turn
dropped_in_transit_turns =
    record { thread = 1; request = Some (request.Create 0 0 (record { 0 = 0 })) }
    ∷ record { thread = 1; request = Some (request.Attach (record { 0 = 0 }) (record { 0 = 0 })) }
    ∷ record { thread = 2; request = Some (request.Open (record { 0 = 0 })) }
    ∷ record { thread = 2; request = Some request.Pipe }
    ∷ record { thread = 2; request = Some request.PortCreate }
    ∷ record { thread = 3; request = Some (request.Get (record { 0 = 3 }) true) }
    ∷ record { thread = 2; request = Some (request.Call (record { 0 = 0 }) [] (record { fd = record { 0 = 2 }; release = true } ∷ record { fd = record { 0 = 3 }; release = true } ∷ []) 4096) }
    ∷ record { thread = 4; request = Some (request.Read (record { 0 = 1 }) 1) }
    ∷ record { thread = 4; request = Some (request.Interrupt (record { 0 = 2 })) }
    ∷ record { thread = 4; request = Some (request.Read (record { 0 = 1 }) 1) }
    ∷ record { thread = 3; request = None }
    ∷ record { thread = 2; request = None }
    ∷ record { thread = 1; request = Some request.Exit }
    ∷ record { thread = 2; request = Some request.Exit }
    ∷ record { thread = 3; request = Some request.Exit }
    ∷ record { thread = 4; request = Some request.Exit }
    ∷ []

abbrev pub dropped_in_transit_answers : List Answer
dropped_in_transit_answers =
    answer.NewFd (record { 0 = 0 })
    ∷ answer.Done
    ∷ answer.NewFd (record { 0 = 0 })
    ∷ answer.TwoFds (record { 0 = 1 }) (record { 0 = 2 })
    ∷ answer.NewFd (record { 0 = 3 })
    ∷ answer.Wait
    ∷ answer.WaitCall 1
    ∷ answer.Failure EAGAIN
    ∷ answer.Done
    ∷ answer.Data []
    ∷ answer.Failure EBADF
    ∷ answer.Failure EINTR
    ∷ answer.Done
    ∷ answer.Done
    ∷ answer.Done
    ∷ answer.Done
    ∷ []

-- two threads that wait for one event: one takes it, and the other waits on

abbrev pub one_event_for_two_start : State
one_event_for_two_start = with_new_thread (with_new_thread (with_new_thread (opening (256 ∷ [])) 1 false) 1 false) 1 false

abbrev pub one_event_for_two_turns : List Turn
one_event_for_two_turns =
    record { thread = 1; request = Some request.PortCreate }
    ∷ record { thread = 2; request = Some (request.Get (record { 0 = 0 }) true) }
    ∷ record { thread = 3; request = Some (request.Get (record { 0 = 0 }) true) }
    ∷ record { thread = 1; request = Some (request.Send (record { 0 = 0 }) 5 6) }
    ∷ record { thread = 2; request = None }
    ∷ record { thread = 1; request = Some request.Exit }
    ∷ record { thread = 2; request = Some request.Exit }
    ∷ []

abbrev pub one_event_for_two_answers : List Answer
one_event_for_two_answers =
    answer.NewFd (record { 0 = 0 })
    ∷ answer.Wait
    ∷ answer.Wait
    ∷ answer.Done
    ∷ answer.OneEvent (record { source = source.User; object = 0; events = 5; user = 6 })
    ∷ answer.Done
    ∷ answer.Done
    ∷ []
