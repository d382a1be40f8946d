-- Runs in which a process forks: a notice that comes only when parent and child have both closed a descriptor, a caller that is
-- interrupted, and a bound thread whose child is bound to a door that is lost.
use Rattle.std.specs.Prelude.{ℕ, List, [], ◌∷◌, false, None, Some}
use Rattle.dk_base.specs.declared.error.Errno.TheVariants.{EAGAIN, EBADF, EINTR, EINVAL}
use Rattle.dk_base.specs.declared.request.Request.{Request}
use Rattle.dk_base.specs.declared.request.Request.TheVariants as request
use Rattle.dk_base.specs.declared.answer.Answer.TheVariants as answer
use Rattle.spec_kernel.specs.Types.{Answer, Fd}
use Rattle.spec_kernel.specs.Words.{State, Turn, opening, with_child, with_new_thread}

-- a turn with a request, and the end of a wait
abbrev pub asks : ℕ → Request → Turn
asks t r = record { thread = t; request = Some r }

abbrev pub goes_on : ℕ → Turn
goes_on t = record { thread = t; request = None }

abbrev pub first_row : Fd
first_row = record { 0 = 0 }

-- process 2 is a child of process 1, each with a thread

abbrev pub two_start : State
two_start = with_new_thread (with_new_thread (with_child (opening (4 ∷ 4 ∷ [])) 2 1) 1 false) 2 false

-- fork_shares_rows: the door has DOOR_UNREF, 1

abbrev pub shares_turns : List Turn
shares_turns =
    asks 1 (request.Create 0 0 (record { 0 = 1 }))
    ∷ asks 1 (request.Fork (record { 0 = 2 }))
    ∷ asks 1 (request.Fork (record { 0 = 2 }))
    ∷ asks 1 (request.Return [] [])
    ∷ asks 2 (request.Close first_row)
    ∷ goes_on 1
    ∷ asks 1 (request.Return [] [])
    ∷ asks 2 request.Exit
    ∷ []

abbrev pub shares_answers : List Answer
shares_answers =
    answer.NewFd first_row
    ∷ answer.Child (record { 0 = 2 })
    ∷ answer.Failure EAGAIN
    ∷ answer.Wait
    ∷ answer.Done
    ∷ answer.EnteredNotice 1 0 0
    ∷ answer.Wait
    ∷ answer.Done
    ∷ []

-- fork_interrupts_callers: a server with thread 1, a process with threads 2 and 3, and its child with thread 4

abbrev pub callers_start : State
callers_start =
    with_new_thread
    (with_new_thread (with_new_thread (with_new_thread (with_child (opening (4 ∷ 4 ∷ 4 ∷ [])) 3 2) 1 false) 2 false) 2 false)
    3
    false

abbrev pub callers_turns : List Turn
callers_turns =
    asks 1 (request.Create 0 0 (record { 0 = 0 }))
    ∷ asks 1 (request.Attach first_row (record { 0 = 0 }))
    ∷ asks 1 (request.Return [] [])
    ∷ asks 2 (request.Open (record { 0 = 0 }))
    ∷ asks 2 (request.Call first_row [] [] 4096)
    ∷ goes_on 1
    ∷ asks 3 (request.Fork (record { 0 = 3 }))
    ∷ asks 1 (request.Return [] [])
    ∷ goes_on 2
    ∷ asks 2 request.Exit
    ∷ asks 3 request.Exit
    ∷ asks 4 (request.Call first_row [] [] 4096)
    ∷ goes_on 1
    ∷ asks 1 (request.Return [] [])
    ∷ goes_on 4
    ∷ asks 4 request.Exit
    ∷ []

abbrev pub callers_answers : List Answer
callers_answers =
    answer.NewFd first_row
    ∷ answer.Done
    ∷ answer.Wait
    ∷ answer.NewFd first_row
    ∷ answer.WaitCall 1
    ∷ answer.Entered 1 0 0 [] []
    ∷ answer.Child (record { 0 = 3 })
    ∷ answer.Wait
    ∷ answer.Failure EINTR
    ∷ answer.Done
    ∷ answer.Done
    ∷ answer.WaitCall 2
    ∷ answer.Entered 2 0 0 [] []
    ∷ answer.Wait
    ∷ answer.Results [] [] false
    ∷ answer.Done
    ∷ []

-- fork_of_a_bound_thread: the door has DOOR_PRIVATE, 2

abbrev pub bound_turns : List Turn
bound_turns =
    asks 1 (request.Create 0 0 (record { 0 = 2 }))
    ∷ asks 1 (request.Bind first_row)
    ∷ asks 1 (request.Fork (record { 0 = 2 }))
    ∷ asks 1 request.Exit
    ∷ asks 2 request.InfoQuery
    ∷ asks 2 (request.Return [] [])
    ∷ asks 2 request.Unbind
    ∷ asks 2 request.Exit
    ∷ []

abbrev pub bound_answers : List Answer
bound_answers =
    answer.NewFd first_row
    ∷ answer.Done
    ∷ answer.Child (record { 0 = 2 })
    ∷ answer.Done
    ∷ answer.Failure EBADF
    ∷ answer.Failure EINVAL
    ∷ answer.Failure EBADF
    ∷ answer.Done
    ∷ []
