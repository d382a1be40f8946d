-- A run of two threads of one process and a thread of another, with the answers of its events.
use Rattle.std.specs.Prelude.{List, [], ◌∷◌, false, Some, None}
use Rattle.dk_base.specs.declared.request.Request.TheVariants as request
use Rattle.dk_base.specs.declared.answer.Answer.TheVariants as answer
use Rattle.spec_kernel.specs.Types.{Answer, Event}
use Rattle.spec_kernel.specs.Words.{State, Turn, opening, with_new_thread}

abbrev pub start : State
start = with_new_thread (with_new_thread (with_new_thread (opening (16 ∷ 16 ∷ [])) 1 false) 1 false) 2 false

-- the door has DOOR_UNREF, 1
abbrev pub turns : List Turn
turns =
    record { thread = 1; request = Some (request.Create 5 7 (record { 0 = 1 })) }
    ∷ record { thread = 1; request = Some (request.Attach (record { 0 = 0 }) (record { 0 = 0 })) }
    ∷ record { thread = 2; request = Some (request.Return [] []) }
    ∷ record { thread = 3; request = Some (request.Open (record { 0 = 0 })) }
    ∷ record { thread = 3; request = Some (request.Call (record { 0 = 0 }) (1 ∷ 2 ∷ []) [] 100) }
    ∷ record { thread = 2; request = None }
    ∷ record { thread = 2; request = Some (request.Return (9 ∷ []) []) }
    ∷ record { thread = 3; request = None }
    ∷ record { thread = 3; request = Some (request.Close (record { 0 = 0 })) }
    ∷ record { thread = 1; request = Some (request.Detach (record { 0 = 0 })) }
    ∷ record { thread = 2; request = None }
    ∷ []

abbrev pub answer_of : Event → Answer
answer_of e = e.answer

abbrev pub answers : List Answer
answers =
    answer.NewFd (record { 0 = 0 })
    ∷ answer.Done
    ∷ answer.Wait
    ∷ answer.NewFd (record { 0 = 0 })
    ∷ answer.WaitCall 1
    ∷ answer.Entered 1 5 7 (1 ∷ 2 ∷ []) []
    ∷ answer.Wait
    ∷ answer.Results (9 ∷ []) [] false
    ∷ answer.Done
    ∷ answer.Done
    ∷ answer.EnteredNotice 1 5 7
    ∷ []
