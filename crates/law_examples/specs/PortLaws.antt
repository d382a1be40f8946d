-- A run in which several descriptors are sent to at once, and turns of the runs with pipes and ports.
use Rattle.std.specs.Prelude.{ℕ, List, [], ◌∷◌, Option, false, Some, None, slice_get, unwrap_or}
use Rattle.dk_base.specs.declared.error.Errno.TheVariants.{EBADF, EBADFD}
use Rattle.dk_base.specs.declared.object.Src.TheVariants as source
use Rattle.dk_base.specs.declared.request.Request.TheVariants as request
use Rattle.dk_base.specs.declared.answer.Answer.TheVariants as answer
use Rattle.spec_kernel.specs.Types.{Answer, Errno, EventRec, Fd}
use Rattle.spec_kernel.specs.Words.{State, Turn, opening, with_new_thread}

-- the turn of a place
abbrev pub turn_of : List Turn → ℕ → Turn
turn_of xs i = unwrap_or (slice_get xs i) (record { thread = 0; request = None })

abbrev pub fd : ℕ → Fd
fd n = record { 0 = n }

-- an event that was sent, as it is told
abbrev pub sent : ℕ → ℕ → EventRec
sent events user = record { source = source.User; object = 0; events = events; user = user }

-- a port that is sent to twice at once, between a descriptor that is not open and an end of a pipe

abbrev pub several_start : State
several_start = with_new_thread (opening (256 ∷ [])) 1 false

abbrev pub several : List Fd
several = fd 0 ∷ fd 7 ∷ fd 1 ∷ fd 0 ∷ []

abbrev pub several_turns : List Turn
several_turns =
    record { thread = 1; request = Some request.PortCreate }
    ∷ record { thread = 1; request = Some request.Pipe }
    ∷ record { thread = 1; request = Some (request.SendN several 2 3) }
    ∷ record { thread = 1; request = Some (request.GetN (fd 0) 4 1 false) }
    ∷ record { thread = 1; request = Some request.Exit }
    ∷ []

abbrev pub several_errors : List (Option Errno)
several_errors = None ∷ Some EBADF ∷ Some EBADFD ∷ None ∷ []

abbrev pub several_answers : List Answer
several_answers =
    answer.NewFd (fd 0)
    ∷ answer.TwoFds (fd 1) (fd 2)
    ∷ answer.Errors several_errors
    ∷ answer.Events (sent 2 3 ∷ sent 2 3 ∷ [])
    ∷ answer.Done
    ∷ []
