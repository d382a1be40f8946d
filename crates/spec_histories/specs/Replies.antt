-- What a kernel replies to a call of a seat, and the state after it.
use Rattle.std.specs.Prelude.{ℕ, ◌≡◌, ◌&&◌, Bool, true, false, not, if◌then◌else◌, Option, Some, None}
use Rattle.dk_base.specs.declared.request.Request.TheVariants as request
use Rattle.spec_kernel.specs.Types.{Request}
use Rattle.spec_kernel.specs.Words.{IsFit, State, is_runnable, is_running, state_of, step}
use Rattle.spec_histories.specs.declared.call.SeatAct.{SeatAct}
use Rattle.spec_histories.specs.declared.call.SeatAct.TheVariants.{Enter, GoOn}
use Rattle.spec_histories.specs.declared.call.SeatReply.{SeatReply}
use Rattle.spec_histories.specs.declared.call.SeatReply.TheVariants.{Answer, NotReady, NotRunning}

-- what a call asks of the kernel: a request, or the end of a wait
abbrev pub request_of : SeatAct → Option Request
request_of (Enter r) = Some r
request_of GoOn = None

-- a request that a seat may enter: no task, no line of a name service cache, and no move of the clock
abbrev pub is_allowed : Request → Bool
is_allowed (request.Work op bytes) = false
is_allowed (request.Ncd line) = false
is_allowed (request.Advance by) = false
is_allowed _ = true

-- a call that thread t may make in a state
abbrev pub IsFitAct : State → ℕ → SeatAct → Type 0
IsFitAct m t (Enter r) = IsFit m t r × (is_allowed r ≡ true)
IsFitAct m t GoOn = Unit {0}

-- the kernel answers the request of a thread that runs, and the end of a wait that can end
abbrev pub is_answered : State → ℕ → SeatAct → Bool
is_answered m t (Enter r) = is_running m t
is_answered m t GoOn = is_runnable m t && not (is_running m t)

-- what it does not answer is refused
abbrev pub refusal : State → ℕ → SeatAct → SeatReply
refusal m t (Enter r) = NotRunning (state_of m t)
refusal m t GoOn = NotReady

-- the answer of the step, or the refusal
abbrev pub reply_of : State → ℕ → SeatAct → SeatReply
reply_of m t a = if is_answered m t a then Answer (step m t (request_of a)).answer else refusal m t a

-- the state after a call: that of the step; a refusal changes nothing
abbrev pub state_by : State → ℕ → SeatAct → State
state_by m t a = if is_answered m t a then (step m t (request_of a)).state else m
