-- Waits: after an event its thread waits, that is it neither runs nor has ended, exactly where the event's answer says so.
use Rattle.std.specs.Prelude.{ℕ, ◌≡◌, ◌+◌, List, Bool, true, false, Some, slice_get}
use Rattle.spec_kernel.specs.Types.{Answer, ThreadState}
use Rattle.dk_base.specs.declared.answer.Answer.TheVariants as answer
use Rattle.spec_records.specs.declared.record.ThreadState.TheVariants as is
use Rattle.spec_kernel.specs.Words.{State, Turn, state_at, state_of}
use Rattle.law_places.specs.Places.{answer_at}

-- the answers of an entry that waits, of a Call, and of an accept that failed, after which the thread is parked again
abbrev pub says_wait : Answer → Bool
says_wait answer.Wait = true
says_wait (answer.WaitCall c) = true
says_wait (answer.EnterFailed c) = true
says_wait _ = false

-- neither Running nor Done: Dormant too, which no thread is after its own event
abbrev pub is_stopped : ThreadState → Bool
is_stopped is.Running = false
is_stopped is.Done = false
is_stopped _ = true

abbrev pub WaitsWhereToldSo : State → List Turn → Type 0
WaitsWhereToldSo m xs =
    (i : ℕ) (x : Turn) → slice_get xs i ≡ Some x →
    is_stopped (state_of (state_at m xs (i + 1)) x.thread) ≡ says_wait (answer_at m xs i x)
