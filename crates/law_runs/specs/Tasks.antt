-- Tasks: where one begins and which, and where it ends.
use Rattle.std.specs.Prelude.{ℕ, ◌≡◌, ◌+◌, ◌<◌, ◌≤◌, List, Bool, true, false, Some, None, length, slice_get}
use Rattle.spec_kernel.specs.Types.{ThreadState}
use Rattle.dk_base.specs.declared.request.Op.{Op}
use Rattle.dk_base.specs.declared.request.Request.TheVariants as request
use Rattle.dk_base.specs.declared.answer.Answer.TheVariants as answer
use Rattle.spec_records.specs.declared.record.ThreadState.TheVariants as is
use Rattle.spec_kernel.specs.Words.{State, Turn, state_at, state_of}
use Rattle.law_places.specs.Places.{answer_at, process_at}
use Rattle.law_runs.specs.Ends.{EndsProcess}

-- a thread that is at a task
abbrev pub is_at_task : ThreadState → Bool
is_at_task (is.Working op input) = true
is_at_task _ = false

-- what a thread does before and after the turn of place i, where it is at a task before it or after it
pub data TaskChange (m : State) (xs : List Turn) (i : ℕ) (x : Turn) (t : ℕ) : ThreadState → ThreadState → Type 0 where
  elsewhere : {s r : ThreadState} → is_at_task s ≡ false → is_at_task r ≡ false → TaskChange m xs i x t s r
  -- with the op and the input that it had
  stays : {s : ThreadState} → TaskChange m xs i x t s s
  -- by its own request, whose op and bytes it has, and which is told to wait
  begins :
      (op : Op) (input : List ℕ) → x.thread ≡ t → x.request ≡ Some (request.Work op input) → answer_at m xs i x ≡ answer.Wait →
      TaskChange m xs i x t is.Running (is.Working op input)
  -- by its own turn
  ends : (op : Op) (input : List ℕ) → x.thread ≡ t → x.request ≡ None → TaskChange m xs i x t (is.Working op input) is.Running
  -- with its process
  with_process :
      (op : Op) (input : List ℕ) → EndsProcess m xs i x (process_at m xs i t) → TaskChange m xs i x t (is.Working op input) is.Done

-- the task that the turn of place i begins, which is told to wait
pub record BeginsTask (m : State) (xs : List Turn) (i : ℕ) (x : Turn) (op : Op) (input : List ℕ) : Type 0 where
  pub waits : answer_at m xs i x ≡ answer.Wait
  pub is_at_it : state_of (state_at m xs (i + 1)) x.thread ≡ is.Working op input

-- At the turn of an earlier place thread t itself asked for this task, and it has been at it since.
pub record WasAsked (m : State) (xs : List Turn) (i t : ℕ) (op : Op) (input : List ℕ) : Type 0 where
  pub at : ℕ
  pub turn : Turn
  pub earlier : at < i
  pub found : slice_get xs at ≡ Some turn
  pub its_own : turn.thread ≡ t
  pub work : turn.request ≡ Some (request.Work op input)
  pub since : (j : ℕ) → at < j → j ≤ i → state_of (state_at m xs j) t ≡ is.Working op input

pub record Tasks (m : State) (xs : List Turn) : Type 0 where
  pub each :
      (i t : ℕ) (x : Turn) → slice_get xs i ≡ Some x → TaskChange m xs i x t (state_of (state_at m xs i) t) (state_of (state_at m xs (i + 1)) t)
  -- each request for a task begins it
  pub begun :
      (i : ℕ) (x : Turn) (op : Op) (input : List ℕ) → slice_get xs i ≡ Some x → x.request ≡ Some (request.Work op input) →
      BeginsTask m xs i x op input
  -- each turn of a thread that is at a task ends it
  pub ended :
      (i : ℕ) (x : Turn) (op : Op) (input : List ℕ) → slice_get xs i ≡ Some x →
      state_of (state_at m xs i) x.thread ≡ is.Working op input →
      (x.request ≡ None) × (state_of (state_at m xs (i + 1)) x.thread ≡ is.Running)
  -- so a thread is at the task for which it asked last
  pub asked :
      (i t : ℕ) (op : Op) (input : List ℕ) → i ≤ length xs → state_of (state_at m xs i) t ≡ is.Working op input →
      WasAsked m xs i t op input
