-- Waits at ports: where one begins and how, where it is marked as interrupted, and where it ends.
use Rattle.std.specs.Prelude.{ℕ, ◌≡◌, ◌+◌, ◌<◌, ◌≤◌, ◌↔◌, List, Bool, true, false, Some, None, length, slice_get}
use Rattle.spec_kernel.specs.Types.{Fd, ThreadState}
use Rattle.dk_base.specs.declared.error.Errno.TheVariants.{EINTR}
use Rattle.dk_base.specs.declared.object.Obj.TheVariants as obj
use Rattle.dk_base.specs.declared.request.Request.TheVariants as request
use Rattle.dk_base.specs.declared.answer.Answer.TheVariants as answer
use Rattle.spec_records.specs.declared.record.ThreadState.TheVariants as is
use Rattle.spec_records.specs.Words.{Port, tid}
use Rattle.spec_kernel.specs.Words.{State, Turn, state_at, state_of}
use Rattle.law_places.specs.Places.{answer_at, process_at}
use Rattle.law_runs.specs.Channels.{Names, is_at_port, port_under}
use Rattle.law_runs.specs.Ends.{EndsProcess}

-- The turn of place i begins a wait at port q for so many events, of which at most so many are taken: it is a port_get(3C) or a
-- port_getn(3C) that may wait, and is told to.
pub data AsksToWait (m : State) (xs : List Turn) (i : ℕ) (x : Turn) (q : ℕ) : ℕ → ℕ → Bool → Type 0 where
  by_get : (fd : Fd) → x.request ≡ Some (request.Get fd true) → Names m xs i x fd (obj.Port q) → AsksToWait m xs i x q 1 1 true
  by_getn :
      (fd : Fd) (max nget : ℕ) → x.request ≡ Some (request.GetN fd max nget true) → Names m xs i x fd (obj.Port q) →
      AsksToWait m xs i x q max nget false

-- before it the port has no alert and too few events
pub record HasTooFew (m : State) (q nget : ℕ) : Type 0 where
  pub port : Port
  pub there : port_under m q ≡ Some port
  pub no_alert : port.alert ≡ None
  pub too_few : length port.queue < nget

-- what a thread does before and after the turn of place i, where it waits at a port before it or after it
pub data WaitChange (m : State) (xs : List Turn) (i : ℕ) (x : Turn) (t : ℕ) : ThreadState → ThreadState → Type 0 where
  elsewhere : {s r : ThreadState} → is_at_port s ≡ false → is_at_port r ≡ false → WaitChange m xs i x t s r
  stays : {s : ThreadState} → WaitChange m xs i x t s s
  -- by its own turn, that is told to wait
  begins :
      (q max nget : ℕ) (one : Bool) → x.thread ≡ t → AsksToWait m xs i x q max nget one → answer_at m xs i x ≡ answer.Wait →
      HasTooFew (state_at m xs i) q nget → WaitChange m xs i x t is.Running (is.Getting q max nget one false)
  -- by an interrupt of it, which is another thread's
  interrupted :
      (q max nget : ℕ) (one already : Bool) → x.request ≡ Some (request.Interrupt (tid t)) → (x.thread ≡ t → ⊥) →
      WaitChange m xs i x t (is.Getting q max nget one already) (is.Getting q max nget one true)
  -- by its own turn
  ends :
      (q max nget : ℕ) (one marked : Bool) → x.thread ≡ t → x.request ≡ None →
      WaitChange m xs i x t (is.Getting q max nget one marked) is.Running
  -- with its process
  with_process :
      (q max nget : ℕ) (one marked : Bool) → EndsProcess m xs i x (process_at m xs i t) →
      WaitChange m xs i x t (is.Getting q max nget one marked) is.Done

-- The wait that a get through this descriptor begins: at the port that it names, which has no alert and fewer events than are asked for.
-- After it the thread waits there, not interrupted.
pub record BeginsWait (m : State) (xs : List Turn) (i : ℕ) (x : Turn) (fd : Fd) (max nget : ℕ) (one : Bool) : Type 0 where
  pub number : ℕ
  pub names : Names m xs i x fd (obj.Port number)
  pub too_few : HasTooFew (state_at m xs i) number nget
  pub waits : state_of (state_at m xs (i + 1)) x.thread ≡ is.Getting number max nget one false

-- At the turn of an earlier place thread t, which waited so at port q, was interrupted, and has been in that wait since.
pub record WasInterrupted (m : State) (xs : List Turn) (i t q max nget : ℕ) (one : Bool) : Type 0 where
  pub at : ℕ
  pub turn : Turn
  pub earlier : at < i
  pub found : slice_get xs at ≡ Some turn
  pub interrupt : turn.request ≡ Some (request.Interrupt (tid t))
  pub already : Bool
  pub waited : state_of (state_at m xs at) t ≡ is.Getting q max nget one already
  pub since : (j : ℕ) → at < j → j ≤ i → state_of (state_at m xs j) t ≡ is.Getting q max nget one true

pub record PortWaits (m : State) (xs : List Turn) : Type 0 where
  pub each :
      (i t : ℕ) (x : Turn) → slice_get xs i ≡ Some x → WaitChange m xs i x t (state_of (state_at m xs i) t) (state_of (state_at m xs (i + 1)) t)
  -- a get that is told to wait does
  pub get_waits :
      (i : ℕ) (x : Turn) (fd : Fd) (wait : Bool) → slice_get xs i ≡ Some x → x.request ≡ Some (request.Get fd wait) →
      answer_at m xs i x ≡ answer.Wait → BeginsWait m xs i x fd 1 1 true
  pub getn_waits :
      (i : ℕ) (x : Turn) (fd : Fd) (max nget : ℕ) (wait : Bool) → slice_get xs i ≡ Some x → x.request ≡ Some (request.GetN fd max nget wait) →
      answer_at m xs i x ≡ answer.Wait → BeginsWait m xs i x fd max nget false
  -- an interrupt marks the wait of a thread
  pub marks :
      (i t q max nget : ℕ) (one already : Bool) (x : Turn) → slice_get xs i ≡ Some x → x.request ≡ Some (request.Interrupt (tid t)) →
      state_of (state_at m xs i) t ≡ is.Getting q max nget one already → state_of (state_at m xs (i + 1)) t ≡ is.Getting q max nget one true
  -- and a wait that is marked was interrupted
  pub marked :
      (i t q max nget : ℕ) (one : Bool) → i ≤ length xs → state_of (state_at m xs i) t ≡ is.Getting q max nget one true →
      WasInterrupted m xs i t q max nget one
  -- so the end of a wait answers EINTR exactly where the thread was interrupted in that wait
  pub told :
      (i q max nget : ℕ) (one already : Bool) (x : Turn) → slice_get xs i ≡ Some x → x.request ≡ None →
      state_of (state_at m xs i) x.thread ≡ is.Getting q max nget one already →
      (answer_at m xs i x ≡ answer.Failure EINTR) ↔ WasInterrupted m xs i x.thread q max nget one
