-- What a look under the lock finds, takes and leaves.
use Rattle.std.specs.Prelude.{ℕ, ◌≡◌, ◌+◌, Bool, true, false, List, [], ◌∷◌, ◌++◌, Option, Some, None, find}
use Rattle.std.specs.List.{list_any}
use Rattle.spec_kernel.specs.Types.{Tid}
use Rattle.spec_kernel.specs.Words.{State, is_runnable}
use Rattle.spec_scripts.specs.Words.{is_over}
use Rattle.sys_run.specs.Sys.{SysValue, WorksOn, history, is_working, state_of_run, threads_woken_by, with_turn}
use Rattle.work_ops.specs.Words.{TaskValue}
use Rattle.sys_run.specs.declared.asked.SharedRun.{Ghosts}
use Rattle.kernel_lock.specs.Ends.{first_runnable_of, has_ended, is_member}
use Rattle.kernel_lock.specs.declared.running.looks.Idle.{Idle}
use Rattle.kernel_lock.specs.declared.turns.HandedIn.{HandedIn}
use Rattle.kernel_lock.specs.declared.turns.HandedIn.TheVariants as handed
use Rattle.kernel_lock.specs.declared.turns.Next.{Next}
use Rattle.kernel_lock.specs.declared.turns.Next.TheVariants as next
use Rattle.kernel_lock.specs.declared.turns.ToNotify.{ToNotify}
use Rattle.kernel_lock.specs.declared.turns.Turn.{Turn}
use Rattle.kernel_lock.specs.declared.turns.Turn.TheVariants as turn

-- what lies under the lock, with the turns of one driver
pub record UnderLock : Type 0 where
  pub sys : SysValue
  pub stopped : Bool
  pub refused : List Tid
  pub turns : ℕ

abbrev pub held : SysValue → Bool → List Tid → ℕ → UnderLock
held sys stopped refused turns = record { sys = sys; stopped = stopped; refused = refused; turns = turns }

-- whether one of the woken threads is one of these
abbrev pub is_any_of : List Tid → List Tid → Bool
is_any_of threads woken = list_any (λ (t : Tid). is_member threads t.0) woken

-- want of memory takes no turn, and stops the run
abbrev pub stopped_by : UnderLock → UnderLock
stopped_by h = held h.sys true h.refused h.turns

-- one turn was taken, and booked
abbrev pub after_turn : UnderLock → ℕ → UnderLock
after_turn h t = held (with_turn h.sys t) h.stopped h.refused (h.turns + 1)

-- whom to notify: exactly the threads that the turn made runnable, and all at the end
pub record IsToNotify (old new : UnderLock) (t : ℕ) (whom : ToNotify) : Type 0 where
  pub woken : whom.woken ≡ threads_woken_by old.sys t
  pub calling : whom.calling ≡ is_any_of old.refused whom.woken
  pub over : whom.over ≡ is_over new.sys.script (history new.sys)

-- one turn of the thread, which is one event, while the run goes on
pub record IsOneTurn (old new : UnderLock) (t : ℕ) (whom : ToNotify) : Type 0 where
  pub goes_on : has_ended old.sys old.stopped ≡ false
  pub after : new ≡ after_turn old t
  pub told : IsToNotify old new t whom

-- a step of a runnable thread that is at no task, so none is computed under the lock
pub record IsTaken (old new : UnderLock) (t : ℕ) (whom : ToNotify) : Type 0 where
  pub may : is_runnable (state_of_run old.sys) t ≡ true
  pub no_task : is_working (state_of_run old.sys) t ≡ false
  pub turn : IsOneTurn old new t whom

-- the thread's task was lent, to be computed without the lock
pub record IsLent (old new : UnderLock) (t : ℕ) (task : TaskValue) : Type 0 where
  pub works : WorksOn old.sys t task
  pub goes_on : has_ended old.sys old.stopped ≡ false
  pub same : new ≡ old

-- a driver waits only while its thread is not runnable and the run goes on, which the look shows
pub record IsWait {S : Type 0} {G : Ghosts S} (old new : UnderLock) (t : ℕ) (look : Idle S G) : Type 0 where
  pub run : G.run look.run.value ≡ old.sys
  pub thread : look.thread.0 ≡ t
  pub not_runnable : is_runnable (state_of_run old.sys) t ≡ false
  pub goes_on : has_ended old.sys old.stopped ≡ false
  pub same : new ≡ old

pub record IsEnd (old new : UnderLock) : Type 0 where
  pub ended : has_ended old.sys old.stopped ≡ true
  pub same : new ≡ old

abbrev pub IsTurn : {S : Type 0} {G : Ghosts S} → UnderLock → UnderLock → ℕ → Turn S G → Type 0
IsTurn old new t (turn.Taken whom) = IsTaken old new t whom
IsTurn old new t (turn.Works task) = IsLent old new t task
IsTurn old new t (turn.Waits look) = IsWait old new t look
IsTurn old new t turn.Ended = IsEnd old new

-- the end of the thread's task, which is the one that was done
pub record IsTaskEnd (old new : UnderLock) (t : ℕ) (done : TaskValue) (whom : ToNotify) : Type 0 where
  pub works : WorksOn old.sys t done
  pub turn : IsOneTurn old new t whom

-- what was done is dropped only where the thread is not at this task and the run goes on
pub record IsDropped (old new : UnderLock) (t : ℕ) (done : TaskValue) : Type 0 where
  pub not_at_it : WorksOn old.sys t done → ⊥
  pub goes_on : has_ended old.sys old.stopped ≡ false
  pub same : new ≡ old

abbrev pub IsHandedIn : UnderLock → UnderLock → ℕ → TaskValue → HandedIn → Type 0
IsHandedIn old new t done (handed.Taken whom) = IsTaskEnd old new t done whom
IsHandedIn old new t done handed.Dropped = IsDropped old new t done
IsHandedIn old new t done handed.Ended = IsEnd old new

-- the calling thread waits only while none of its threads is runnable and the run goes on
pub record IsNextOf (h : UnderLock) (first : Option Tid) : Type 0 where
  pub goes_on : has_ended h.sys h.stopped ≡ false
  pub first_is : first_runnable_of (state_of_run h.sys) h.refused ≡ first

abbrev pub IsNext : {S : Type 0} {G : Ghosts S} → UnderLock → Next S G → Type 0
IsNext {S} {G} h (next.Runnable t look) = IsNextOf h (Some t) × (G.run look.run.value ≡ h.sys)
IsNext {S} {G} h (next.Waits look) = IsNextOf h None × (G.run look.run.value ≡ h.sys) × (look.marks.value.items ≡ h.refused)
IsNext {S} {G} h (next.Ended look) = (has_ended h.sys h.stopped ≡ true) × (G.run look.run.value ≡ h.sys) × (look.stopped ≡ h.stopped)

-- the start of this thread is marked as refused
abbrev pub with_refused : UnderLock → Tid → UnderLock
with_refused h t = held h.sys h.stopped (h.refused ++ t ∷ []) h.turns
