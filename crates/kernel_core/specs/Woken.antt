-- Which threads can take a turn, and which an event wakes.
use Rattle.std.specs.Prelude.{ℕ, ◌≡◌, ◌+◌, ◌≤◌, ◌&&◌, length, List, Option, map, not}
use Rattle.dk_base.specs.declared.limits.TheConstants.{THREADS_MAX}
use Rattle.dk_base.specs.declared.number.Tid.{Tid}
use Rattle.spec_records.specs.Words.{numbers_where, tid}
use Rattle.dk_base.specs.declared.thread_set.ThreadSet.{ThreadSet}
use Rattle.dk_base.specs.Words.{has}
use Rattle.kernel_core.specs.declared.event.Parts.{Parts}
use Rattle.kernel_core.specs.declared.event.Taken.{Taken}
use Rattle.spec_kernel.specs.Types.{Request}
use Rattle.spec_kernel.specs.Words.{State, associations_in, forget, is_runnable, step, timers_in}
use Rattle.kernel_store.specs.Words.{HasBegun, HasRoomForNotices, HasRoomToTell, IsAgreed, IsRoomFor, can_turn, stored_state}
use Rattle.kernel_core.specs.Watched.{watched}

-- the threads that can take a turn
abbrev pub AreTurns : ThreadSet → State → Type 0
AreTurns set m = (t : ℕ) → has set t ≡ can_turn m t

-- those that could not take a turn and can, in order
abbrev pub turned_threads : State → State → List Tid
turned_threads before after = map tid (numbers_where (λ t. can_turn after t && not (can_turn before t)) (length after.process_table.threads))

-- a caller waits for the call that is its own, so it can take a turn exactly where the written kernel says so
abbrev pub HasTurns : State → Type 0
HasTurns m = (t : ℕ) → can_turn m t ≡ is_runnable m t

-- the same of what is kept after an event
abbrev pub HasTurnsAfter : State → ℕ → Option Request → Type 0
HasTurnsAfter m t q = HasTurns (forget (step m t q).state)

-- what was taken before an event suffices for what follows it
pub record IsReady (parts : Parts) (taken : Taken) : Type 0 where
  pub were : AreTurns taken.were (stored_state parts.store)
  pub few : length parts.store.processes.threads ≤ THREADS_MAX
  pub woken : IsRoomFor (length parts.store.processes.threads) parts.woken
  pub fallen : length (watched (stored_state parts.store)) ≤ parts.fallen.spare
  pub notices : HasRoomForNotices parts.store
  pub opened : HasBegun parts.store (stored_state parts.store)
  pub agreed : IsAgreed parts.store
  -- an act makes one association or timer at most
  pub rooms : HasRoomToTell parts.rooms (length (associations_in (stored_state parts.store)) + 1) (length (timers_in (stored_state parts.store)) + 1)

-- the same once its act is done
pub record IsReadyToSettle (parts : Parts) : Type 0 where
  pub few : length parts.store.processes.threads ≤ THREADS_MAX
  pub woken : IsRoomFor (length parts.store.processes.threads) parts.woken
