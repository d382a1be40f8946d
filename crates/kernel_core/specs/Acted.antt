-- What an event needs of the parts of a kernel, and what it has done once its act is done.
use Rattle.std.specs.Prelude.{ℕ, ◌≡◌, ◌<◌, Option, false}
use Rattle.law_channels.specs.Changed.{OnlyLiveHaveRows, UnbornHaveNoRows}
use Rattle.law_channels.specs.Closed.{closed_rows}
use Rattle.dk_base.specs.declared.limits.TheConstants.{EVENTS_MAX}
use Rattle.spec_kernel.specs.Types.{Answer, Request}
use Rattle.spec_kernel.specs.Words.{StandsFor, State, act, forget, give, has_first_common_door, has_lost_door, state_of}
use Rattle.law_states.specs.Coherent.{is_unfit}
use Rattle.law_states.specs.Told.{AreTold}
use Rattle.law_pools.specs.Words.{is_this}
use Rattle.kernel_store.specs.Words.{AreHeld, ArePlaced, IsAtRest, KeepsForNotices, ReadiesAtMost, WaitAtValidDoors, closing_of, stored_state}
use Rattle.kernel_core.specs.declared.event.Parts.{Parts}
use Rattle.kernel_core.specs.declared.event.Taken.{Taken}
use Rattle.kernel_core.specs.Kept.{HasNothingPast}
use Rattle.kernel_core.specs.Numbers.{HasNumbersLeft}
use Rattle.kernel_core.specs.Watched.{IsReadyForNotices}
use Rattle.kernel_core.specs.Woken.{HasTurns, HasTurnsAfter, IsReady}

-- what holds of the parts of a kernel between two events
abbrev pub IsBetweenEvents : Parts → Type 0
IsBetweenEvents parts = IsAtRest parts.store.events parts.store

-- and there can be another one
pub record CanStep (parts : Parts) : Type 0 where
  pub numbers : HasNumbersLeft (stored_state parts.store)
  pub told : AreTold (stored_state parts.store)
  pub unborn : UnbornHaveNoRows (stored_state parts.store)
  pub live : OnlyLiveHaveRows (stored_state parts.store)
  pub none_past : HasNothingPast (stored_state parts.store)
  pub placed : ArePlaced (stored_state parts.store)
  pub waiting : WaitAtValidDoors (stored_state parts.store)
  pub held : AreHeld (stored_state parts.store)
  pub none_lost : (t : ℕ) → has_lost_door (stored_state parts.store) t ≡ false
  pub fit : (t : ℕ) → is_unfit (state_of (stored_state parts.store) t) ≡ false
  pub between : IsBetweenEvents parts
  pub turns : HasTurns (stored_state parts.store)

-- notices can be made after the act of a turn
abbrev pub CanNoticeAfter : State → ℕ → Option Request → Type 0
CanNoticeAfter m t q = IsReadyForNotices m (forget (act m t q).state)

-- `start` is what was there before an event, `before` the same with the memory of the event, and `after` what its act left
pub record HasActed (start : Parts) (t : ℕ) (q : Option Request) (before after : Parts) (taken : Taken) (first : Option ℕ) (answer : Answer) : Type 0 where
  pub few : start.store.events < EVENTS_MAX
  pub none_past : HasNothingPast (stored_state start.store)
  pub turns : HasTurns (stored_state start.store)
  pub noticing : CanNoticeAfter (stored_state start.store) t q
  pub turning : HasTurnsAfter (stored_state start.store) t q
  pub same : stored_state before.store ≡ stored_state start.store
  pub ready : IsReady before taken
  pub acted : StandsFor (stored_state after.store) (act (stored_state start.store) t q).state
  pub answered : answer ≡ (act (stored_state start.store) t q).answer
  pub first_common : (p : ℕ) → has_first_common_door (stored_state start.store) (give (stored_state after.store)) p ≡ is_this p first
  pub keeps : KeepsForNotices before.store after.store
  -- what is told of its request: the rows that it closes, and the pipe of what it readies
  pub told : AreTold (stored_state start.store)
  pub unborn : UnbornHaveNoRows (stored_state start.store)
  pub live : OnlyLiveHaveRows (stored_state start.store)
  pub rows : closing_of taken.closed ≡ closed_rows (stored_state start.store) t q
  pub readied : ReadiesAtMost (stored_state start.store) t q taken.pipe
  pub fallen : after.fallen ≡ before.fallen
  pub woken : after.woken ≡ before.woken
  pub rooms : after.rooms ≡ before.rooms
