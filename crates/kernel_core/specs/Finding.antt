-- What getting at a port needs, and sending to several: the room for what is found, and for what is sent.
use Rattle.std.specs.Prelude.{ℕ, ◌≡◌, Bool, true, List, All}
use Rattle.spec_kernel.specs.Types.{Fd}
use Rattle.spec_kernel.specs.Words.{State, can_end_getting, port_at}
use Rattle.law_states.specs.Coherent.{is_fit_wait}
use Rattle.kernel_store.specs.Words.{HasRoomForEvents, IsRoomFor, StoreValue, stored_state}
use Rattle.kernel_core.specs.declared.acts.Ending.{Ending}
use Rattle.kernel_core.specs.declared.acts.Ending.TheVariants as ending
use Rattle.kernel_core.specs.declared.ports.Found.{Found}

-- so many events can be told
pub record HasRoomToFind (n : ℕ) (found : Found) : Type 0 where
  pub records : IsRoomFor n found.records
  pub numbers : IsRoomFor n found.numbers

-- a wait at a port for some number of events can end
pub record CanEndGetting (m : State) (q max : ℕ) (one interrupted : Bool) : Type 0 where
  pub nget : ℕ
  pub fit : is_fit_wait max nget one ≡ true
  pub can_end : can_end_getting m q nget interrupted ≡ true

-- the end of a wait can be
abbrev pub CanEndAs : State → Ending → Type 0
CanEndAs m (ending.Got q max one interrupted) = CanEndGetting m q max one interrupted
CanEndAs m e = Unit {0}

-- so many events can be sent to what each of these descriptors names
abbrev pub CanSendEach : StoreValue → ℕ → List Fd → ℕ → Type 0
CanSendEach store p fds n = All (λ fd. HasRoomForEvents store (port_at (stored_state store) p fd) n) fds
