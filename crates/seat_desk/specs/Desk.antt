-- What the one slot of the table holds: a kernel with the history of its calls.
use Rattle.std.specs.Prelude.{◌≡◌, List}
use Rattle.spec_kernel.specs.Words.{IsOpening, StandsFor, State}
use Rattle.spec_histories.specs.declared.entry.SeatEntry.{SeatEntry}
use Rattle.seat_desk.specs.History.{IsLegal, state_after}

-- the history is legal from the opening state, and the kernel stands for the state after it
pub record IsDesk (opening kernel : State) (history : List SeatEntry) : Type 0 where
  pub opens : IsOpening opening
  pub no_event : opening.events ≡ 0
  pub legal : IsLegal opening history
  pub stands : StandsFor kernel (state_after opening history)
