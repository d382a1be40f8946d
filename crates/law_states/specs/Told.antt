-- What holds of associations and of timers between two events: the descriptor of each association names its object, and one that is armed
-- waits; and the process of each timer lives.
use Rattle.std.specs.Prelude.{◌≡◌, true, false, All}
use Rattle.spec_records.specs.Words.{is_to_fire, names_its_object}
use Rattle.spec_kernel.specs.Words.{State, associations_in, is_live_process, ready_at, timers_in}

pub record AreTold (m : State) : Type 0 where
  -- its row is open and names its object
  pub rows : All (λ a. names_its_object m.tables a ≡ true) (associations_in m)
  -- the object of one that is armed is ready for none of its events, nor for err or hup
  pub wait : All (λ a. is_to_fire (ready_at m) a ≡ false) (associations_in m)
  pub timers : All (λ t. is_live_process m t.process.0 ≡ true) (timers_in m)
