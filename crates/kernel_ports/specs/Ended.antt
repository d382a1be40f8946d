-- What associations and timers that end leave.
use Rattle.std.specs.Prelude.{ℕ, ◌≤◌, List, [], ◌∷◌}
use Rattle.spec_records.specs.declared.timer.Tag.{Tag}
use Rattle.spec_records.specs.Words.{Port, withdraw_event, withdraw_timer}
use Rattle.kernel_ports.specs.declared.ending.Ending.{Ending}

-- so many associations and so many timers of a process can end without memory
pub record HasRoomToEnd (ending : Ending) (n : ℕ) (m : ℕ) : Type 0 where
  pub ports : n ≤ ending.ports.spare
  pub ids : n ≤ ending.ids.spare
  pub tags : m ≤ ending.tags.spare

-- what the association of each of these numbers queued at the port beside it is withdrawn
abbrev pub withdraw_each : List Port → List ℕ → List ℕ → List Port
withdraw_each ports [] ns = ports
withdraw_each ports (q ∷ qs) [] = ports
withdraw_each ports (q ∷ qs) (n ∷ ns) = withdraw_each (withdraw_event ports q n) qs ns

-- what the timer of each of these tags queued is withdrawn
abbrev pub withdraw_tags : List Port → List Tag → List Port
withdraw_tags ports [] = ports
withdraw_tags ports (g ∷ gs) = withdraw_tags (withdraw_timer ports g.port g.number) gs
