-- What the map finds timers by.
use Rattle.std.specs.Prelude.{◌==◌, ℕ, Bool, not}
use Rattle.timer_src.specs.declared.key.Key.{Key}
use Rattle.timer_src.specs.contracts.key.KeyPartialEq.TheImpl as key_eq

abbrev pub key_at : ℕ → ℕ → Key
key_at process id = record { process = process; id = id }

abbrev pub same_key : Key → Key → Bool
same_key = (key_eq.ghosts).eq

abbrev pub is_key_of_other_process : ℕ → Key → Bool
is_key_of_other_process process k = not (k.process == process)
