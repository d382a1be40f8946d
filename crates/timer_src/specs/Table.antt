-- Timers as a map keeps them.
use Rattle.std.specs.Prelude.{◌≡◌, List, [], ◌∷◌, None, map}
use Rattle.spec_records.specs.Words.{pid, timer_at}
use Rattle.spec_records.specs.declared.timer.Timer.{Timer}
use Rattle.timer_src.specs.declared.key.Key.{Key}
use Rattle.timer_src.specs.declared.slot.Slot.{Slot}

-- a key with what is kept under it, as a timer
abbrev pub timer_of : Key → Slot → Timer
timer_of k s = record { process = pid k.process; id = k.id; port = s.port; user = s.user; number = s.number; arming = s.arming }

abbrev pub timer_in : Key × Slot → Timer
timer_in e = timer_of e.0 e.1

abbrev pub timers_in : List (Key × Slot) → List Timer
timers_in es = map timer_in es

-- no process has two timers with one id
abbrev pub HaveDistinctIds : List Timer → Type 0
HaveDistinctIds [] = Unit {0}
HaveDistinctIds (t ∷ ts) = (timer_at ts t.process.0 t.id ≡ None) × HaveDistinctIds ts
