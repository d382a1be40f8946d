-- How many moments a timer's event counts.
use Rattle.std.specs.Prelude.{ℕ, Option, None, Some, find}
use Rattle.spec_records.specs.declared.port.Queued.{Queued}
use Rattle.spec_records.specs.Words.{Port, is_timer_event}

abbrev pub count_in : Option Queued → ℕ
count_in None = 0
count_in (Some q) = q.rec.events

-- of the event of a timer that is queued at a port; 0 where none is
abbrev pub timer_count : ℕ → Port → ℕ
timer_count timer x = count_in (find (is_timer_event timer) x.queue)
