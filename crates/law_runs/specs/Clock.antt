-- Timers by their numbers, and by process and id; the clock; and the moments of an arming, counted. The step's own readers and counts
-- are not used.
use Rattle.std.specs.Prelude.{ℕ, zero, suc, ◌+◌, ◌-◌, ◌*◌, ◌==◌, ◌&&◌, ◌||◌, List, [], ◌∷◌, Option, Bool, if◌then◌else◌, not, Some, None, nat_le}
use Rattle.spec_records.specs.declared.timer.Arming.{Arming}
use Rattle.spec_records.specs.declared.timer.Timer.{Timer}
use Rattle.spec_kernel.specs.Words.{State, timers_in}

-- the clock, and how many timers were made

abbrev pub clock_at : State → ℕ
clock_at m = m.channels.timers.clock

abbrev pub timers_made : State → ℕ
timers_made m = m.channels.timers.made

-- the timer of a number, if it stands

abbrev pub numbered : ℕ → List Timer → Option Timer
numbered n [] = None
numbered n (t ∷ ts) = if t.number == n then Some t else numbered n ts

abbrev pub timer_under : State → ℕ → Option Timer
timer_under m n = numbered n (timers_in m)

-- the timer of process p with this id

abbrev pub identified : ℕ → ℕ → List Timer → Option Timer
identified p id [] = None
identified p id (t ∷ ts) = if (t.process.0 == p) && (t.id == id) then Some t else identified p id ts

abbrev pub timer_with : State → ℕ → ℕ → Option Timer
timer_with m p id = identified p id (timers_in m)

-- how many timers process p has

abbrev pub count_timers : ℕ → List Timer → ℕ
count_timers p [] = 0
count_timers p (t ∷ ts) = if t.process.0 == p then 1 + count_timers p ts else count_timers p ts

abbrev pub timers_left : State → ℕ → ℕ
timers_left m p = count_timers p (timers_in m)

-- The moments of an arming: `first` after the clock at which it began, and from then on each `interval`; the first alone where `interval`
-- is 0. Moment k is the one that k others come before.

abbrev pub moment : Arming → ℕ → ℕ
moment a k = a.clock + a.first + k * a.interval

abbrev pub has_moment : Arming → ℕ → Bool
has_moment a k = (k == 0) || not (a.interval == 0)

-- how many of its moments 0 to n - 1 are not above a clock
abbrev pub count_moments : Arming → ℕ → ℕ → ℕ
count_moments a clock zero = 0
count_moments a clock (suc k) = count_moments a clock k + (if has_moment a k && nat_le (moment a k) clock then 1 else 0)

-- How many of its moments are not above a clock. Since `first` isn't 0, moment k is above k, so that those from the clock's number on
-- are above the clock.
abbrev pub moments_by : Arming → ℕ → ℕ
moments_by a clock = count_moments a clock clock

-- how many moments of a timer came as the clock moved on between two states

abbrev pub came_of : Option Arming → ℕ → ℕ → ℕ
came_of None before after = 0
came_of (Some a) before after = moments_by a after - moments_by a before

abbrev pub came : State → State → Timer → ℕ
came before after t = came_of t.arming (clock_at before) (clock_at after)

-- a timer that is armed at this clock, unless `first` is 0
abbrev pub set_arming : ℕ → ℕ → ℕ → Option Arming
set_arming clock zero interval = None
set_arming clock (suc n) interval = Some (record { clock = clock; first = suc n; interval = interval })
