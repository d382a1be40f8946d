-- The timers of a kernel, with the room for more.
use Rattle.std.specs.Prelude.{◌≡◌, ◌⊎◌, ℕ, ◌<◌, ◌≤◌, None, Result, Err, List, [], ◌∷◌, length}
use Rattle.dk_base.specs.declared.error.Refusal.{Refusal}
use Rattle.dk_base.specs.declared.error.Refusal.TheVariants.{Memory}
use Rattle.dk_base.specs.declared.limits.TheConstants.{CLOCK_LAST, TIMERS_MAX}
use Rattle.spec_records.specs.Words.{IsAscending, TimerList, create_timer_answer, create_timer_error, timer_number}
use Rattle.spec_records.specs.declared.timer.Timer.{Timer}
use Rattle.timer_src.specs.Pending.{ArmedValue, pendings}

-- the clock with the timers; and how many more take no memory
pub record TimersValue : Type 0 where
  pub list : TimerList
  pub spare : ℕ

-- that answer; where there is no error, want of memory may stand in its place
abbrev pub CreatesOrWants : Result ℕ Refusal → List Timer → ℕ → Type 0
CreatesOrWants result ts process = (result ≡ create_timer_answer ts process) ⊎ ((result ≡ Err Memory) × (create_timer_error ts process ≡ None))

-- each id is below this one
abbrev pub HaveIds : ℕ → List Timer → Type 0
HaveIds n [] = Unit {0}
HaveIds n (t ∷ ts) = (t.id < n) × HaveIds n ts

-- what the representation keeps: an early clock; numbers that go up; ids that a timer may have; those that have a moment to come, with
-- it; and room for all of them
abbrev pub AreKept : ℕ → ℕ → List Timer → ArmedValue → Type 0
AreKept clock made ts armed =
    (clock ≤ CLOCK_LAST)
    × IsAscending timer_number 0 made ts
    × HaveIds TIMERS_MAX ts
    × (armed.items ≡ pendings clock ts)
    × (length ts ≤ armed.capacity)
