-- The timers that have a moment to come, each with the next one. What the code computes by divisions.
use Rattle.std.specs.Prelude.{ℕ, ◌+◌, ◌-◌, ◌*◌, ◌/◌, ◌==◌, ◌||◌, Bool, false, List, Option, None, Some, not, if◌then◌else◌, filter, map, nat_le, nat_lt, slice_get}
use Rattle.spec_records.specs.declared.timer.Arming.{Arming}
use Rattle.spec_records.specs.declared.timer.Due.{Due}
use Rattle.spec_records.specs.declared.timer.Timer.{Timer}
use Rattle.timer_src.specs.declared.pending.Pending.{Pending}

-- of the moments m, m + interval, .. the first that comes after a clock; m itself where the interval is 0
abbrev pub next_from : ℕ → ℕ → ℕ → ℕ
next_from m interval clock =
    if nat_lt clock m then m else (if interval == 0 then m else m + ((clock - m) / interval + 1) * interval)

-- how many of them do not come after a clock
abbrev pub ticks : ℕ → ℕ → ℕ → ℕ
ticks m interval clock =
    if nat_lt clock m then 0 else (if interval == 0 then 1 else (clock - m) / interval + 1)

abbrev pub has_next : ℕ → Option Arming → Bool
has_next clock None = false
has_next clock (Some a) = nat_lt clock (a.clock + a.first) || not (a.interval == 0)

abbrev pub next_moment : ℕ → Option Arming → ℕ
next_moment clock None = 0
next_moment clock (Some a) = next_from (a.clock + a.first) a.interval clock

abbrev pub interval_of : Option Arming → ℕ
interval_of None = 0
interval_of (Some a) = a.interval

abbrev pub is_pending : ℕ → Timer → Bool
is_pending clock t = has_next clock t.arming

abbrev pub pending_of : ℕ → Timer → Pending
pending_of clock t =
    record { number = t.number; process = t.process.0; id = t.id; port = t.port; user = t.user; next = next_moment clock t.arming; interval = interval_of t.arming }

abbrev pub pendings : ℕ → List Timer → List Pending
pendings clock ts = map (pending_of clock) (filter (is_pending clock) ts)

-- looks at them

abbrev pub pending_number : Pending → ℕ
pending_number p = p.number

abbrev pub is_below : ℕ → Pending → Bool
is_below n p = nat_lt p.number n

abbrev pub is_above : ℕ → Pending → Bool
is_above n p = nat_lt n p.number

abbrev pub is_numbered : ℕ → Option Pending → Bool
is_numbered n None = false
is_numbered n (Some p) = p.number == n

-- whether the one at a place has this number
abbrev pub is_at : ℕ → List Pending → ℕ → Bool
is_at n ps i = is_numbered n (slice_get ps i)

abbrev pub is_pending_of_other : ℕ → Pending → Bool
is_pending_of_other process p = not (p.process == process)

-- as the clock moves on

abbrev pub is_ready : ℕ → Pending → Bool
is_ready clock p = nat_le p.next clock

abbrev pub is_to_come : ℕ → Pending → Bool
is_to_come clock p = nat_lt clock p.next

abbrev pub due_pending : ℕ → Pending → Due
due_pending clock p =
    record { tag = record { port = p.port; number = p.number }; id = p.id; count = ticks p.next p.interval clock; user = p.user }

abbrev pub stepped : ℕ → Pending → Pending
stepped clock p = record p { next = next_from p.next p.interval clock }

abbrev pub told : ℕ → List Pending → List Due
told clock ps = map (due_pending clock) (filter (is_ready clock) ps)

abbrev pub stepped_all : ℕ → List Pending → List Pending
stepped_all clock ps = filter (is_to_come clock) (map (stepped clock) ps)

-- they, and how many fit without memory
pub record ArmedValue : Type 0 where
  pub items : List Pending
  pub capacity : ℕ
