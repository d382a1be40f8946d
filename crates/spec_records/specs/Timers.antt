-- Timers on a virtual clock (timer_create(3C), timer_settime(3C), timer_delete(3C)). Each has a number, and those that have not ended
-- stand in the order of their numbers. No number is used twice. A process has 32 at most, each under an id of its own from 0 to 31.
use Rattle.std.specs.Prelude.{ℕ, zero, suc, ◌+◌, ◌++◌, List, [], ◌∷◌, Option, Bool, ◌==◌, ◌&&◌, not, if◌then◌else◌, Some, None, Result, Ok, Err, count_by, filter, find, is_none, map, nat_le, ok_or, option_map}
use Rattle.dk_base.specs.declared.error.Errno.{Errno}
use Rattle.dk_base.specs.declared.error.Errno.TheVariants.{EAGAIN, EINVAL}
use Rattle.dk_base.specs.declared.error.Refusal.{Refusal}
use Rattle.dk_base.specs.declared.error.Refusal.TheVariants.{No}
use Rattle.dk_base.specs.declared.limits.TheConstants.{TIMERS_MAX}
use Rattle.spec_records.specs.declared.port.Queued.{Queued}
use Rattle.spec_records.specs.declared.timer.Arming.{Arming}
use Rattle.spec_records.specs.declared.timer.Due.{Due}
use Rattle.spec_records.specs.declared.timer.Tag.{Tag}
use Rattle.spec_records.specs.declared.timer.Timer.{Timer}
use Rattle.spec_records.specs.Lists.{change_first}
use Rattle.spec_records.specs.Moments.{due_count}
use Rattle.dk_base.specs.Numbers.{pid}
use Rattle.spec_records.specs.Ports.{Port, grow_timer, has_timer_event, port_of, post_event, timer_event, withdraw_timer}
use Rattle.spec_records.specs.Refusals.{Test, first_refusal, refused_where}

-- the clock, how many timers were made, and those that have not ended
pub record TimerList : Type 0 where
  pub clock : ℕ
  pub made : ℕ
  pub timers : List Timer

abbrev pub no_timers : TimerList
no_timers = record { clock = 0; made = 0; timers = [] }

-- look-ups

abbrev pub timer_number : Timer → ℕ
timer_number t = t.number

abbrev pub timer_id : Timer → ℕ
timer_id t = t.id

abbrev pub is_timer : ℕ → ℕ → Timer → Bool
is_timer process id t = (process == t.process.0) && (id == t.id)

abbrev pub is_other_timer : ℕ → ℕ → Timer → Bool
is_other_timer process id t = not (is_timer process id t)

-- the timer of a process with this id
abbrev pub timer_at : List Timer → ℕ → ℕ → Option Timer
timer_at ts process id = find (is_timer process id) ts

abbrev pub is_timer_of : ℕ → Timer → Bool
is_timer_of process t = t.process.0 == process

abbrev pub is_timer_of_other : ℕ → Timer → Bool
is_timer_of_other process t = not (is_timer_of process t)

abbrev pub timers_of : List Timer → ℕ → List Timer
timers_of ts process = filter (is_timer_of process) ts

abbrev pub tag_of : Timer → Tag
tag_of t = record { port = t.port; number = t.number }

abbrev pub tags_of : List Timer → List Tag
tags_of ts = map tag_of ts

-- timer_create(3C): EAGAIN for a process with 32 timers. The timer isn't armed, has the lowest id of its process that is free and a new
-- number, and stands last.

abbrev pub has_all_timers : List Timer → ℕ → Bool
has_all_timers ts process = nat_le TIMERS_MAX (count_by (is_timer_of process) ts)

abbrev pub create_timer_tests : List Timer → ℕ → List Test
create_timer_tests ts process = refused_where (has_all_timers ts process) EAGAIN ∷ []

abbrev pub create_timer_error : List Timer → ℕ → Option Errno
create_timer_error ts process = first_refusal (create_timer_tests ts process)

-- of n ids from this one on, the first that is free
abbrev pub free_id_from : ℕ → List Timer → ℕ → ℕ → ℕ
free_id_from zero ts process id = id
free_id_from (suc n) ts process id = if is_none (timer_at ts process id) then id else free_id_from n ts process (id + 1)

unfoldable pub free_id : List Timer → ℕ → ℕ
free_id ts process = free_id_from TIMERS_MAX ts process 0

abbrev pub new_timer : TimerList → ℕ → ℕ → ℕ → Timer
new_timer list process port user =
    record { process = pid process; id = free_id list.timers process; port = port; user = user; number = list.made + 1; arming = None }

abbrev pub create_timer : TimerList → ℕ → ℕ → ℕ → TimerList
create_timer list process port user =
    record list { made = list.made + 1; timers = list.timers ++ new_timer list process port user ∷ [] }

-- what it answers: the id, or the error
abbrev pub created_timer : Option Errno → ℕ → Result ℕ Refusal
created_timer None id = Ok id
created_timer (Some e) id = Err (No e)

abbrev pub create_timer_answer : List Timer → ℕ → Result ℕ Refusal
create_timer_answer ts process = created_timer (create_timer_error ts process) (free_id ts process)

-- timer_settime(3C): EINVAL where there is no such timer. An earlier arming ends. Where `first` is 0 the timer is left not armed.

abbrev pub timer_tests : List Timer → ℕ → ℕ → List Test
timer_tests ts process id = refused_where (is_none (timer_at ts process id)) EINVAL ∷ []

abbrev pub timer_error : List Timer → ℕ → ℕ → Option Errno
timer_error ts process id = first_refusal (timer_tests ts process id)

-- what it answers: the tag of the timer, or the error
abbrev pub tag_answer : List Timer → ℕ → ℕ → Result Tag Errno
tag_answer ts process id = ok_or (option_map tag_of (timer_at ts process id)) EINVAL

abbrev pub arming_at : ℕ → ℕ → ℕ → Option Arming
arming_at clock first interval = if first == 0 then None else Some (record { clock = clock; first = first; interval = interval })

abbrev pub with_arming : Option Arming → Timer → Timer
with_arming a t = record t { arming = a }

abbrev pub set_timer : TimerList → ℕ → ℕ → ℕ → ℕ → TimerList
set_timer list process id first interval =
    record list { timers = change_first (is_timer process id) (with_arming (arming_at list.clock first interval)) list.timers }

-- what it queued is withdrawn, where there is such a timer
abbrev pub without_queued : List Port → Option Timer → List Port
without_queued ports None = ports
without_queued ports (Some t) = withdraw_timer ports t.port t.number

-- timer_delete(3C): EINVAL where there is no such timer. It ends.
abbrev pub delete_timer : TimerList → ℕ → ℕ → TimerList
delete_timer list process id = record list { timers = filter (is_other_timer process id) list.timers }

-- the end of a process ends its timers
abbrev pub end_process_timers : TimerList → ℕ → TimerList
end_process_timers list process = record list { timers = filter (is_timer_of_other process) list.timers }

-- The same for all ways in which processes end: what is left is the timers of processes that live.

abbrev pub is_timer_of_live : (ℕ → Bool) → Timer → Bool
is_timer_of_live lives t = lives t.process.0

abbrev pub is_timer_of_ended : (ℕ → Bool) → Timer → Bool
is_timer_of_ended lives t = not (is_timer_of_live lives t)

abbrev pub timers_of_ended : (ℕ → Bool) → List Timer → List Timer
timers_of_ended lives ts = filter (is_timer_of_ended lives) ts

abbrev pub end_timers_of_ended : (ℕ → Bool) → TimerList → TimerList
end_timers_of_ended lives list = record list { timers = filter (is_timer_of_live lives) list.timers }

-- the events of those that end are withdrawn
abbrev pub withdraw_timers : List Port → List Timer → List Port
withdraw_timers ports [] = ports
withdraw_timers ports (t ∷ ts) = withdraw_timers (withdraw_timer ports t.port t.number) ts

-- The clock moves on. What is due then, in the order of the numbers: each timer with moments after the old clock and not after the new
-- one, and how many.

abbrev pub advance_clock : TimerList → ℕ → TimerList
advance_clock list by = record list { clock = list.clock + by }

abbrev pub is_due : ℕ → ℕ → Timer → Bool
is_due after until t = not (due_count after until t.arming == 0)

abbrev pub due_of : ℕ → ℕ → Timer → Due
due_of after until t = record { tag = tag_of t; id = t.id; count = due_count after until t.arming; user = t.user }

abbrev pub dues_of : ℕ → ℕ → List Timer → List Due
dues_of after until ts = map (due_of after until) (filter (is_due after until) ts)

abbrev pub dues : TimerList → ℕ → List Due
dues list by = dues_of list.clock (list.clock + by) list.timers

-- What is due is told to the port of its timer: the event of the timer that is queued counts so many more and keeps its place; where
-- none is queued, one is queued last.

abbrev pub due_event : Due → Queued
due_event d = timer_event d.tag.number d.id d.count d.user

abbrev pub tell_due : List Port → Due → List Port
tell_due ports d =
    if has_timer_event d.tag.number (port_of ports d.tag.port)
    then grow_timer ports d.tag.port d.tag.number d.count
    else post_event ports d.tag.port (due_event d)

-- all of it in order
abbrev pub tell_dues : List Port → List Due → List Port
tell_dues ports [] = ports
tell_dues ports (d ∷ ds) = tell_dues (tell_due ports d) ds
