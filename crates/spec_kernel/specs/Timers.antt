-- The acts of timers on a virtual clock: timer_create(3C), timer_settime(3C), timer_delete(3C), and the clock, which moves on by an act
-- alone. A timer tells a port: its event counts the moments that the clock has reached since it was armed and that were not taken.
use Rattle.std.specs.Prelude.{ℕ, ◌++◌, List, [], Option}
use Rattle.spec_kernel.specs.Types.{Fd, Request}
use Rattle.dk_base.specs.declared.request.Request.TheVariants as request
use Rattle.dk_base.specs.declared.answer.Answer.TheVariants as answer
use Rattle.spec_records.specs.declared.timer.Timer.{Timer}
use Rattle.spec_records.specs.Words.{Port, Test, TimerList, advance_clock, create_timer_tests, create_timer as with_timer, delete_timer as without_timer, dues, free_id, set_timer as with_timer_set, tell_dues, timer_at, timer_tests, without_queued}
use Rattle.spec_kernel.specs.State.{Channels, State, object_at, timers_in, with_channels}
use Rattle.spec_kernel.specs.Acts.{ActResult, no_act}
use Rattle.spec_kernel.specs.Ports.{port_at, port_tests}

-- timer_create: EBADF, EBADFD, EAGAIN for a process with 32 timers; a timer that isn't armed, under the lowest id that is free

abbrev pub creating_timer_tests : State → ℕ → Fd → List Test
creating_timer_tests m p port = port_tests (object_at m p port) ++ create_timer_tests (timers_in m) p

abbrev pub timer_created : Channels → ℕ → ℕ → ℕ → Channels
timer_created c p port user = record c { timers = with_timer c.timers p port user }

abbrev pub create_timer : State → ℕ → Fd → ℕ → ActResult
create_timer m p port user =
    record { state = with_channels m (timer_created m.channels p (port_at m p port) user); answer = answer.Count (free_id (timers_in m) p) }

-- timer_settime: EINVAL where the process has no such timer; its queued event is withdrawn, and it is armed, or left not armed

abbrev pub timer_of : Channels → ℕ → ℕ → Option Timer
timer_of c p id = timer_at c.timers.timers p id

-- the ports without what this timer has queued
abbrev pub ports_without_timer : Channels → ℕ → ℕ → List Port
ports_without_timer c p id = without_queued c.ports (timer_of c p id)

abbrev pub timer_set : Channels → ℕ → ℕ → ℕ → ℕ → Channels
timer_set c p id first interval =
    record c { ports = ports_without_timer c p id; timers = with_timer_set c.timers p id first interval }

abbrev pub set_timer : State → ℕ → ℕ → ℕ → ℕ → ActResult
set_timer m p id first interval =
    record { state = with_channels m (timer_set m.channels p id first interval); answer = answer.Done }

-- timer_delete: EINVAL where the process has no such timer; its queued event is withdrawn, and it ends

abbrev pub timer_deleted : Channels → ℕ → ℕ → Channels
timer_deleted c p id = record c { ports = ports_without_timer c p id; timers = without_timer c.timers p id }

abbrev pub delete_timer : State → ℕ → ℕ → ActResult
delete_timer m p id = record { state = with_channels m (timer_deleted m.channels p id); answer = answer.Done }

-- the clock moves on, and each timer with moments that it reaches, in order of number, tells its port how many they are
abbrev pub clock_advanced : Channels → ℕ → Channels
clock_advanced c by = record c { ports = tell_dues c.ports (dues c.timers by); timers = advance_clock c.timers by }

abbrev pub advance : State → ℕ → ActResult
advance m by = record { state = with_channels m (clock_advanced m.channels by); answer = answer.Done }

-- the tests and the effect of an entry of this file

abbrev pub tests_of_timers : State → ℕ → ℕ → Request → List Test
tests_of_timers m t p (request.TimerCreate port user) = creating_timer_tests m p port
tests_of_timers m t p (request.TimerSet timer first interval) = timer_tests (timers_in m) p timer
tests_of_timers m t p (request.TimerDelete timer) = timer_tests (timers_in m) p timer
tests_of_timers m t p _ = []

abbrev pub effect_of_timers : State → ℕ → ℕ → Request → ActResult
effect_of_timers m t p (request.TimerCreate port user) = create_timer m p port user
effect_of_timers m t p (request.TimerSet timer first interval) = set_timer m p timer first interval
effect_of_timers m t p (request.TimerDelete timer) = delete_timer m p timer
effect_of_timers m t p (request.Advance by) = advance m by
effect_of_timers m t p _ = no_act m
