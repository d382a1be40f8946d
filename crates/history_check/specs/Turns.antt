-- Which turns may be taken, as tests; and how a history stands at its end.
use Rattle.std.specs.Prelude.{ℕ, Bool, true, false, ◌&&◌, ◌==◌, not, nat_le, nat_lt, List, [], ◌∷◌, Option, Some, None, length}
use Rattle.dk_base.specs.declared.limits.TheConstants.{ADVANCE_MAX, ANSWER_ITEMS_MAX, CLOCK_MAX, DATA_MAX, DELAY_MAX, EVENTS_MAX}
use Rattle.dk_base.specs.declared.request.Request.TheVariants as request
use Rattle.spec_kernel.specs.Types.{Pid, Request, Tid}
use Rattle.spec_kernel.specs.Words.{State, is_runnable, is_running, least_runnable, parent_of, process_of, waiting_threads}
use Rattle.history_text.specs.declared.line.Ending.TheVariants.{Complete, Stalled, Open}
use Rattle.history_text.specs.declared.line.Line.TheVariants.{End}
use Rattle.history_text.specs.declared.line.Ending.{Ending}
use Rattle.history_text.specs.declared.line.Line.{Line}

-- a number of one of so many, which are counted from 1
abbrev pub is_number_of : ℕ → ℕ → Bool
is_number_of count n = nat_le 1 n && nat_le n count

abbrev pub is_process : ℕ → Option Pid → Bool
is_process p None = false
is_process p (Some other) = other.0 == p

-- the threads and processes that a request of thread t names are there, and its counts are in range
abbrev pub is_fit : State → ℕ → Request → Bool
is_fit m t (request.Interrupt thread) = is_number_of (length m.process_table.threads) thread.0
is_fit m t (request.Kill process) = is_number_of (length m.process_table.processes) process.0
is_fit m t (request.Fork child) = is_process (process_of m t) (parent_of m child.0)
is_fit m t (request.Read fd most) = nat_le 1 most && nat_le most DATA_MAX
is_fit m t (request.GetN port most least wait) = nat_le most ANSWER_ITEMS_MAX
is_fit m t (request.TimerSet timer first interval) = nat_le first DELAY_MAX && nat_le interval DELAY_MAX
is_fit m t (request.Advance by) = nat_le 1 by && (nat_le by ADVANCE_MAX && nat_le m.channels.timers.clock CLOCK_MAX)
is_fit m t other = true

-- a running thread may enter with this request
abbrev pub may_enter : State → ℕ → Request → Bool
may_enter m t r = is_running m t && (is_fit m t r && nat_lt m.events EVENTS_MAX)

-- the wait of a thread may end
abbrev pub may_go_on : State → ℕ → Bool
may_go_on m t = is_runnable m t && (not (is_running m t) && nat_lt m.events EVENTS_MAX)

-- no thread can go on
abbrev pub ending_waiting : List Tid → Ending
ending_waiting [] = Complete
ending_waiting (t ∷ ts) = Stalled

abbrev pub ending_with : Option ℕ → List Tid → Ending
ending_with None waiting = ending_waiting waiting
ending_with (Some t) waiting = Open

abbrev pub waiting_with : Option ℕ → List Tid → List Tid
waiting_with None waiting = waiting
waiting_with (Some t) waiting = []

-- the end line: it is open where some thread can go on, else stalled where some wait in a call, at a port or for a path, else complete
abbrev pub end_line : State → Line
end_line m =
    End (ending_with (least_runnable m) (waiting_threads m)) m.events (waiting_with (least_runnable m) (waiting_threads m))
