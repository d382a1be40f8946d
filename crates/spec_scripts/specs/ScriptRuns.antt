-- The runs of a script: a list of threads, each runnable at its turn, determines the whole run.
use Rattle.std.specs.Prelude.{ℕ, ◌≡◌, ◌≤◌, ◌||◌, List, [], ◌∷◌, ◌++◌, Option, Some, None, Bool, true, is_none, zero, suc, ◌+◌, ◌-◌, length, map, take, nat_le, if◌then◌else◌}
use Rattle.std.specs.Option.{option_map_or}
use Rattle.spec_kernel.specs.Types.{Event, Pid, Request, Tid}
use Rattle.spec_kernel.specs.Words.{State, Turn, is_runnable, is_running, least_runnable, opening, process_of, step, with_child, with_new_thread}
use Rattle.spec_events.specs.Words.{AskedLine, asked_with, event_of, line_in, reply_after, with_reply}
use Rattle.spec_requests.specs.Types.{ScriptProcess, ScriptThread}
use Rattle.script_lang.specs.Words.{ScriptValue}
use Rattle.spec_requests.specs.Words.{request_after}

abbrev pub limit_of : ScriptProcess → ℕ
limit_of p = p.limit

abbrev pub with_script_threads : State → List ScriptThread → State
with_script_threads m [] = m
with_script_threads m (x ∷ xs) = with_script_threads (with_new_thread m x.process.0 x.spare) xs

-- process n is a child, where it has a parent
abbrev pub with_parent : State → ℕ → Option Pid → State
with_parent m n None = m
with_parent m n (Some parent) = with_child m n parent.0

-- of these processes, where so many stand before them
abbrev pub with_children : State → ℕ → List ScriptProcess → State
with_children m before [] = m
with_children m before (x ∷ xs) = with_children (with_parent m (before + 1) x.parent) (before + 1) xs

-- a script's processes, its children as Unborn; the threads of its processes as Running, and its spares and the threads of children as
-- Dormant
abbrev pub opening_of : ScriptValue → State
opening_of script = with_script_threads (with_children (opening (map limit_of script.processes)) 0 script.processes) script.threads

-- a state with the events that led to it, and the lines that processes asked their caches
pub record History : Type 0 where
  pub state : State
  pub events : List Event
  pub asked : List AskedLine

abbrev pub first_history : ScriptValue → History
first_history script = record { state = opening_of script; events = []; asked = [] }

-- a Running thread asks; another thread's turn ends its wait
abbrev pub request_at_turn : ScriptValue → History → ℕ → Option Request
request_at_turn script h t = if is_running h.state t then Some (request_after script t h.events) else None

-- the line that it asks its process's cache, if it asks one
abbrev pub line_at_turn : ScriptValue → History → ℕ → Option (List ℕ)
line_at_turn script h t = line_in (request_at_turn script h t)

-- what is replied to it
abbrev pub reply_at_turn : ScriptValue → History → ℕ → Option (List ℕ)
reply_at_turn script h t = reply_after h.asked (process_of h.state t) (line_at_turn script h t)

-- the event of a turn, with the bytes of a reply
abbrev pub event_at_turn : ScriptValue → History → ℕ → Event
event_at_turn script h t = with_reply (reply_at_turn script h t) (event_of h.state t (request_at_turn script h t))

-- a thread takes a turn
abbrev pub history_after : ScriptValue → History → ℕ → History
history_after script h t =
    record {
      state = (step h.state t (request_at_turn script h t)).state;
      events = h.events ++ event_at_turn script h t ∷ [];
      asked = asked_with h.asked (process_of h.state t) (line_at_turn script h t);
    }

abbrev pub run_from : ScriptValue → History → List ℕ → History
run_from script h [] = h
run_from script h (t ∷ ts) = run_from script (history_after script h t) ts

-- the run in which these threads take turns
unfoldable pub run : ScriptValue → List ℕ → History
run script ts = run_from script (first_history script) ts

-- each of these threads is runnable at its turn
abbrev pub AreRunnableFrom : ScriptValue → History → List ℕ → Type 0
AreRunnableFrom script h [] = Unit {0}
AreRunnableFrom script h (t ∷ ts) = (is_runnable h.state t ≡ true) × AreRunnableFrom script (history_after script h t) ts

-- the lists of turns that a script allows
pub record IsAllowed (script : ScriptValue) (ts : List ℕ) : Type 0 where
  pub runnable : AreRunnableFrom script (first_history script) ts
  pub within : length ts ≤ script.budget

-- the same turns with their requests
abbrev pub turns_from : ScriptValue → History → List ℕ → List Turn
turns_from script h [] = []
turns_from script h (t ∷ ts) =
    record { thread = t; request = request_at_turn script h t } ∷ turns_from script (history_after script h t) ts

abbrev pub turns_of : ScriptValue → List ℕ → List Turn
turns_of script ts = turns_from script (first_history script) ts

-- the least runnable thread again and again, until none is runnable or so many turns were taken
abbrev pub least_runnable_turns : ScriptValue → ℕ → History → List ℕ
least_runnable_turns script zero h = []
least_runnable_turns script (suc n) h =
    option_map_or (λ t. t ∷ least_runnable_turns script n (history_after script h t)) (least_runnable h.state) []

abbrev pub tid_number : Tid → ℕ
tid_number t = t.0

-- the turns of a schedule as far as the budget reaches
abbrev pub scheduled_turns : ScriptValue → List ℕ
scheduled_turns script = take script.budget (map tid_number script.schedule)

-- the turn at which a thread is not runnable, from 1, and the thread
pub record Refusal : Type 0 where
  pub turn : ℕ
  pub thread : ℕ

-- the first of these turns whose thread is not runnable, where so many were taken before
abbrev pub refusal_from : ScriptValue → History → ℕ → List ℕ → Option Refusal
refusal_from script h n [] = None
refusal_from script h n (t ∷ ts) =
    if is_runnable h.state t
    then refusal_from script (history_after script h t) (n + 1) ts
    else Some (record { turn = n + 1; thread = t })

-- where `play` is refused
unfoldable pub refusal : ScriptValue → Option Refusal
refusal script = refusal_from script (first_history script) 0 (scheduled_turns script)

-- the turns before a refused one
abbrev pub turns_before : ScriptValue → Refusal → List ℕ
turns_before script refused = take (refused.turn - 1) (scheduled_turns script)

-- The turns that `play` takes where none is refused: first the schedule's, as far as the budget reaches, then the least
-- runnable thread until the run is over.
unfoldable pub turns_of_play : ScriptValue → List ℕ
turns_of_play script =
    scheduled_turns script
    ++ least_runnable_turns script (script.budget - length (scheduled_turns script)) (run script (scheduled_turns script))

-- the run is over where no thread is runnable, or the budget is used up
abbrev pub is_over : ScriptValue → History → Bool
is_over script h = is_none (least_runnable h.state) || nat_le script.budget (length h.events)

abbrev pub thread_of_event : Event → ℕ
thread_of_event e = e.thread.0

-- the threads that took the turns of these events
abbrev pub threads_of_events : List Event → List ℕ
threads_of_events events = map thread_of_event events
