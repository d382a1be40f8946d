-- Whether lines are the trace of a run, line by line: at each line what is wanted there, and what stands there.
use Rattle.std.specs.Prelude.{ℕ, ◌+◌, ◌&&◌, Bool, true, false, List, [], ◌∷◌, Option, Some, None, take, drop, length, bytes_eq, codes, if◌then◌else◌}
use Rattle.line_text.specs.declared.number.Number.{Number}
use Rattle.line_text.specs.declared.number.Number.TheVariants.{Found, OutOfRange, NoNumber}
use Rattle.line_text.specs.Words.{bounded_number, lines_of}
use Rattle.script_lang.specs.Words.{ScriptValue}
use Rattle.spec_requests.specs.Words.{end_line_of, line_of, thread_in_line}
use Rattle.spec_kernel.specs.Words.{State, is_runnable, waiting_threads}
use Rattle.spec_scripts.specs.Words.{History, ending_of, event_at_turn, first_history, history_after, is_over}
use Rattle.spec_traces.specs.declared.verdict.Verdict.{Verdict}
use Rattle.spec_traces.specs.declared.verdict.Verdict.TheVariants.{Legal, Differs}

-- the line of the next event, if this thread takes the turn
abbrev pub line_of_turn : ScriptValue → History → ℕ → List ℕ
line_of_turn script h t = line_of script (event_at_turn script h t)

-- the end line, if the run is over
abbrev pub end_line_after : ScriptValue → History → List ℕ
end_line_after script h = end_line_of script (ending_of h.state) (length h.events) (waiting_threads h.state)

abbrev pub if_runnable : State → Option ℕ → Option ℕ
if_runnable m None = None
if_runnable m (Some t) = if is_runnable m t then Some t else None

-- the runnable thread that is a line's second word
abbrev pub turn_in_line : ScriptValue → State → List ℕ → Option ℕ
turn_in_line script m line = if_runnable m (thread_in_line script line)

abbrev pub is_found : Number → Bool
is_found (Found n) = true
is_found OutOfRange = false
is_found NoNumber = false

-- `tail N`, where N is at most so many, without a leading zero
abbrev pub is_tail_line : ℕ → List ℕ → Bool
is_tail_line events line = bytes_eq (take 5 line) (codes "tail ") && is_found (bounded_number 0 events (drop 5 line))

-- the number of the next line, counted from 1: a line for each event stands before it
abbrev pub line_after : History → ℕ
line_after h = length h.events + 1

-- after the end line and a line `tail N` nothing may stand
abbrev pub verdict_after_tail : ℕ → List (List ℕ) → Verdict
verdict_after_tail events [] = Legal events
verdict_after_tail events (have ∷ lines) = Differs (events + 3) [] have

-- after the end line, which stands after a line for each event: nothing may stand, or one line `tail N`
abbrev pub verdict_after_end : ℕ → List (List ℕ) → Verdict
verdict_after_end events [] = Legal events
verdict_after_end events (have ∷ lines) =
    if is_tail_line events have then verdict_after_tail events lines else Differs (events + 2) [] have

-- the run is over: the end line must stand here
abbrev pub verdict_at_end : ScriptValue → History → List (List ℕ) → Verdict
verdict_at_end script h [] = Differs (line_after h) (end_line_after script h) []
verdict_at_end script h (have ∷ lines) =
    if bytes_eq have (end_line_after script h)
    then verdict_after_end (length h.events) lines
    else Differs (line_after h) (end_line_after script h) have

-- The run is not over: the line must name a runnable thread, and be the line of its event. `turn` is wanted where its second word
-- names no thread that can take a turn. `next` is the verdict on the lines after it.
abbrev pub verdict_of_turn : ScriptValue → History → List ℕ → (ℕ → Verdict) → Option ℕ → Verdict
verdict_of_turn script h have next None = Differs (line_after h) (codes "turn") have
verdict_of_turn script h have next (Some t) =
    if bytes_eq have (line_of_turn script h t) then next t else Differs (line_after h) (line_of_turn script h t) have

abbrev pub verdict_without_line : ScriptValue → History → Verdict
verdict_without_line script h =
    if is_over script h then verdict_at_end script h [] else Differs (line_after h) (codes "turn") []

-- the verdict on these lines after a line for each event of a history
abbrev pub verdict_from : ScriptValue → History → List (List ℕ) → Verdict
verdict_from script h [] = verdict_without_line script h
verdict_from script h (have ∷ lines) =
    if is_over script h
    then verdict_at_end script h (have ∷ lines)
    else verdict_of_turn script h have (λ t. verdict_from script (history_after script h t) lines) (turn_in_line script h.state have)

-- the verdict on a text; its last line may lack the line feed
unfoldable pub verdict : ScriptValue → List ℕ → Verdict
verdict script text = verdict_from script (first_history script) (lines_of text)
