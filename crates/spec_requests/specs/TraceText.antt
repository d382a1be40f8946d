-- The text of a run: a line for each event, and the end line.
use Rattle.std.specs.Prelude.{ℕ, List, [], ◌∷◌, ◌++◌, Option, Some, None, length, flat_map, codes, decimal}
use Rattle.std.specs.List.{join_with_byte}
use Rattle.spec_requests.specs.Types.{Event, Tid}
use Rattle.script_lang.specs.Words.{ScriptValue}
use Rattle.spec_requests.specs.declared.ending.Ending.{Ending}
use Rattle.spec_requests.specs.declared.ending.Ending.TheVariants.{Complete, Stalled, Budget}
use Rattle.spec_requests.specs.AnswerText.{answer_text}
use Rattle.spec_requests.specs.TraceNames.{procedure_name, thread_name}
use Rattle.spec_requests.specs.WhatWord.{what_word}

-- `NUMBER THREAD ROOT WHAT ANSWER`
unfoldable pub line_of : ScriptValue → Event → List ℕ
line_of script event =
    join_with_byte 32 (
    decimal event.number
    ∷ thread_name script event.thread
    ∷ thread_name script event.root
    ∷ what_word event.what
    ∷ answer_text (procedure_name script) event.answer
    ∷ [])

-- a line and its LF
abbrev pub whole_line : ScriptValue → Event → List ℕ
whole_line script event = line_of script event ++ 10 ∷ []

abbrev pub spaced_name : ScriptValue → Tid → List ℕ
spaced_name script thread = codes " " ++ thread_name script thread

abbrev pub ending_word : Ending → List ℕ
ending_word Complete = codes "complete"
ending_word Stalled = codes "stalled"
ending_word Budget = codes "budget"

-- a stalled run tells which threads wait
abbrev pub waiting_text : ScriptValue → Ending → List Tid → List ℕ
waiting_text script Complete waiting = []
waiting_text script Stalled waiting = flat_map (spaced_name script) waiting
waiting_text script Budget waiting = []

-- how the run ended, and after how many events
unfoldable pub end_line_of : ScriptValue → Ending → ℕ → List Tid → List ℕ
end_line_of script ending n waiting =
    codes "end " ++ ending_word ending ++ codes " " ++ decimal n ++ waiting_text script ending waiting

abbrev pub lines_text : ScriptValue → List Event → List ℕ
lines_text script events = flat_map (whole_line script) events

-- the text of a run with these events and this end
unfoldable pub trace_text : ScriptValue → List Event → Ending → List Tid → List ℕ
trace_text script events ending waiting =
    lines_text script events ++ end_line_of script ending (length events) waiting ++ 10 ∷ []

-- the turn of a schedule that its thread could not take, counted from 1
unfoldable pub refused_line_of : ScriptValue → ℕ → Tid → List ℕ
refused_line_of script turn thread = codes "refused turn " ++ decimal turn ++ spaced_name script thread

-- the text of a run that ends before a refused turn
unfoldable pub refused_text : ScriptValue → List Event → ℕ → Tid → List ℕ
refused_text script events turn thread = lines_text script events ++ refused_line_of script turn thread ++ 10 ∷ []

-- a line `tail N`, or none
abbrev pub tail_text : Option ℕ → List ℕ
tail_text None = []
tail_text (Some n) = codes "tail " ++ decimal n ++ 10 ∷ []
