-- The end line of a history.
use Rattle.std.specs.Prelude.{ℕ, List, [], ◌∷◌, Option, Some, None}
use Rattle.spec_kernel.specs.Types.{Tid}
use Rattle.spec_kernel.specs.Words.{State, least_runnable, waiting_threads}
use Rattle.history_text.specs.declared.line.Ending.{Ending}
use Rattle.history_text.specs.declared.line.Ending.TheVariants.{Complete, Open, Stalled}
use Rattle.history_text.specs.declared.line.Line.{Line}
use Rattle.history_text.specs.declared.line.Line.TheVariants.{End}
use Rattle.history_text.specs.Words.{Names, line_text}

abbrev pub ending_waiting : List Tid → Ending
ending_waiting [] = Complete
ending_waiting (t ∷ ts) = Stalled

abbrev pub ending_with : Option ℕ → List Tid → Ending
ending_with None waiting = ending_waiting waiting
ending_with (Some t) waiting = Open

abbrev pub waiting_with : Option ℕ → List Tid → List Tid
waiting_with None waiting = waiting
waiting_with (Some t) waiting = []

-- open where some thread can go on, else stalled where some wait in a call, at a port or for a path, else complete
abbrev pub end_line : State → Line
end_line m = End (ending_with (least_runnable m) (waiting_threads m)) m.events (waiting_with (least_runnable m) (waiting_threads m))

abbrev pub end_line_text : Names → State → List ℕ
end_line_text names m = line_text names (end_line m)
