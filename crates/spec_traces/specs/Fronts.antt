-- What stands in the output where a write of a run's text failed: a prefix of that text, told by the turns of its whole event lines.
use Rattle.std.specs.Prelude.{ℕ, ◌≡◌, ◌≤◌, ◌⊎◌, true, false, List, [], ◌∷◌, ◌++◌, Some, length, take, if◌then◌else◌}
use Rattle.line_text.specs.Words.{is_one_line}
use Rattle.script_lang.specs.Words.{ScriptValue}
use Rattle.spec_requests.specs.Types.{Event}
use Rattle.spec_requests.specs.Words.{line_of, lines_text, tail_text}
use Rattle.spec_scripts.specs.Words.{History, IsAllowed, is_over, run}
use Rattle.spec_traces.specs.LegalTraces.{IsTrace}
use Rattle.spec_traces.specs.Turns.{turns_in}
use Rattle.spec_traces.specs.Verdicts.{end_line_after}

-- the bytes are a prefix of a text: all of it, a part, or nothing
abbrev pub IsFrontOf : List ℕ → List ℕ → Type 0
IsFrontOf bytes text = (k : ℕ) × (k ≤ length text) × (bytes ≡ take k text)

-- a text up to its last line feed: its whole lines, without a last line that is cut
abbrev pub whole_lines : List ℕ → List ℕ
whole_lines [] = []
whole_lines (b ∷ bs) = if is_one_line (b ∷ bs) then [] else b ∷ whole_lines bs

-- The turns that the whole event lines of a text tell. A cut line tells none: its thread's name may be cut to the name of another.
abbrev pub turns_in_whole_lines : ScriptValue → List ℕ → List ℕ
turns_in_whole_lines script text = turns_in script (whole_lines text)

-- the run is over, and the bytes are a prefix of its end line and a line `tail N`
pub record IsFrontOfEnd (script : ScriptValue) (h : History) (bytes : List ℕ) : Type 0 where
  -- no thread is runnable, or the budget is used up
  pub over : is_over script h ≡ true
  -- the number of the line `tail N`: at most the number of events
  pub tail : ℕ
  pub small : tail ≤ length h.events
  pub front : IsFrontOf bytes (end_line_after script h ++ 10 ∷ tail_text (Some tail))

-- the run of these turns is not over, and the bytes are a prefix of the line of an event that may follow, without its line feed
pub record IsFrontOfNextLine (script : ScriptValue) (turns bytes : List ℕ) : Type 0 where
  -- a thread is runnable, and the budget is not used up
  pub going : is_over script (run script turns) ≡ false
  -- this thread may take the next turn
  pub thread : ℕ
  pub allowed : IsAllowed script (turns ++ thread ∷ [])
  -- and this is its event
  pub event : Event
  pub next : (run script (turns ++ thread ∷ [])).events ≡ (run script turns).events ++ event ∷ []
  pub front : IsFrontOf bytes (line_of script event)

-- what was written of a run, told by the turns that stand in it
pub record IsFrontOfRun (script : ScriptValue) (written : List ℕ) : Type 0 where
  -- the turns of the whole event lines that were written
  pub turns : List ℕ
  pub whole : turns_in_whole_lines script written ≡ turns
  -- each thread is runnable at its turn, and the budget is not exceeded
  pub allowed : IsAllowed script turns
  -- a line for each event of their run stands there, and this after the last
  pub rest : List ℕ
  pub lines : written ≡ lines_text script (run script turns).events ++ rest
  pub after : IsFrontOfEnd script (run script turns) rest ⊎ IsFrontOfNextLine script turns rest

-- the bytes are a prefix of the trace of some run that is over
pub record IsFrontOfTrace (script : ScriptValue) (bytes : List ℕ) : Type 0 where
  pub trace : List ℕ
  pub turns : List ℕ
  pub is_trace : IsTrace script trace turns
  pub front : IsFrontOf bytes trace
