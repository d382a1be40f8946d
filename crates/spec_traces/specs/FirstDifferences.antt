-- Where a text leaves the traces of legal runs.
use Rattle.std.specs.Prelude.{ℕ, ◌≡◌, ◌+◌, ◌-◌, ◌≤◌, true, false, List, [], Option, Some, length, take, slice_get, unwrap_or, codes}
use Rattle.line_text.specs.Words.{lines_of}
use Rattle.script_lang.specs.Words.{ScriptValue}
use Rattle.spec_requests.specs.Words.{thread_in_line}
use Rattle.spec_traces.specs.LegalTraces.{IsLegal}
use Rattle.spec_traces.specs.Turns.{begins_with_digit}

-- what stands at this line of a text, counted from 1
abbrev pub line_at : List ℕ → ℕ → Option (List ℕ)
line_at text line = slice_get (lines_of text) (line - 1)

-- the lines of a text before this one
abbrev pub lines_before : List ℕ → ℕ → List (List ℕ)
lines_before text line = take (line - 1) (lines_of text)

-- the lines of a text up to this one, and this one
abbrev pub lines_through : List ℕ → ℕ → List (List ℕ)
lines_through text line = take line (lines_of text)

-- this is so of what stands at a line in each trace of a legal run that has the text's lines before it
abbrev pub OfEachTrace : ScriptValue → List ℕ → ℕ → (Option (List ℕ) → Type 0) → Type 0
OfEachTrace script text line IsSo =
    (other : List ℕ) (n : ℕ) → IsLegal script other n → lines_before other line ≡ lines_before text line → IsSo (line_at other line)

-- an event's line stands there, of another thread than this line names, or of any where this line names none
pub record IsOtherTurn (script : ScriptValue) (have : List ℕ) (there : Option (List ℕ)) : Type 0 where
  pub turn : List ℕ
  pub stands : there ≡ Some turn
  pub digit : begins_with_digit turn ≡ true
  pub other : thread_in_line script turn ≡ thread_in_line script have → ⊥

-- this event's line stands there, of the thread that the other line names
pub record IsNamedTurn (script : ScriptValue) (want have : List ℕ) (there : Option (List ℕ)) : Type 0 where
  pub stands : there ≡ Some want
  pub digit : begins_with_digit want ≡ true
  pub same : thread_in_line script want ≡ thread_in_line script have

-- what is wanted at a line, where this trace of a legal run has the text's lines before it
pub data IsWanted (script : ScriptValue) (text : List ℕ) (line : ℕ) (want have trace : List ℕ) : Type 0 where
  -- the trace has there the line of a turn of the thread that the text names
  named_turn : IsNamedTurn script want have (line_at trace line) → IsWanted script text line want have trace
  -- each such trace has there this line, which is no event's
  only_line :
      begins_with_digit want ≡ false → OfEachTrace script text line (λ there. there ≡ Some want) → IsWanted script text line want have trace
  -- the trace has no more lines, and nothing is wanted where the text has one
  nothing : want ≡ [] → length (lines_of trace) + 1 ≡ line → IsWanted script text line want have trace
  -- each such trace has there another turn than the text names, and `turn` is wanted
  other_turn : want ≡ codes "turn" → OfEachTrace script text line (IsOtherTurn script have) → IsWanted script text line want have trace

-- this is the first line at which the text leaves all traces of legal runs
pub record IsFirstDifference (script : ScriptValue) (text : List ℕ) (line : ℕ) (want have : List ℕ) : Type 0 where
  -- it is one of the text's lines, counted from 1, or the one after the last
  pub counted : 1 ≤ line
  pub reached : line ≤ length (lines_of text) + 1
  -- some trace of a legal run has the text's lines before it
  pub trace : List ℕ
  pub events : ℕ
  pub is_legal : IsLegal script trace events
  pub before : lines_before trace line ≡ lines_before text line
  -- what stands there: nothing, where the text has no more lines
  pub stands : unwrap_or (line_at text line) [] ≡ have
  -- and what is wanted there
  pub wanted : IsWanted script text line want have trace
  -- no trace of a legal run has this line, too
  pub none : (other : List ℕ) (n : ℕ) → IsLegal script other n → lines_through other line ≡ lines_through text line → ⊥
