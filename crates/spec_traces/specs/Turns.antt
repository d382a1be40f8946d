-- The turns that the text of a trace tells: the second words of its lines that begin with a digit.
use Rattle.std.specs.Prelude.{ℕ, ◌≡◌, Bool, true, false, List, [], ◌∷◌, Some, filter, filter_map}
use Rattle.line_text.specs.Words.{is_digit, is_one_line, lines_of}
use Rattle.script_lang.specs.Words.{ScriptValue}
use Rattle.spec_requests.specs.Types.{Event}
use Rattle.spec_requests.specs.Words.{line_of, second_word, thread_in_line, thread_named}

abbrev pub begins_with_digit : List ℕ → Bool
begins_with_digit [] = false
begins_with_digit (b ∷ bs) = is_digit b

-- an event's line begins with its number, and no other line of a trace with a digit
abbrev pub event_lines : List ℕ → List (List ℕ)
event_lines text = filter begins_with_digit (lines_of text)

abbrev pub turn_words : List ℕ → List (List ℕ)
turn_words text = filter_map second_word (event_lines text)

-- the threads that these words name; a word that names none is left out
unfoldable pub turns_in : ScriptValue → List ℕ → List ℕ
turns_in script text = filter_map (thread_named script) (turn_words text)

-- what a reader finds in the line of this event, in whatever text it stands
pub record HasReadableLine (script : ScriptValue) (e : Event) : Type 0 where
  -- it has no line feed
  pub one : is_one_line (line_of script e) ≡ true
  -- it begins with a digit
  pub digit : begins_with_digit (line_of script e) ≡ true
  -- its second word is the name of the thread that took the turn
  pub thread : thread_in_line script (line_of script e) ≡ Some e.thread.0
