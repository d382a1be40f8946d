-- The names that a trace shows, and the thread that a line of a trace names.
use Rattle.std.specs.Prelude.{ℕ, Bool, ◌≡◌, ◌==◌, not, List, Option, Some, option_and_then, length, filter, slice_get}
use Rattle.std.specs.List.{slice_split}
use Rattle.spec_requests.specs.Types.{Tid}
use Rattle.dk_base.specs.ByNumber.{at_number}
use Rattle.line_forms.specs.Words.{procedure_word, thread_number, thread_word}
use Rattle.script_lang.specs.Words.{ScriptValue, tables_of}

-- a number that is no thread's has the empty name
abbrev pub thread_name : ScriptValue → Tid → List ℕ
thread_name script thread = thread_word (tables_of script) thread

-- an entry that is no procedure's has the empty name
abbrev pub procedure_name : ScriptValue → ℕ → List ℕ
procedure_name script entry = procedure_word (tables_of script) entry

-- the number of the thread or spare with the name
abbrev pub thread_named : ScriptValue → List ℕ → Option ℕ
thread_named script name = thread_number (tables_of script) name

abbrev pub is_some_word : List ℕ → Bool
is_some_word word = not (length word == 0)

-- the words of a trace's line stand between runs of spaces
abbrev pub words_between_spaces : List ℕ → List (List ℕ)
words_between_spaces line = filter is_some_word (slice_split (λ b. b == 32) line)

abbrev pub second_word : List ℕ → Option (List ℕ)
second_word line = slice_get (words_between_spaces line) 1

-- the declared thread that is a line's second word
abbrev pub thread_in_line : ScriptValue → List ℕ → Option ℕ
thread_in_line script line = option_and_then (thread_named script) (second_word line)

-- a line's second word is the name of this declared thread or spare
pub record NamesThread (script : ScriptValue) (line : List ℕ) (thread : Tid) : Type 0 where
  pub word : List ℕ
  pub second : second_word line ≡ Some word
  pub declared : at_number (tables_of script).threads thread.0 ≡ Some word
