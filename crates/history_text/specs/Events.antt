-- An event's line: its words up to the first that is `=`, a space, that word, a space, and the answer.
use Rattle.std.specs.Prelude.{ℕ, Bool, true, false, ◌==◌, ◌&&◌, not, List, [], ◌∷◌, ◌++◌, Option, Some, None, Result, Ok, Err, bytes_eq, codes, is_some, option_and_then, slice_get, if◌then◌else◌}
use Rattle.line_forms.specs.declared.reason.Reason.TheVariants.{Form, Word}
use Rattle.line_text.specs.Words.{part_before_last, words_of}
use Rattle.line_reader.specs.Words.{Reader, Rest, next_word, rest_of, value_at_end, ◌>>=◌}
use Rattle.history_text.specs.declared.line.Line.TheVariants.{Event}
use Rattle.history_text.specs.Types.{Line, Reason, What}
use Rattle.history_text.specs.Names.{Names}
use Rattle.history_text.specs.Lookups.{process_of}
use Rattle.history_text.specs.Operands.{number_64, thread}
use Rattle.history_text.specs.Requests.{asked_with, what_of}

abbrev pub is_equals_sign : List ℕ → Bool
is_equals_sign word = bytes_eq word (codes "=")

abbrev pub words_before_sign : List (List ℕ) → List (List ℕ)
words_before_sign [] = []
words_before_sign (word ∷ words) = if is_equals_sign word then [] else word ∷ words_before_sign words

-- the words of a line before its `=`
abbrev pub words_asked : List ℕ → List (List ℕ)
words_asked line = words_before_sign (words_of line)

-- all words of a line, or those before its `=`
abbrev pub words_until : Bool → List ℕ → List (List ℕ)
words_until true line = words_asked line
words_until false line = words_of line

-- the bytes after these, where the line begins with them
abbrev pub after_front : List ℕ → List ℕ → Option (List ℕ)
after_front [] bytes = Some bytes
after_front (b ∷ front) [] = None
after_front (b ∷ front) (c ∷ bytes) = if b == c then after_front front bytes else None

-- what stands after these words, each with a space, which is 32, after it, and a `=` with one
abbrev pub after_words : List (List ℕ) → List ℕ → Option (List ℕ)
after_words [] line = after_front (codes "= ") line
after_words (word ∷ words) line = option_and_then (after_words words) (after_front (word ++ 32 ∷ []) line)

-- an answer has a byte, and no space, which is 32, at either end
abbrev pub is_answer : List ℕ → Bool
is_answer [] = false
is_answer (b ∷ bs) = not (b == 32) && not (is_some (part_before_last 32 (b ∷ bs)))

abbrev pub if_answer : List ℕ → Option (List ℕ)
if_answer answer = if is_answer answer then Some answer else None

-- the answer of an event, where the words before it stand between single spaces
abbrev pub answer_of : List ℕ → Option (List ℕ)
answer_of line = option_and_then if_answer (after_words (words_asked line) line)

-- the words of an event, with its answer
abbrev pub event_line : Names → Bool → What → List ℕ → Reader Line
event_line names late how answer = do
  number ← number_64
  of ← thread names
  root ← thread names
  word ← next_word
  asked ← asked_with names (process_of names of) late how
  value_at_end (Event number of root asked answer)

abbrev pub event_after : Names → Bool → What → List (List ℕ) → Option (List ℕ) → Result (Line × Rest) Reason
event_after names late how words None = Err Form
event_after names late how words (Some answer) = event_line names late how answer (rest_of words)

abbrev pub event_as : Names → Bool → List ℕ → Option What → Result (Line × Rest) Reason
event_as names late line None = Err Word
event_as names late line (Some how) = event_after names late how (words_asked line) (answer_of line)

-- the fourth word says what an event is
abbrev pub event_by_fourth : Names → Bool → List ℕ → Option (List ℕ) → Result (Line × Rest) Reason
event_by_fourth names late line None = Err Form
event_by_fourth names late line (Some word) = event_as names late line (what_of word)

abbrev pub event_read : Names → Bool → List ℕ → Result (Line × Rest) Reason
event_read names late line = event_by_fourth names late line (slice_get (words_of line) 3)
