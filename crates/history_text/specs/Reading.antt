-- What a line is, or the first reason for which it is bad. Lines that are skipped are none of these.
use Rattle.std.specs.Prelude.{ℕ, Bool, true, false, ◌==◌, nat_lt, List, [], ◌∷◌, Option, Some, None, Result, Ok, Err, bytes_eq, length, option_and_then, slice_get, if◌then◌else◌}
use Rattle.std.specs.List.{list_all}
use Rattle.line_forms.specs.declared.reason.Reason.TheVariants.{Byte, Form, Many, Size, Twice, Unknown, Word}
use Rattle.line_text.specs.Words.{is_printable, joined_words, words_of}
use Rattle.line_reader.specs.Words.{Reader, Rest, misspelling, next_word, rest_of, ◌>>=◌}
use Rattle.history_text.specs.declared.limits.TheConstants.{LINE_MAX}
use Rattle.history_text.specs.declared.place.Kind.TheVariants as kind
use Rattle.history_text.specs.Types.{Kind, Line, Place, Reason, Stage}
use Rattle.history_text.specs.Names.{Names}
use Rattle.history_text.specs.Declarations.{child_line, end_line, name_line, path_line, procedure_line, process_line}
use Rattle.history_text.specs.Events.{event_read}
use Rattle.history_text.specs.Faults.{is_many, is_twice}
use Rattle.history_text.specs.Kinds.{kind_of, may_stand}

-- the bytes of a line, which a line that is skipped must have too

-- a line that is not read: it has only spaces, each 32, or its first byte other than a space is `#`, which is 35
abbrev pub is_skipped : List ℕ → Bool
is_skipped [] = true
is_skipped (b ∷ bs) = if b == 32 then is_skipped bs else b == 35

abbrev pub byte_fault : List ℕ → Option Reason
byte_fault line =
    if nat_lt LINE_MAX (length line) then Some Size else (
    if list_all is_printable line then None else
    Some Byte)

-- the words of a line

abbrev pub if_may_stand : Stage → Kind → Option Kind
if_may_stand stage first = if may_stand stage first then Some first else None

-- what the first word of a line says that it is, where such a line may come
abbrev pub kind_at : Place → List ℕ → Option Kind
kind_at place line = option_and_then (if_may_stand place.stage) (option_and_then kind_of (slice_get (words_of line) 0))

-- what follows the first word of a line that is no event
abbrev pub line_after_first : Names → Kind → Reader Line
line_after_first names kind.Process = process_line
line_after_first names kind.Child = child_line names
line_after_first names kind.Name = name_line names
line_after_first names kind.Procedure = procedure_line names
line_after_first names kind.Path = path_line
line_after_first names kind.End = end_line names
line_after_first names kind.Event = misspelling

abbrev pub line_of_words : Names → Kind → Reader Line
line_of_words names first = do
  word ← next_word
  line_after_first names first

-- the words stand between single spaces, and none stands at either end
abbrev pub is_spaced : List ℕ → Bool
is_spaced line = bytes_eq (joined_words (words_of line)) line

abbrev pub spaced_line : Names → List ℕ → Kind → Result (Line × Rest) Reason
spaced_line names line first = if is_spaced line then line_of_words names first (rest_of (words_of line)) else Err Form

abbrev pub line_of_kind : Names → Bool → List ℕ → Kind → Result (Line × Rest) Reason
line_of_kind names late line kind.Event = event_read names late line
line_of_kind names late line first = spaced_line names line first

abbrev pub line_by_kind : Names → Bool → List ℕ → Option Kind → Result (Line × Rest) Reason
line_by_kind names late line None = Err Word
line_by_kind names late line (Some first) = line_of_kind names late line first

abbrev pub line_by_words : Names → Place → List ℕ → Result (Line × Rest) Reason
line_by_words names place line = line_by_kind names place.late line (kind_at place line)

-- what is declared

-- the fault of a line that is well formed, where each name in it is known or one is not
abbrev pub declared_fault : Names → Place → Line → Bool → Option Reason
declared_fault names place line known =
    if is_twice names line then Some Twice else (
    if is_many names place line then Some Many else (
    if known then None else
    Some Unknown))

abbrev pub line_unless : Option Reason → Line → Result Line Reason
line_unless (Some reason) line = Err reason
line_unless None line = Ok line

abbrev pub line_found : Names → Place → Result (Line × Rest) Reason → Result Line Reason
line_found names place (Err reason) = Err reason
line_found names place (Ok found) = line_unless (declared_fault names place found.0 found.1.known) found.0

abbrev pub line_with_bytes : Names → Place → List ℕ → Option Reason → Result Line Reason
line_with_bytes names place line (Some reason) = Err reason
line_with_bytes names place line None = line_found names place (line_by_words names place line)

-- what a line is, where these names are declared before it
unfoldable pub line_read : Names → Place → List ℕ → Result Line Reason
line_read names place line = line_with_bytes names place line (byte_fault line)
