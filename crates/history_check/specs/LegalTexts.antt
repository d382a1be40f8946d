-- Which texts are legal histories, with no walk and no comparison: from what the lines tell to their text. That a line is well formed is that
-- what is written of it is read as it.
use Rattle.std.specs.Prelude.{ℕ, ◌≡◌, Bool, true, false, not, List, [], ◌∷◌, Option, Some, None, Ok, filter}
use Rattle.std.specs.List.{AllByRecursion}
use Rattle.spec_kernel.specs.Words.{Turn}
use Rattle.spec_histories.specs.Histories.{Entry, Follows, IsHistory}
use Rattle.history_text.specs.declared.line.Asked.{Asked}
use Rattle.history_text.specs.declared.line.Asked.TheVariants.{Enter, GoOn}
use Rattle.history_text.specs.declared.line.Line.{Line}
use Rattle.history_text.specs.declared.line.Line.TheVariants.{Event, End}
use Rattle.history_text.specs.Words.{Names, byte_fault, entry_text, header, is_skipped, line_read, line_text, with_line}
use Rattle.history_check.specs.Judging.{declared, is_head_line}
use Rattle.history_check.specs.Places.{Reached, at_end, at_start, place_of, state_of, with_entry}
use Rattle.history_check.specs.Turns.{end_line}
use Rattle.history_check.specs.WholeLines.{cut_part, whole_lines}

-- a line that is not skipped: it declares, or tells an entry, or the end
pub data Told : Type 0 where
  Declares : Line → Told
  Enters : Line → Entry → Told
  Ends : Line → Told

-- it may stand here, and is written in its one spelling: what is written of it is read as it
abbrev pub IsWellFormed : Reached → Line → Type 0
IsWellFormed p line = line_read p.names (place_of p) (line_text p.names line) ≡ Ok line

-- neither an event nor the end
abbrev pub is_declaration : Line → Bool
is_declaration (Event number thread root asked answer) = false
is_declaration (End ending number threads) = false
is_declaration line = true

abbrev pub is_ending : Line → Bool
is_ending (End ending number threads) = true
is_ending line = false

abbrev pub turn_asked : ℕ → Asked → Turn
turn_asked t (Enter request) = record { thread = t; request = Some request }
turn_asked t (GoOn what) = record { thread = t; request = None }

-- the turn that an event's line tells
abbrev pub turn_told : Line → Option Turn
turn_told (Event number thread root asked answer) = Some (turn_asked thread.0 asked)
turn_told line = None

-- an event's line tells this entry
pub record TellsEntry (names : Names) (line : Line) (e : Entry) : Type 0 where
  pub turn : turn_told line ≡ Some e.turn
  pub text : line_text names line ≡ entry_text names e

abbrev pub line_told : Told → Line
line_told (Declares line) = line
line_told (Enters line e) = line
line_told (Ends line) = line

-- what is told may stand here: an entry is the one that the kernel gives at its place, and the end is told as it is
abbrev pub MayTell : Reached → Told → Type 0
MayTell p (Declares line) = is_declaration line ≡ true
MayTell p (Enters line e) = TellsEntry p.names line e × Follows (state_of p) e
MayTell p (Ends line) = (is_ending line ≡ true) × (line_text p.names line ≡ line_text p.names (end_line (state_of p)))

abbrev pub after_told : Reached → Told → Reached
after_told p (Declares line) = declared p (with_line p.names line) (is_head_line line)
after_told p (Enters line e) = with_entry p (with_line p.names line) e
after_told p (Ends line) = at_end p

-- each in its place
abbrev pub AreTold : Reached → List Told → Type 0
AreTold p [] = Unit {0}
AreTold p (told ∷ others) = IsWellFormed p (line_told told) × MayTell p told × AreTold (after_told p told) others

abbrev pub reached_by : Reached → List Told → Reached
reached_by p [] = p
reached_by p (told ∷ others) = reached_by (after_told p told) others

-- the text of each, in the names that are declared before it
abbrev pub texts_of : Reached → List Told → List (List ℕ)
texts_of p [] = []
texts_of p (told ∷ others) = line_text p.names (line_told told) ∷ texts_of (after_told p told) others

abbrev pub is_read : List ℕ → Bool
is_read line = not (is_skipped line)

abbrev pub IsClean : List ℕ → Type 0
IsClean line = byte_fault line ≡ None

-- the text is that of a legal history of so many events
pub record IsLegalText (text : List ℕ) (events : ℕ) : Type 0 where
  -- the lines after the first
  pub lines : List (List ℕ)
  pub begins : whole_lines text ≡ header ∷ lines
  -- each line has its line feed, and bytes as a line may have
  pub whole : cut_part text ≡ []
  pub clean : AllByRecursion IsClean lines
  -- those that are not skipped are the texts of these
  pub told : List Told
  pub spelled : filter is_read lines ≡ texts_of at_start told
  pub in_place : AreTold at_start told
  -- what they tell is a legal history, from the opening that the head declares
  pub legal : IsHistory (reached_by at_start told).history
  pub count : (state_of (reached_by at_start told)).events ≡ events
