-- What is found at a line.
use Rattle.std.specs.Prelude.{ℕ, Bool, true, false, List, Option, Some, None, Result, Ok, Err, bytes_eq, codes, if◌then◌else◌}
use Rattle.spec_kernel.specs.Words.{Turn}
use Rattle.spec_histories.specs.Histories.{entry_of}
use Rattle.history_text.specs.declared.line.Asked.TheVariants.{Enter, GoOn}
use Rattle.history_text.specs.declared.line.Line.TheVariants.{Process, Child, Event, End}
use Rattle.history_text.specs.declared.line.Asked.{Asked}
use Rattle.history_text.specs.declared.line.Line.{Line}
use Rattle.line_forms.specs.declared.reason.Reason.{Reason}
use Rattle.spec_kernel.specs.Types.{Tid}
use Rattle.history_text.specs.Words.{Names, byte_fault, entry_text, is_skipped, line_read, line_text, with_line}
use Rattle.history_check.specs.Places.{Reached, at_end, in_body, in_head, place_of, state_of, with_entry}
use Rattle.history_check.specs.Turns.{end_line, may_enter, may_go_on}

-- the text goes on after the line; or the line is bad; or it is in good form, and another is wanted
pub data Found : Type 0 where
  GoesOn : Reached → Found
  IsBad : Reason → Found
  IsIllegal : List ℕ → Found

abbrev pub wait_ends : Tid → Turn
wait_ends t = record { thread = t.0; request = None }

-- the line of a turn that may be taken
abbrev pub text_of_turn : Reached → Turn → List ℕ
text_of_turn r turn = entry_text r.names (entry_of (state_of r) turn)

-- a line tells of this turn, which may be taken; after it these names are declared
abbrev pub found_at_turn : Reached → List ℕ → Names → Turn → Found
found_at_turn r text names turn =
    if bytes_eq text (text_of_turn r turn)
    then GoesOn (with_entry r names (entry_of (state_of r) turn))
    else IsIllegal (text_of_turn r turn)

-- the line tells of a request, and the thread may not enter with it: the end of its wait is wanted, where that may come, or else `turn`
abbrev pub wanted_of_waiting : Reached → Tid → List ℕ
wanted_of_waiting r t = if may_go_on (state_of r) t.0 then text_of_turn r (wait_ends t) else codes "turn"

abbrev pub found_at_event : Reached → List ℕ → Names → Tid → Asked → Found
found_at_event r text names t (Enter request) =
    if may_enter (state_of r) t.0 request
    then found_at_turn r text names (record { thread = t.0; request = Some request })
    else IsIllegal (wanted_of_waiting r t)
found_at_event r text names t (GoOn what) =
    if may_go_on (state_of r) t.0 then found_at_turn r text names (wait_ends t) else IsIllegal (codes "turn")

abbrev pub found_at_end : Reached → List ℕ → Found
found_at_end r text =
    if bytes_eq text (line_text r.names (end_line (state_of r)))
    then GoesOn (at_end r)
    else IsIllegal (line_text r.names (end_line (state_of r)))

-- a line of a process or a child, which stand in the head
abbrev pub is_head_line : Line → Bool
is_head_line (Process name limit members) = true
is_head_line (Child name parent members) = true
is_head_line line = false

-- after a line that declares
abbrev pub declared : Reached → Names → Bool → Reached
declared r names true = in_head names
declared r names false = in_body r names

-- by what the line is
abbrev pub found_at_value : Reached → List ℕ → Line → Found
found_at_value r text (Event number thread root asked answer) =
    found_at_event r text (with_line r.names (Event number thread root asked answer)) thread asked
found_at_value r text (End ending number threads) = found_at_end r text
found_at_value r text line = GoesOn (declared r (with_line r.names line) (is_head_line line))

abbrev pub found_at_read : Reached → List ℕ → Result Line Reason → Found
found_at_read r text (Ok line) = found_at_value r text line
found_at_read r text (Err reason) = IsBad reason

abbrev pub found_at_skipped : Reached → Option Reason → Found
found_at_skipped r None = GoesOn r
found_at_skipped r (Some reason) = IsBad reason

unfoldable pub found_at : Reached → List ℕ → Found
found_at r text =
    if is_skipped text
    then found_at_skipped r (byte_fault text)
    else found_at_read r text (line_read r.names (place_of r) text)
