-- The line of an entry of a history.
use Rattle.std.specs.Prelude.{ℕ, List, Option, Some, None}
use Rattle.history_text.specs.declared.line.Asked.TheVariants.{Enter, GoOn}
use Rattle.history_text.specs.declared.line.Line.TheVariants.{Event}
use Rattle.spec_histories.specs.Histories.{Entry}
use Rattle.spec_requests.specs.Words.{answer_text}
use Rattle.history_text.specs.Types.{Asked, Line, Request, What}
use Rattle.history_text.specs.Names.{Names}
use Rattle.history_text.specs.Lookups.{procedure_word}
use Rattle.history_text.specs.LineWords.{line_text}

-- what a thread asked for, or the end of which wait it is
abbrev pub asked_of : Option Request → What → Asked
asked_of (Some request) what = Enter request
asked_of None what = GoOn what

abbrev pub entry_line : Names → Entry → Line
entry_line names entry =
    Event
    entry.number
    (record { 0 = entry.turn.thread })
    (record { 0 = entry.root })
    (asked_of entry.turn.request entry.what)
    (answer_text (procedure_word names) entry.answer)

-- the line that is written for an entry, without its line feed
abbrev pub entry_text : Names → Entry → List ℕ
entry_text names entry = line_text names (entry_line names entry)
