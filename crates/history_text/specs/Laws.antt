-- What is read is written so.
use Rattle.std.specs.Prelude.{ℕ, ◌≡◌, List, Ok}
use Rattle.history_text.specs.Types.{Line, Place}
use Rattle.history_text.specs.LineWords.{line_text}
use Rattle.history_text.specs.Names.{Names}
use Rattle.history_text.specs.Reading.{line_read}

-- what is read as a line is the text that is written for it: there is one spelling
abbrev pub ReadIsWritten : Type 0
ReadIsWritten = (names : Names) (place : Place) (line : Line) (text : List ℕ) → line_read names place text ≡ Ok line → line_text names line ≡ text
