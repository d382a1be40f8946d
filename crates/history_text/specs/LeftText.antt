-- What stands in an event's line before its answer.
use Rattle.std.specs.Prelude.{ℕ, List, ◌∷◌, ◌++◌, codes, decimal}
use Rattle.line_text.specs.Words.{joined_words}
use Rattle.history_text.specs.Types.{Asked, Tid}
use Rattle.history_text.specs.Names.{Names}
use Rattle.history_text.specs.Lookups.{thread_word}
use Rattle.history_text.specs.LineWords.{asked_words}

-- `NUMBER THREAD ROOT`, what is asked, ` = `
abbrev pub left_text : Names → ℕ → Tid → Tid → Asked → List ℕ
left_text names number thread root asked =
    joined_words (decimal number ∷ thread_word names thread ∷ thread_word names root ∷ asked_words names asked) ++ codes " = "
