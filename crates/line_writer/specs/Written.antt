-- What the printer's own contracts say.
use Rattle.std.specs.Prelude.{ℕ, ◌≡◌, List, ◌++◌, Result, OnOk}
use Rattle.line_text.specs.Types.{NoMemory}
use Rattle.line_text.specs.Words.{spaced_words}

-- these words were put after a text, each after a space, unless memory was wanting
abbrev pub Puts : List (List ℕ) → List ℕ → Result (Unit {0}) NoMemory → List ℕ → Type 0
Puts words old result new = OnOk result (new ≡ old ++ spaced_words words)
