-- What comes of reading all that a source has, up to a limit.
use Rattle.std.specs.Prelude.{◌≡◌, ℕ, ◌≤◌, nat_le, if◌then◌else◌, ⊤, List, [], length, Option, Some}
use Rattle.std.specs.Io.KnownBytes.{Consumes}
use Rattle.dk_base.specs.declared.reading.ReadText.{ReadText}
use Rattle.dk_base.specs.declared.reading.ReadText.TheVariants.{Whole, TooLong}

abbrev pub text_within_limit : List ℕ → ℕ → ReadText
text_within_limit bytes limit = if nat_le (length bytes) limit then Whole bytes else TooLong

-- a whole text is within the limit
abbrev pub IsWithinLimit : ℕ → ReadText → Type 0
IsWithinLimit limit (Whole bytes) = length bytes ≤ limit
IsWithinLimit limit TooLong = ⊤

-- nothing is left after a whole text
abbrev pub LeavesNone : ReadText → Option (List ℕ) → Type 0
LeavesNone (Whole bytes) left = left ≡ Some []
LeavesNone TooLong left = ⊤

-- what is left is the end of what was left, where that is told
abbrev pub LeavesRest : Option (List ℕ) → Option (List ℕ) → Type 0
LeavesRest old new = (read : List ℕ) × Consumes old new read
