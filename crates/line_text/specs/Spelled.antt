-- Which words spell a value: from the value to the word, with no reader.
use Rattle.std.specs.Prelude.{ℕ, ◌≡◌, ◌≤◌, ◌<◌, ◌/◌, ◌%◌, ◌⊎◌, true, false, List, [], ◌∷◌, ◌++◌, decimal}
use Rattle.line_text.specs.Lines.{is_printable}
use Rattle.line_text.specs.Names.{is_name}
use Rattle.line_text.specs.Strings.{is_marked, hex_digit}

-- a name spells itself
abbrev pub SpellsName : List ℕ → List ℕ → Type 0
SpellsName name word = (is_name name ≡ true) × (word ≡ name)

-- a number from low to high is spelled in decimal
abbrev pub SpellsNumber : ℕ → ℕ → ℕ → List ℕ → Type 0
SpellsNumber low high n word = (low ≤ n) × (n ≤ high) × (word ≡ decimal n)

-- a printable byte that is no quote and no backslash stands for itself
abbrev pub SpellsPlain : ℕ → List ℕ → Type 0
SpellsPlain b bytes = (is_printable b ≡ true) × (is_marked b ≡ false) × (bytes ≡ b ∷ [])

-- a quote or a backslash stands after a backslash, which is 92
abbrev pub SpellsMarked : ℕ → List ℕ → Type 0
SpellsMarked b bytes = (is_marked b ≡ true) × (bytes ≡ 92 ∷ b ∷ [])

-- `\xHH` is any byte; 92 is `\` and 120 is `x`
abbrev pub SpellsHex : ℕ → List ℕ → Type 0
SpellsHex b bytes = (b < 256) × (bytes ≡ 92 ∷ 120 ∷ hex_digit (b / 16) ∷ hex_digit (b % 16) ∷ [])

abbrev pub SpellsByte : ℕ → List ℕ → Type 0
SpellsByte b bytes = SpellsPlain b bytes ⊎ (SpellsMarked b bytes ⊎ SpellsHex b bytes)

-- one byte, then what the rest spells
pub record FirstByte (b : ℕ) (Rest : List ℕ → Type 0) (bytes : List ℕ) : Type 0 where
  pub first : List ℕ
  pub others : List ℕ
  pub split : bytes ≡ first ++ others
  pub spells_first : SpellsByte b first
  pub spells_others : Rest others

-- a string's bytes one after another, and the closing quote, which is 34
abbrev pub SpellsText : List ℕ → List ℕ → Type 0
SpellsText [] bytes = bytes ≡ 34 ∷ []
SpellsText (b ∷ text) bytes = FirstByte b (SpellsText text) bytes

-- a string, which the byte 34, `"`, begins
abbrev pub SpellsString : List ℕ → List ℕ → Type 0
SpellsString text [] = ⊥
SpellsString text (quote ∷ bytes) = (quote ≡ 34) × SpellsText text bytes
