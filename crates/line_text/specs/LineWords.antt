-- The words of a line. One that begins with a quote is a string: spaces up to the next quote that no backslash escapes
-- belong to it. A string keeps its quotes here, and whatever stands after the last up to a space.
use Rattle.std.specs.Prelude.{ℕ, Bool, true, false, ◌==◌, ◌&&◌, not, List, [], ◌∷◌, ◌++◌, if◌then◌else◌}
use Rattle.std.specs.List.{onto_first, list_all}
use Rattle.line_text.specs.declared.mode.Mode.{Mode}
use Rattle.line_text.specs.declared.mode.Mode.TheVariants.{Between, Word, Text, Escape}

-- where the place after a byte stands; 32 is a space, 34 is `"` and 92 is `\`
abbrev pub mode_after : Mode → ℕ → Mode
mode_after Between b = if b == 32 then Between else (if b == 34 then Text else Word)
mode_after Word b = if b == 32 then Between else Word
mode_after Text b = if b == 34 then Word else (if b == 92 then Escape else Text)
mode_after Escape b = Text

-- the words of a line that begins with b, where the places before and after b stand thus, and the rest has these words
abbrev pub words_with : ℕ → Mode → Mode → List (List ℕ) → List (List ℕ)
words_with b Between Between words = words
words_with b Word Between words = [] ∷ words
words_with b Text Between words = [] ∷ words
words_with b Escape Between words = [] ∷ words
words_with b before Word words = onto_first b words
words_with b before Text words = onto_first b words
words_with b before Escape words = onto_first b words

-- the words of the rest of a line: in a word, the first is the rest of that word
abbrev pub words_from : Mode → List ℕ → List (List ℕ)
words_from Between [] = []
words_from Word [] = [] ∷ []
words_from Text [] = [] ∷ []
words_from Escape [] = [] ∷ []
words_from mode (b ∷ bs) = words_with b mode (mode_after mode b) (words_from (mode_after mode b) bs)

-- spaces at either end of a line, and more than one between two words, are no part of a word
abbrev pub words_of : List ℕ → List (List ℕ)
words_of line = words_from Between line

-- a word has begun
abbrev pub is_in_word : Mode → Bool
is_in_word Between = false
is_in_word Word = true
is_in_word Text = true
is_in_word Escape = true

-- no space, which is 32, stands first
abbrev pub is_unindented : List ℕ → Bool
is_unindented [] = true
is_unindented (b ∷ bs) = not (b == 32)

-- the bytes are a word's, or the rest of one's, and no string is open after them
abbrev pub is_word_from : Mode → List ℕ → Bool
is_word_from Between [] = false
is_word_from Word [] = true
is_word_from Text [] = false
is_word_from Escape [] = false
is_word_from mode (b ∷ bs) = is_in_word (mode_after mode b) && is_word_from (mode_after mode b) bs

-- a whole word: a space may follow it
abbrev pub is_word : List ℕ → Bool
is_word word = is_word_from Between word

-- no space, which is 32
abbrev pub is_plain_byte : ℕ → Bool
is_plain_byte b = not (b == 32)

-- a word that is no string, which 34, the byte `"`, would begin
abbrev pub is_plain : List ℕ → Bool
is_plain [] = false
is_plain (b ∷ bs) = not (b == 34) && list_all is_plain_byte (b ∷ bs)

-- words with a space, which is 32, between each two
abbrev pub joined_words : List (List ℕ) → List ℕ
joined_words [] = []
joined_words (word ∷ []) = word
joined_words (word ∷ next ∷ words) = word ++ 32 ∷ joined_words (next ∷ words)

-- words with a space, which is 32, before each
abbrev pub spaced_words : List (List ℕ) → List ℕ
spaced_words [] = []
spaced_words (word ∷ words) = 32 ∷ word ++ spaced_words words
