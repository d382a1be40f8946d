-- Readers of operands.
use Rattle.std.specs.Prelude.{ℕ, Bool, true, false, ◌&&◌, nat_le, List, [], ◌∷◌, Option, Some, None, Result, Ok, Err, bytes_eq, length, if◌then◌else◌}
use Rattle.line_reader.specs.Types.{Reason}
use Rattle.line_forms.specs.declared.reason.Reason.TheVariants.{Form, Range}

-- The words of a line that are still to be read; whether each number so far is in its range, and whether each name of a
-- procedure, a thread or a process so far is declared.
pub record Rest : Type 0 where
  pub words : List (List ℕ)
  pub in_range : Bool
  pub known : Bool

-- what stands after a line's first word
abbrev pub rest_of : List (List ℕ) → Rest
rest_of words = record { words = words; in_range = true; known = true }

-- A reader gives a value and what is left. It fails with `form` at a wrong spelling; a number outside its range, and a
-- name that is not declared, are kept in mind until the line's end.
abbrev pub Reader : Type 0 → Type 0
Reader A = Rest → Result (A × Rest) Reason

abbrev pub pure : {A : Type 0} → A → Reader A
pure value rest = Ok (value, rest)

abbrev pub misspelling : {A : Type 0} → Reader A
misspelling rest = Err Form

abbrev pub then_read : {A B : Type 0} → (A → Reader B) → Result (A × Rest) Reason → Result (B × Rest) Reason
then_read next (Err reason) = Err reason
then_read next (Ok found) = next found.0 found.1

infixl 10 ◌>>=◌
abbrev pub ◌>>=◌ : {A B : Type 0} → Reader A → (A → Reader B) → Reader B
◌>>=◌ read next rest = then_read next (read rest)

-- a value, where these words are left
abbrev pub value_with_rest : {A : Type 0} → List (List ℕ) → A → Reader A
value_with_rest words value rest = Ok (value, record { words = words; in_range = rest.in_range; known = rest.known })

-- a value in place of a number that is outside its range
abbrev pub value_out_of_range : {A : Type 0} → A → Reader A
value_out_of_range value rest = Ok (value, record { words = rest.words; in_range = false; known = rest.known })

-- a value in place of the number of a name that is not declared
abbrev pub value_of_undeclared : {A : Type 0} → A → Reader A
value_of_undeclared value rest = Ok (value, record { words = rest.words; in_range = rest.in_range; known = false })

-- the value that a word spells, if it spells one
abbrev pub spelled_value : {A : Type 0} → Option A → Reader A
spelled_value None = misspelling
spelled_value (Some value) = pure value

abbrev pub declared_number : Option ℕ → Reader ℕ
declared_number None = value_of_undeclared 0
declared_number (Some number) = pure number

abbrev pub first_of : List (List ℕ) → Reader (List ℕ)
first_of [] = misspelling
first_of (word ∷ words) = value_with_rest words word

-- the next word
abbrev pub next_word : Reader (List ℕ)
next_word rest = first_of rest.words rest

abbrev pub optional_word_of : List ℕ → List (List ℕ) → Reader Bool
optional_word_of keyword [] = pure false
optional_word_of keyword (word ∷ words) = if bytes_eq word keyword then value_with_rest words true else pure false

-- whether the next word is this one, which is then read
abbrev pub optional_word : List ℕ → Reader Bool
optional_word keyword rest = optional_word_of keyword rest.words rest

-- a number of the line was outside its range
abbrev pub range_fault : {A : Type 0} → Reader A
range_fault rest = Err Range

abbrev pub value_at_end_of : {A : Type 0} → A → List (List ℕ) → Bool → Reader A
value_at_end_of value [] true = pure value
value_at_end_of value [] false = range_fault
value_at_end_of value (word ∷ words) in_range = misspelling

-- the line ends: no word is left, and each number was in its range
abbrev pub value_at_end : {A : Type 0} → A → Reader A
value_at_end value rest = value_at_end_of value rest.words rest.in_range rest

-- the operands to the line's end, or to a word at which they stop
abbrev pub items_from : {A : Type 0} → (List ℕ → Bool) → (List ℕ → Reader A) → List (List ℕ) → Reader (List A)
items_from stops read [] = value_with_rest [] []
items_from stops read (word ∷ words) =
    if stops word then value_with_rest (word ∷ words) [] else (
    read word >>= (λ first. items_from stops read words >>= (λ others. pure (first ∷ others))))

abbrev pub items_to : {A : Type 0} → (List ℕ → Bool) → (List ℕ → Reader A) → Reader (List A)
items_to stops read rest = items_from stops read rest.words rest

-- a list of at least low and at most high
abbrev pub list_in_range : {A : Type 0} → ℕ → ℕ → List A → Reader (List A)
list_in_range low high items = if nat_le low (length items) && nat_le (length items) high then pure items else misspelling

abbrev pub nonempty_list : {A : Type 0} → List A → Reader (List A)
nonempty_list [] = misspelling
nonempty_list (item ∷ items) = pure (item ∷ items)
