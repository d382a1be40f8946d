-- What the reader's own contracts say of operands that are several words: one item at a time.
use Rattle.std.specs.Prelude.{ℕ, Bool, true, false, List, [], ◌∷◌, Option, Some, None, codes}
use Rattle.line_reader.specs.Types.{Piece}
use Rattle.line_reader.specs.Combinators.{Reader, pure, value_with_rest, next_word, optional_word, ◌>>=◌}
use Rattle.line_reader.specs.Operands.{piece_from_word}

abbrev pub is_at_stop : (List ℕ → Bool) → List (List ℕ) → Bool
is_at_stop stops [] = true
is_at_stop stops (word ∷ words) = stops word

abbrev pub item_unless : {A : Type 0} → (List ℕ → Reader A) → Bool → Reader (Option A)
item_unless read true = pure None
item_unless read false = do
  word ← next_word
  item ← read word
  pure (Some item)

-- the next of the operands to the line's end, or to a word at which they stop
abbrev pub next_item : {A : Type 0} → (List ℕ → Bool) → (List ℕ → Reader A) → Reader (Option A)
next_item stops read rest = item_unless read (is_at_stop stops rest.words) rest

abbrev pub piece_after : Bool → Reader (Option Piece)
piece_after false = pure None
piece_after true = do
  word ← next_word
  piece ← piece_from_word word
  pure (Some piece)

-- the next piece of data, after the word `+`
abbrev pub next_piece : Reader (Option Piece)
next_piece = do
  joined ← optional_word (codes "+")
  piece_after joined

abbrev pub any_from : List (List ℕ) → Reader (Option (List ℕ))
any_from [] = pure None
any_from (word ∷ words) = value_with_rest words (Some word)

-- the next word, if there is one
abbrev pub any_word : Reader (Option (List ℕ))
any_word rest = any_from rest.words rest
