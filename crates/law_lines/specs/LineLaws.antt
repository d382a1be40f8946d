-- What holds of lines that are read and written.
use Rattle.std.specs.Prelude.{ℕ, ◌≡◌, true, List, [], Some, Ok}
use Rattle.line_reader.specs.Types.{Keyword, Line}
use Rattle.line_forms.specs.Words.{HasPaths, Tables, keyword_of_line, keyword_word, words_after_first}
use Rattle.line_reader.specs.Words.{Rest, first_word, line_with, rest_of}

-- a word is the line's keyword, and after it the line is read to its end, with each number in its range and each name
-- declared
pub record IsReadBack (tables : Tables) (process : ℕ) (line : Line) (words : List (List ℕ)) : Type 0 where
  pub keyword : first_word words ≡ Some (keyword_word (keyword_of_line line))
  pub reads : line_with tables process (keyword_of_line line) (rest_of (words_after_first words)) ≡ Ok (line, rest_of [])

-- these words were read after a keyword as this line, which names nothing that is not declared
pub record WasRead (tables : Tables) (process : ℕ) (keyword : Keyword) (words : List (List ℕ)) (line : Line) : Type 0 where
  pub left : Rest
  pub reads : line_with tables process keyword (rest_of words) ≡ Ok (line, left)
  pub known : left.known ≡ true
  pub paths : HasPaths tables line
