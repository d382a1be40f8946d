-- A text by its line feeds.
use Rattle.std.specs.Prelude.{ℕ, ◌==◌, List, [], ◌∷◌, if◌then◌else◌}
use Rattle.line_text.specs.Words.{is_one_line}

-- a byte more at the front of the first line, if there is one
abbrev pub onto_line : ℕ → List (List ℕ) → List (List ℕ)
onto_line b [] = []
onto_line b (line ∷ lines) = (b ∷ line) ∷ lines

-- the lines that end in a line feed, which is 10, without it
abbrev pub whole_lines : List ℕ → List (List ℕ)
whole_lines [] = []
whole_lines (b ∷ bs) = if b == 10 then [] ∷ whole_lines bs else onto_line b (whole_lines bs)

-- what stands after the last line feed
abbrev pub cut_part : List ℕ → List ℕ
cut_part [] = []
cut_part (b ∷ bs) = if is_one_line (b ∷ bs) then b ∷ bs else cut_part bs
