-- A text has no more lines than bytes.
use Rattle.std.proofs.Common.{ℕ, ◌+◌, ◌≤◌, Bool, true, false, cond, ◌==◌, List, [], ◌∷◌, length, arith}
use Rattle.std.specs.List.{onto_first}
use Rattle.line_text.specs.Words.{lines_of}

length-onto_first : (b : ℕ) (lines : List (List ℕ)) → length (onto_first b lines) ≤ length lines + 1
length-onto_first b [] = omega arith
length-onto_first b (line ∷ lines) = omega arith

by_feed : (b : ℕ) (bs : List ℕ) (feed : Bool) → length (lines_of bs) ≤ length bs → length (onto_first b (lines_of bs)) ≤ length (lines_of bs) + 1
    → length (cond feed ([] ∷ lines_of bs) (onto_first b (lines_of bs))) ≤ length (b ∷ bs)
by_feed b bs true few more = omega (arith, few)
by_feed b bs false few more = omega (arith, few, more)

pub lines_few : (text : List ℕ) → length (lines_of text) ≤ length text
lines_few [] = omega arith
lines_few (b ∷ bs) = by_feed b bs (b == 10) (lines_few bs) (length-onto_first b (lines_of bs))
