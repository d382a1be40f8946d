-- Lines of joined lines.
use Rattle.std.proofs.Common.{◌≡◌, ℕ, true, false, ◌==◌, List, [], ◌∷◌, ◌++◌, refl, ap, ◌∙◌, arith}
use Rattle.std.specs.List.{list_all, list_any}
use Rattle.std.proofs.lemmas.Bool.{and_parts, or_parts, not-true, not_from_false}
use Rattle.std.proofs.lemmas.Grind.{common_steps}
use Rattle.line_text.specs.Lines.{lines_of, text_of_lines, is_one_line}

line_step : (b : ℕ) (line rest : List ℕ) → (b == 10) ≡ false → lines_of (line ++ 10 ∷ rest) ≡ line ∷ lines_of rest → lines_of (b ∷ line ++ 10 ∷ rest) ≡ (b ∷ line) ∷ lines_of rest
line_step b line rest other h = rw (other, h) refl

-- a line before a line feed
pub line_before : (line rest : List ℕ) → is_one_line line ≡ true → lines_of (line ++ 10 ∷ rest) ≡ line ∷ lines_of rest
line_before [] rest h = refl
line_before (b ∷ line) rest h =
    let p = or_parts (b == 10) (list_any (λ c. c == 10) line) (not-true _ h) in
    line_step b line rest p.0 (line_before line rest (not_from_false _ p.1))

-- the lines of a text of lines are these lines
pub lines_of-text_of_lines : (lines : List (List ℕ)) → list_all is_one_line lines ≡ true → lines_of (text_of_lines lines) ≡ lines
lines_of-text_of_lines [] h = refl
lines_of-text_of_lines (line ∷ lines) h =
    let p = and_parts (is_one_line line) (list_all is_one_line lines) h in
    line_before line (text_of_lines lines) p.0 ∙ ap (λ others. line ∷ others) (lines_of-text_of_lines lines p.1)

pub text_of_lines-append : (lines others : List (List ℕ)) → text_of_lines (lines ++ others) ≡ text_of_lines lines ++ text_of_lines others
text_of_lines-append [] others = refl
text_of_lines-append (line ∷ lines) others = rw (text_of_lines-append lines others) (grind (arith, common_steps))
