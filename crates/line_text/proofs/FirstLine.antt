-- The first line of a text, by the place of the first line feed.
use Rattle.std.proofs.Common.{◌≡◌, ℕ, ◌+◌, ◌-◌, ◌<◌, ◌≤◌, ◌==◌, Some, None, List, [], ◌∷◌, length, take, drop, position, arith, add-one}
use Rattle.std.specs.List.{position_or_len}
use Rattle.std.proofs.lemmas.List.{take_rest}
use Rattle.std.proofs.lemmas.Grind.{common_steps}
use Rattle.line_text.specs.Lines.{lines_of}

abbrev line_len : List ℕ → ℕ
line_len text = position_or_len (λ b. b == 10) text

abbrev IsCut : List ℕ → Type 0
IsCut text = line_len text < length text → lines_of text ≡ take (line_len text) text ∷ lines_of (drop (line_len text + 1) text)

cut_step : (b : ℕ) (bs : List ℕ) → IsCut bs → IsCut (b ∷ bs)
cut_step b bs h = grind (arith, add-one, common_steps)

cut : (text : List ℕ) → IsCut text
cut [] = λ h. absurd (omega arith)
cut (b ∷ bs) = cut_step b bs (cut bs)

abbrev IsLast : List ℕ → Type 0
IsLast text = length text ≤ line_len text → 0 < length text → lines_of text ≡ text ∷ []

last_step : (b : ℕ) (bs : List ℕ) → IsLast bs → IsLast (b ∷ bs)
last_step b bs h = grind (arith, add-one, common_steps)

last : (text : List ℕ) → IsLast text
last [] = λ h some. absurd (omega arith)
last (b ∷ bs) = last_step b bs (last bs)

pub cut_at : (text : List ℕ) (end : ℕ) → position (λ b. b == 10) text ≡ Some end → lines_of text ≡ take end text ∷ lines_of (take (length text - (end + 1)) (drop (end + 1) text))
cut_at text end h = grind (arith, cut text, take_rest, common_steps)

pub last_line : (text : List ℕ) → position (λ b. b == 10) text ≡ None → 0 < length text → lines_of text ≡ text ∷ lines_of (take (length text - length text) (drop (length text) text))
last_line text h some = grind (arith, last text, take_rest, common_steps)
