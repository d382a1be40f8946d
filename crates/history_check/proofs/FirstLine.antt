-- The first line of a text, by the place of the first line feed.
use Rattle.std.proofs.Common.{◌≡◌, ℕ, ◌+◌, ◌-◌, ◌<◌, ◌≤◌, ◌==◌, true, false, Some, None, List, [], ◌∷◌, length, take, drop, position, refl, arith, add-one}
use Rattle.std.specs.List.{position_or_len}
use Rattle.std.proofs.lemmas.List.{take_rest}
use Rattle.std.proofs.lemmas.Grind.{common_steps}
use Rattle.line_text.specs.Words.{is_one_line}
use Rattle.history_check.specs.WholeLines.{cut_part, whole_lines}

abbrev line_len : List ℕ → ℕ
line_len text = position_or_len (λ b. b == 10) text

abbrev HasFeed : List ℕ → Type 0
HasFeed text = line_len text < length text → is_one_line text ≡ false

feed_step : (b : ℕ) (bs : List ℕ) → HasFeed bs → HasFeed (b ∷ bs)
feed_step b bs h = grind (arith, add-one, common_steps)

has_feed : (text : List ℕ) → HasFeed text
has_feed [] = λ h. absurd (omega arith)
has_feed (b ∷ bs) = feed_step b bs (has_feed bs)

abbrev HasNone : List ℕ → Type 0
HasNone text = length text ≤ line_len text → (is_one_line text ≡ true) × (whole_lines text ≡ [])

none_step : (b : ℕ) (bs : List ℕ) → HasNone bs → HasNone (b ∷ bs)
none_step b bs h = grind (arith, add-one, common_steps)

has_none : (text : List ℕ) → HasNone text
has_none [] = λ h. (refl, refl)
has_none (b ∷ bs) = none_step b bs (has_none bs)

abbrev IsCut : List ℕ → Type 0
IsCut text = line_len text < length text → whole_lines text ≡ take (line_len text) text ∷ whole_lines (drop (line_len text + 1) text)

cut_step : (b : ℕ) (bs : List ℕ) → IsCut bs → IsCut (b ∷ bs)
cut_step b bs h = grind (arith, add-one, common_steps)

cut : (text : List ℕ) → IsCut text
cut [] = λ h. absurd (omega arith)
cut (b ∷ bs) = cut_step b bs (cut bs)

abbrev LeavesCut : List ℕ → Type 0
LeavesCut text = line_len text < length text → cut_part text ≡ cut_part (drop (line_len text + 1) text)

leaves_step : (b : ℕ) (bs : List ℕ) → HasFeed (b ∷ bs) → LeavesCut bs → LeavesCut (b ∷ bs)
leaves_step b bs feed h = grind (arith, add-one, common_steps)

leaves : (text : List ℕ) → LeavesCut text
leaves [] = λ h. absurd (omega arith)
leaves (b ∷ bs) = leaves_step b bs (has_feed (b ∷ bs)) (leaves bs)

pub cut_at : (text : List ℕ) (end : ℕ) → position (λ b. b == 10) text ≡ Some end → whole_lines text ≡ take end text ∷ whole_lines (take (length text - (end + 1)) (drop (end + 1) text))
cut_at text end h = grind (arith, cut text, take_rest, common_steps)

pub rest_at : (text : List ℕ) (end : ℕ) → position (λ b. b == 10) text ≡ Some end → cut_part text ≡ cut_part (take (length text - (end + 1)) (drop (end + 1) text))
rest_at text end h = grind (arith, leaves text, take_rest, common_steps)

pub no_lines : (text : List ℕ) → position (λ b. b == 10) text ≡ None → whole_lines text ≡ []
no_lines text h = grind (arith, has_none text, common_steps)

cut_whole : (text : List ℕ) → is_one_line text ≡ true → cut_part text ≡ text
cut_whole [] h = refl
cut_whole (b ∷ bs) h = rw h refl

pub all_cut : (text : List ℕ) → position (λ b. b == 10) text ≡ None → cut_part text ≡ text
all_cut text h = cut_whole text (grind (arith, has_none text, common_steps))
