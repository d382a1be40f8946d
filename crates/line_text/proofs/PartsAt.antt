-- A word's parts, by the place of a byte.
use Rattle.std.proofs.Common.{◌≡◌, ℕ, ◌+◌, ◌-◌, ◌<◌, ◌≤◌, ◌==◌, cond, Some, None, List, [], ◌∷◌, ◌++◌, length, take, drop, position, arith, add-one, refl}
use Rattle.std.specs.List.{position_or_len}
use Rattle.std.proofs.lemmas.List.{take_rest}
use Rattle.std.proofs.lemmas.Grind.{common_steps}
use Rattle.line_text.specs.Parts.{parts_at, part_before_last}

abbrev place : ℕ → List ℕ → ℕ
place mark word = position_or_len (λ b. b == mark) word

abbrev IsParted : ℕ → List ℕ → Type 0
IsParted mark word = place mark word < length word → parts_at mark word ≡ Some (take (place mark word) word, drop (place mark word + 1) word)

parted_step : (mark b : ℕ) (bs : List ℕ) → IsParted mark bs → IsParted mark (b ∷ bs)
parted_step mark b bs h = grind (arith, add-one, common_steps)

parted : (mark : ℕ) (word : List ℕ) → IsParted mark word
parted mark [] = λ h. absurd (omega arith)
parted mark (b ∷ bs) = parted_step mark b bs (parted mark bs)

abbrev IsWhole : ℕ → List ℕ → Type 0
IsWhole mark word = length word ≤ place mark word → parts_at mark word ≡ None

whole_step : (mark b : ℕ) (bs : List ℕ) → IsWhole mark bs → IsWhole mark (b ∷ bs)
whole_step mark b bs h = grind (arith, add-one, common_steps)

whole : (mark : ℕ) (word : List ℕ) → IsWhole mark word
whole mark [] = λ h. refl
whole mark (b ∷ bs) = whole_step mark b bs (whole mark bs)

pub parted_at : (mark : ℕ) (word : List ℕ) (i : ℕ) → position (λ b. b == mark) word ≡ Some i → parts_at mark word ≡ Some (take i word, take (length word - (i + 1)) (drop (i + 1) word))
parted_at mark word i h = grind (arith, parted mark word, take_rest, common_steps)

pub not_parted : (mark : ℕ) (word : List ℕ) → position (λ b. b == mark) word ≡ None → parts_at mark word ≡ None
not_parted mark word h = grind (arith, whole mark word, common_steps)

-- the last byte
pub ends_with : (mark : ℕ) (front : List ℕ) (last : ℕ) → part_before_last mark (front ++ last ∷ []) ≡ cond (last == mark) (Some front) None
ends_with mark [] last = refl
ends_with mark (b ∷ []) last = grind (arith, common_steps)
ends_with mark (b ∷ c ∷ front) last = rw (ends_with mark (c ∷ front) last) (grind (arith, common_steps))
