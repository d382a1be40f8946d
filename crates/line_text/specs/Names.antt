-- Names, and lists of names.
use Rattle.std.specs.Prelude.{ℕ, Bool, true, false, ◌==◌, ◌&&◌, ◌||◌, not, nat_le, List, [], ◌∷◌, ◌++◌, length, bytes_eq, if◌then◌else◌}
use Rattle.std.specs.List.{list_all, list_any}
use Rattle.line_text.specs.Numbers.{is_digit}

-- a letter from a to z
abbrev pub is_letter : ℕ → Bool
is_letter b = nat_le 97 b && nat_le b 122

-- a letter, a digit or `_`
abbrev pub is_name_byte : ℕ → Bool
is_name_byte b = is_letter b || is_digit b || (b == 95)

-- 1 to 16 bytes, of which the first is a letter
abbrev pub is_name : List ℕ → Bool
is_name [] = false
is_name (b ∷ bs) = is_letter b && nat_le (length bs) 15 && list_all is_name_byte bs

-- whether a name is among these
abbrev pub has_name : List (List ℕ) → List ℕ → Bool
has_name names name = list_any (λ other. bytes_eq other name) names

-- these names and, unless it is among them, this one after them
abbrev pub with_distinct_name : List (List ℕ) → List ℕ → List (List ℕ)
with_distinct_name names name = if has_name names name then names else names ++ name ∷ []

-- these names and, after them, each further one in the order of its first use
abbrev pub with_distinct_names : List (List ℕ) → List (List ℕ) → List (List ℕ)
with_distinct_names names [] = names
with_distinct_names names (used ∷ uses) = with_distinct_names (with_distinct_name names used) uses

-- the different ones of these uses, in the order of their first uses
abbrev pub first_uses : List (List ℕ) → List (List ℕ)
first_uses uses = with_distinct_names [] uses

-- no two of these are the same
abbrev pub are_distinct : {X : Type 0} → (X → X → Bool) → List X → Bool
are_distinct same [] = true
are_distinct same (x ∷ xs) = not (list_any (same x) xs) && are_distinct same xs
