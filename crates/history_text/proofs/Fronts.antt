-- Texts that begin with others.
use Rattle.std.proofs.Common.{◌≡◌, ℕ, Bool, true, false, cond, List, [], ◌∷◌, ◌++◌, Option, Some, None, refl, ap, sym, ◌∙◌}
use Rattle.std.specs.Prelude.{◌==◌, ◌&&◌, bytes_eq, nat_eq, option_and_then}
use Rattle.history_text.specs.Events.{after_front}

if_front : (same : Bool) (more : List ℕ) (one other : Option (List ℕ)) → one ≡ option_and_then (after_front more) other → cond same one None ≡ option_and_then (after_front more) (cond same other None)
if_front true more one other e = e
if_front false more one other e = refl

-- one front, and then another
pub after_two_fronts : (front more bytes : List ℕ) → after_front (front ++ more) bytes ≡ option_and_then (after_front more) (after_front front bytes)
after_two_fronts [] more bytes = refl
after_two_fronts (b ∷ front) more [] = refl
after_two_fronts (b ∷ front) more (c ∷ bytes) = if_front (b == c) more _ _ (after_two_fronts front more bytes)

abbrev equal_rest : List ℕ → Option (List ℕ) → Bool
equal_rest more None = false
equal_rest more (Some rest) = bytes_eq more rest

if_equal : (same : Bool) (more : List ℕ) (one : Bool) (other : Option (List ℕ)) → one ≡ equal_rest more other → (same && one) ≡ equal_rest more (cond same other None)
if_equal true more one other e = e
if_equal false more one other e = refl

-- a text is two others, one after another
pub equal_parts : (front more bytes : List ℕ) → bytes_eq (front ++ more) bytes ≡ equal_rest more (after_front front bytes)
equal_parts [] more bytes = refl
equal_parts (b ∷ front) more [] = refl
equal_parts (b ∷ front) more (c ∷ bytes) = if_equal (b == c) more _ _ (equal_parts front more bytes)

pub equal_front : (front more bytes rest : List ℕ) → after_front front bytes ≡ Some rest → bytes_eq (front ++ more) bytes ≡ bytes_eq more rest
equal_front front more bytes rest e = equal_parts front more bytes ∙ ap (equal_rest more) e

pub unequal_front : (front more bytes : List ℕ) → after_front front bytes ≡ None → bytes_eq (front ++ more) bytes ≡ false
unequal_front front more bytes e = equal_parts front more bytes ∙ ap (equal_rest more) e
