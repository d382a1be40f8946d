-- Bytes that stand before those that a string's rest spells.
use Rattle.std.proofs.Common.{◌≡◌, ℕ, Option, Some, None, List, [], ◌∷◌, ◌++◌, refl}
use Rattle.std.proofs.lemmas.List.{append_assoc}
use Rattle.line_text.specs.Strings.{text_with_first}

abbrev pub after_front : List ℕ → Option (List ℕ) → Option (List ℕ)
after_front front None = None
after_front front (Some rest) = Some (front ++ rest)

-- one byte more
pub after_front_byte : (front : List ℕ) (b : ℕ) (text : Option (List ℕ)) → after_front front (text_with_first b text) ≡ after_front (front ++ b ∷ []) text
after_front_byte front b None = refl
after_front_byte front b (Some text) = rw append_assoc refl
