-- The digest of bytes as text: their SHA-256 in lower case hexadecimal.
use Rattle.std.specs.Prelude.{ℕ, ◌/◌, ◌%◌, List, [], ◌∷◌, flat_map}
use Rattle.sha2.specs.Sha256.{sha256}
use Rattle.line_text.specs.Words.{hex_digit}

-- a byte in two digits
abbrev pub hex_byte : ℕ → List ℕ
hex_byte b = hex_digit (b / 16) ∷ hex_digit (b % 16) ∷ []

abbrev pub hex_text : List ℕ → List ℕ
hex_text bytes = flat_map hex_byte bytes

abbrev pub digest_of : List ℕ → List ℕ
digest_of bytes = hex_text (sha256 bytes)
