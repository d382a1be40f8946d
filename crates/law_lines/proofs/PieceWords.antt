-- The words of pieces of data: what is read is spelled, what is spelled is read, and the word that is written spells it.
use Rattle.std.proofs.Common.{◌≡◌, ℕ, ◌≤◌, Bool, true, false, cond, ◌==◌, List, [], ◌∷◌, ◌++◌, Option, Some, None, Ok, refl, ap, sym, ◌∙◌, subst, arith, lit<}
use Rattle.std.specs.Prelude.{bytes_eq, codes, decimal}
use Rattle.std.proofs.lemmas.Bool.{eqb-true}
use Rattle.std.proofs.lemmas.Slice.Eq.{bytes_eq-Decides}
use Rattle.line_text.specs.Words.{SpellsString, is_name, is_word, parts_at, string_of}
use Rattle.line_text.proofs.JoinedWords.{is_word-plain}
use Rattle.line_text.proofs.PartWords.{parts_found}
use Rattle.line_text.proofs.StringWords.{string_again, spells_quoted}
use Rattle.line_text.proofs.StringsFound.{string_found, are_bytes-spelled, is_word-string}
use Rattle.line_reader.specs.Types.{Piece}
use Rattle.line_forms.specs.declared.line.Piece.TheVariants.{Text, Of, Fill}
use Rattle.line_reader.specs.Words.{Rest, fill_parts, misspelling, name_from_word, number_from_word, piece_from_word, pure, spelled_value, text_piece, then_read, variable_piece, ◌>>=◌}
use Rattle.line_forms.specs.Words.{SpellsPiece, piece_word, variable_word}
use Rattle.law_lines.proofs.Given.{Clean, same_value, same_rest, no_answer, in_turn, name_given, number_given, spelled_given}
use Rattle.law_lines.proofs.DescriptorWords.{Gave, number_reader-spelled, name_read-spelled, plain_append, plain_variable, plain_after}

-- what is read is spelled

text_found : (word : List ℕ) (rest : Rest) (piece : Piece) (new : Rest) → text_piece word rest ≡ Ok (piece, new) → Gave SpellsPiece piece word rest new
text_found word rest piece new e =
    let turn = in_turn (spelled_value (string_of word)) (λ text. pure (Text text)) rest piece new e in
    let text = spelled_given (string_of word) rest turn.x turn.mid turn.first in
    subst (λ p. Gave SpellsPiece p word rest new) (same_value turn.then) (record { spells = string_found turn.x word text.is; same = sym (same_rest turn.then) ∙ text.same })

variable_found : (b : ℕ) (word : List ℕ) (rest : Rest) (piece : Piece) (new : Rest) → b ≡ 36 → variable_piece word rest ≡ Ok (piece, new) → Gave SpellsPiece piece (b ∷ word) rest new
variable_found b word rest piece new sign e =
    let turn = in_turn (name_from_word word) (λ variable. pure (Of variable)) rest piece new e in
    let name = name_given word rest turn.x turn.mid turn.first in
    subst (λ p. Gave SpellsPiece p (b ∷ word) rest new) (same_value turn.then) (record {
      spells = (ap is_name name.is ∙ name.named, ap (λ c. c ∷ word) sign ∙ ap (λ bs. 36 ∷ bs) (sym name.is));
      same = sym (same_rest turn.then) ∙ name.same;
    })

fill_if : (test : Bool) (word : List ℕ) (parts : List ℕ × List ℕ) (rest : Rest) (piece : Piece) (new : Rest) → parts_at 58 word ≡ Some parts → bytes_eq parts.0 (codes "fill") ≡ test
    → cond test (number_from_word 0 8192 parts.1 >>= (λ n. pure (Fill n))) misspelling rest ≡ Ok (piece, new) → Clean new → Gave SpellsPiece piece word rest new
fill_if true word parts rest piece new parted is e clean =
    let turn = in_turn (number_from_word 0 8192 parts.1) (λ n. pure (Fill n)) rest piece new e in
    let last : turn.mid ≡ new = same_rest turn.then in
    let number = number_given 0 8192 parts.1 rest turn.x turn.mid (lit< tt) turn.first (subst Clean (sym last) clean) in
    let fill : parts.0 ≡ codes "fill" = (bytes_eq-Decides parts.0 (codes "fill")).0 is in
    let whole = (parts_found 58 word parts parted).put_together in
    subst (λ p. Gave SpellsPiece p word rest new) (same_value turn.then) (record {
      spells = (number.is.1, whole ∙ ap (λ bs. bs ++ 58 ∷ parts.1) fill ∙ ap (λ bs. codes "fill:" ++ bs) number.is.2);
      same = sym last ∙ number.same;
    })
fill_if false word parts rest piece new parted is e clean = absurd (no_answer e)

fill_found : (parts : Option (List ℕ × List ℕ)) (word : List ℕ) (rest : Rest) (piece : Piece) (new : Rest) → parts_at 58 word ≡ parts → fill_parts parts rest ≡ Ok (piece, new) → Clean new → Gave SpellsPiece piece word rest new
fill_found None word rest piece new parted e clean = absurd (no_answer e)
fill_found (Some parts) word rest piece new parted e clean = fill_if (bytes_eq parts.0 (codes "fill")) word parts rest piece new parted refl e clean

sign_if : (test : Bool) (b : ℕ) (word : List ℕ) (rest : Rest) (piece : Piece) (new : Rest) → (b == 36) ≡ test → cond test (variable_piece word) (fill_parts (parts_at 58 (b ∷ word))) rest ≡ Ok (piece, new) → Clean new
    → Gave SpellsPiece piece (b ∷ word) rest new
sign_if true b word rest piece new is e clean = variable_found b word rest piece new (eqb-true b 36 is) e
sign_if false b word rest piece new is e clean = fill_found (parts_at 58 (b ∷ word)) (b ∷ word) rest piece new refl e clean

quote_if : (test : Bool) (b : ℕ) (word : List ℕ) (rest : Rest) (piece : Piece) (new : Rest) → (b == 34) ≡ test
    → cond test (text_piece (b ∷ word)) (cond (b == 36) (variable_piece word) (fill_parts (parts_at 58 (b ∷ word)))) rest ≡ Ok (piece, new) → Clean new → Gave SpellsPiece piece (b ∷ word) rest new
quote_if true b word rest piece new is e clean = text_found (b ∷ word) rest piece new e
quote_if false b word rest piece new is e clean = sign_if (b == 36) b word rest piece new refl e clean

pub piece_found : (word : List ℕ) (rest : Rest) (piece : Piece) (new : Rest) → piece_from_word word rest ≡ Ok (piece, new) → Clean new → Gave SpellsPiece piece word rest new
piece_found [] rest piece new e clean = absurd (no_answer e)
piece_found (b ∷ word) rest piece new e clean = quote_if (b == 34) b word rest piece new refl e clean

-- what is spelled is read

text_again_at : (text : List ℕ) (word : List ℕ) (rest : Rest) → SpellsString text word → text_piece word rest ≡ Ok (Text text, rest)
text_again_at text word rest spells = ap (λ value. then_read (λ t. pure (Text t)) (spelled_value value rest)) (string_again text word spells)

text_again : (text : List ℕ) (word : List ℕ) (rest : Rest) → SpellsString text word → piece_from_word word rest ≡ Ok (Text text, rest)
text_again text [] rest spells = absurd spells
text_again text (b ∷ word) rest spells =
    let whole = ap (λ c. c ∷ word) spells.0 in
    ap (λ w. piece_from_word w rest) whole ∙ text_again_at text (34 ∷ word) rest (refl, spells.1)

variable_again : (variable : List ℕ) (rest : Rest) → is_name variable ≡ true → piece_from_word (36 ∷ variable) rest ≡ Ok (Of variable, rest)
variable_again variable rest named = ap (then_read (λ v. pure (Of v))) (name_read-spelled variable rest named)

fill_again : (n : ℕ) (rest : Rest) → n ≤ 8192 → piece_from_word (codes "fill:" ++ decimal n) rest ≡ Ok (Fill n, rest)
fill_again n rest small = ap (then_read (λ m. pure (Fill m))) (number_reader-spelled 0 8192 n (decimal n) rest (lit< tt) (omega arith, small, refl))

pub piece_again : (piece : Piece) (word : List ℕ) (rest : Rest) → SpellsPiece piece word → piece_from_word word rest ≡ Ok (piece, rest)
piece_again (Text text) word rest spells = text_again text word rest spells
piece_again (Of variable) word rest spells = ap (λ w. piece_from_word w rest) spells.1 ∙ variable_again variable rest spells.0
piece_again (Fill n) word rest spells = ap (λ w. piece_from_word w rest) spells.1 ∙ fill_again n rest spells.0

-- the word that is written

pub piece_written : (piece : Piece) (word : List ℕ) → SpellsPiece piece word → SpellsPiece piece (piece_word piece)
piece_written (Text text) word spells = spells_quoted text (are_bytes-spelled text word spells)
piece_written (Of variable) word spells = (spells.0, refl)
piece_written (Fill n) word spells = (spells.0, refl)

pub piece_is_word : (piece : Piece) (word : List ℕ) → SpellsPiece piece word → is_word word ≡ true
piece_is_word (Text text) word spells = is_word-string text word spells
piece_is_word (Of variable) word spells = rw spells.1 (is_word-plain (variable_word variable) (plain_variable variable spells.0))
piece_is_word (Fill n) word spells = rw spells.1 (is_word-plain (codes "fill:" ++ decimal n) (plain_append (codes "fill") (58 ∷ decimal n) refl (plain_after 58 n refl (omega arith))))
