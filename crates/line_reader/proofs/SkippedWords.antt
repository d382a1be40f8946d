-- Readers of one word, which neither look at the words that are left nor change them.
use Rattle.std.proofs.Common.{◌≡◌, ℕ, Bool, true, false, cond, List, [], ◌∷◌, Option, Some, None, Result, Ok, Err, refl, ap, ◌∙◌}
use Rattle.std.specs.Prelude.{◌==◌, bytes_eq, codes}
use Rattle.line_reader.specs.Types.{Reason}
use Rattle.line_reader.specs.Combinators.{Rest, Reader, pure, misspelling, value_out_of_range, value_of_undeclared, spelled_value, declared_number, then_read, ◌>>=◌}
use Rattle.line_reader.specs.Operands.{number_reader, number_from_word, name_from_word, variable_parts, descriptor_number, fd_from_word, pass_parts, pass_from_word, text_piece, variable_piece, fill_parts, piece_from_word, thread_from_word}
use Rattle.line_forms.specs.Words.{Tables, thread_number}
use Rattle.line_text.specs.declared.number.Number.{Number}
use Rattle.line_text.specs.declared.number.Number.TheVariants.{Found, OutOfRange, NoNumber}
use Rattle.line_text.specs.Words.{bounded_number, is_name, part_before_last, parts_at, string_of}

-- the rest, with these words left
abbrev pub at_words : List (List ℕ) → Rest → Rest
at_words words rest = record { words = words; in_range = rest.in_range; known = rest.known }

abbrev pub moved : {A : Type 0} → List (List ℕ) → Result (A × Rest) Reason → Result (A × Rest) Reason
moved words (Err reason) = Err reason
moved words (Ok found) = Ok (found.0, at_words words found.1)

pub record SkipsWords {A : Type 0} (read : Reader A) : Type 0 where
  pub same : (words : List (List ℕ)) (rest : Rest) → read (at_words words rest) ≡ moved words (read rest)

pub skips-pure : {A : Type 0} (x : A) → SkipsWords (pure x)
skips-pure x = record { same = λ words rest. refl }

pub skips-misspelling : {A : Type 0} → SkipsWords {A = A} misspelling
skips-misspelling = record { same = λ words rest. refl }

pub skips-value_out_of_range : {A : Type 0} (x : A) → SkipsWords (value_out_of_range x)
skips-value_out_of_range x = record { same = λ words rest. refl }

pub skips-value_of_undeclared : {A : Type 0} (x : A) → SkipsWords (value_of_undeclared x)
skips-value_of_undeclared x = record { same = λ words rest. refl }

then_moved : {A B : Type 0} (next : A → Reader B) → ((x : A) → SkipsWords (next x)) → (words : List (List ℕ)) (found : Result (A × Rest) Reason) → then_read next (moved words found) ≡ moved words (then_read next found)
then_moved next skips words (Err reason) = refl
then_moved next skips words (Ok found) = (skips found.0).same words found.1

pub skips-then : {A B : Type 0} (read : Reader A) (next : A → Reader B) → SkipsWords read → ((x : A) → SkipsWords (next x)) → SkipsWords (read >>= next)
skips-then read next first others = record { same = λ words rest. ap (then_read next) (first.same words rest) ∙ then_moved next others words (read rest) }

pub skips-if : {A : Type 0} (test : Bool) (one other : Reader A) → SkipsWords one → SkipsWords other → SkipsWords (cond test one other)
skips-if true one other skips_one skips_other = skips_one
skips-if false one other skips_one skips_other = skips_other

pub skips-spelled_value : {A : Type 0} (value : Option A) → SkipsWords (spelled_value value)
skips-spelled_value None = skips-misspelling
skips-spelled_value (Some x) = skips-pure x

pub skips-declared_number : (number : Option ℕ) → SkipsWords (declared_number number)
skips-declared_number None = skips-value_of_undeclared 0
skips-declared_number (Some n) = skips-pure n

-- operands

skips-number_reader : (number : Number) → SkipsWords (number_reader number)
skips-number_reader (Found n) = skips-pure n
skips-number_reader OutOfRange = skips-value_out_of_range 0
skips-number_reader NoNumber = skips-misspelling

pub skips-number_from_word : (low high : ℕ) (word : List ℕ) → SkipsWords (number_from_word low high word)
skips-number_from_word low high word = skips-number_reader (bounded_number low high word)

pub skips-name_from_word : (word : List ℕ) → SkipsWords (name_from_word word)
skips-name_from_word word = skips-if (is_name word) (pure word) misspelling (skips-pure word) skips-misspelling

skips-variable_parts : (word : List ℕ) (parts : Option (List ℕ × List ℕ)) → SkipsWords (variable_parts word parts)
skips-variable_parts word None = skips-then (name_from_word word) _ (skips-name_from_word word) (λ variable. skips-pure _)
skips-variable_parts word (Some parts) =
    skips-then (name_from_word parts.0) _ (skips-name_from_word parts.0) (λ variable. skips-then (number_from_word 0 15 parts.1) _ (skips-number_from_word 0 15 parts.1) (λ k. skips-pure _))

skips-descriptor_number : (word : List ℕ) → SkipsWords (descriptor_number word)
skips-descriptor_number word = skips-then (number_from_word 0 255 word) _ (skips-number_from_word 0 255 word) (λ n. skips-pure _)

pub skips-fd_from_word : (word : List ℕ) → SkipsWords (fd_from_word word)
skips-fd_from_word [] = skips-misspelling
skips-fd_from_word (b ∷ bs) = skips-if (b == 36) _ _ (skips-variable_parts bs (parts_at 46 bs)) (skips-descriptor_number (b ∷ bs))

skips-pass_parts : (word : List ℕ) (front : Option (List ℕ)) → SkipsWords (pass_parts word front)
skips-pass_parts word None = skips-then (fd_from_word word) _ (skips-fd_from_word word) (λ fd. skips-pure _)
skips-pass_parts word (Some front) = skips-then (fd_from_word front) _ (skips-fd_from_word front) (λ fd. skips-pure _)

pub skips-pass_from_word : (word : List ℕ) → SkipsWords (pass_from_word word)
skips-pass_from_word word = skips-pass_parts word (part_before_last 33 word)

skips-text_piece : (word : List ℕ) → SkipsWords (text_piece word)
skips-text_piece word = skips-then (spelled_value (string_of word)) _ (skips-spelled_value (string_of word)) (λ text. skips-pure _)

skips-variable_piece : (word : List ℕ) → SkipsWords (variable_piece word)
skips-variable_piece word = skips-then (name_from_word word) _ (skips-name_from_word word) (λ variable. skips-pure _)

skips-fill_parts : (parts : Option (List ℕ × List ℕ)) → SkipsWords (fill_parts parts)
skips-fill_parts None = skips-misspelling
skips-fill_parts (Some parts) =
    skips-if (bytes_eq parts.0 (codes "fill")) _ _ (skips-then (number_from_word 0 8192 parts.1) _ (skips-number_from_word 0 8192 parts.1) (λ n. skips-pure _)) skips-misspelling

pub skips-piece_from_word : (word : List ℕ) → SkipsWords (piece_from_word word)
skips-piece_from_word [] = skips-misspelling
skips-piece_from_word (b ∷ bs) =
    skips-if (b == 34) _ _ (skips-text_piece (b ∷ bs)) (skips-if (b == 36) _ _ (skips-variable_piece bs) (skips-fill_parts (parts_at 58 (b ∷ bs))))

pub skips-thread_from_word : (tables : Tables) (word : List ℕ) → SkipsWords (thread_from_word tables word)
skips-thread_from_word tables word =
    skips-then (name_from_word word) _ (skips-name_from_word word) (λ name. skips-then (declared_number (thread_number tables name)) _ (skips-declared_number (thread_number tables name)) (λ n. skips-pure _))
