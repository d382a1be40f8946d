-- What readers gave, where each number was in its range and each name declared.
use Rattle.std.proofs.Common.{◌≡◌, ℕ, ◌<◌, ◌^◌, Bool, true, false, cond, List, [], ◌∷◌, Option, Some, None, Result, Ok, Err, refl, ap, sym, ◌∙◌}
use Rattle.std.proofs.lemmas.Bool.{false≢true}
use Rattle.line_text.specs.declared.number.Number.{Number}
use Rattle.line_text.specs.declared.number.Number.TheVariants.{Found, OutOfRange, NoNumber}
use Rattle.line_text.specs.Words.{SpellsNumber, bounded_number, is_name}
use Rattle.line_text.proofs.DecimalWords.{number_spells}
use Rattle.line_reader.specs.Types.{Reason}
use Rattle.line_reader.specs.Words.{Reader, Rest, declared_number, misspelling, name_from_word, number_from_word, number_reader, pure, spelled_value, then_read, value_at_end, value_at_end_of}

-- each number so far is in its range, and each name declared
pub record Clean (rest : Rest) : Type 0 where
  pub in_range : rest.in_range ≡ true
  pub known : rest.known ≡ true

-- the parts of an answer

abbrev value_or : {A : Type 0} → A → Result (A × Rest) Reason → A
value_or x (Err reason) = x
value_or x (Ok found) = found.0

abbrev rest_or : {A : Type 0} → Rest → Result (A × Rest) Reason → Rest
rest_or rest (Err reason) = rest
rest_or rest (Ok found) = found.1

pub same_value : {A : Type 0} {x y : A} {one other : Rest} → ◌≡◌ {A = Result (A × Rest) Reason} (Ok (x, one)) (Ok (y, other)) → x ≡ y
same_value {x = x} e = ap (value_or x) e

pub same_rest : {A : Type 0} {x y : A} {one other : Rest} → ◌≡◌ {A = Result (A × Rest) Reason} (Ok (x, one)) (Ok (y, other)) → one ≡ other
same_rest {one = one} e = ap (rest_or one) e

abbrev is_given : {A : Type 0} → Result (A × Rest) Reason → Bool
is_given (Err reason) = false
is_given (Ok found) = true

pub no_answer : {A : Type 0} {reason : Reason} {x : A} {rest : Rest} → ◌≡◌ {A = Result (A × Rest) Reason} (Err reason) (Ok (x, rest)) → ⊥
no_answer e = false≢true (ap is_given e)

-- one reader after another

pub record InTurn {A B : Type 0} (read : Reader A) (next : A → Reader B) (rest : Rest) (y : B) (new : Rest) : Type 0 where
  pub x : A
  pub mid : Rest
  pub first : read rest ≡ Ok (x, mid)
  pub then : next x mid ≡ Ok (y, new)

in_turn_at : {A B : Type 0} (read : Reader A) (next : A → Reader B) (rest : Rest) (y : B) (new : Rest) (found : Result (A × Rest) Reason) → read rest ≡ found → then_read next found ≡ Ok (y, new) → InTurn read next rest y new
in_turn_at read next rest y new (Err reason) is e = absurd (no_answer e)
in_turn_at read next rest y new (Ok found) is e = record { x = found.0; mid = found.1; first = is; then = e }

pub in_turn : {A B : Type 0} (read : Reader A) (next : A → Reader B) (rest : Rest) (y : B) (new : Rest) → then_read next (read rest) ≡ Ok (y, new) → InTurn read next rest y new
in_turn read next rest y new e = in_turn_at read next rest y new (read rest) refl e

-- words

pub record IsSpelled {A : Type 0} (value : Option A) (x : A) (rest new : Rest) : Type 0 where
  pub is : value ≡ Some x
  pub same : new ≡ rest

pub spelled_given : {A : Type 0} (value : Option A) (rest : Rest) (x : A) (new : Rest) → spelled_value value rest ≡ Ok (x, new) → IsSpelled value x rest new
spelled_given None rest x new e = absurd (no_answer e)
spelled_given (Some y) rest x new e = record { is = ap Some (same_value e); same = sym (same_rest e) }

pub declared_given : (number : Option ℕ) (rest : Rest) (n : ℕ) (new : Rest) → declared_number number rest ≡ Ok (n, new) → Clean new → IsSpelled number n rest new
declared_given None rest n new e clean = absurd (false≢true (ap (λ r. r.known) (same_rest e) ∙ clean.known))
declared_given (Some m) rest n new e clean = record { is = ap Some (same_value e); same = sym (same_rest e) }

pub record IsNamed (word name : List ℕ) (rest new : Rest) : Type 0 where
  pub named : is_name word ≡ true
  pub is : name ≡ word
  pub same : new ≡ rest

name_if : (test : Bool) (word : List ℕ) (rest : Rest) (name : List ℕ) (new : Rest) → is_name word ≡ test → cond test (pure word) misspelling rest ≡ Ok (name, new) → IsNamed word name rest new
name_if true word rest name new is e = record { named = is; is = sym (same_value e); same = sym (same_rest e) }
name_if false word rest name new is e = absurd (no_answer e)

pub name_given : (word : List ℕ) (rest : Rest) (name : List ℕ) (new : Rest) → name_from_word word rest ≡ Ok (name, new) → IsNamed word name rest new
name_given word rest name new e = name_if (is_name word) word rest name new refl e

pub record IsNumbered (low high n : ℕ) (word : List ℕ) (rest new : Rest) : Type 0 where
  pub is : SpellsNumber low high n word
  pub same : new ≡ rest

number_if : (found : Number) (low high : ℕ) (word : List ℕ) (rest : Rest) (n : ℕ) (new : Rest) → high < 2 ^ 64 → bounded_number low high word ≡ found → number_reader found rest ≡ Ok (n, new) → Clean new → IsNumbered low high n word rest new
number_if (Found m) low high word rest n new small is e clean = record { is = number_spells low high n word small (is ∙ ap Found (same_value e)); same = sym (same_rest e) }
number_if OutOfRange low high word rest n new small is e clean = absurd (false≢true (ap (λ r. r.in_range) (same_rest e) ∙ clean.in_range))
number_if NoNumber low high word rest n new small is e clean = absurd (no_answer e)

pub number_given : (low high : ℕ) (word : List ℕ) (rest : Rest) (n : ℕ) (new : Rest) → high < 2 ^ 64 → number_from_word low high word rest ≡ Ok (n, new) → Clean new → IsNumbered low high n word rest new
number_given low high word rest n new small e clean = number_if (bounded_number low high word) low high word rest n new small refl e clean

-- the line's end

pub record IsEnded {A : Type 0} (value x : A) (rest new : Rest) : Type 0 where
  pub is : x ≡ value
  pub same : new ≡ rest
  pub words : rest.words ≡ []
  pub in_range : rest.in_range ≡ true

end_at : {A : Type 0} (value : A) (words : List (List ℕ)) (in_range : Bool) (rest : Rest) (x : A) (new : Rest) → rest.words ≡ words → rest.in_range ≡ in_range → value_at_end_of value words in_range rest ≡ Ok (x, new) → IsEnded value x rest new
end_at value [] true rest x new words in_range e = record { is = sym (same_value e); same = sym (same_rest e); words = words; in_range = in_range }
end_at value [] false rest x new words in_range e = absurd (no_answer e)
end_at value (word ∷ others) in_range rest x new words is e = absurd (no_answer e)

pub ended_given : {A : Type 0} (value : A) (rest : Rest) (x : A) (new : Rest) → value_at_end value rest ≡ Ok (x, new) → IsEnded value x rest new
ended_given value rest x new e = end_at value rest.words rest.in_range rest x new refl refl e
