-- The attributes, read one word after another.
use Rattle.std.proofs.Common.{◌≡◌, ℕ, ◌<◌, Bool, List, [], ◌∷◌, length, Option, Some, None, Result, Ok, Err, refl, ap, sym, ◌∙◌, arith}
use Rattle.std.specs.Prelude.{option_and_then, option_map}
use Rattle.std.proofs.lemmas.Bool.{false≢true}
use Rattle.line_text.specs.Types.{Attrs}
use Rattle.line_reader.specs.Types.{Reason}
use Rattle.line_forms.specs.declared.reason.Reason.TheVariants.{Form}
use Rattle.line_reader.specs.Combinators.{Rest, then_read, value_with_rest, spelled_value}
use Rattle.line_reader.specs.ListContracts.{any_word}
use Rattle.line_reader.specs.Operands as operands
use Rattle.line_forms.specs.Words.{attribute_flags, bits_of_word, set_from, with_bits}
use Rattle.line_reader.proofs.ItemByItem.{is_taken}

-- the words so far are in the set, and nothing else of the rest has changed
pub record AttributesSoFar (set : ℕ) (rest : Rest) (first : Rest) : Type 0 where
  pub same_set : set_from set rest.words ≡ set_from 0 first.words
  pub same_range : rest.in_range ≡ first.in_range
  pub same_known : rest.known ≡ first.known

-- a word was taken
record Taken (word : List ℕ) (old new : Rest) : Type 0 where
  words : old.words ≡ word ∷ new.words
  in_range : new.in_range ≡ old.in_range
  known : new.known ≡ old.known

abbrev word_of : Result (Option (List ℕ) × Rest) Reason → Option (List ℕ)
word_of (Err reason) = None
word_of (Ok found) = found.0

abbrev rest_of : Rest → Result (Option (List ℕ) × Rest) Reason → Rest
rest_of rest (Err reason) = rest
rest_of rest (Ok found) = found.1

taken_from : (words : List (List ℕ)) (in_range known : Bool) (word : List ℕ) (new : Rest)
    → let old : Rest = record { words = words; in_range = in_range; known = known } in
    any_word old ≡ Ok (Some word, new) → Taken word old new
taken_from [] in_range known word new e = absurd (false≢true (ap is_taken e))
taken_from (first ∷ words) in_range known word new e =
    let old : Rest = record { words = words; in_range = in_range; known = known } in
    let same_word : Some first ≡ Some word = ap word_of e in
    let word_is : first ≡ word = cc in
    let left : old ≡ new = ap (rest_of old) e in
    record {
      words = ap (λ w. w ∷ words) word_is ∙ ap (λ rest. word ∷ rest.words) left;
      in_range = ap (λ rest. rest.in_range) (sym left);
      known = ap (λ rest. rest.known) (sym left);
    }

taken : (word : List ℕ) (old new : Rest) → any_word old ≡ Ok (Some word, new) → Taken word old new
taken word old new e = taken_from old.words old.in_range old.known word new e

pub attribute-fewer : (word : List ℕ) (old new : Rest) → any_word old ≡ Ok (Some word, new) → length new.words < length old.words
attribute-fewer word old new e =
    let lengths : length old.words ≡ length (word ∷ new.words) = ap length (taken word old new e).words in
    omega arith

abbrev more_from : List (List ℕ) → Option ℕ → Option ℕ
more_from words set = option_and_then (λ more. set_from more words) set

pub attribute-kept : (set more : ℕ) (word : List ℕ) (old new first : Rest) → AttributesSoFar set old first → any_word old ≡ Ok (Some word, new)
    → option_and_then (with_bits set) (bits_of_word attribute_flags word) ≡ Some more → AttributesSoFar more new first
attribute-kept set more word old new first so_far e added =
    let was = taken word old new e in
    record {
      same_set = sym (ap (more_from new.words) added) ∙ ap (set_from set) (sym was.words) ∙ so_far.same_set;
      same_range = was.in_range ∙ so_far.same_range;
      same_known = was.known ∙ so_far.same_known;
    }

abbrev read_set : Rest → Option ℕ → Result (Attrs × Rest) Reason
read_set rest set = then_read (value_with_rest []) (spelled_value (option_map (λ bits. record { 0 = bits }) set) rest)

pub attribute-refused : (set : ℕ) (word : List ℕ) (old new first : Rest) → AttributesSoFar set old first → any_word old ≡ Ok (Some word, new)
    → option_and_then (with_bits set) (bits_of_word attribute_flags word) ≡ None → operands.attributes first ≡ Err Form
attribute-refused set word old new first so_far e refused =
    ap (read_set first) (sym so_far.same_set ∙ ap (set_from set) (taken word old new e).words ∙ ap (more_from new.words) refused)

ended_from : (words : List (List ℕ)) (in_range known : Bool) (new : Rest)
    → let old : Rest = record { words = words; in_range = in_range; known = known } in
    any_word old ≡ Ok (None, new) → (words ≡ []) × (old ≡ new)
ended_from [] in_range known new e = let old : Rest = record { words = []; in_range = in_range; known = known } in (refl, ap (rest_of old) e)
ended_from (first ∷ words) in_range known new e = let same_word : Some first ≡ None = ap word_of e in absurd (cc)

abbrev end_of : Bool → Bool → Rest
end_of in_range known = record { words = []; in_range = in_range; known = known }

abbrev read_at : ℕ → Rest → Result (Attrs × Rest) Reason
read_at set rest = Ok (record { 0 = set }, rest)

pub attribute_flags-ended : (set : ℕ) (old new first : Rest) → AttributesSoFar set old first → any_word old ≡ Ok (None, new)
    → operands.attributes first ≡ Ok (record { 0 = set }, new)
attribute_flags-ended set old new first so_far e =
    let end = ended_from old.words old.in_range old.known new e in
    ap (read_set first) (sym so_far.same_set ∙ ap (set_from set) end.0) ∙
    ap (read_at set) (
    ap (λ b. end_of b first.known) (sym so_far.same_range) ∙ ap (end_of old.in_range) (sym so_far.same_known) ∙ ap (λ w. record { words = w; in_range = old.in_range; known = old.known }) (sym end.0) ∙ end.1)
