-- The words that are written for a set of attributes name the set.
use Rattle.std.proofs.Common.{◌≡◌, ℕ, zero, suc, ◌+◌, ◌<◌, ◌≤◌, ◌^◌, Bool, true, false, cond, ◌==◌, List, [], ◌∷◌, Option, Some, None, refl, ap, sym, ◌∙◌, subst, arith}
use Rattle.std.specs.Prelude.{option_map, find, filter, map, option_and_then, bit_and, bit_or, nat_lt}
use Rattle.std.specs.List.{list_all, range_with_len}
use Rattle.std.proofs.lemmas.Bool.{and_parts, eqb-true}
use Rattle.std.proofs.lemmas.Bool.Decides.{nat_tests}
use Rattle.std.proofs.lemmas.Nat.{or_of_8}
use Rattle.line_text.specs.Types.{Attrs}
use Rattle.line_text.specs.Words.{is_word}
use Rattle.line_forms.specs.Words.{Flag, attribute_flags, attribute_words, attributes_of, bits_of_word, is_in_set, is_word_of, set_from, with_bits}
use Rattle.line_forms.proofs.Numbering.{same_some, no_value}
use Rattle.law_lines.proofs.TableWords.{find_among, is_the_number, the_number}

-- a set has at most 8 bits

abbrev is_byte : ℕ → Bool
is_byte n = nat_lt n 256

small_byte : (n : ℕ) → is_byte n ≡ true → n < 2 ^ 8
small_byte n h = grind (arith, nat_tests)

found_small : (found : Option Flag) (word : List ℕ) (bits : ℕ) → find (is_word_of word) attribute_flags ≡ found → option_map (λ f. f.bits) found ≡ Some bits → bits < 2 ^ 8
found_small None word bits is e = absurd (no_value e)
found_small (Some f) word bits is e = subst (λ n. n < 2 ^ 8) (same_some e) (small_byte f.bits (find_among (is_word_of word) (λ f. is_byte f.bits) attribute_flags f refl is))

with_small : (test : Bool) (set bits more : ℕ) → set < 2 ^ 8 → bits < 2 ^ 8 → cond test (Some (bit_or set bits)) None ≡ Some more → more < 2 ^ 8
with_small true set bits more s b e = subst (λ n. n < 2 ^ 8) (same_some e) (or_of_8 set bits s b)
with_small false set bits more s b e = absurd (no_value e)

added_small : (found : Option ℕ) (word : List ℕ) (set more : ℕ) → bits_of_word attribute_flags word ≡ found → set < 2 ^ 8 → option_and_then (with_bits set) found ≡ Some more → more < 2 ^ 8
added_small None word set more is s e = absurd (no_value e)
added_small (Some bits) word set more is s e = with_small (bit_and set bits == 0) set bits more s (found_small (find (is_word_of word) attribute_flags) word bits refl is) e

more_small : (added : Option ℕ) (word : List ℕ) (words : List (List ℕ)) (set n : ℕ) → ((set n : ℕ) → set < 2 ^ 8 → set_from set words ≡ Some n → n < 2 ^ 8) → option_and_then (with_bits set) (bits_of_word attribute_flags word) ≡ added → set < 2 ^ 8
    → option_and_then (λ more. set_from more words) added ≡ Some n → n < 2 ^ 8
more_small None word words set n later is s e = absurd (no_value e)
more_small (Some more) word words set n later is s e = later more n (added_small (bits_of_word attribute_flags word) word set more refl s is) e

set_small : (words : List (List ℕ)) (set n : ℕ) → set < 2 ^ 8 → set_from set words ≡ Some n → n < 2 ^ 8
set_small [] set n s e = subst (λ m. m < 2 ^ 8) (same_some e) s
set_small (word ∷ words) set n s e = more_small (option_and_then (with_bits set) (bits_of_word attribute_flags word)) word words set n (set_small words) refl s e

-- each of these sets is named by its words

abbrev is_named : ℕ → Bool
is_named n = is_the_number n (set_from 0 (attribute_words (record { 0 = n })))

in_range_of : (test : ℕ → Bool) (from count n : ℕ) → list_all test (range_with_len from count) ≡ true → from ≤ n → n < from + count → test n ≡ true
in_range_of test from zero n all least below = absurd (omega arith)
in_range_of test from (suc count) n all least below =
    let parts = and_parts (test from) (list_all test (range_with_len (from + 1) count)) all in
    here (from == n) refl parts.0 (λ above. in_range_of test (from + 1) count n parts.1 above (omega arith))
  where
    above_if : (from n : ℕ) → (from == n) ≡ false → from ≤ n → from + 1 ≤ n
    above_if from n is least = grind (arith, nat_tests)

    here : (same : Bool) → (from == n) ≡ same → test from ≡ true → (from + 1 ≤ n → test n ≡ true) → test n ≡ true
    here true is first later = ap test (sym (eqb-true from n is)) ∙ first
    here false is first later = later (above_if from n is least)

all_named : list_all is_named (range_with_len 0 256) ≡ true
all_named = refl

pub attributes_written : (words : List (List ℕ)) (set : Attrs) → attributes_of words ≡ Some set → attributes_of (attribute_words set) ≡ Some set
attributes_written words set e = written_at (set_from 0 words) refl e
  where
    named : (n : ℕ) → n < 2 ^ 8 → set_from 0 (attribute_words (record { 0 = n })) ≡ Some n
    named n small = the_number n (set_from 0 (attribute_words (record { 0 = n }))) (in_range_of is_named 0 256 n all_named (omega arith) (omega arith))

    written_at : (found : Option ℕ) → set_from 0 words ≡ found → option_map (λ bits. record { 0 = bits }) found ≡ Some set → attributes_of (attribute_words set) ≡ Some set
    written_at None is e = absurd (no_value e)
    written_at (Some n) is e =
        let same : record { 0 = n } ≡ set = same_some e in
        subst (λ s. attributes_of (attribute_words s) ≡ Some s) same (ap (option_map (λ bits. record { 0 = bits })) (named n (set_small words 0 n (omega arith) is)))

-- words

flags_words : (test : Flag → Bool) (flags : List Flag) → list_all (λ f. is_word f.word) flags ≡ true → list_all is_word (map (λ f. f.word) (filter test flags)) ≡ true
flags_words test [] all = refl
flags_words test (f ∷ flags) all =
    let parts = and_parts (is_word f.word) (list_all (λ f. is_word f.word) flags) all in
    kept (test f) parts.0 (flags_words test flags parts.1)
  where
    kept : (here : Bool) → is_word f.word ≡ true → list_all is_word (map (λ f. f.word) (filter test flags)) ≡ true → list_all is_word (map (λ f. f.word) (cond here (f ∷ filter test flags) (filter test flags))) ≡ true
    kept true first later = rw (first, later) refl
    kept false first later = later

pub attributes_words : (set : Attrs) → list_all is_word (attribute_words set) ≡ true
attributes_words set = flags_words (is_in_set set.0) attribute_flags refl
