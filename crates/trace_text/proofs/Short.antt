-- How long words are.
use Rattle.std.proofs.Common.{◌≡◌, ◌≤◌, ◌==◌, ℕ, Bool, true, false, cond, List, [], ◌∷◌, length, Option, Some, refl, arith}
use Rattle.std.specs.Prelude.{find, nat_le}
use Rattle.std.specs.List.{list_all}
use Rattle.std.proofs.lemmas.Bool.{and_parts}
use Rattle.std.proofs.lemmas.Bool.Decides.{nat_tests}
use Rattle.dk_base.specs.Words.{errno_name}
use Rattle.dk_base.specs.declared.error.Errno.{Errno}
use Rattle.dk_base.specs.declared.error.Errno.TheVariants.{E2BIG}
use Rattle.dk_base.specs.declared.event.What.TheVariants.{Create}
use Rattle.line_text.specs.Types.{PollSet}
use Rattle.spec_requests.specs.Types.{What}
use Rattle.spec_requests.specs.Words.{what_word}
use Rattle.line_forms.specs.Sets.{Flag, attribute_flags, has_bits, poll_flags, poll_word, word_or_empty}
use Rattle.line_forms.specs.FlagWords.{flag_word}

pub errno_short : (e : Errno) → length (errno_name e) ≤ 7
errno_short E2BIG = omega arith
errno_short e = omega arith

pub what_short : (what : What) → length (what_word what) ≤ 10
what_short Create = omega arith
what_short what = omega arith

abbrev is_short : ℕ → Flag → Bool
is_short n f = nat_le (length f.word) n

is_within : (a n : ℕ) → nat_le a n ≡ true → a ≤ n
is_within a n h = grind (arith, nat_tests)

either_short : (is : Bool) (f : Flag) (found : Option Flag) (n : ℕ) → length f.word ≤ n → length (word_or_empty found) ≤ n →
    length (word_or_empty (cond is (Some f) found)) ≤ n
either_short true f found n here later = here
either_short false f found n here later = later

found_short : (flags : List Flag) (bits n : ℕ) → list_all (is_short n) flags ≡ true → length (word_or_empty (find (has_bits bits) flags)) ≤ n
found_short [] bits n h = omega arith
found_short (f ∷ flags) bits n h =
    let parts = and_parts (is_short n f) (list_all (is_short n) flags) h in
    either_short (f.bits == bits) f (find (has_bits bits) flags) n (is_within (length f.word) n parts.0) (found_short flags bits n parts.1)

pub attribute_short : (bits : ℕ) → length (flag_word attribute_flags bits) ≤ 11
attribute_short bits = found_short attribute_flags bits 11 refl

pub poll_short : (set : PollSet) → length (poll_word set) ≤ 14
poll_short set = found_short poll_flags set.0 14 refl
