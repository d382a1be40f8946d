-- The operands that a reading found.
use Rattle.std.proofs.Common.{◌≡◌, ℕ, ◌<◌, ◌^◌, Bool, true, false, cond, List, [], ◌∷◌, ◌++◌, length, Option, Some, None, Result, Ok, Err, refl, ap, sym, ◌∙◌, subst, append-nil, arith}
use Rattle.std.proofs.lemmas.Bool.{false≢true}
use Rattle.std.proofs.lemmas.Slice.Eq.{bytes_eq-Decides}
use Rattle.std.specs.Prelude.{◌==◌, ◌&&◌, bytes_eq, codes, decimal, map, nat_le, not, option_and_then, option_map}
use Rattle.line_reader.specs.Types.{Reason}
use Rattle.line_reader.specs.Combinators.{Reader, Rest, list_in_range, misspelling, pure, spelled_value, then_read, value_out_of_range, ◌>>=◌}
use Rattle.line_reader.specs.Operands.{is_no_stop, is_rsize, mode, name, name_from_word, number, number_from_word, number_reader, param, poll}
use Rattle.line_forms.proofs.Numbering.{no_value, same_some}
use Rattle.line_forms.proofs.FlagSearch.{poll_found}
use Rattle.line_forms.specs.FlagWords.{bits_of_flags, flag_word}
use Rattle.line_forms.specs.Sets.{bits_of_word, poll_flags}
use Rattle.line_forms.specs.Words.{greatest_32, greatest_64, mode_of, mode_word, modes, param_of, param_word, params, poll_of, poll_word, value_of_word, value_word, wait_words}
use Rattle.line_text.proofs.DecimalWords.{number_found}
use Rattle.line_text.proofs.PartWords.{front_found}
use Rattle.line_text.specs.declared.number.Number.{Number}
use Rattle.line_text.specs.declared.number.Number.TheVariants.{Found, OutOfRange, NoNumber}
use Rattle.line_text.specs.Words.{bounded_number, is_name, part_before_last, quoted_text, string_of}
use Rattle.history_text.specs.Types.{Fd, Pass, PollSet}
use Rattle.history_text.specs.LineWords.{desc_words, fd_word, pass_word}
use Rattle.history_text.specs.Operands.{bytes_in_range, canonical_string, fd, fd_from_word, if_canonical, is_greatest, number_32, number_64, pass_from_word, pass_parts, passes, passes_after, ports, released, string, the_word, value, value_from_word, waits, word_after}
use Rattle.history_text.proofs.Found.{IsClean, ReadsAs, Spelled, WordRead, WordSpelled, items-spelled, not_read, optional_spelled, pure-as, same_rest, same_value, spelled_as, table-spelled, then-as, weaker-as, word-spelled, words_if}

-- a value that a reading of one word gave at once
pub record AtOnce {A : Type 0} (x y : A) (rest new : Rest) : Type 0 where
  pub value_is : x ≡ y
  pub clean : IsClean rest
  pub left : new.words ≡ rest.words

pub pure_at_once : {A : Type 0} (x y : A) (rest new : Rest) → pure x rest ≡ Ok (y, new) → IsClean new → AtOnce x y rest new
pure_at_once x y rest new e clean =
    let same : rest ≡ new = same_rest x y rest new e in
    record { value_is = same_value x y rest new e; clean = subst IsClean (sym same) clean; left = ap (λ r. r.words) (sym same) }

pub unclean : {A : Type 0} (x y : A) (rest new : Rest) → value_out_of_range x rest ≡ Ok (y, new) → IsClean new → ⊥
unclean x y rest new e clean =
    let same : record { words = rest.words; in_range = false; known = rest.known } ≡ new = same_rest x y _ new e in
    let before : IsClean (record { words = rest.words; in_range = false; known = rest.known }) = subst IsClean (sym same) clean in
    false≢true before.in_range

-- numbers

number_if : (found : Number) (rest : Rest) (x : ℕ) (new : Rest) → number_reader found rest ≡ Ok (x, new) → IsClean new → (found ≡ Found x) × IsClean rest × (new.words ≡ rest.words)
number_if (Found n) rest x new e clean = let once = pure_at_once n x rest new e clean in (ap Found once.value_is, once.clean, once.left)
number_if OutOfRange rest x new e clean = absurd (unclean 0 x rest new e clean)
number_if NoNumber rest x new e clean = absurd (not_read _ x new e)

pub number_word : (low high : ℕ) → high < 2 ^ 64 → WordSpelled (number_from_word low high) decimal
number_word low high fits = record {
  found = λ word rest x new e clean.
      let found = number_if (bounded_number low high word) rest x new e clean in
      record { clean = found.1; word_is = (number_found low high word x fits found.0).spelled; left = found.2 };
}

pub number_spelled : (low high : ℕ) → high < 2 ^ 64 → Spelled (number low high) (λ n. decimal n ∷ [])
number_spelled low high fits = word-spelled (number_word low high fits)

pub number_32_spelled : Spelled number_32 (λ n. decimal n ∷ [])
number_32_spelled = number_spelled 0 greatest_32 (omega arith)

pub number_64_spelled : Spelled number_64 (λ n. decimal n ∷ [])
number_64_spelled = number_spelled 0 greatest_64 (omega arith)

-- names

name_if : (test : Bool) (word : List ℕ) (rest : Rest) (x : List ℕ) (new : Rest) → cond test (pure word) misspelling rest ≡ Ok (x, new) → IsClean new → WordRead word x rest new
name_if true word rest x new e clean = let once = pure_at_once word x rest new e clean in record { clean = once.clean; word_is = once.value_is; left = once.left }
name_if false word rest x new e clean = absurd (not_read _ x new e)

pub name_word : WordSpelled name_from_word (λ name. name)
name_word = record { found = λ word rest x new e clean. name_if (is_name word) word rest x new e clean }

pub name_spelled : Spelled name (λ called. called ∷ [])
name_spelled = word-spelled name_word

-- a word whose value is made into another

mapped_if : {A B : Type 0} (spell : A → List ℕ) (make : A → B) (remade : B → List ℕ) → ((x : A) → spell x ≡ remade (make x)) → (word : List ℕ) (rest : Rest) (answer : Result (A × Rest) Reason)
    → ((x : A) (mid : Rest) → answer ≡ Ok (x, mid) → IsClean mid → WordRead word (spell x) rest mid)
    → (y : B) (new : Rest) → then_read (λ x. pure (make x)) answer ≡ Ok (y, new) → IsClean new → WordRead word (remade y) rest new
mapped_if spell make remade same word rest (Err reason) one y new e clean = absurd (not_read reason y new e)
mapped_if spell make remade same word rest (Ok given) one y new e clean =
    let once = pure_at_once (make given.0) y given.1 new e clean in
    let found = one given.0 given.1 refl once.clean in
    record { clean = found.clean; word_is = found.word_is ∙ same given.0 ∙ ap remade once.value_is; left = once.left ∙ found.left }

pub mapped_word : {A B : Type 0} (read : List ℕ → Reader A) (spell : A → List ℕ) (make : A → B) (remade : B → List ℕ) → ((x : A) → spell x ≡ remade (make x)) → WordSpelled read spell → WordSpelled (λ word. read word >>= (λ x. pure (make x))) remade
mapped_word read spell make remade same one = record { found = λ word rest y new e clean. mapped_if spell make remade same word rest (read word rest) (λ x mid is ends. one.found word rest x mid is ends) y new e clean }

-- descriptors

abbrev fd_numbered : ℕ → Fd
fd_numbered n = record { 0 = n }

pub fd_from_word_spelled : WordSpelled fd_from_word fd_word
fd_from_word_spelled = mapped_word (number_from_word 0 greatest_32) decimal fd_numbered fd_word (λ n. refl) (number_word 0 greatest_32 (omega arith))

pub fd_spelled : Spelled fd (λ given. fd_word given ∷ [])
fd_spelled = word-spelled fd_from_word_spelled

released_found : (front : List ℕ) (rest : Rest) (answer : Result (Fd × Rest) Reason) → fd_from_word front rest ≡ answer → (x : Pass) (new : Rest)
    → then_read (λ given. pure (released true given)) answer ≡ Ok (x, new) → IsClean new → WordRead (front ++ 33 ∷ []) (pass_word x) rest new
released_found front rest (Err reason) is x new e clean = absurd (not_read reason x new e)
released_found front rest (Ok given) is x new e clean =
    let once = pure_at_once (released true given.0) x given.1 new e clean in
    let one = fd_from_word_spelled.found front rest given.0 given.1 is once.clean in
    record { clean = one.clean; word_is = ap (λ w. w ++ 33 ∷ []) one.word_is ∙ ap pass_word once.value_is; left = once.left ∙ one.left }

pass_if : (word : List ℕ) (front : Option (List ℕ)) → part_before_last 33 word ≡ front → (rest : Rest) (x : Pass) (new : Rest) → pass_parts word front rest ≡ Ok (x, new) → IsClean new → WordRead word (pass_word x) rest new
pass_if word None is rest x new e clean =
    (mapped_word fd_from_word fd_word (released false) pass_word (λ given. sym (append-nil (fd_word given))) fd_from_word_spelled).found word rest x new e clean
pass_if word (Some front) is rest x new e clean =
    let found = released_found front rest (fd_from_word front rest) refl x new e clean in
    record { clean = found.clean; word_is = front_found 33 word front is ∙ found.word_is; left = found.left }

pub pass_word_spelled : WordSpelled pass_from_word pass_word
pass_word_spelled = record { found = λ word rest x new e clean. pass_if word (part_before_last 33 word) refl rest x new e clean }

-- lists of descriptors

record IsList {A : Type 0} (low : ℕ) (xs ys : List A) (words : List (List ℕ)) : Type 0 where
  none : words ≡ []
  same : ys ≡ xs
  some : nat_le low (length xs) ≡ true

list_if : {A : Type 0} (low : ℕ) (enough few : Bool) (xs : List A) → nat_le low (length xs) ≡ enough → ReadsAs (cond (enough && few) (pure xs) misspelling) (λ ys words new. IsList low xs ys words)
list_if low true true xs is = pure-as (λ rest. record { none = refl; same = refl; some = is })
list_if low true false xs is = record { found = λ rest y new e clean. absurd (not_read _ y new e) }
list_if low false few xs is = record { found = λ rest y new e clean. absurd (not_read _ y new e) }

list_as : {A : Type 0} (low high : ℕ) (xs : List A) → ReadsAs (list_in_range low high xs) (λ ys words new. IsList low xs ys words)
list_as low high xs = list_if low (nat_le low (length xs)) (nat_le (length xs) high) xs refl

desc_of : (xs : List Pass) → nat_le 1 (length xs) ≡ true → codes "desc" ∷ map pass_word xs ≡ desc_words xs
desc_of [] some = absurd (false≢true some)
desc_of (x ∷ xs) some = refl

desc_found : (xs ys : List Pass) (words : List (List ℕ)) → IsList 1 xs ys words → codes "desc" ∷ (map pass_word xs ++ words) ≡ desc_words ys
desc_found xs ys words is =
    ap (λ ws. codes "desc" ∷ (map pass_word xs ++ ws)) is.none ∙ ap (λ ws. codes "desc" ∷ ws) (append-nil (map pass_word xs)) ∙ desc_of xs is.some ∙ ap desc_words (sym is.same)

passes_if : (here : Bool) → ReadsAs (passes_after here) (λ given words new. words_if here (codes "desc") ++ words ≡ desc_words given)
passes_if false = pure-as (λ rest. refl)
passes_if true = then-as (items-spelled is_rsize pass_from_word pass_word pass_word_spelled) (λ given. weaker-as (list_as 1 32 given) (λ ys words new is. desc_found given ys words is))

pub passes_spelled : Spelled passes desc_words
passes_spelled = spelled_as desc_words (then-as (optional_spelled (codes "desc")) passes_if)

ports_found : (xs ys : List Fd) (words : List (List ℕ)) → IsList 1 xs ys words → map fd_word xs ++ words ≡ map fd_word ys
ports_found xs ys words is = ap (λ ws. map fd_word xs ++ ws) is.none ∙ append-nil (map fd_word xs) ∙ ap (map fd_word) (sym is.same)

pub ports_spelled : Spelled ports (map fd_word)
ports_spelled = spelled_as (map fd_word) (then-as (items-spelled is_no_stop fd_from_word fd_word fd_from_word_spelled) (λ fds. weaker-as (list_as 1 16 fds) (λ ys words new is. ports_found fds ys words is)))

-- strings

canonical_if : (same : Bool) (word text found : List ℕ) → bytes_eq (quoted_text text) word ≡ same → cond same (Some text) None ≡ Some found → word ≡ quoted_text found
canonical_if true word text found is e = sym ((bytes_eq-Decides (quoted_text text) word).0 is) ∙ ap quoted_text (same_some e)
canonical_if false word text found is e = absurd (no_value e)

canonical_of : (word : List ℕ) (text : Option (List ℕ)) (found : List ℕ) → option_and_then (if_canonical word) text ≡ Some found → word ≡ quoted_text found
canonical_of word None found e = absurd (no_value e)
canonical_of word (Some text) found e = canonical_if (bytes_eq (quoted_text text) word) word text found refl e

length_if : (fits : Bool) (text : List ℕ) (rest : Rest) (x : List ℕ) (new : Rest) → cond fits (pure text) (value_out_of_range []) rest ≡ Ok (x, new) → IsClean new → AtOnce text x rest new
length_if true text rest x new e clean = pure_at_once text x rest new e clean
length_if false text rest x new e clean = absurd (unclean [] x rest new e clean)

string_if : (low high : ℕ) (word : List ℕ) (text : Option (List ℕ)) → canonical_string word ≡ text → (rest : Rest) (x : List ℕ) (new : Rest)
    → (spelled_value text >>= bytes_in_range low high) rest ≡ Ok (x, new) → IsClean new → WordRead word (quoted_text x) rest new
string_if low high word None is rest x new e clean = absurd (not_read _ x new e)
string_if low high word (Some text) is rest x new e clean =
    let once = length_if (nat_le low (length text) && nat_le (length text) high) text rest x new e clean in
    record { clean = once.clean; word_is = canonical_of word (string_of word) text is ∙ ap quoted_text once.value_is; left = once.left }

pub string_spelled : (low high : ℕ) → Spelled (string low high) (λ bytes. quoted_text bytes ∷ [])
string_spelled low high = word-spelled {read = λ word. spelled_value (canonical_string word) >>= bytes_in_range low high} (record { found = λ word rest x new e clean. string_if low high word (canonical_string word) refl rest x new e clean })

-- words of tables

find_if : {A : Type 0} (spell : A → List ℕ) (word : List ℕ) (one found : A) (others : Option A) (same : Bool) → bytes_eq word (spell one) ≡ same → (others ≡ Some found → word ≡ spell found) → cond same (Some one) others ≡ Some found → word ≡ spell found
find_if spell word one found others true is later e = (bytes_eq-Decides word (spell one)).0 is ∙ ap spell (same_some e)
find_if spell word one found others false is later e = later e

-- a value that is found by its word is spelled by it
pub word_of_value : {A : Type 0} (spell : A → List ℕ) (values : List A) (word : List ℕ) (found : A) → value_of_word spell values word ≡ Some found → word ≡ spell found
word_of_value spell [] word found e = absurd (no_value e)
word_of_value spell (value ∷ values) word found e =
    find_if spell word value found (value_of_word spell values word) (bytes_eq word (spell value)) refl (λ later. word_of_value spell values word found later) e

pub param_spelled : Spelled param (λ given. param_word given ∷ [])
param_spelled = word-spelled (table-spelled param_of param_word (λ word x e. word_of_value param_word params word x e))

pub mode_spelled : Spelled mode (λ given. mode_word given ∷ [])
mode_spelled = word-spelled (table-spelled mode_of mode_word (λ word x e. word_of_value mode_word modes word x e))

abbrev set_of : ℕ → PollSet
set_of bits = record { 0 = bits }

poll_if : (bits : Option ℕ) (word : List ℕ) (x : PollSet) → option_map set_of bits ≡ Some x → (bits ≡ Some x.0)
poll_if None word x e = absurd (no_value e)
poll_if (Some n) word x e = ap (λ set. Some set.0) (same_some e)

poll_word_found : (word : List ℕ) (x : PollSet) → poll_of word ≡ Some x → word ≡ poll_word x
poll_word_found word x e = word_of_value (flag_word poll_flags) (bits_of_flags poll_flags) word x.0 (poll_found word ∙ poll_if (bits_of_word poll_flags word) word x e)

pub poll_spelled : Spelled poll (λ given. poll_word given ∷ [])
poll_spelled = word-spelled (table-spelled poll_of poll_word poll_word_found)

-- the value of `setparam`

greatest_if : (greatest : Bool) (n : ℕ) → (n == greatest_64) ≡ greatest → (rest : Rest) (x : ℕ) (new : Rest) → cond greatest misspelling (pure n) rest ≡ Ok (x, new) → IsClean new → AtOnce n x rest new × (decimal n ≡ value_word n)
greatest_if true n is rest x new e clean = absurd (not_read _ x new e)
greatest_if false n is rest x new e clean = (pure_at_once n x rest new e clean, ap (λ b. cond b (codes "max") (decimal n)) (sym is))

less_found : (word : List ℕ) (rest : Rest) (answer : Result (ℕ × Rest) Reason) → number_from_word 0 greatest_64 word rest ≡ answer → (x : ℕ) (new : Rest) → then_read is_greatest answer ≡ Ok (x, new) → IsClean new → WordRead word (value_word x) rest new
less_found word rest (Err reason) is x new e clean = absurd (not_read reason x new e)
less_found word rest (Ok given) is x new e clean =
    let once = greatest_if (given.0 == greatest_64) given.0 refl given.1 x new e clean in
    let one = (number_word 0 greatest_64 (omega arith)).found word rest given.0 given.1 is once.0.clean in
    record { clean = one.clean; word_is = one.word_is ∙ once.1 ∙ ap value_word once.0.value_is; left = once.0.left ∙ one.left }

value_if : (most : Bool) (word : List ℕ) → bytes_eq word (codes "max") ≡ most → (rest : Rest) (x : ℕ) (new : Rest)
    → cond most (pure greatest_64) (number_from_word 0 greatest_64 word >>= is_greatest) rest ≡ Ok (x, new) → IsClean new → WordRead word (value_word x) rest new
value_if true word is rest x new e clean =
    let once = pure_at_once greatest_64 x rest new e clean in
    record { clean = once.clean; word_is = (bytes_eq-Decides word (codes "max")).0 is ∙ ap value_word once.value_is; left = once.left }
value_if false word is rest x new e clean = less_found word rest (number_from_word 0 greatest_64 word rest) refl x new e clean

pub value_spelled : Spelled value (λ n. value_word n ∷ [])
value_spelled = word-spelled {read = value_from_word} (record { found = λ word rest x new e clean. value_if (bytes_eq word (codes "max")) word refl rest x new e clean })

-- words that may stand, and one that must

pub waits_spelled : Spelled waits wait_words
waits_spelled = spelled_as wait_words (then-as (optional_spelled (codes "nowait")) waits_if)
  where
    waits_if : (nowait : Bool) → ReadsAs (pure (not nowait)) (λ wait words new. words_if nowait (codes "nowait") ++ words ≡ wait_words wait)
    waits_if true = pure-as (λ rest. refl)
    waits_if false = pure-as (λ rest. refl)

pub the_word_spelled : (keyword : List ℕ) → Spelled (the_word keyword) (λ here. keyword ∷ [])
the_word_spelled keyword = spelled_as (λ here. keyword ∷ []) (then-as (optional_spelled keyword) after)
  where
    after : (here : Bool) → ReadsAs (word_after here) (λ x words new. words_if here keyword ++ words ≡ keyword ∷ [])
    after true = pure-as (λ rest. refl)
    after false = record { found = λ rest y new e clean. absurd (not_read _ y new e) }
