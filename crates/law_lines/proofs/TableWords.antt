-- The words of tables: what is read is spelled, what is spelled is read, and the word that is written spells it.
use Rattle.std.proofs.Common.{◌≡◌, ℕ, ◌≤◌, Bool, true, false, cond, ◌==◌, List, [], ◌∷◌, Option, Some, None, Result, Ok, refl, ap, sym, ◌∙◌, subst, inl, inr, arith, lit<}
use Rattle.std.specs.Prelude.{option_map, find, bytes_eq, codes, decimal}
use Rattle.std.specs.List.{list_all}
use Rattle.std.proofs.lemmas.Bool.{false≢true, and_parts, eqb-true}
use Rattle.std.proofs.lemmas.Slice.Eq.{bytes_eq-Decides}
use Rattle.line_text.specs.Types.{AlertMode, Errno, Op, Param, PollSet}
use Rattle.dk_base.specs.declared.error.Errno.TheVariants.{E2BIG, EAGAIN, EBADF, EBADFD, EBUSY, EINTR, EINVAL, EMFILE, ENFILE, ENOBUFS, ENOENT, ENOTSUP, EPERM, EPIPE, ETIME}
use Rattle.dk_base.specs.declared.request.AlertMode.TheVariants.{Set, Update, Nothing}
use Rattle.dk_base.specs.declared.request.Op.TheVariants.{Upper, Reverse, Sum, Digest}
use Rattle.dk_base.specs.declared.request.Param.TheVariants.{DataMax, DataMin, DescMax}
use Rattle.dk_base.specs.Words.{errno_name}
use Rattle.line_text.specs.Words.{is_decimal, is_word}
use Rattle.line_text.proofs.DecimalWords.{is_decimal-decimal, is_plain-decimal}
use Rattle.line_text.proofs.JoinedWords.{is_word-plain}
use Rattle.line_reader.specs.Types.{Cond, Reason}
use Rattle.line_forms.specs.declared.line.Cond.TheVariants.{Good, Yes, Unref, Errno as ErrnoCond}
use Rattle.line_forms.specs.Words.{Flag, SpellsPoll, SpellsValue, bits_of_word, cond_of, cond_word, errno_of, errnos, greatest_64, is_word_of, mode_of, mode_word, op_of, op_word, param_of, param_word, poll_flags, poll_of, poll_word, value_of_word, value_word}
use Rattle.line_reader.specs.Words.{Rest, number_from_word, pure, value_from_word}
use Rattle.law_lines.proofs.Given.{Clean, same_value, same_rest, number_given}
use Rattle.line_forms.proofs.Numbering.{same_some, no_value}
use Rattle.law_lines.proofs.DescriptorWords.{Gave, number_reader-spelled}

-- what a search finds

find_if : {A : Type 0} (test : A → Bool) (here : Bool) (x y : A) (later : Option A) → test x ≡ here → (later ≡ Some y → test y ≡ true) → cond here (Some x) later ≡ Some y → test y ≡ true
find_if test true x y later is others e = ap test (sym (same_some e)) ∙ is
find_if test false x y later is others e = others e

pub find_passes : {A : Type 0} (test : A → Bool) (xs : List A) (y : A) → find test xs ≡ Some y → test y ≡ true
find_passes test [] y e = absurd (no_value e)
find_passes test (x ∷ xs) y e = find_if test (test x) x y (find test xs) refl (find_passes test xs y) e

all_if : {A : Type 0} (holds : A → Bool) (here : Bool) (x y : A) (later : Option A) → holds x ≡ true → (later ≡ Some y → holds y ≡ true) → cond here (Some x) later ≡ Some y → holds y ≡ true
all_if holds true x y later is others e = ap holds (sym (same_some e)) ∙ is
all_if holds false x y later is others e = others e

pub find_among : {A : Type 0} (test holds : A → Bool) (xs : List A) (y : A) → list_all holds xs ≡ true → find test xs ≡ Some y → holds y ≡ true
find_among test holds [] y all e = absurd (no_value e)
find_among test holds (x ∷ xs) y all e =
    let parts = and_parts (holds x) (list_all holds xs) all in
    all_if holds (test x) x y (find test xs) parts.0 (find_among test holds xs y parts.1) e

pub word_found : {A : Type 0} (word_of : A → List ℕ) (values : List A) (word : List ℕ) (value : A) → value_of_word word_of values word ≡ Some value → word ≡ word_of value
word_found word_of values word value e = (bytes_eq-Decides word (word_of value)).0 (find_passes (λ v. bytes_eq word (word_of v)) values value e)

-- PARAM, MODE, OP

pub param_again : (param : Param) → param_of (param_word param) ≡ Some param
param_again DataMax = refl
param_again DataMin = refl
param_again DescMax = refl

pub mode_again : (mode : AlertMode) → mode_of (mode_word mode) ≡ Some mode
mode_again Set = refl
mode_again Update = refl
mode_again Nothing = refl

pub op_again : (op : Op) → op_of (op_word op) ≡ Some op
op_again Upper = refl
op_again Reverse = refl
op_again Sum = refl
op_again Digest = refl

pub param_is_word : (param : Param) → is_word (param_word param) ≡ true
param_is_word DataMax = refl
param_is_word DataMin = refl
param_is_word DescMax = refl

pub mode_is_word : (mode : AlertMode) → is_word (mode_word mode) ≡ true
mode_is_word Set = refl
mode_is_word Update = refl
mode_is_word Nothing = refl

pub op_is_word : (op : Op) → is_word (op_word op) ≡ true
op_is_word Upper = refl
op_is_word Reverse = refl
op_is_word Sum = refl
op_is_word Digest = refl

-- COND

errno_again : (errno : Errno) → cond_of (errno_name errno) ≡ Some (ErrnoCond errno)
errno_again E2BIG = refl
errno_again EAGAIN = refl
errno_again EBADF = refl
errno_again EBADFD = refl
errno_again EBUSY = refl
errno_again EINTR = refl
errno_again EINVAL = refl
errno_again EMFILE = refl
errno_again ENFILE = refl
errno_again ENOBUFS = refl
errno_again ENOENT = refl
errno_again ENOTSUP = refl
errno_again EPERM = refl
errno_again EPIPE = refl
errno_again ETIME = refl

pub cond_again : (of : Cond) → cond_of (cond_word of) ≡ Some of
cond_again Good = refl
cond_again Yes = refl
cond_again Unref = refl
cond_again (ErrnoCond errno) = errno_again errno

errno_is_word : (errno : Errno) → is_word (errno_name errno) ≡ true
errno_is_word E2BIG = refl
errno_is_word EAGAIN = refl
errno_is_word EBADF = refl
errno_is_word EBADFD = refl
errno_is_word EBUSY = refl
errno_is_word EINTR = refl
errno_is_word EINVAL = refl
errno_is_word EMFILE = refl
errno_is_word ENFILE = refl
errno_is_word ENOBUFS = refl
errno_is_word ENOENT = refl
errno_is_word ENOTSUP = refl
errno_is_word EPERM = refl
errno_is_word EPIPE = refl
errno_is_word ETIME = refl

pub cond_is_word : (of : Cond) → is_word (cond_word of) ≡ true
cond_is_word Good = refl
cond_is_word Yes = refl
cond_is_word Unref = refl
cond_is_word (ErrnoCond errno) = errno_is_word errno

errno_cond : (errno : Option Errno) (word : List ℕ) (of : Cond) → errno_of word ≡ errno → option_map ErrnoCond errno ≡ Some of → word ≡ cond_word of
errno_cond None word of is e = absurd (no_value e)
errno_cond (Some errno) word of is e = word_found errno_name errnos word errno is ∙ ap cond_word (same_some e)

cond_if : (test : Bool) (text word : List ℕ) (value of : Cond) (later : Option Cond) → bytes_eq word text ≡ test → cond_word value ≡ text → (later ≡ Some of → word ≡ cond_word of) → cond test (Some value) later ≡ Some of → word ≡ cond_word of
cond_if true text word value of later is spelled others e = (bytes_eq-Decides word text).0 is ∙ sym spelled ∙ ap cond_word (same_some e)
cond_if false text word value of later is spelled others e = others e

pub cond_found : (word : List ℕ) (of : Cond) → cond_of word ≡ Some of → word ≡ cond_word of
cond_found word of e =
    cond_if (bytes_eq word (codes "ok")) (codes "ok") word Good of _ refl refl (
    cond_if (bytes_eq word (codes "yes")) (codes "yes") word Yes of _ refl refl (
    cond_if (bytes_eq word (codes "unref")) (codes "unref") word Unref of _ refl refl (
    errno_cond (errno_of word) word of refl))) e

-- POLL

abbrev poll_of_bits : ℕ → PollSet
poll_of_bits bits = record { 0 = bits }

poll_found_at : (bits : Option ℕ) (set : PollSet) → option_map poll_of_bits bits ≡ Some set → bits ≡ Some set.0
poll_found_at None set e = absurd (no_value e)
poll_found_at (Some bits) set e = ap (option_map (λ (s : PollSet). s.0)) e

pub poll_found : (word : List ℕ) (set : PollSet) → poll_of word ≡ Some set → SpellsPoll set word
poll_found word set e = poll_found_at (bits_of_word poll_flags word) set e

pub poll_again : (word : List ℕ) (set : PollSet) → SpellsPoll set word → poll_of word ≡ Some set
poll_again word set spells = ap (option_map poll_of_bits) spells

abbrev pub is_the_number : ℕ → Option ℕ → Bool
is_the_number n None = false
is_the_number n (Some m) = m == n

pub the_number : (n : ℕ) (found : Option ℕ) → is_the_number n found ≡ true → found ≡ Some n
the_number n None e = absurd (false≢true e)
the_number n (Some m) e = ap Some (eqb-true m n e)

abbrev is_written : Flag → Bool
is_written f = is_the_number f.bits (bits_of_word poll_flags (poll_word (poll_of_bits f.bits)))

abbrev bits_of_found : Option Flag → Option ℕ
bits_of_found found = option_map (λ f. f.bits) found

poll_written_at : (found : Option Flag) (word : List ℕ) (set : PollSet) → find (is_word_of word) poll_flags ≡ found → bits_of_found found ≡ Some set.0 → SpellsPoll set (poll_word set)
poll_written_at None word set is e = absurd (no_value e)
poll_written_at (Some f) word set is e =
    let bits : f.bits ≡ set.0 = same_some e in
    let P : ℕ → Type 0 = λ n. bits_of_word poll_flags (poll_word (poll_of_bits n)) ≡ Some n in
    subst P bits (the_number f.bits (bits_of_word poll_flags (poll_word (poll_of_bits f.bits))) (find_among (is_word_of word) is_written poll_flags f refl is))

pub poll_written : (word : List ℕ) (set : PollSet) → SpellsPoll set word → SpellsPoll set (poll_word set)
poll_written word set spells = poll_written_at (find (is_word_of word) poll_flags) word set refl spells

abbrev is_flag_word : Flag → Bool
is_flag_word f = is_word f.word

flag_is_word : (flags : List Flag) (found : Option Flag) (word : List ℕ) (bits : ℕ) → list_all is_flag_word flags ≡ true → find (is_word_of word) flags ≡ found → bits_of_found found ≡ Some bits → is_word word ≡ true
flag_is_word flags None word bits all is e = absurd (no_value e)
flag_is_word flags (Some f) word bits all is e =
    let same : word ≡ f.word = (bytes_eq-Decides word f.word).0 (find_passes (is_word_of word) flags f is) in
    ap is_word same ∙ find_among (is_word_of word) is_flag_word flags f all is

pub poll_is_word : (word : List ℕ) (set : PollSet) → SpellsPoll set word → is_word word ≡ true
poll_is_word word set spells = flag_is_word poll_flags (find (is_word_of word) poll_flags) word set.0 refl refl spells

-- the N of `setparam`

value_if : (test : Bool) (word : List ℕ) (rest : Rest) (n : ℕ) (new : Rest) → bytes_eq word (codes "max") ≡ test → cond test (pure greatest_64) (number_from_word 0 greatest_64 word) rest ≡ Ok (n, new) → Clean new → Gave SpellsValue n word rest new
value_if true word rest n new is e clean = record { spells = inl (sym (same_value e), (bytes_eq-Decides word (codes "max")).0 is); same = sym (same_rest e) }
value_if false word rest n new is e clean = let number = number_given 0 greatest_64 word rest n new (lit< tt) e clean in record { spells = inr number.is; same = number.same }

pub value_found : (word : List ℕ) (rest : Rest) (n : ℕ) (new : Rest) → value_from_word word rest ≡ Ok (n, new) → Clean new → Gave SpellsValue n word rest new
value_found word rest n new e clean = value_if (bytes_eq word (codes "max")) word rest n new refl e clean

no_max : (word : List ℕ) (test : Bool) → is_decimal word ≡ true → bytes_eq word (codes "max") ≡ test → test ≡ false
no_max word true decimal is = absurd (false≢true (ap is_decimal (sym ((bytes_eq-Decides word (codes "max")).0 is)) ∙ decimal))
no_max word false decimal is = refl

abbrev value_at : List ℕ → Rest → Bool → Result (ℕ × Rest) Reason
value_at word rest test = cond test (pure greatest_64) (number_from_word 0 greatest_64 word) rest

pub value_again : (n : ℕ) (word : List ℕ) (rest : Rest) → SpellsValue n word → value_from_word word rest ≡ Ok (n, rest)
value_again n word rest (inl greatest) = ap (λ w. value_from_word w rest) greatest.1 ∙ ap (λ m. pure m rest) (sym greatest.0)
value_again n word rest (inr number) =
    let decimal : is_decimal word ≡ true = rw number.2 (is_decimal-decimal n (omega arith)) in
    ap (value_at word rest) (no_max word (bytes_eq word (codes "max")) decimal refl) ∙ number_reader-spelled 0 greatest_64 n word rest (lit< tt) number

value_written_if : (test : Bool) (n : ℕ) → (n == greatest_64) ≡ test → n ≤ greatest_64 → SpellsValue n (cond test (codes "max") (decimal n))
value_written_if true n is small = inl (eqb-true n greatest_64 is, refl)
value_written_if false n is small = inr (omega arith, small, refl)

pub value_written : (n : ℕ) (word : List ℕ) → SpellsValue n word → SpellsValue n (value_word n)
value_written n word (inl greatest) = value_written_if (n == greatest_64) n refl (omega arith)
value_written n word (inr number) = value_written_if (n == greatest_64) n refl number.1

pub value_is_word : (n : ℕ) (word : List ℕ) → SpellsValue n word → is_word word ≡ true
value_is_word n word (inl greatest) = rw greatest.1 refl
value_is_word n word (inr number) = rw number.2 (is_word-plain (decimal n) (is_plain-decimal n (omega arith)))
