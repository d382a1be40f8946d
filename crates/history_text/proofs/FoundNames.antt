-- The names and the attributes that a reading found.
use Rattle.std.proofs.Common.{◌≡◌, ℕ, suc, ◌+◌, ◌<◌, Bool, true, false, cond, ◌==◌, not, List, [], ◌∷◌, length, Option, Some, None, Result, Ok, Err, refl, ap, sym, ◌∙◌, subst, arith}
use Rattle.std.proofs.lemmas.Bool.{false≢true, and_parts}
use Rattle.std.proofs.lemmas.Bool.Decides.{nat_tests}
use Rattle.std.proofs.lemmas.Slice.Eq.{bytes_eq-Decides}
use Rattle.std.specs.Prelude.{bytes_eq, nat_lt, option_and_then, option_map, position, slice_get, unwrap_or}
use Rattle.std.specs.List.{position_or_len}
use Rattle.dk_base.specs.ByNumber.{at_number}
use Rattle.line_reader.specs.Types.{Reason}
use Rattle.line_reader.specs.Combinators.{Rest, declared_number, pure, then_read, ◌>>=◌}
use Rattle.line_reader.specs.Operands.{name_from_word, path_id, pid, tid}
use Rattle.line_forms.proofs.Numbering.{name_at_place, no_value, same_some}
use Rattle.line_forms.specs.Words.{from_one}
use Rattle.history_text.specs.Types.{Pid, Tid}
use Rattle.history_text.specs.Names.{Names, process_name, thread_name}
use Rattle.history_text.specs.Lookups.{child_number, if_child_of, is_procedure_called, is_process_called, is_thread_called, parent_of, path_number, path_word, procedure_number, procedure_word, process_number, process_word, thread_number, thread_word}
use Rattle.history_text.specs.Operands.{child, path, procedure, process, thread, thread_from_word}
use Rattle.history_text.proofs.Found.{IsClean, ReadsAs, Spelled, WordRead, WordSpelled, declared-as, not_read, pure-as, spelled_as, then-as, weaker-as, word-spelled}
use Rattle.history_text.proofs.FoundOperands.{name_spelled, name_word, pure_at_once}

-- an item that a test finds by its place passes it

pub record Passes {A : Type 0} (test : A → Bool) (found : Option A) : Type 0 where
  pub item : A
  pub is : found ≡ Some item
  pub passes : test item ≡ true

first_if : {A : Type 0} (test : A → Bool) (x : A) (xs : List A) (here : Bool) → test x ≡ here → (position_or_len test xs < length xs → Passes test (slice_get xs (position_or_len test xs)))
    → cond (not here) (1 + position_or_len test xs) 0 < length (x ∷ xs) → Passes test (slice_get (x ∷ xs) (cond (not here) (1 + position_or_len test xs) 0))
first_if test x xs true is later within = record { item = x; is = refl; passes = is }
first_if test x xs false is later within =
    let found = later (omega arith) in
    let same : suc (position_or_len test xs) ≡ 1 + position_or_len test xs = omega arith in
    record { item = found.item; is = ap (slice_get (x ∷ xs)) (sym same) ∙ found.is; passes = found.passes }

first_passes : {A : Type 0} (test : A → Bool) (xs : List A) → position_or_len test xs < length xs → Passes test (slice_get xs (position_or_len test xs))
first_passes test [] within = absurd (omega arith)
first_passes test (x ∷ xs) within = first_if test x xs (test x) refl (first_passes test xs) within

below_if : (m n : ℕ) → nat_lt m n ≡ true → m < n
below_if m n e = grind (arith, nat_tests)

place_if : {A : Type 0} (test : A → Bool) (xs : List A) (within : Bool) → nat_lt (position_or_len test xs) (length xs) ≡ within → (i : ℕ) → cond within (Some (position_or_len test xs)) None ≡ Some i → Passes test (slice_get xs i)
place_if test xs true is i e = subst (λ j. Passes test (slice_get xs j)) (same_some e) (first_passes test xs (below_if (position_or_len test xs) (length xs) is))
place_if test xs false is i e = absurd (no_value e)

pub place_passes : {A : Type 0} (test : A → Bool) (xs : List A) (i : ℕ) → position test xs ≡ Some i → Passes test (slice_get xs i)
place_passes test xs i e = place_if test xs (nat_lt (position_or_len test xs) (length xs)) refl i e

at_next : {A : Type 0} (xs : List A) (i : ℕ) → at_number xs (i + 1) ≡ slice_get xs i
at_next xs i = rw (no_zero i) (ap (slice_get xs) (omega arith))
  where
    no_zero : (i : ℕ) → (i + 1 == 0) ≡ false
    no_zero i = grind (arith, nat_tests)

number_if : {A : Type 0} (test : A → Bool) (xs : List A) (place : Option ℕ) → position test xs ≡ place → (n : ℕ) → from_one place ≡ Some n → Passes test (at_number xs n)
number_if test xs None is n e = absurd (no_value e)
number_if test xs (Some i) is n e = subst (λ m. Passes test (at_number xs m)) (same_some e) (subst (Passes test) (sym (at_next xs i)) (place_passes test xs i is))

pub number_passes : {A : Type 0} (test : A → Bool) (xs : List A) (n : ℕ) → from_one (position test xs) ≡ Some n → Passes test (at_number xs n)
number_passes test xs n e = number_if test xs (position test xs) refl n e

-- names of numbers

pub process_called : (names : Names) (called : List ℕ) (n : ℕ) → process_number names called ≡ Some n → process_word names (pid n) ≡ called
process_called names called n e =
    let found = number_passes (is_process_called called) names.processes n e in
    ap (λ process. unwrap_or (option_map process_name process) []) found.is ∙ (bytes_eq-Decides (process_name found.item) called).0 found.passes

pub thread_called : (names : Names) (called : List ℕ) (n : ℕ) → thread_number names called ≡ Some n → thread_word names (tid n) ≡ called
thread_called names called n e =
    let found = number_passes (is_thread_called called) names.threads n e in
    ap (λ thread. unwrap_or (option_map thread_name thread) []) found.is ∙ (bytes_eq-Decides (thread_name found.item) called).0 found.passes

pub procedure_called : (names : Names) (process : ℕ) (called : List ℕ) (n : ℕ) → procedure_number names process called ≡ Some n → procedure_word names n ≡ called
procedure_called names process called n e =
    let found = place_passes (is_procedure_called process called) names.procedures n e in
    ap (λ procedure. unwrap_or (option_map (λ p. p.name) procedure) []) found.is ∙ (bytes_eq-Decides found.item.name called).0 (and_parts (found.item.process == process) (bytes_eq found.item.name called) found.passes).1

pub path_called : (names : Names) (called : List ℕ) (n : ℕ) → path_number names called ≡ Some n → path_word names (path_id n) ≡ called
path_called names called n e = ap (λ path. unwrap_or path []) (name_at_place names.paths called n e)

parent_if : (process n m : ℕ) (parent : Option Pid) → option_and_then (λ found. cond (found.0 == process) (Some n) None) parent ≡ Some m → n ≡ m
parent_if process n m None e = absurd (no_value e)
parent_if process n m (Some parent) e = child_if (parent.0 == process) n m e
  where
    child_if : (is : Bool) (n m : ℕ) → cond is (Some n) None ≡ Some m → n ≡ m
    child_if true n m e = same_some e
    child_if false n m e = absurd (no_value e)

child_of : (names : Names) (process : ℕ) (number : Option ℕ) (n : ℕ) → option_and_then (if_child_of names process) number ≡ Some n → number ≡ Some n
child_of names process None n e = absurd (no_value e)
child_of names process (Some m) n e = ap Some (parent_if process m n (parent_of names m) e)

pub child_called : (names : Names) (process : ℕ) (called : List ℕ) (n : ℕ) → child_number names process called ≡ Some n → process_word names (pid n) ≡ called
child_called names process called n e = process_called names called n (child_of names process (process_number names called) n e)

-- what is read by a name

pub process_spelled : (names : Names) → Spelled (process names) (λ p. process_word names p ∷ [])
process_spelled names = spelled_as (λ p. process_word names p ∷ []) (then-as name_spelled (λ called. declared-as (λ n. pure-as (λ rest is. ap (λ word. word ∷ []) (sym (process_called names called n is))))))

pub child_spelled : (names : Names) (of : ℕ) → Spelled (child names of) (λ p. process_word names p ∷ [])
child_spelled names of = spelled_as (λ p. process_word names p ∷ []) (then-as name_spelled (λ called. declared-as (λ n. pure-as (λ rest is. ap (λ word. word ∷ []) (sym (child_called names of called n is))))))

pub path_spelled : (names : Names) → Spelled (path names) (λ p. path_word names p ∷ [])
path_spelled names = spelled_as (λ p. path_word names p ∷ []) (then-as name_spelled (λ called. declared-as (λ n. pure-as (λ rest is. ap (λ word. word ∷ []) (sym (path_called names called n is))))))

number_alone : (number : Option ℕ) → ReadsAs (declared_number number) (λ n words new. (number ≡ Some n) × (words ≡ []))
number_alone number = record {
  found = λ rest n new e clean.
      (declared-as {next = pure} {R = λ m words last. (number ≡ Some m) × (words ≡ [])} (λ m. pure-as (λ last is. (is, refl)))).found rest n new (alone number rest ∙ e) clean;
}
  where
    alone : (number : Option ℕ) (rest : Rest) → (declared_number number >>= pure) rest ≡ declared_number number rest
    alone None rest = refl
    alone (Some n) rest = refl

pub procedure_spelled : (names : Names) (of : ℕ) → Spelled (procedure names of) (λ n. procedure_word names n ∷ [])
procedure_spelled names of = spelled_as (λ n. procedure_word names n ∷ []) (then-as name_spelled (λ called. weaker-as (number_alone (procedure_number names of called)) (λ n words new is.
    ap (λ ws. called ∷ ws) is.1 ∙ ap (λ word. word ∷ []) (sym (procedure_called names of called n is.0)))))

thread_if : (names : Names) (called : List ℕ) (number : Option ℕ) → thread_number names called ≡ number → (rest : Rest) (x : Tid) (new : Rest)
    → (declared_number number >>= (λ n. pure (tid n))) rest ≡ Ok (x, new) → IsClean new → WordRead called (thread_word names x) rest new
thread_if names called None is rest x new e clean =
    let once = pure_at_once (tid 0) x (record { words = rest.words; in_range = rest.in_range; known = false }) new e clean in
    absurd (false≢true once.clean.known)
thread_if names called (Some n) is rest x new e clean =
    let once = pure_at_once (tid n) x rest new e clean in
    record { clean = once.clean; word_is = sym (thread_called names called n is) ∙ ap (thread_word names) once.value_is; left = once.left }

thread_named : (names : Names) (word : List ℕ) (rest : Rest) (answer : Result (List ℕ × Rest) Reason) → name_from_word word rest ≡ answer → (x : Tid) (new : Rest)
    → then_read (λ called. declared_number (thread_number names called) >>= (λ n. pure (tid n))) answer ≡ Ok (x, new) → IsClean new → WordRead word (thread_word names x) rest new
thread_named names word rest (Err reason) is x new e clean = absurd (not_read reason x new e)
thread_named names word rest (Ok given) is x new e clean =
    let later = thread_if names given.0 (thread_number names given.0) refl given.1 x new e clean in
    let one = name_word.found word rest given.0 given.1 is later.clean in
    record { clean = one.clean; word_is = one.word_is ∙ later.word_is; left = later.left ∙ one.left }

pub thread_word_spelled : (names : Names) → WordSpelled (thread_from_word names) (thread_word names)
thread_word_spelled names = record { found = λ word rest x new e clean. thread_named names word rest (name_from_word word rest) refl x new e clean }

pub thread_spelled : (names : Names) → Spelled (thread names) (λ t. thread_word names t ∷ [])
thread_spelled names = word-spelled (thread_word_spelled names)
