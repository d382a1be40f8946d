-- What the line of an event is: one line that begins with a digit, and its second word names the event's thread.
use Rattle.std.proofs.Common.{◌≡◌, ℕ, ◌==◌, ◌&&◌, ◌<◌, not, nat_le, Bool, true, false, cond, List, [], ◌∷◌, ◌++◌, length, filter, decimal, Option, Some, option_and_then, unwrap_or, refl, ap, ◌∙◌, arith}
use Rattle.std.specs.Prelude.{slice_get}
use Rattle.std.specs.List.{join_with_byte, list_all, onto_first, slice_split}
use Rattle.std.proofs.lemmas.Bool.{and_from, and_parts, false≢true}
use Rattle.std.proofs.lemmas.Bool.Decides.{nat_tests}
use Rattle.line_text.specs.Words.{is_digit, is_letter, is_name, is_name_byte, is_plain_byte}
use Rattle.line_forms.proofs.Numbering.{number_of_name}
use Rattle.script_lang.specs.Words.{ScriptValue, spells, tables_of}
use Rattle.spec_requests.specs.Types.{Event, Tid}
use Rattle.spec_requests.specs.declared.ending.Ending.{Ending}
use Rattle.spec_requests.specs.AnswerText.{answer_text}
use Rattle.spec_requests.specs.DeclaredNames.{IsDeclaredEvent, IsThread}
use Rattle.spec_requests.specs.TraceNames.{is_some_word, procedure_name, second_word, thread_in_line, thread_name, thread_named}
use Rattle.spec_requests.specs.TraceText.{end_line_of, line_of}
use Rattle.spec_requests.specs.WhatWord.{what_word}
use Rattle.spec_traces.specs.Turns.{HasReadableLine, begins_with_digit}
use Rattle.spec_traces.proofs.ScriptNames.{HasThreadName, distinct_threads, named_thread}
use Rattle.spec_traces.proofs.LineFeeds.{decimal_digits, decimal_some, event_line_is_one}

-- the first byte

digits_first : (digits rest : List ℕ) → list_all is_digit digits ≡ true → 0 < length digits → begins_with_digit (digits ++ rest) ≡ true
digits_first [] rest h some = absurd (omega arith)
digits_first (b ∷ digits) rest h some = (and_parts (is_digit b) (list_all is_digit digits) h).0

-- an event's line begins with a digit
pub digit_first : (script : ScriptValue) (e : Event) → begins_with_digit (line_of script e) ≡ true
unfolding line_of
digit_first script e = digits_first (decimal e.number) _ (decimal_digits e.number) (decimal_some e.number)

-- the end line does not
pub end_line_no_digit : (script : ScriptValue) (ending : Ending) (n : ℕ) (waiting : List Tid) →
    begins_with_digit (end_line_of script ending n waiting) ≡ false
unfolding end_line_of
end_line_no_digit script ending n waiting = refl

-- the second word

abbrev is_space : ℕ → Bool
is_space b = b == 32

space_or_plain : (b : ℕ) → is_plain_byte b ≡ true → is_space b ≡ false
space_or_plain b h = not_true (b == 32) h
  where
    not_true : (x : Bool) → not x ≡ true → x ≡ false
    not_true true k = absurd (false≢true k)
    not_true false k = refl

-- a word with no space, before a space
split_word : (word rest : List ℕ) → list_all is_plain_byte word ≡ true → slice_split is_space (word ++ 32 ∷ rest) ≡ word ∷ slice_split is_space rest
split_word [] rest h = refl
split_word (b ∷ word) rest h =
    let p = and_parts (is_plain_byte b) (list_all is_plain_byte word) h in
    ap (λ (space : Bool). cond space ([] ∷ slice_split is_space (word ++ 32 ∷ rest)) (onto_first b (slice_split is_space (word ++ 32 ∷ rest))))
    (space_or_plain b p.0)
    ∙ ap (onto_first b) (split_word word rest p.1)

some_word : (word : List ℕ) → 0 < length word → is_some_word word ≡ true
some_word [] h = absurd (omega arith)
some_word (b ∷ word) h = grind (arith, nat_tests)

second_of_words : (first second : List ℕ) (others : List (List ℕ)) → is_some_word first ≡ true → is_some_word second ≡ true →
    slice_get (filter is_some_word (first ∷ second ∷ others)) 1 ≡ Some second
second_of_words first second others h k = rw (h, k) refl

second_of_line : (first second rest : List ℕ) → list_all is_plain_byte first ≡ true → list_all is_plain_byte second ≡ true →
    is_some_word first ≡ true → is_some_word second ≡ true
    → second_word (first ++ 32 ∷ (second ++ 32 ∷ rest)) ≡ Some second
second_of_line first second rest plain_first plain_second some_first some_second =
    ap (λ (words : List (List ℕ)). slice_get (filter is_some_word words) 1)
    (split_word first (second ++ 32 ∷ rest) plain_first ∙ ap (λ (words : List (List ℕ)). first ∷ words) (split_word second rest plain_second))
    ∙ second_of_words first second (slice_split is_space rest) some_first some_second

digit_is_plain : (b : ℕ) → is_digit b ≡ true → is_plain_byte b ≡ true
digit_is_plain b h = grind (arith, nat_tests)

letter_is_plain : (b : ℕ) → is_letter b ≡ true → is_plain_byte b ≡ true
letter_is_plain b h = grind (arith, nat_tests)

name_byte_is_plain : (b : ℕ) → is_name_byte b ≡ true → is_plain_byte b ≡ true
name_byte_is_plain b h = grind (arith, nat_tests)

all_plain : (test : ℕ → Bool) → ((b : ℕ) → test b ≡ true → is_plain_byte b ≡ true) → (bytes : List ℕ) → list_all test bytes ≡ true →
    list_all is_plain_byte bytes ≡ true
all_plain test h [] k = refl
all_plain test h (b ∷ bytes) k =
    let p = and_parts (test b) (list_all test bytes) k in
    and_from (is_plain_byte b) (list_all is_plain_byte bytes) (h b p.0) (all_plain test h bytes p.1)

name_is_plain : (name : List ℕ) → is_name name ≡ true → list_all is_plain_byte name ≡ true
name_is_plain [] h = refl
name_is_plain (b ∷ bytes) h =
    let p = and_parts (is_letter b && nat_le (length bytes) 15) (list_all is_name_byte bytes) h in
    let q = and_parts (is_letter b) (nat_le (length bytes) 15) p.0 in
    and_from (is_plain_byte b) (list_all is_plain_byte bytes) (letter_is_plain b q.0) (all_plain is_name_byte name_byte_is_plain bytes p.1)

name_is_some : (name : List ℕ) → is_name name ≡ true → is_some_word name ≡ true
name_is_some [] h = absurd (false≢true h)
name_is_some (b ∷ bytes) h = some_word (b ∷ bytes) (omega arith)

-- a name is the second word of a line that it stands in after a number
named_second : (n : ℕ) (name rest : List ℕ) → is_name name ≡ true → second_word (decimal n ++ 32 ∷ (name ++ 32 ∷ rest)) ≡ Some name
named_second n name rest is =
    second_of_line (decimal n) name rest (all_plain is_digit digit_is_plain (decimal n) (decimal_digits n)) (name_is_plain name is)
    (some_word (decimal n) (decimal_some n)) (name_is_some name is)

-- what stands after the thread's name
abbrev after_thread : ScriptValue → Event → List ℕ
after_thread script e = join_with_byte 32 (thread_name script e.root ∷ what_word e.what ∷ answer_text (procedure_name script) e.answer ∷ [])

event_words : (script : ScriptValue) (e : Event) →
    line_of script e ≡ decimal e.number ++ 32 ∷ (thread_name script e.thread ++ 32 ∷ after_thread script e)
unfolding line_of
event_words script e = refl

thread_by_name : (script : ScriptValue) (e : Event) (name : List ℕ) → is_name name ≡ true → thread_name script e.thread ≡ name →
    thread_named script name ≡ Some e.thread.0
    → thread_in_line script (line_of script e) ≡ Some e.thread.0
thread_by_name script e name is shown number =
    ap (thread_in_line script) (event_words script e ∙ ap (λ (word : List ℕ). decimal e.number ++ 32 ∷ (word ++ 32 ∷ after_thread script e)) shown)
    ∙ ap (option_and_then (thread_named script)) (named_second e.number name (after_thread script e) is)
    ∙ number

-- the second word of an event's line names the thread that took the turn
pub thread_in_event_line : (text : List ℕ) (script : ScriptValue) → spells text script → (e : Event) → IsThread script e.thread.0 →
    thread_in_line script (line_of script e) ≡ Some e.thread.0
thread_in_event_line text script s e thread =
    let found : HasThreadName script e.thread.0 = named_thread text script s e.thread.0 thread in
    thread_by_name script e found.name found.is
    (ap (λ (name : Option (List ℕ)). unwrap_or name []) found.at)
    (number_of_name (tables_of script).threads e.thread.0 found.name (distinct_threads text script s) found.at)

-- what the line of an event is, where the script declares its thread
pub is_event_line : (text : List ℕ) (script : ScriptValue) → spells text script → (e : Event) → IsDeclaredEvent script e → HasReadableLine script e
is_event_line text script s e declared =
    record { one = event_line_is_one text script s e; digit = digit_first script e; thread = thread_in_event_line text script s e declared.thread }
