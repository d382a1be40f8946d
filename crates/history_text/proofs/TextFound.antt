-- The text of a line that was read.
use Rattle.std.proofs.Common.{◌≡◌, ℕ, zero, suc, Bool, true, false, cond, ◌==◌, List, [], ◌∷◌, ◌++◌, Option, Some, None, Result, Ok, Err, refl, ap, sym, ◌∙◌, append-nil, append_assoc, arith}
use Rattle.std.proofs.lemmas.Bool.{false≢true}
use Rattle.std.proofs.lemmas.Bool.Decides.{nat_tests}
use Rattle.std.proofs.lemmas.Slice.Eq.{bytes_eq-Decides}
use Rattle.std.specs.Prelude.{codes, option_and_then, slice_get}
use Rattle.line_reader.specs.Types.{Reason}
use Rattle.line_reader.specs.Combinators.{Rest, rest_of}
use Rattle.line_forms.proofs.Numbering.{no_value, same_some}
use Rattle.line_forms.specs.declared.reason.Reason.TheVariants.{Form, Many, Twice, Unknown}
use Rattle.line_forms.specs.Words.{value_of_word}
use Rattle.spec_requests.specs.Words.{what_word}
use Rattle.line_text.specs.Words.{is_decimal, joined_words, words_of}
use Rattle.history_text.specs.declared.place.Kind.TheVariants as kind
use Rattle.history_text.specs.Types.{Kind, Line, Place, Stage, What}
use Rattle.history_text.specs.Events.{after_front, after_words, answer_of, event_after, event_as, event_by_fourth, event_line, if_answer, is_answer, is_equals_sign, words_asked, words_before_sign}
use Rattle.history_text.specs.Faults.{is_many, is_twice}
use Rattle.history_text.specs.Kinds.{kind_of, kind_word, may_stand, worded_kinds}
use Rattle.history_text.specs.LineWords.{answer_part, line_text, line_words}
use Rattle.history_text.specs.Names.{Names}
use Rattle.history_text.specs.Reading.{byte_fault, if_may_stand, is_spaced, kind_at, line_by_kind, line_by_words, line_found as line_declared, line_of_kind, line_of_words, line_read, line_unless, line_with_bytes}
use Rattle.history_text.specs.Requests.{requests, wait_ends, what_of}
use Rattle.history_text.proofs.Found.{IsClean}
use Rattle.history_text.proofs.FoundLines.{event_ends, event_found, line_ends, line_found}
use Rattle.history_text.proofs.FoundOperands.{word_of_value}

-- a line that was not found

abbrev line_or : Line → Result Line Reason → Line
line_or line (Err reason) = line
line_or line (Ok found) = found

abbrev is_line : Result Line Reason → Bool
is_line (Err reason) = false
is_line (Ok line) = true

not_line : (reason : Reason) (line : Line) → ◌≡◌ {A = Result Line Reason} (Err reason) (Ok line) → ⊥
not_line reason line e = false≢true (ap is_line e)

abbrev is_found : Result (Line × Rest) Reason → Bool
is_found (Err reason) = false
is_found (Ok found) = true

not_found : (reason : Reason) (line : Line) (rest : Rest) → ◌≡◌ {A = Result (Line × Rest) Reason} (Err reason) (Ok (line, rest)) → ⊥
not_found reason line rest e = false≢true (ap is_found e)

-- texts

front_if : (same : Bool) (b c : ℕ) (rest : Option (List ℕ)) (front bytes found : List ℕ) → (b == c) ≡ same → (rest ≡ Some found → bytes ≡ front ++ found) → cond same rest None ≡ Some found → c ∷ bytes ≡ b ∷ front ++ found
front_if true b c rest front bytes found is later e = let equal : b ≡ c = grind (arith, nat_tests) in ap (λ n. n ∷ bytes) (sym equal) ∙ ap (λ ws. b ∷ ws) (later e)
front_if false b c rest front bytes found is later e = absurd (no_value e)

front_is : (front bytes found : List ℕ) → after_front front bytes ≡ Some found → bytes ≡ front ++ found
front_is [] bytes found e = same_some e
front_is (b ∷ front) [] found e = absurd (no_value e)
front_is (b ∷ front) (c ∷ bytes) found e = front_if (b == c) b c (after_front front bytes) front bytes found refl (λ is. front_is front bytes found is) e

-- the words, each with a space, which is 32, after it, and the `=`, which is 61, with a space
last_front : (word line found : List ℕ) (rest : Option (List ℕ)) → after_front (word ++ 32 ∷ []) line ≡ rest → option_and_then (after_front (codes "= ")) rest ≡ Some found → line ≡ word ++ 32 ∷ 61 ∷ 32 ∷ found
last_front word line found None is e = absurd (no_value e)
last_front word line found (Some mid) is e =
    front_is (word ++ 32 ∷ []) line mid is ∙ append_assoc word (32 ∷ []) mid ∙ ap (λ ws. word ++ 32 ∷ ws) (front_is (codes "= ") mid found e)

next_front : (word next : List ℕ) (words : List (List ℕ)) (line found : List ℕ) (rest : Option (List ℕ)) → after_front (word ++ 32 ∷ []) line ≡ rest
    → ((mid : List ℕ) → after_words (next ∷ words) mid ≡ Some found → mid ≡ joined_words (next ∷ words) ++ 32 ∷ 61 ∷ 32 ∷ found)
    → option_and_then (after_words (next ∷ words)) rest ≡ Some found → line ≡ joined_words (word ∷ next ∷ words) ++ 32 ∷ 61 ∷ 32 ∷ found
next_front word next words line found None is later e = absurd (no_value e)
next_front word next words line found (Some mid) is later e =
    front_is (word ++ 32 ∷ []) line mid is ∙ append_assoc word (32 ∷ []) mid ∙ ap (λ ws. word ++ 32 ∷ ws) (later mid e) ∙
    sym (append_assoc word (32 ∷ joined_words (next ∷ words)) (32 ∷ 61 ∷ 32 ∷ found))

-- the words, each with a space, which is 32, after it, and the `=`, which is 61, with a space
words_front : (word : List ℕ) (words : List (List ℕ)) (line found : List ℕ) → after_words (word ∷ words) line ≡ Some found → line ≡ joined_words (word ∷ words) ++ 32 ∷ 61 ∷ 32 ∷ found
words_front word [] line found e = last_front word line found (after_front (word ++ 32 ∷ []) line) refl e
words_front word (next ∷ words) line found e = next_front word next words line found (after_front (word ++ 32 ∷ []) line) refl (λ mid is. words_front next words mid found is) e

answer_if : (test : Bool) (answer found : List ℕ) → cond test (Some answer) None ≡ Some found → answer ≡ found
answer_if true answer found e = same_some e
answer_if false answer found e = absurd (no_value e)

answered : (rest : Option (List ℕ)) (found : List ℕ) → option_and_then if_answer rest ≡ Some found → rest ≡ Some found
answered None found e = absurd (no_value e)
answered (Some answer) found e = ap Some (answer_if (is_answer answer) answer found e)

-- the words before the `=` are the first of all

before_if : (stop : Bool) (first : List ℕ) (words before : List (List ℕ)) (i : ℕ) (word : List ℕ) → ((j : ℕ) → slice_get before j ≡ Some word → slice_get words j ≡ Some word)
    → slice_get (cond stop [] (first ∷ before)) i ≡ Some word → slice_get (first ∷ words) i ≡ Some word
before_if true first words before i word later e = absurd (no_value e)
before_if false first words before zero word later e = e
before_if false first words before (suc i) word later e = later i e

pub word_before : (words : List (List ℕ)) (i : ℕ) (word : List ℕ) → slice_get (words_before_sign words) i ≡ Some word → slice_get words i ≡ Some word
word_before [] i word e = absurd (no_value e)
word_before (first ∷ words) i word e = before_if (is_equals_sign first) first words (words_before_sign words) i word (λ j is. word_before words j word is) e

-- an event

joined_text : (names : Names) (line : Line) (words : List (List ℕ)) (part : List ℕ) → line_words names line ≡ words → answer_part line ≡ part → line_text names line ≡ joined_words words ++ part
joined_text names line words part is answer = ap (λ ws. joined_words ws ++ answer_part line) is ∙ ap (λ text. joined_words words ++ text) answer

words_text : (words : List (List ℕ)) (fourth text answer : List ℕ) → slice_get words 3 ≡ Some fourth → after_words words text ≡ Some answer → joined_words words ++ codes " = " ++ answer ≡ text
words_text [] fourth text answer four e = absurd (no_value four)
words_text (word ∷ words) fourth text answer four e = append_assoc (joined_words (word ∷ words)) (codes " = ") answer ∙ sym (words_front word words text answer e)

event_text : (names : Names) (late : Bool) (text : List ℕ) (how : What) (fourth : List ℕ) → slice_get (words_of text) 3 ≡ Some fourth → what_of fourth ≡ Some how → (answer : List ℕ) → answer_of text ≡ Some answer
    → (line : Line) (new : Rest) → event_line names late how answer (rest_of (words_asked text)) ≡ Ok (line, new) → new.known ≡ true → line_text names line ≡ text
event_text names late text how fourth four what answer stands line new e known =
    let clean : IsClean new = record { in_range = (event_ends names late how answer).in_range (rest_of (words_asked text)) line new e; known = known } in
    let found = (event_found names late how answer).found (rest_of (words_asked text)) line new e clean in
    let is = found.holds in
    let all : words_asked text ≡ found.words = found.stood.stood ∙ ap (λ ws. found.words ++ ws) is.ended ∙ append-nil found.words in
    let fourth_of : slice_get (words_of text) 3 ≡ Some is.fourth = word_before (words_of text) 3 is.fourth (ap (λ ws. slice_get ws 3) all ∙ is.fourth_is) in
    let same : is.fourth ≡ what_word how = same_some (sym fourth_of ∙ four) ∙ word_of_value what_word (requests ++ wait_ends) fourth how what in
    joined_text names line found.words (codes " = " ++ answer) (is.written same) is.answered ∙
    sym (append_assoc (joined_words found.words) (codes " = ") answer) ∙
    words_text found.words is.fourth text answer is.fourth_is (ap (λ ws. after_words ws text) (sym all) ∙ answered (after_words (words_asked text) text) answer stands)

event_answered : (names : Names) (late : Bool) (text : List ℕ) (how : What) (fourth : List ℕ) → slice_get (words_of text) 3 ≡ Some fourth → what_of fourth ≡ Some how → (answer : Option (List ℕ)) → answer_of text ≡ answer
    → (line : Line) (new : Rest) → event_after names late how (words_asked text) answer ≡ Ok (line, new) → new.known ≡ true → line_text names line ≡ text
event_answered names late text how fourth four what None stands line new e known = absurd (not_found _ line new e)
event_answered names late text how fourth four what (Some answer) stands line new e known = event_text names late text how fourth four what answer stands line new e known

event_asked : (names : Names) (late : Bool) (text : List ℕ) (fourth : List ℕ) → slice_get (words_of text) 3 ≡ Some fourth → (how : Option What) → what_of fourth ≡ how
    → (line : Line) (new : Rest) → event_as names late text how ≡ Ok (line, new) → new.known ≡ true → line_text names line ≡ text
event_asked names late text fourth four None what line new e known = absurd (not_found _ line new e)
event_asked names late text fourth four (Some how) what line new e known = event_answered names late text how fourth four what (answer_of text) refl line new e known

event_written : (names : Names) (late : Bool) (text : List ℕ) (fourth : Option (List ℕ)) → slice_get (words_of text) 3 ≡ fourth
    → (line : Line) (new : Rest) → event_by_fourth names late text fourth ≡ Ok (line, new) → new.known ≡ true → line_text names line ≡ text
event_written names late text None four line new e known = absurd (not_found _ line new e)
event_written names late text (Some fourth) four line new e known = event_asked names late text fourth four (what_of fourth) refl line new e known

-- other lines

abbrev is_event : Kind → Bool
is_event kind.Event = true
is_event first = false

kind_if : (number : Bool) (word : List ℕ) (first : Kind) → is_event first ≡ false → cond number (Some kind.Event) (value_of_word kind_word worded_kinds word) ≡ Some first → word ≡ kind_word first
kind_if true word first other e = absurd (false≢true (sym other ∙ ap is_event (sym (same_some e))))
kind_if false word first other e = word_of_value kind_word worded_kinds word first e

declared_text : (names : Names) (text : List ℕ) (first : Kind) (word : List ℕ) → slice_get (words_of text) 0 ≡ Some word → word ≡ kind_word first → joined_words (words_of text) ≡ text
    → (line : Line) (new : Rest) → line_of_words names first (rest_of (words_of text)) ≡ Ok (line, new) → new.known ≡ true → is_twice names line ≡ false → line_text names line ≡ text
declared_text names text first word begins same spaced line new e known once =
    let clean : IsClean new = record { in_range = (line_ends names first).in_range (rest_of (words_of text)) line new e; known = known } in
    let found = (line_found names first).found (rest_of (words_of text)) line new e clean in
    let is = found.holds in
    let all : words_of text ≡ found.words = found.stood.stood ∙ ap (λ ws. found.words ++ ws) is.ended ∙ append-nil found.words in
    let first_of : is.first ≡ kind_word first = same_some (sym is.first_is ∙ ap (λ ws. slice_get ws 0) (sym all) ∙ begins) ∙ same in
    joined_text names line found.words [] (is.written first_of once) is.plain ∙ append-nil (joined_words found.words) ∙ ap joined_words (sym all) ∙ spaced

spaced_if : (names : Names) (text : List ℕ) (first : Kind) (word : List ℕ) → slice_get (words_of text) 0 ≡ Some word → word ≡ kind_word first → (spaced : Bool) → is_spaced text ≡ spaced
    → (line : Line) (new : Rest) → cond spaced (line_of_words names first (rest_of (words_of text))) (Err Form) ≡ Ok (line, new) → new.known ≡ true → is_twice names line ≡ false → line_text names line ≡ text
spaced_if names text first word begins same true spaced line new e known once = declared_text names text first word begins same ((bytes_eq-Decides (joined_words (words_of text)) text).0 spaced) line new e known once
spaced_if names text first word begins same false spaced line new e known once = absurd (not_found _ line new e)

kind_written : (names : Names) (late : Bool) (text : List ℕ) (first : Kind) (word : List ℕ) → slice_get (words_of text) 0 ≡ Some word → kind_of word ≡ Some first
    → (line : Line) (new : Rest) → line_of_kind names late text first ≡ Ok (line, new) → new.known ≡ true → is_twice names line ≡ false → line_text names line ≡ text
kind_written names late text kind.Process word begins is line new e known once = spaced_if names text kind.Process word begins (kind_if (is_decimal word) word kind.Process refl is) (is_spaced text) refl line new e known once
kind_written names late text kind.Child word begins is line new e known once = spaced_if names text kind.Child word begins (kind_if (is_decimal word) word kind.Child refl is) (is_spaced text) refl line new e known once
kind_written names late text kind.Name word begins is line new e known once = spaced_if names text kind.Name word begins (kind_if (is_decimal word) word kind.Name refl is) (is_spaced text) refl line new e known once
kind_written names late text kind.Procedure word begins is line new e known once = spaced_if names text kind.Procedure word begins (kind_if (is_decimal word) word kind.Procedure refl is) (is_spaced text) refl line new e known once
kind_written names late text kind.Path word begins is line new e known once = spaced_if names text kind.Path word begins (kind_if (is_decimal word) word kind.Path refl is) (is_spaced text) refl line new e known once
kind_written names late text kind.End word begins is line new e known once = spaced_if names text kind.End word begins (kind_if (is_decimal word) word kind.End refl is) (is_spaced text) refl line new e known once
kind_written names late text kind.Event word begins is line new e known once = event_written names late text (slice_get (words_of text) 3) refl line new e known

stands_if : (may : Bool) (kind first : Kind) → cond may (Some kind) None ≡ Some first → kind ≡ first
stands_if true kind first e = same_some e
stands_if false kind first e = absurd (no_value e)

kind_stands : (stage : Stage) (kind : Option Kind) (first : Kind) → option_and_then (if_may_stand stage) kind ≡ Some first → kind ≡ Some first
kind_stands stage None first e = absurd (no_value e)
kind_stands stage (Some kind) first e = ap Some (stands_if (may_stand stage kind) kind first e)

record Begins (text : List ℕ) (first : Kind) : Type 0 where
  word : List ℕ
  begins : slice_get (words_of text) 0 ≡ Some word
  is : kind_of word ≡ Some first

first_begins : (text : List ℕ) (word : Option (List ℕ)) → slice_get (words_of text) 0 ≡ word → (first : Kind) → option_and_then kind_of word ≡ Some first → Begins text first
first_begins text None begins first e = absurd (no_value e)
first_begins text (Some word) begins first e = record { word = word; begins = begins; is = e }

by_kind : (names : Names) (place : Place) (text : List ℕ) (first : Option Kind) → kind_at place text ≡ first
    → (line : Line) (new : Rest) → line_by_kind names place.late text first ≡ Ok (line, new) → new.known ≡ true → is_twice names line ≡ false → line_text names line ≡ text
by_kind names place text None at line new e known once = absurd (not_found _ line new e)
by_kind names place text (Some first) at line new e known once =
    let begins = first_begins text (slice_get (words_of text) 0) refl first (kind_stands place.stage (option_and_then kind_of (slice_get (words_of text) 0)) first at) in
    kind_written names place.late text first begins.word begins.begins begins.is line new e known once

-- a line without a fault

record IsFaultless (twice known : Bool) (one line : Line) : Type 0 where
  once : twice ≡ false
  known_is : known ≡ true
  same : one ≡ line

faultless : (twice many known : Bool) (one line : Line) → line_unless (cond twice (Some Twice) (cond many (Some Many) (cond known None (Some Unknown)))) one ≡ Ok line → IsFaultless twice known one line
faultless true many known one line e = absurd (not_line _ line e)
faultless false true known one line e = absurd (not_line _ line e)
faultless false false false one line e = absurd (not_line _ line e)
faultless false false true one line e = record { once = refl; known_is = refl; same = ap (line_or one) e }

found_written : (names : Names) (place : Place) (text : List ℕ) (answer : Result (Line × Rest) Reason) → line_by_words names place text ≡ answer
    → (line : Line) → line_declared names place answer ≡ Ok line → line_text names line ≡ text
found_written names place text (Err reason) is line e = absurd (not_line reason line e)
found_written names place text (Ok found) is line e =
    let good = faultless (is_twice names found.0) (is_many names place found.0) found.1.known found.0 line e in
    ap (line_text names) (sym good.same) ∙ by_kind names place text (kind_at place text) refl found.0 found.1 is good.known_is good.once

bytes_written : (names : Names) (place : Place) (text : List ℕ) (fault : Option Reason) (line : Line) → line_with_bytes names place text fault ≡ Ok line → line_text names line ≡ text
bytes_written names place text (Some reason) line e = absurd (not_line reason line e)
bytes_written names place text None line e = found_written names place text (line_by_words names place text) refl line e

-- what is read is written so
pub text_written : (names : Names) (place : Place) (line : Line) (text : List ℕ) → line_read names place text ≡ Ok line → line_text names line ≡ text
unfolding line_read
text_written names place line text e = bytes_written names place text (byte_fault text) line e
