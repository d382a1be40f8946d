-- A line that is read is one of its place.
use Rattle.std.proofs.Common.{◌≡◌, ℕ, Bool, true, false, cond, not, List, [], ◌∷◌, Option, Some, None, Result, Ok, Err, option_map, length, refl, ap, subst}
use Rattle.std.specs.Prelude.{codes}
use Rattle.line_text.specs.Types.{Pid}
use Rattle.line_text.specs.Words.{words_of}
use Rattle.script_lang.specs.Types.{Keyword, Line, Reason}
use Rattle.line_forms.specs.declared.reason.Reason.TheVariants.{Byte}
use Rattle.line_forms.specs.Words.{Tables, keyword_of}
use Rattle.line_reader.specs.Words.{Reader, Rest, is_no_stop, items_to, line_with, name, nonempty_list, number, optional_word, pure, rest_of, then_read, thread_from_word, value_at_end, value_at_end_of, ◌>>=◌}
use Rattle.script_lang.specs.declared.item.ScriptLine.{ScriptLine}
use Rattle.script_lang.specs.declared.item.ScriptLine.TheVariants.{Budget, Process, Child, Spare, Thread, Procedure, Do, Schedule}
use Rattle.script_lang.specs.declared.item.ScriptLineRead.{ScriptLineRead}
use Rattle.script_lang.specs.declared.item.ScriptPlace.{ScriptPlace}
use Rattle.script_lang.specs.declared.item.ScriptPlace.TheVariants.{Start, Processes, Members, Body, Schedule as Scheduled}
use Rattle.script_lang.specs.Context.{ContextValue}
use Rattle.script_lang.specs.Items.{budget_item, process_item, child_item, spare_item, thread_item, procedure_item, schedule_item, limit_after, parent_after, line_item, is_keyword, is_child_keyword, item_in_schedule, item_in_processes, item_at_place, item_in_context}
use Rattle.script_lang.specs.Parsing.{item_read, item_found, spelling_with, words_spelling, line_spelling, is_printable_line, is_skipped}
use Rattle.script_lang.specs.Spelled.{is_of_place}

-- whatever a reader gives passes a test
record GivesOnly {A : Type 0} (test : A → Bool) (read : Reader A) : Type 0 where
  only : (rest : Rest) (value : A) (new : Rest) → read rest ≡ Ok (value, new) → test value ≡ true

then_found : {A B : Type 0} (test : B → Bool) (next : A → Reader B) → ((x : A) → GivesOnly test (next x)) → (found : Result (A × Rest) Reason) (value : B) (new : Rest) → then_read next found ≡ Ok (value, new) → test value ≡ true
then_found test next h (Err reason) value new e = cc
then_found test next h (Ok found) value new e = (h found.0).only found.1 value new e

only-then : {A B : Type 0} (test : B → Bool) (read : Reader A) (next : A → Reader B) → ((x : A) → GivesOnly test (next x)) → GivesOnly test (read >>= next)
only-then test read next h = record { only = λ rest value new e. then_found test next h (read rest) value new e }

abbrev FoundOk : {A : Type 0} → A → Rest → Result (A × Rest) Reason
FoundOk value rest = Ok (value, rest)

same_value : {A : Type 0} (x value : A) (rest new : Rest) → FoundOk x rest ≡ FoundOk value new → x ≡ value
same_value {A} x value rest new e = let both : ◌≡◌ {A = A × Rest} (x, rest) (value, new) = cc in ap (λ (p : A × Rest). p.0) both

end_found : {A : Type 0} (test : A → Bool) (x : A) → test x ≡ true → (words : List (List ℕ)) (in_range : Bool) (rest : Rest) (value : A) (new : Rest) → value_at_end_of x words in_range rest ≡ Ok (value, new) → test value ≡ true
end_found test x h [] true rest value new e = let same : x ≡ value = same_value x value rest new e in rw (← same) h
end_found test x h [] false rest value new e = cc
end_found test x h (word ∷ words) in_range rest value new e = cc

only-value_at_end : {A : Type 0} (test : A → Bool) (x : A) → test x ≡ true → GivesOnly test (value_at_end x)
only-value_at_end test x h = record { only = λ rest value new e. end_found test x h rest.words rest.in_range rest value new e }

only-pure : {A : Type 0} (test : A → Bool) (x : A) → test x ≡ true → GivesOnly test (pure x)
only-pure test x h = record { only = λ rest value new e. let same : x ≡ value = same_value x value rest new e in rw (← same) h }

only-budget : (test : ScriptLine → Bool) → ((events : ℕ) → test (Budget events) ≡ true) → GivesOnly test budget_item
unfolding budget_item
only-budget test h = only-then test (number 1 100000) _ (λ events. only-value_at_end test (Budget events) (h events))

only-process : (test : ScriptLine → Bool) → ((name : List ℕ) (limit : ℕ) → test (Process name limit) ≡ true) → GivesOnly test process_item
unfolding process_item
only-process test h =
    only-then test name _ (λ process. only-then test (optional_word (codes "limit")) _ (λ limited. only-then test (limit_after limited) _ (λ limit. only-value_at_end test (Process process limit) (h process limit))))

only-child : (tables : Tables) (before : ℕ) (test : ScriptLine → Bool) → ((name : List ℕ) (parent : Pid) → test (Child name parent) ≡ true) → GivesOnly test (child_item tables before)
unfolding child_item
only-child tables before test h =
    only-then test name _ (λ child. only-then test (optional_word (codes "of")) _ (λ named. only-then test (parent_after tables before named) _ (λ parent. only-value_at_end test (Child child parent) (h child parent))))

only-spare : (test : ScriptLine → Bool) → ((name : List ℕ) → test (Spare name) ≡ true) → GivesOnly test spare_item
unfolding spare_item
only-spare test h = only-then test name _ (λ spare. only-value_at_end test (Spare spare) (h spare))

only-thread : (test : ScriptLine → Bool) → ((name : List ℕ) → test (Thread name) ≡ true) → GivesOnly test thread_item
unfolding thread_item
only-thread test h = only-then test name _ (λ thread. only-value_at_end test (Thread thread) (h thread))

only-procedure : (test : ScriptLine → Bool) → ((name : List ℕ) → test (Procedure name) ≡ true) → GivesOnly test procedure_item
unfolding procedure_item
only-procedure test h = only-then test name _ (λ procedure. only-value_at_end test (Procedure procedure) (h procedure))

only-schedule : (tables : Tables) (test : ScriptLine → Bool) → ((threads : _) → test (Schedule threads) ≡ true) → GivesOnly test (schedule_item tables)
unfolding schedule_item
only-schedule tables test h =
    only-then test (items_to is_no_stop (thread_from_word tables)) _ (λ named. only-then test (nonempty_list named) _ (λ threads. only-value_at_end test (Schedule threads) (h threads)))

only-line : (tables : Tables) (of : ℕ) (keyword : Keyword) (test : ScriptLine → Bool) → ((line : Line) → test (Do line) ≡ true) → GivesOnly test (line_item tables of keyword)
only-line tables of keyword test h = only-then test (line_with tables of keyword) _ (λ line. only-pure test (Do line) (h line))

-- the same where a first word may be none of its place
record MayGiveOnly (test : ScriptLine → Bool) (found : Option (Reader ScriptLine)) : Type 0 where
  gives : (read : Reader ScriptLine) → found ≡ Some read → GivesOnly test read

none-gives : (test : ScriptLine → Bool) → MayGiveOnly test None
none-gives test = record { gives = λ read e. cc }

some-gives : (test : ScriptLine → Bool) (read : Reader ScriptLine) → GivesOnly test read → MayGiveOnly test (Some read)
some-gives test read h = record { gives = λ other e. let same : read ≡ other = cc in subst (GivesOnly test) same h }

if-gives : (test : ScriptLine → Bool) (b : Bool) (one other : Option (Reader ScriptLine)) → MayGiveOnly test one → MayGiveOnly test other → MayGiveOnly test (cond b one other)
if-gives test true one other y n = y
if-gives test false one other y n = n

schedule-gives : (tables : Tables) (word : List ℕ) (test : ScriptLine → Bool) → ((threads : _) → test (Schedule threads) ≡ true) → MayGiveOnly test (item_in_schedule tables word)
schedule-gives tables word test s = if-gives test (is_keyword word (codes "schedule")) _ _ (some-gives test _ (only-schedule tables test s)) (none-gives test)

processes-gives : (version : ℕ) (tables : Tables) (of : ℕ) (word : List ℕ) (test : ScriptLine → Bool) → ((threads : _) → test (Schedule threads) ≡ true) → ((name : List ℕ) (limit : ℕ) → test (Process name limit) ≡ true) → ((name : List ℕ) (parent : Pid) → test (Child name parent) ≡ true)
    → MayGiveOnly test (item_in_processes version tables of word)
processes-gives version tables of word test s p c =
    if-gives test (is_keyword word (codes "process")) _ _ (some-gives test _ (only-process test p)) (
    if-gives test (is_child_keyword version word) _ _ (some-gives test _ (only-child tables of test c)) (schedule-gives tables word test s))

keyword-gives : (tables : Tables) (of : ℕ) (test : ScriptLine → Bool) → ((line : Line) → test (Do line) ≡ true) → (keyword : Option Keyword) → MayGiveOnly test (option_map (line_item tables of) keyword)
keyword-gives tables of test h None = none-gives test
keyword-gives tables of test h (Some keyword) = some-gives test _ (only-line tables of keyword test h)

place-gives : (place : ScriptPlace) (version : ℕ) (tables : Tables) (of : ℕ) (word : List ℕ) → MayGiveOnly (is_of_place place) (item_at_place place version tables of word)
place-gives Start version tables of word =
    if-gives _ (is_keyword word (codes "budget")) _ _ (some-gives _ _ (only-budget _ (λ events. refl))) (processes-gives version tables of word _ (λ threads. refl) (λ name limit. refl) (λ name parent. refl))
place-gives Processes version tables of word = processes-gives version tables of word _ (λ threads. refl) (λ name limit. refl) (λ name parent. refl)
place-gives Members version tables of word =
    if-gives _ (is_keyword word (codes "spare")) _ _ (some-gives _ _ (only-spare _ (λ name. refl))) (
    if-gives _ (is_keyword word (codes "thread")) _ _ (some-gives _ _ (only-thread _ (λ name. refl))) (
    if-gives _ (is_keyword word (codes "proc")) _ _ (some-gives _ _ (only-procedure _ (λ name. refl)))
    (processes-gives version tables of word _ (λ threads. refl) (λ name limit. refl) (λ name parent. refl))))
place-gives Body version tables of word = keyword-gives tables of _ (λ line. refl) (keyword_of version word)
place-gives Scheduled version tables of word = schedule-gives tables word _ (λ threads. refl)

pub given_is : (given : ScriptLine × Rest) (found : ScriptLineRead) → item_found (Ok given) ≡ Ok (Some found) → item_read given.0 given.1.known ≡ found
given_is given found e = cc

item-found : (test : ScriptLine → Bool) (answer : Result (ScriptLine × Rest) Reason) → ((value : ScriptLine) (new : Rest) → answer ≡ Ok (value, new) → test value ≡ true) → (found : ScriptLineRead) → item_found answer ≡ Ok (Some found) → test found.item ≡ true
item-found test (Err reason) h found e = cc
item-found test (Ok given) h found e =
    let same : given.0 ≡ found.item = ap (λ read. read.item) (given_is given found e) in
    rw (← same) (h given.0 given.1 refl)

word-found : (test : ScriptLine → Bool) (words : List (List ℕ)) (given : Option (Reader ScriptLine)) → MayGiveOnly test given → (found : ScriptLineRead) → spelling_with words given ≡ Ok (Some found) → test found.item ≡ true
word-found test words None h found e = cc
word-found test words (Some read) h found e = item-found test (read (rest_of words)) ((h.gives read refl).only (rest_of words)) found e

words-found : (version : ℕ) (tables : Tables) (context : ContextValue) (words : List (List ℕ)) (found : ScriptLineRead) → words_spelling version tables context words ≡ Ok (Some found) → is_of_place context.place found.item ≡ true
words-found version tables context [] found e = cc
words-found version tables context (word ∷ words) found e =
    word-found (is_of_place context.place) words (item_in_context version tables context word) (place-gives context.place version tables (length context.processes) word) found e

unskipped-found : (skipped : Bool) (version : ℕ) (tables : Tables) (context : ContextValue) (words : List (List ℕ)) (found : ScriptLineRead) → cond skipped (Ok None) (words_spelling version tables context words) ≡ Ok (Some found) → is_of_place context.place found.item ≡ true
unskipped-found true version tables context words found e = cc
unskipped-found false version tables context words found e = words-found version tables context words found e

printable-found : (bad skipped : Bool) (version : ℕ) (tables : Tables) (context : ContextValue) (words : List (List ℕ)) (found : ScriptLineRead) → cond bad (Err Byte) (cond skipped (Ok None) (words_spelling version tables context words)) ≡ Ok (Some found) → is_of_place context.place found.item ≡ true
printable-found true skipped version tables context words found e = cc
printable-found false skipped version tables context words found e = unskipped-found skipped version tables context words found e

-- a line that is an item is one of its place
pub of_place : (version : ℕ) (tables : Tables) (context : ContextValue) (line : List ℕ) (found : ScriptLineRead) → line_spelling version tables context line ≡ Ok (Some found) → is_of_place context.place found.item ≡ true
unfolding line_spelling
of_place version tables context line found e = printable-found (not (is_printable_line line)) (is_skipped line) version tables context (words_of line) found e
