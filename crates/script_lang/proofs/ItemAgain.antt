-- A line that spells an item is read as the item.
use Rattle.std.proofs.Common.{◌≡◌, ℕ, ◌≤◌, Bool, true, false, cond, ◌&&◌, List, [], ◌∷◌, length, take, Some, None, Ok, option_map, refl, ap, ◌∙◌, inl, inr, arith, lit<}
use Rattle.std.specs.Prelude.{codes, nat_le}
use Rattle.std.proofs.lemmas.Bool.{false≢true, leb-true}
use Rattle.line_text.specs.Types.{Pid, Tid}
use Rattle.line_text.specs.Words.{SpellsName, SpellsNumber, words_of}
use Rattle.script_lang.specs.Types.{Line}
use Rattle.line_forms.specs.Words.{AreDistinct, Each, Ends, First, SpellsParent, SpellsThread, Tables, Then, earlier_number, keyword_of_line, keyword_word, line_version}
use Rattle.line_reader.specs.Words.{Reader, Rest, declared_number, is_at_stop, is_no_stop, line_with, name as name_read, name_from_word, nonempty_list, optional_word, pid, pure, rest_of, then_read, thread_from_word, value_at_end, ◌>>=◌}
use Rattle.law_lines.proofs.DataWords.{items_again}
use Rattle.law_lines.proofs.DescriptorWords.{number_reader-spelled, name_read-spelled}
use Rattle.law_lines.proofs.KeywordWords.{keyword-again}
use Rattle.law_lines.proofs.LawsProved.{not_empty, spelled-read_back}
use Rattle.line_forms.proofs.Numbering.{number_of_earlier, same_some}
use Rattle.law_lines.proofs.PassWords.{at_least_one_again}
use Rattle.law_lines.proofs.WordKinds.{AThread, word_again}
use Rattle.script_lang.specs.declared.item.ScriptLine.{ScriptLine}
use Rattle.script_lang.specs.declared.item.ScriptLine.TheVariants.{Budget, Process, Child, Spare, Thread, Procedure, Do, Schedule}
use Rattle.script_lang.specs.declared.item.ScriptPlace.{ScriptPlace}
use Rattle.script_lang.specs.declared.item.ScriptPlace.TheVariants.{Start, Processes, Members, Body, Schedule as Scheduled}
use Rattle.script_lang.specs.Context.{ContextValue, place_fault}
use Rattle.script_lang.specs.Items.{budget_item, process_item, child_item, spare_item, thread_item, procedure_item, schedule_item, limit_after, parent_after, line_item, item_at_place, item_in_context}
use Rattle.script_lang.specs.Parsing.{item_read, item_found, spelling_with, words_spelling, line_spelling, line_read, is_printable_line, is_skipped}
use Rattle.script_lang.specs.Spelled.{SpellsScriptLine, MayStand, is_of_place, is_of_version, SpellsLimit}
use Rattle.script_lang.proofs.SpelledItems.{IsItem}

-- the first word of an item's line
abbrev first_of : ScriptLine → List ℕ
first_of (Budget events) = codes "budget"
first_of (Process name limit) = codes "process"
first_of (Child name parent) = codes "child"
first_of (Spare name) = codes "spare"
first_of (Thread name) = codes "thread"
first_of (Procedure name) = codes "proc"
first_of (Do line) = keyword_word (keyword_of_line line)
first_of (Schedule threads) = codes "schedule"

-- what reads the rest of it
abbrev reader_of : Tables → ℕ → ScriptLine → Reader ScriptLine
reader_of tables of (Budget events) = budget_item
reader_of tables of (Process name limit) = process_item
reader_of tables of (Child name parent) = child_item tables of
reader_of tables of (Spare name) = spare_item
reader_of tables of (Thread name) = thread_item
reader_of tables of (Procedure name) = procedure_item
reader_of tables of (Do line) = line_item tables of (keyword_of_line line)
reader_of tables of (Schedule threads) = schedule_item tables

and_false : (b : Bool) → (b && false) ≡ false
and_false true = refl
and_false false = refl

-- a word that is no `child` is read as it was before version 2, and `child` as in version 2

no_child : {A : Type 0} (version : ℕ) (child other : A) → cond (nat_le 2 version && false) child other ≡ other
no_child version child other = ap (λ test. cond test child other) (and_false (nat_le 2 version))

some_child : {A : Type 0} (version : ℕ) (child other : A) → nat_le 2 version ≡ true → cond (nat_le 2 version && true) child other ≡ child
some_child version child other since = ap (λ test. cond (test && true) child other) since

reader_at : (place : ScriptPlace) (version : ℕ) (tables : Tables) (of : ℕ) (item : ScriptLine) → is_of_place place item ≡ true → is_of_version version item ≡ true → item_at_place place version tables of (first_of item) ≡ Some (reader_of tables of item)
reader_at Start version tables of (Budget events) at since = refl
reader_at Start version tables of (Process name limit) at since = refl
reader_at Start version tables of (Child name parent) at since = some_child version (Some (child_item tables of)) None since
reader_at Start version tables of (Schedule threads) at since = no_child version (Some (child_item tables of)) (Some (schedule_item tables))
reader_at Processes version tables of (Process name limit) at since = refl
reader_at Processes version tables of (Child name parent) at since = some_child version (Some (child_item tables of)) None since
reader_at Processes version tables of (Schedule threads) at since = no_child version (Some (child_item tables of)) (Some (schedule_item tables))
reader_at Members version tables of (Process name limit) at since = refl
reader_at Members version tables of (Child name parent) at since = some_child version (Some (child_item tables of)) None since
reader_at Members version tables of (Spare name) at since = refl
reader_at Members version tables of (Thread name) at since = refl
reader_at Members version tables of (Procedure name) at since = refl
reader_at Members version tables of (Schedule threads) at since = no_child version (Some (child_item tables of)) (Some (schedule_item tables))
reader_at Body version tables of (Do line) at since = ap (option_map (line_item tables of)) (keyword-again version (keyword_of_line line) (leb-true (line_version line) version since))
reader_at Scheduled version tables of (Schedule threads) at since = refl
reader_at place version tables of item at since = absurd (false≢true at)

-- the words after the first are read as the item, to the line's end
record IsReadAs (tables : Tables) (of : ℕ) (item : ScriptLine) (word : List ℕ) (words : List (List ℕ)) : Type 0 where
  first : word ≡ first_of item
  reads : reader_of tables of item (rest_of words) ≡ Ok (item, rest_of [])

end_again : (item : ScriptLine) (words : List (List ℕ)) → Ends words → value_at_end item (rest_of words) ≡ Ok (item, rest_of [])
end_again item words ends = ap (λ ws. value_at_end item (rest_of ws)) ends

budget_again : (events : ℕ) (digits : List ℕ) (words : List (List ℕ)) → SpellsNumber 1 100000 events digits → Ends words → budget_item (rest_of (digits ∷ words)) ≡ Ok (Budget events, rest_of [])
unfolding budget_item
budget_again events digits words spells ends =
    ap (then_read (λ n. value_at_end (Budget n))) (number_reader-spelled 1 100000 events digits (rest_of words) (lit< tt) spells) ∙ end_again (Budget events) words ends

-- a name and no more

named_again : (make : List ℕ → ScriptLine) (named word : List ℕ) (words : List (List ℕ)) → SpellsName named word → Ends words → (name_read >>= (λ bytes. value_at_end (make bytes))) (rest_of (word ∷ words)) ≡ Ok (make named, rest_of [])
named_again make named word words spells ends =
    ap (λ w. then_read (λ bytes. value_at_end (make bytes)) (name_from_word w (rest_of words))) spells.1 ∙ ap (then_read (λ bytes. value_at_end (make bytes))) (name_read-spelled named (rest_of words) spells.0) ∙ end_again (make named) words ends

spare_again : (named word : List ℕ) (words : List (List ℕ)) → SpellsName named word → Ends words → spare_item (rest_of (word ∷ words)) ≡ Ok (Spare named, rest_of [])
unfolding spare_item
spare_again named word words spells ends = named_again Spare named word words spells ends

thread_again : (named word : List ℕ) (words : List (List ℕ)) → SpellsName named word → Ends words → thread_item (rest_of (word ∷ words)) ≡ Ok (Thread named, rest_of [])
unfolding thread_item
thread_again named word words spells ends = named_again Thread named word words spells ends

procedure_again : (named word : List ℕ) (words : List (List ℕ)) → SpellsName named word → Ends words → procedure_item (rest_of (word ∷ words)) ≡ Ok (Procedure named, rest_of [])
unfolding procedure_item
procedure_again named word words spells ends = named_again Procedure named word words spells ends

-- a process

abbrev limit_read : List ℕ → Reader ScriptLine
limit_read process = optional_word (codes "limit") >>= (λ limited. limit_after limited >>= (λ limit. value_at_end (Process process limit)))

limit_again : (process : List ℕ) (limit : ℕ) (words : List (List ℕ)) → SpellsLimit limit words → limit_read process (rest_of words) ≡ Ok (Process process limit, rest_of [])
limit_again process limit words (inl none) = rw (none.0, none.1) refl
limit_again process limit [] (inr some) = absurd some
limit_again process limit (word ∷ []) (inr some) = absurd some.1
limit_again process limit (word ∷ digits ∷ words) (inr some) =
    ap (λ w. limit_read process (rest_of (w ∷ digits ∷ words))) some.0 ∙
    ap (then_read (λ n. value_at_end (Process process n))) (number_reader-spelled 0 256 limit digits (rest_of words) (lit< tt) some.1.0) ∙ end_again (Process process limit) words some.1.1

process_again : (process : List ℕ) (limit : ℕ) (word : List ℕ) (words : List (List ℕ)) → SpellsName process word → SpellsLimit limit words → process_item (rest_of (word ∷ words)) ≡ Ok (Process process limit, rest_of [])
unfolding process_item
process_again process limit word words spells limited =
    ap (λ w. then_read limit_read (name_from_word w (rest_of words))) spells.1 ∙ ap (then_read limit_read) (name_read-spelled process (rest_of words) spells.0) ∙ limit_again process limit words limited

-- a child

abbrev parent_read : Tables → ℕ → List ℕ → Reader ScriptLine
parent_read tables before child = optional_word (codes "of") >>= (λ named. parent_after tables before named >>= (λ parent. value_at_end (Child child parent)))

parent_again : (tables : Tables) (before : ℕ) (parent : Pid) (word : List ℕ) (rest : Rest) → AreDistinct tables → SpellsParent tables before parent word
    → (name_from_word word >>= (λ bytes. declared_number (earlier_number (take before tables.processes) bytes) >>= (λ n. pure (pid n)))) rest ≡ Ok (parent, rest)
parent_again tables before parent word rest distinct spells =
    ap (then_read (λ bytes. declared_number (earlier_number (take before tables.processes) bytes) >>= (λ n. pure (pid n)))) (name_read-spelled word rest spells.0.0) ∙
    ap (λ number. then_read (λ n. pure (pid n)) (declared_number number rest)) (number_of_earlier tables.processes before parent.0 word distinct.processes spells.0.1 spells.1)

parented_again : (tables : Tables) (before : ℕ) (child : List ℕ) (parent : Pid) (words : List (List ℕ)) → AreDistinct tables → Then (codes "of") (First (SpellsParent tables before parent) Ends) words → parent_read tables before child (rest_of words) ≡ Ok (Child child parent, rest_of [])
parented_again tables before child parent [] distinct spells = absurd spells
parented_again tables before child parent (word ∷ []) distinct spells = absurd spells.1
parented_again tables before child parent (word ∷ named ∷ words) distinct spells =
    ap (λ w. parent_read tables before child (rest_of (w ∷ named ∷ words))) spells.0 ∙
    ap (then_read (λ of. value_at_end (Child child of))) (parent_again tables before parent named (rest_of words) distinct spells.1.0) ∙ end_again (Child child parent) words spells.1.1

child_again : (tables : Tables) (before : ℕ) (child : List ℕ) (parent : Pid) (word : List ℕ) (words : List (List ℕ)) → AreDistinct tables → SpellsName child word → Then (codes "of") (First (SpellsParent tables before parent) Ends) words
    → child_item tables before (rest_of (word ∷ words)) ≡ Ok (Child child parent, rest_of [])
unfolding child_item
child_again tables before child parent word words distinct spells parented =
    ap (λ w. then_read (parent_read tables before) (name_from_word w (rest_of words))) spells.1 ∙ ap (then_read (parent_read tables before)) (name_read-spelled child (rest_of words) spells.0) ∙ parented_again tables before child parent words distinct parented

-- a schedule

schedule_again : (tables : Tables) (threads : List Tid) (words : List (List ℕ)) → AreDistinct tables → 1 ≤ length threads → Each (SpellsThread tables) threads Ends words → schedule_item tables (rest_of words) ≡ Ok (Schedule threads, rest_of [])
unfolding schedule_item
schedule_again tables threads words distinct some spells =
    let items = items_again (SpellsThread tables) is_no_stop (thread_from_word tables) (λ thread word rest one. word_again tables 0 AThread word rest thread refl distinct one) (λ thread word one. refl) Ends (λ ws ends. ap (is_at_stop is_no_stop) ends) threads words spells in
    ap (then_read (λ named. nonempty_list named >>= (λ ts. value_at_end (Schedule ts)))) (items.reads (rest_of words)) ∙
    ap (then_read (λ ts. value_at_end (Schedule ts))) (at_least_one_again threads (rest_of items.left) some) ∙
    end_again (Schedule threads) items.left items.next

-- a line of a body

line_item_again : (tables : Tables) (of : ℕ) (line : Line) (words : List (List ℕ)) → line_with tables of (keyword_of_line line) (rest_of words) ≡ Ok (line, rest_of []) → line_item tables of (keyword_of_line line) (rest_of words) ≡ Ok (Do line, rest_of [])
line_item_again tables of line words reads = ap (then_read (λ l. pure (Do l))) reads

item_again : (tables : Tables) (of : ℕ) (item : ScriptLine) (word : List ℕ) (words : List (List ℕ)) → AreDistinct tables → SpellsScriptLine tables of item (word ∷ words) → IsReadAs tables of item word words
item_again tables of (Budget events) word [] distinct spells = absurd spells.1
item_again tables of (Budget events) word (digits ∷ words) distinct spells = record { first = spells.0; reads = budget_again events digits words spells.1.0 spells.1.1 }
item_again tables of (Process process limit) word [] distinct spells = absurd spells.1
item_again tables of (Process process limit) word (named ∷ words) distinct spells = record { first = spells.0; reads = process_again process limit named words spells.1.0 spells.1.1 }
item_again tables of (Child child parent) word [] distinct spells = absurd spells.1
item_again tables of (Child child parent) word (named ∷ words) distinct spells = record { first = spells.0; reads = child_again tables of child parent named words distinct spells.1.0 spells.1.1 }
item_again tables of (Spare spare) word [] distinct spells = absurd spells.1
item_again tables of (Spare spare) word (named ∷ words) distinct spells = record { first = spells.0; reads = spare_again spare named words spells.1.0 spells.1.1 }
item_again tables of (Thread thread) word [] distinct spells = absurd spells.1
item_again tables of (Thread thread) word (named ∷ words) distinct spells = record { first = spells.0; reads = thread_again thread named words spells.1.0 spells.1.1 }
item_again tables of (Procedure procedure) word [] distinct spells = absurd spells.1
item_again tables of (Procedure procedure) word (named ∷ words) distinct spells = record { first = spells.0; reads = procedure_again procedure named words spells.1.0 spells.1.1 }
item_again tables of (Do line) word words distinct spells =
    let back = spelled-read_back tables of line (word ∷ words) distinct spells in
    record { first = same_some back.keyword; reads = line_item_again tables of line words back.reads }
item_again tables of (Schedule []) word words distinct spells = absurd spells
item_again tables of (Schedule (thread ∷ threads)) word words distinct spells = record { first = spells.0; reads = schedule_again tables (thread ∷ threads) words distinct (omega arith) spells.1 }

no_words : (tables : Tables) (of : ℕ) (item : ScriptLine) → SpellsScriptLine tables of item [] → ⊥
no_words tables of (Do line) spells = not_empty tables of line spells
no_words tables of (Schedule []) spells = spells
no_words tables of (Schedule (thread ∷ threads)) spells = spells
no_words tables of item spells = spells

words_again : (version : ℕ) (tables : Tables) (context : ContextValue) (item : ScriptLine) (words : List (List ℕ)) → AreDistinct tables → is_of_place context.place item ≡ true → is_of_version version item ≡ true → SpellsScriptLine tables (length context.processes) item words
    → words_spelling version tables context words ≡ Ok (Some (item_read item true))
words_again version tables context item [] distinct at since spells = absurd (no_words tables (length context.processes) item spells)
words_again version tables context item (word ∷ words) distinct at since spells =
    let read = item_again tables (length context.processes) item word words distinct spells in
    ap (λ w. spelling_with words (item_in_context version tables context w)) read.first ∙
    ap (spelling_with words) (reader_at context.place version tables (length context.processes) item at since) ∙
    ap item_found read.reads

no_fault : (context : ContextValue) (item : ScriptLine) → MayStand context item → place_fault context item ≡ None
no_fault context item stands = rw (stands.once, stands.within_limits, stands.in_its_place) refl

-- a line that spells an item of a version is read as the item, which names nothing that is not declared
pub line_again : (version : ℕ) (tables : Tables) (context : ContextValue) (line : List ℕ) (item : ScriptLine) → AreDistinct tables → is_of_version version item ≡ true → IsItem tables context line item → line_read version tables context line ≡ Ok (Some (item_read item true))
unfolding line_read line_spelling
line_again version tables context line item distinct since is =
    rw (is.printable, is.read, words_again version tables context item (words_of line) distinct is.may_stand.of_place since is.spells, no_fault context item is.may_stand) refl

-- a line that is skipped is no item
pub line_skipped : (version : ℕ) (tables : Tables) (context : ContextValue) (line : List ℕ) → is_printable_line line ≡ true → is_skipped line ≡ true → line_read version tables context line ≡ Ok None
unfolding line_read line_spelling
line_skipped version tables context line printable skipped = rw (printable, skipped) refl
