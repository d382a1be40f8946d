-- A line is `unknown` only where no line has another reason.
use Rattle.std.proofs.Common.{◌≡◌, ℕ, ◌+◌, Bool, true, false, cond, not, List, [], ◌∷◌, Option, Some, None, Result, Ok, Err, refl, ap, sym, ◌∙◌}
use Rattle.std.specs.Prelude.{⊤, codes, length, option_map}
use Rattle.std.proofs.lemmas.Bool.{false≢true}
use Rattle.line_text.specs.Words.{lines_of, words_of}
use Rattle.script_lang.specs.Types.{Keyword, Reason}
use Rattle.line_forms.specs.declared.reason.Reason.TheVariants.{Byte, Form, Range, Twice, Many, Body as Misplaced, Unknown}
use Rattle.line_reader.specs.Words.{Reader, Rest, is_no_stop, items_to, line_with, name, nonempty_list, number, optional_word, rest_of, thread_from_word}
use Rattle.line_forms.specs.Words.{Tables, keyword_of}
use Rattle.law_lines.proofs.LineFailures.{line_fails}
use Rattle.law_lines.proofs.OperandFailures.{is_of_operands, FailsByOperands, ByOperands, fails-pure, fails-then, fails-optional_word, fails-value_at_end, fails-number, fails-name, fails-misspelling, fails-parent, fails-thread_from_word, fails-items_to, fails-nonempty_list}
use Rattle.script_lang.specs.declared.bad.Bad.{Bad}
use Rattle.script_lang.specs.declared.item.ScriptLine.{ScriptLine}
use Rattle.script_lang.specs.declared.item.ScriptLineRead.{ScriptLineRead}
use Rattle.script_lang.specs.declared.item.ScriptPlace.{ScriptPlace}
use Rattle.script_lang.specs.declared.item.ScriptPlace.TheVariants.{Start, Processes, Members, Body, Schedule as Scheduled}
use Rattle.script_lang.specs.Context.{ContextValue, first_context, is_closed, is_declared_twice, is_over_limit, is_misplaced, context_after}
use Rattle.script_lang.specs.Canonical.{header}
use Rattle.script_lang.specs.Decided.{IsOnlyUnknown}
use Rattle.script_lang.specs.Items.{budget_item, limit_after, parent_after, process_item, child_item, spare_item, thread_item, procedure_item, schedule_item, line_item, is_child_keyword, is_keyword, item_in_schedule, item_in_processes, item_at_start, item_in_members, item_at_place, item_in_context}
use Rattle.script_lang.specs.Parsing.{ScriptLinesRead, bad_line, is_printable_line, is_skipped, item_found, spelling_with, words_spelling, line_spelling, result_unless, result_at_place, line_read, with_item, line_then, result_at_end, lines_read, script_unless_unknown, script_read, version_of, result_after_header, text_lines_read, parse_result}
use Rattle.script_lang.specs.Spelled.{is_version}
use Rattle.script_lang.specs.TextTables.{tables_of_lines}
use Rattle.script_lang.specs.Value.{ScriptValue}
use Rattle.script_lang.proofs.Versions.{version_found}

abbrev is_unknown : Reason → Bool
is_unknown Unknown = true
is_unknown reason = false

-- the reason, if there is one, is another
abbrev NotUnknown : {A : Type 0} → Result A Reason → Type 0
NotUnknown (Err reason) = is_unknown reason ≡ false
NotUnknown (Ok found) = ⊤

abbrev HasNoUnknown : {A : Type 0} → Result A Bad → Type 0
HasNoUnknown (Err fault) = is_unknown fault.reason ≡ false
HasNoUnknown (Ok found) = ⊤

operands_known : (reason : Reason) → is_of_operands reason ≡ true → is_unknown reason ≡ false
operands_known Form h = refl
operands_known Range h = refl
operands_known reason h = absurd (false≢true h)

-- the items of each place

abbrev Fails : Option (Reader ScriptLine) → Type 0
Fails None = ⊤
Fails (Some read) = ByOperands read

fails_if : (test : Bool) (one other : Option (Reader ScriptLine)) → Fails one → Fails other → Fails (cond test one other)
fails_if true one other one_fails other_fails = one_fails
fails_if false one other one_fails other_fails = other_fails

schedule_fails : (tables : Tables) → ByOperands (schedule_item tables)
unfolding schedule_item
schedule_fails tables =
    fails-then (items_to is_no_stop (thread_from_word tables)) _ (fails-items_to is_no_stop (thread_from_word tables) (fails-thread_from_word tables)) (λ named. fails-then (nonempty_list named) _ (fails-nonempty_list named) (λ threads. fails-value_at_end _))

limit_fails : (limited : Bool) → ByOperands (limit_after limited)
limit_fails false = fails-pure 256
limit_fails true = fails-number 0 256

process_fails : ByOperands process_item
unfolding process_item
process_fails =
    fails-then name _ fails-name (λ process. fails-then (optional_word (codes "limit")) _ (fails-optional_word (codes "limit")) (λ limited. fails-then (limit_after limited) _ (limit_fails limited) (λ limit. fails-value_at_end _)))

budget_fails : ByOperands budget_item
unfolding budget_item
budget_fails = fails-then (number 1 100000) _ (fails-number 1 100000) (λ events. fails-value_at_end _)

spare_fails : ByOperands spare_item
unfolding spare_item
spare_fails = fails-then name _ fails-name (λ spare. fails-value_at_end _)

thread_fails : ByOperands thread_item
unfolding thread_item
thread_fails = fails-then name _ fails-name (λ thread. fails-value_at_end _)

procedure_fails : ByOperands procedure_item
unfolding procedure_item
procedure_fails = fails-then name _ fails-name (λ procedure. fails-value_at_end _)

in_schedule_fails : (tables : Tables) (word : List ℕ) → Fails (item_in_schedule tables word)
in_schedule_fails tables word = fails_if (is_keyword word (codes "schedule")) _ _ (schedule_fails tables) tt

parent_after_fails : (tables : Tables) (before : ℕ) (named : Bool) → ByOperands (parent_after tables before named)
parent_after_fails tables before false = fails-misspelling
parent_after_fails tables before true = fails-parent tables before

child_fails : (tables : Tables) (before : ℕ) → ByOperands (child_item tables before)
unfolding child_item
child_fails tables before =
    fails-then name _ fails-name (λ child. fails-then (optional_word (codes "of")) _ (fails-optional_word (codes "of")) (λ named. fails-then (parent_after tables before named) _ (parent_after_fails tables before named) (λ parent. fails-value_at_end _)))

in_processes_fails : (version : ℕ) (tables : Tables) (process : ℕ) (word : List ℕ) → Fails (item_in_processes version tables process word)
in_processes_fails version tables process word =
    fails_if (is_keyword word (codes "process")) _ _ process_fails (fails_if (is_child_keyword version word) _ _ (child_fails tables process) (in_schedule_fails tables word))

in_start_fails : (version : ℕ) (tables : Tables) (process : ℕ) (word : List ℕ) → Fails (item_at_start version tables process word)
in_start_fails version tables process word = fails_if (is_keyword word (codes "budget")) _ _ budget_fails (in_processes_fails version tables process word)

in_members_fails : (version : ℕ) (tables : Tables) (process : ℕ) (word : List ℕ) → Fails (item_in_members version tables process word)
in_members_fails version tables process word =
    fails_if (is_keyword word (codes "spare")) _ _ spare_fails
    (fails_if (is_keyword word (codes "thread")) _ _ thread_fails (fails_if (is_keyword word (codes "proc")) _ _ procedure_fails (in_processes_fails version tables process word)))

keyword_fails : (tables : Tables) (process : ℕ) (keyword : Option Keyword) → Fails (option_map (line_item tables process) keyword)
keyword_fails tables process None = tt
keyword_fails tables process (Some keyword) = fails-then (line_with tables process keyword) _ (line_fails tables process keyword) (λ line. fails-pure _)

item_fails : (place : ScriptPlace) (version : ℕ) (tables : Tables) (process : ℕ) (word : List ℕ) → Fails (item_at_place place version tables process word)
item_fails Start version tables process word = in_start_fails version tables process word
item_fails Processes version tables process word = in_processes_fails version tables process word
item_fails Members version tables process word = in_members_fails version tables process word
item_fails Body version tables process word = keyword_fails tables process (keyword_of version word)
item_fails Scheduled version tables process word = in_schedule_fails tables word

-- a line

found_known : (answer : Result (ScriptLine × Rest) Reason) → FailsByOperands answer → NotUnknown (item_found answer)
found_known (Err reason) h = operands_known reason h
found_known (Ok found) h = tt

given_known : (words : List (List ℕ)) (given : Option (Reader ScriptLine)) → Fails given → NotUnknown (spelling_with words given)
given_known words None h = refl
given_known words (Some read) h = found_known (read (rest_of words)) (h.fails (rest_of words))

words_known : (version : ℕ) (tables : Tables) (context : ContextValue) (words : List (List ℕ)) → NotUnknown (words_spelling version tables context words)
words_known version tables context [] = tt
words_known version tables context (word ∷ words) = given_known words (item_in_context version tables context word) (item_fails context.place version tables (length context.processes) word)

spelled_if : (printable skipped : Bool) (answer : Result (Option ScriptLineRead) Reason) → NotUnknown answer → NotUnknown (cond (not printable) (Err Byte) (cond skipped (Ok None) answer))
spelled_if false skipped answer h = refl
spelled_if true true answer h = tt
spelled_if true false answer h = h

fault_if : (twice over misplaced : Bool) (found : ScriptLineRead) → NotUnknown (result_unless (cond twice (Some Twice) (cond over (Some Many) (cond misplaced (Some Misplaced) None))) found)
fault_if true over misplaced found = refl
fault_if false true misplaced found = refl
fault_if false false true found = refl
fault_if false false false found = tt

placed_known : (context : ContextValue) (answer : Result (Option ScriptLineRead) Reason) → NotUnknown answer → NotUnknown (result_at_place context answer)
placed_known context (Err reason) h = h
placed_known context (Ok None) h = tt
placed_known context (Ok (Some found)) h = fault_if (is_declared_twice context found.item) (is_over_limit context found.item) (is_misplaced context found.item) found

line_known : (version : ℕ) (tables : Tables) (context : ContextValue) (line : List ℕ) → NotUnknown (line_read version tables context line)
unfolding line_read line_spelling
line_known version tables context line =
    placed_known context (line_spelling version tables context line)
    (spelled_if (is_printable_line line) (is_skipped line) (words_spelling version tables context (words_of line)) (words_known version tables context (words_of line)))

-- lines

with_known : (n : ℕ) (found : ScriptLineRead) (others : Result ScriptLinesRead Bad) → HasNoUnknown others → HasNoUnknown (with_item n found others)
with_known n found (Err fault) h = h
with_known n found (Ok others) h = tt

then_known : (n : ℕ) (context : ContextValue) (others : ContextValue → Result ScriptLinesRead Bad) → ((after : ContextValue) → HasNoUnknown (others after)) → (answer : Result (Option ScriptLineRead) Reason) → NotUnknown answer → HasNoUnknown (line_then n context others answer)
then_known n context others all (Err reason) h = h
then_known n context others all (Ok None) h = all context
then_known n context others all (Ok (Some found)) h = with_known n found (others (context_after context found.item)) (all (context_after context found.item))

end_known : (n : ℕ) (closed : Bool) → HasNoUnknown (result_at_end n closed)
end_known n true = tt
end_known n false = refl

lines_known : (version : ℕ) (tables : Tables) (n : ℕ) (context : ContextValue) (lines : List (List ℕ)) → HasNoUnknown (lines_read version tables n context lines)
lines_known version tables n context [] = end_known n (is_closed context)
lines_known version tables n context (line ∷ lines) =
    then_known n context _ (λ after. lines_known version tables (n + 1) after lines) (line_read version tables context line) (line_known version tables context line)

-- a text

abbrev line_of : Result ScriptValue Bad → ℕ
line_of (Ok script) = 0
line_of (Err fault) = fault.line

abbrev has_unknown : Result ScriptValue Bad → Bool
has_unknown (Ok script) = false
has_unknown (Err fault) = is_unknown fault.reason

no_other : {A : Type 0} {line : ℕ} (answer : Result ScriptValue Bad) → has_unknown answer ≡ false → answer ≡ Err (bad_line line Unknown) → A
no_other answer other e = absurd (false≢true (sym other ∙ ap has_unknown e))

first_known : (script : ScriptValue) (unknown : Option ℕ) (line : ℕ) → script_unless_unknown script unknown ≡ Err (bad_line line Unknown) → unknown ≡ Some line
first_known script None line e = no_other (Ok script) refl e
first_known script (Some n) line e = ap (λ answer. Some (line_of answer)) e

lines_last : (text : List ℕ) (version : ℕ) (lines : List (List ℕ)) (answer : Result ScriptLinesRead Bad) (line : ℕ) → is_version version ≡ true → lines_of text ≡ header version ∷ lines → lines_read version (tables_of_lines lines) 2 first_context lines ≡ answer → HasNoUnknown answer
    → script_read version (tables_of_lines lines) answer ≡ Err (bad_line line Unknown) → IsOnlyUnknown text line
lines_last text version lines (Err fault) line versioned headed read other e = no_other (Err fault) other e
lines_last text version lines (Ok found) line versioned headed read other e = record { version = version; lines = lines; found = found; is_one = versioned; headed = headed; read = read; first = first_known _ found.unknown line e }

header_if : (text first : List ℕ) (lines : List (List ℕ)) (line : ℕ) (version : Option ℕ) → lines_of text ≡ first ∷ lines → version_of first ≡ version
    → result_after_header (tables_of_lines lines) lines version ≡ Err (bad_line line Unknown) → IsOnlyUnknown text line
header_if text first lines line None split is e = no_other _ refl e
header_if text first lines line (Some version) split is e =
    let found = version_found first version is in
    lines_last text version lines (lines_read version (tables_of_lines lines) 2 first_context lines) line found.versioned
    (split ∙ ap (λ one. one ∷ lines) found.headed) refl (lines_known version (tables_of_lines lines) 2 first_context lines) e

printable_if : (text first : List ℕ) (lines : List (List ℕ)) (line : ℕ) (printable : Bool) → lines_of text ≡ first ∷ lines
    → cond (not printable) (Err (bad_line 1 Byte)) (result_after_header (tables_of_lines lines) lines (version_of first)) ≡ Err (bad_line line Unknown) → IsOnlyUnknown text line
printable_if text first lines line false split e = no_other _ refl e
printable_if text first lines line true split e = header_if text first lines line (version_of first) split refl e

text_last : (text : List ℕ) (lines : List (List ℕ)) (line : ℕ) → lines_of text ≡ lines → text_lines_read lines ≡ Err (bad_line line Unknown) → IsOnlyUnknown text line
text_last text [] line split e = no_other _ refl e
text_last text (first ∷ lines) line split e = printable_if text first lines line (is_printable_line first) split e

pub unknown_last : (text : List ℕ) (line : ℕ) → parse_result text ≡ Err (bad_line line Unknown) → IsOnlyUnknown text line
unfolding parse_result
unknown_last text line e = text_last text (lines_of text) line refl e
