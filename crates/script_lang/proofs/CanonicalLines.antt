-- The canonical line of an item spells it.
use Rattle.std.proofs.Common.{◌≡◌, ℕ, ◌≤◌, ◌<◌, ◌^◌, true, false, List, [], ◌∷◌, ◌++◌, map, length, refl, sym, ap, ◌∙◌, subst, inl, inr, arith}
use Rattle.std.specs.Prelude.{codes, decimal}
use Rattle.std.specs.List.{list_all}
use Rattle.std.proofs.lemmas.Bool.{and_from}
use Rattle.line_text.specs.Types.{Pid, Tid}
use Rattle.line_text.specs.Words.{SpellsName, is_name, is_word, joined_words, spaced_words}
use Rattle.line_text.proofs.DecimalWords.{is_plain-decimal}
use Rattle.line_text.proofs.JoinedWords.{words_of-joined_words, joined_first, is_word-plain}
use Rattle.line_text.proofs.PartWords.{is_plain-name}
use Rattle.line_text.proofs.PrintableWords.{are_printable, are_printable-joined_words, are_printable-name, are_printable-decimal}
use Rattle.script_lang.specs.Types.{Keyword, Line}
use Rattle.line_forms.specs.declared.keyword.Keyword.TheVariants.{Create}
use Rattle.line_forms.specs.Words.{Each, Ends, First, SpellsProcess, SpellsThread, Tables, Then, keyword_of_line, keyword_word, line_words, operand_words, process_word, thread_word}
use Rattle.law_lines.proofs.LineWritten.{line-written, line-words}
use Rattle.law_lines.proofs.PrintableLine.{line_printable}
use Rattle.law_lines.proofs.WordKinds.{AProcess, word_written}
use Rattle.line_writer.proofs.SpacedWords.{parted}
use Rattle.script_lang.specs.declared.item.ScriptLine.{ScriptLine}
use Rattle.script_lang.specs.declared.item.ScriptLine.TheVariants.{Budget, Process, Child, Spare, Thread, Procedure, Do, Schedule}
use Rattle.script_lang.specs.Context.{ContextValue, context_after}
use Rattle.script_lang.specs.Canonical.{item_words, item_line}
use Rattle.script_lang.specs.Parsing.{is_skipped}
use Rattle.script_lang.specs.Spelled.{SpellsScriptLine, SpellsScriptLines, SpellsLimit}
use Rattle.script_lang.proofs.Stand.{Stand}
use Rattle.script_lang.proofs.CanonicalStands.{schedule_named, named_words}

-- what is shown of the words of an item
record IsWritten (tables : Tables) (of : ℕ) (item : ScriptLine) : Type 0 where
  pub spells : SpellsScriptLine tables of item (item_words tables item)
  pub words : list_all is_word (item_words tables item) ≡ true
  pub printable : list_all are_printable (item_words tables item) ≡ true
  pub read : is_skipped (item_line tables item) ≡ false

-- one word of an item
record IsGood (word : List ℕ) : Type 0 where
  pub is_word : is_word word ≡ true
  pub printable : are_printable word ≡ true

good_name : (name : List ℕ) → is_name name ≡ true → IsGood name
good_name name named = record { is_word = is_word-plain name (is_plain-name name named); printable = are_printable-name name named }

good_number : (n : ℕ) → n < 2 ^ 64 → IsGood (decimal n)
good_number n small = record { is_word = is_word-plain (decimal n) (is_plain-decimal n small); printable = are_printable-decimal n small }

abbrev AreGood : List (List ℕ) → Type 0
AreGood [] = Unit {0}
AreGood (word ∷ words) = IsGood word × AreGood words

all_are_words : (words : List (List ℕ)) → AreGood words → list_all is_word words ≡ true
all_are_words [] good = refl
all_are_words (word ∷ words) good = and_from _ _ good.0.is_word (all_are_words words good.1)

all_are_printable : (words : List (List ℕ)) → AreGood words → list_all are_printable words ≡ true
all_are_printable [] good = refl
all_are_printable (word ∷ words) good = and_from _ _ good.0.printable (all_are_printable words good.1)

-- a keyword and words after it
written_by : (tables : Tables) (of : ℕ) (item : ScriptLine) → SpellsScriptLine tables of item (item_words tables item) → AreGood (item_words tables item) → is_skipped (item_line tables item) ≡ false → IsWritten tables of item
written_by tables of item spells good read = record { spells = spells; words = all_are_words (item_words tables item) good; printable = all_are_printable (item_words tables item) good; read = read }

budget_written : (tables : Tables) (of events : ℕ) (words : List (List ℕ)) → SpellsScriptLine tables of (Budget events) words → IsWritten tables of (Budget events)
budget_written tables of events [] spells = absurd spells
budget_written tables of events (word ∷ []) spells = absurd spells.1
budget_written tables of events (word ∷ number ∷ words) spells =
    let most = spells.1.0.1 in
    written_by tables of (Budget events) (refl, ((spells.1.0.0, most, refl), refl)) (record { is_word = refl; printable = refl }, (good_number events (omega arith), tt)) refl

limit_within : (limit : ℕ) (words : List (List ℕ)) → SpellsLimit limit words → limit ≤ 256
limit_within limit words (inl nothing) = let is = nothing.0 in omega arith
limit_within limit [] (inr some) = absurd some
limit_within limit (word ∷ []) (inr some) = absurd some.1
limit_within limit (word ∷ number ∷ words) (inr some) = some.1.0.1

process_written : (tables : Tables) (of limit : ℕ) (name : List ℕ) (words : List (List ℕ)) → SpellsScriptLine tables of (Process name limit) words → IsWritten tables of (Process name limit)
process_written tables of limit name [] spells = absurd spells
process_written tables of limit name (word ∷ []) spells = absurd spells.1
process_written tables of limit name (word ∷ named ∷ words) spells =
    let most = limit_within limit words spells.1.1 in
    let keyword : IsGood (codes "process") = record { is_word = refl; printable = refl } in
    let limits : IsGood (codes "limit") = record { is_word = refl; printable = refl } in
    written_by tables of (Process name limit) (refl, ((spells.1.0.0, refl), inr (refl, ((omega arith, most, refl), refl)))) (keyword, (good_name name spells.1.0.0, (limits, (good_number limit (omega arith), tt)))) refl

child_written : (tables : Tables) (of : ℕ) (parent : Pid) (name : List ℕ) (words : List (List ℕ)) → SpellsScriptLine tables of (Child name parent) words → IsWritten tables of (Child name parent)
child_written tables of parent name [] spells = absurd spells
child_written tables of parent name (word ∷ []) spells = absurd spells.1
child_written tables of parent name (word ∷ named ∷ []) spells = absurd spells.1.1
child_written tables of parent name (word ∷ named ∷ preposition ∷ []) spells = absurd spells.1.1.1
child_written tables of parent name (word ∷ named ∷ preposition ∷ parent_word ∷ words) spells =
    let is = spells.1.1.1.0 in
    let parented : SpellsProcess tables parent (process_word tables parent) = word_written tables of AProcess parent_word parent is.0 in
    let keyword : IsGood (codes "child") = record { is_word = refl; printable = refl } in
    let link : IsGood (codes "of") = record { is_word = refl; printable = refl } in
    written_by tables of (Child name parent) (refl, ((spells.1.0.0, refl), (refl, ((parented, is.1), refl)))) (keyword, (good_name name spells.1.0.0, (link, (good_name (process_word tables parent) parented.0, tt)))) refl

named : (name : List ℕ) (keyword : List ℕ) (words : List (List ℕ)) → Then keyword (First (SpellsName name) Ends) words → is_name name ≡ true
named name keyword [] spells = absurd spells
named name keyword (word ∷ []) spells = absurd spells.1
named name keyword (word ∷ other ∷ words) spells = spells.1.0.0

thread_names : (tables : Tables) (threads : List Tid) (words : List (List ℕ)) → Each (SpellsThread tables) threads Ends (map (thread_word tables) threads) → AreGood (map (thread_word tables) threads)
thread_names tables [] words spells = tt
thread_names tables (thread ∷ threads) words spells = (good_name (thread_word tables thread) spells.0.0, thread_names tables threads words spells.1)

schedule_written : (tables : Tables) (of : ℕ) (threads : List Tid) (words : List (List ℕ)) → SpellsScriptLine tables of (Schedule threads) words → IsWritten tables of (Schedule threads)
schedule_written tables of [] words spells = absurd spells
schedule_written tables of (thread ∷ threads) words spells =
    let named = named_words tables (thread ∷ threads) (schedule_named tables of (thread ∷ threads) words spells) in
    written_by tables of (Schedule (thread ∷ threads)) (refl, named) (record { is_word = refl; printable = refl }, thread_names tables (thread ∷ threads) words named) refl

keyword_read : (keyword : Keyword) (others : List ℕ) → is_skipped (keyword_word keyword ++ others) ≡ false
keyword_read Create others = refl
keyword_read keyword others = refl

line_is_read : (tables : Tables) (line : Line) → is_skipped (joined_words (line_words tables line)) ≡ false
line_is_read tables line =
    ap is_skipped (ap joined_words (parted tables line) ∙ joined_first (keyword_word (keyword_of_line line)) (operand_words tables line)) ∙
    keyword_read (keyword_of_line line) (spaced_words (operand_words tables line))

line_is_written : (tables : Tables) (of : ℕ) (line : Line) (words : List (List ℕ)) → SpellsScriptLine tables of (Do line) words → IsWritten tables of (Do line)
line_is_written tables of line words spells =
    let written = line-written tables of line words spells in
    record { spells = written; words = line-words tables of line words spells; printable = line_printable tables of line (line_words tables line) written; read = line_is_read tables line }

item_written : (tables : Tables) (of : ℕ) (item : ScriptLine) (words : List (List ℕ)) → SpellsScriptLine tables of item words → IsWritten tables of item
item_written tables of (Budget events) words spells = budget_written tables of events words spells
item_written tables of (Process name limit) words spells = process_written tables of limit name words spells
item_written tables of (Child name parent) words spells = child_written tables of parent name words spells
item_written tables of (Spare name) words spells =
    let is = named name (codes "spare") words spells in
    written_by tables of (Spare name) (refl, ((is, refl), refl)) (record { is_word = refl; printable = refl }, (good_name name is, tt)) refl
item_written tables of (Thread name) words spells =
    let is = named name (codes "thread") words spells in
    written_by tables of (Thread name) (refl, ((is, refl), refl)) (record { is_word = refl; printable = refl }, (good_name name is, tt)) refl
item_written tables of (Procedure name) words spells =
    let is = named name (codes "proc") words spells in
    written_by tables of (Procedure name) (refl, ((is, refl), refl)) (record { is_word = refl; printable = refl }, (good_name name is, tt)) refl
item_written tables of (Do line) words spells = line_is_written tables of line words spells
item_written tables of (Schedule threads) words spells = schedule_written tables of threads words spells

-- lines that stand after one another are spelled by their canonical text, which is printable
pub record AreSpelled (tables : Tables) (context : ContextValue) (items : List ScriptLine) : Type 0 where
  pub spelled : SpellsScriptLines tables context (map (item_line tables) items) items
  pub printable : list_all are_printable (map (item_line tables) items) ≡ true

pub stand_spelled : (tables : Tables) (context : ContextValue) (items : List ScriptLine) → Stand tables context items → AreSpelled tables context items
stand_spelled tables context [] stand = record { spelled = stand; printable = refl }
stand_spelled tables context (item ∷ items) stand =
    let of = length context.processes in
    let written = item_written tables of item stand.words stand.spells in
    let later = stand_spelled tables (context_after context item) items stand.others in
    let printable = are_printable-joined_words (item_words tables item) written.printable in
    record {
      spelled = (
        printable,
        inr (record {
          read = written.read;
          spells = subst (SpellsScriptLine tables of item) (sym (words_of-joined_words (item_words tables item) written.words)) written.spells;
          may_stand = stand.may_stand;
          others = later.spelled;
        }),
      );
      printable = and_from _ _ printable later.printable;
    }
