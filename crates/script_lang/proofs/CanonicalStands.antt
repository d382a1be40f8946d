-- The canonical lines of a script stand after one another.
use Rattle.std.proofs.Common.{◌≡◌, ℕ, zero, suc, ◌≤◌, Bool, true, false, List, [], ◌∷◌, ◌++◌, Option, Some, None, map, refl, sym, ◌∙◌, subst, arith}
use Rattle.std.specs.Prelude.{codes}
use Rattle.std.specs.List.{flat_map, onto_first}
use Rattle.std.proofs.lemmas.Bool.{false≢true}
use Rattle.line_text.specs.Types.{Tid}
use Rattle.line_forms.specs.Words.{Each, Ends, First, SpellsThread, Tables, depth_after, kind_of, thread_word}
use Rattle.law_lines.proofs.WordKinds.{AThread, word_written}
use Rattle.line_text.specs.Words.{SpellsNumber}
use Rattle.script_lang.specs.declared.item.ScriptLine.{ScriptLine}
use Rattle.script_lang.specs.declared.item.ScriptLine.TheVariants.{Budget, Process, Child, Spare, Thread, Procedure, Do, Schedule}
use Rattle.script_lang.specs.declared.item.ScriptPlace.{ScriptPlace}
use Rattle.script_lang.specs.declared.item.ScriptPlace.TheVariants.{Start, Processes, Members, Body, Schedule as Scheduled}
use Rattle.script_lang.specs.Context.{ContextValue, first_context, context_after, context_at_place, is_closed, is_closed_place, context_at_depth, context_with_variables}
use Rattle.script_lang.specs.Canonical.{item_words}
use Rattle.script_lang.specs.Scripts.{turns_of_item, rows_from, budget_from, budget_of}
use Rattle.script_lang.specs.Spelled.{SpellsScriptLine, is_of_place}
use Rattle.script_lang.proofs.Stand.{Stand}
use Rattle.script_lang.proofs.CanonicalItems.{parts_in}
use Rattle.script_lang.proofs.CanonicalScript.{with_rows, written, rows_of}

-- names of threads

-- each has a name that spells it
abbrev pub AreNamed : Tables → List Tid → Type 0
AreNamed tables [] = Unit {0}
AreNamed tables (thread ∷ threads) = SpellsThread tables thread (thread_word tables thread) × AreNamed tables threads

named_append : (tables : Tables) (threads others : List Tid) → AreNamed tables threads → AreNamed tables others → AreNamed tables (threads ++ others)
named_append tables [] others first second = second
named_append tables (thread ∷ threads) others first second = (first.0, named_append tables threads others first.1 second)

words_named : (tables : Tables) (threads : List Tid) (words : List (List ℕ)) → Each (SpellsThread tables) threads Ends words → AreNamed tables threads
words_named tables [] words spells = tt
words_named tables (thread ∷ threads) [] spells = absurd spells
words_named tables (thread ∷ threads) (word ∷ words) spells = (word_written tables 0 AThread word thread spells.0, words_named tables threads words spells.1)

pub named_words : (tables : Tables) (threads : List Tid) → AreNamed tables threads → Each (SpellsThread tables) threads Ends (map (thread_word tables) threads)
named_words tables [] named = refl
named_words tables (thread ∷ threads) named = (named.0, named_words tables threads named.1)

pub schedule_named : (tables : Tables) (of : ℕ) (threads : List Tid) (words : List (List ℕ)) → SpellsScriptLine tables of (Schedule threads) words → AreNamed tables threads
schedule_named tables of [] words spells = absurd spells
schedule_named tables of (thread ∷ threads) [] spells = absurd spells
schedule_named tables of (thread ∷ threads) (word ∷ words) spells = words_named tables (thread ∷ threads) words spells.1

turns_named : (tables : Tables) (context : ContextValue) (items : List ScriptLine) → Stand tables context items → AreNamed tables (flat_map turns_of_item items)
turns_named tables context [] stand = tt
turns_named tables context (Schedule threads ∷ items) stand =
    named_append tables threads (flat_map turns_of_item items) (schedule_named tables 0 threads stand.words stand.spells) (turns_named tables (context_at_place context Scheduled) items stand.others)
turns_named tables context (item ∷ items) stand = turns_named tables (context_after context item) items stand.others

-- rows

-- none is empty, and each thread has a name
abbrev AreRows : Tables → List (List Tid) → Type 0
AreRows tables [] = Unit {0}
AreRows tables ([] ∷ rows) = ⊥
AreRows tables ((thread ∷ threads) ∷ rows) = AreNamed tables (thread ∷ threads) × AreRows tables rows

onto_row : (tables : Tables) (thread : Tid) (rows : List (List Tid)) → SpellsThread tables thread (thread_word tables thread) → AreRows tables rows → AreRows tables (onto_first thread rows)
onto_row tables thread [] named rows = ((named, tt), tt)
onto_row tables thread ([] ∷ others) named rows = absurd rows
onto_row tables thread ((next ∷ row) ∷ others) named rows = ((named, rows.0), rows.1)

rows_named : (tables : Tables) (room : ℕ) (threads : List Tid) → AreNamed tables threads → AreRows tables (rows_from room threads)
rows_named tables room [] named = tt
rows_named tables zero (thread ∷ threads) named = ((named.0, tt), rows_named tables 15 threads named.1)
rows_named tables (suc room) (thread ∷ threads) named = onto_row tables thread (rows_from room threads) named.0 (rows_named tables room threads named.1)

takes_schedule : (place : ScriptPlace) (threads : List Tid) → is_closed_place place ≡ true → is_of_place place (Schedule threads) ≡ true
takes_schedule Start threads h = refl
takes_schedule Processes threads h = refl
takes_schedule Members threads h = refl
takes_schedule Body threads h = absurd (false≢true h)
takes_schedule Scheduled threads h = refl

closed_by_schedule : (place : ScriptPlace) (threads : List Tid) → is_of_place place (Schedule threads) ≡ true → is_closed_place place ≡ true
closed_by_schedule Start threads h = refl
closed_by_schedule Processes threads h = refl
closed_by_schedule Members threads h = refl
closed_by_schedule Body threads h = absurd (false≢true h)
closed_by_schedule Scheduled threads h = refl

rows_stand : (tables : Tables) (context : ContextValue) (rows : List (List Tid)) → AreRows tables rows → is_closed context ≡ true → Stand tables context (map Schedule rows)
rows_stand tables context [] are closed = closed
rows_stand tables context ([] ∷ rows) are closed = absurd are
rows_stand tables context ((thread ∷ threads) ∷ rows) are closed =
    record {
      words = item_words tables (Schedule (thread ∷ threads));
      spells = (refl, named_words tables (thread ∷ threads) are.0);
      may_stand = record { of_place = takes_schedule context.place (thread ∷ threads) closed; once = refl; within_limits = refl; in_its_place = refl };
      others = rows_stand tables (context_at_place context Scheduled) rows are.1 refl;
    }

-- parts

abbrev is_start : ScriptPlace → Bool
is_start Start = true
is_start place = false

budget_at_start : (place : ScriptPlace) (events : ℕ) → is_of_place place (Budget events) ≡ true → is_start place ≡ true
budget_at_start Start events h = refl
budget_at_start Processes events h = h
budget_at_start Members events h = h
budget_at_start Body events h = h
budget_at_start Scheduled events h = h

start_after_line : (context : ContextValue) (after : Option ℕ) → is_start context.place ≡ false → is_start (context_at_depth context after).place ≡ false
start_after_line context None h = refl
start_after_line context (Some depth) h = h

-- after a line of the schedule are no others
only_schedule : (tables : Tables) (context : ContextValue) (items : List ScriptLine) → context.place ≡ Scheduled → Stand tables context items → parts_in items ≡ []
only_schedule tables context [] place stand = refl
only_schedule tables context (Schedule threads ∷ items) place stand = only_schedule tables (context_at_place context Scheduled) items refl stand.others
only_schedule tables context (item ∷ items) place stand =
    absurd (false≢true (subst (λ p. is_of_place p item ≡ true) place stand.may_stand.of_place))

parts_stand : (tables : Tables) (context : ContextValue) (items : List ScriptLine) (rows : List (List Tid)) → is_start context.place ≡ false → AreRows tables rows → Stand tables context items → Stand tables context (with_rows items rows)
parts_stand tables context [] rows start are stand = rows_stand tables context rows are stand
parts_stand tables context (Budget events ∷ items) rows start are stand = absurd (false≢true (sym start ∙ budget_at_start context.place events stand.may_stand.of_place))
parts_stand tables context (Process name limit ∷ items) rows start are stand =
    record { words = stand.words; spells = stand.spells; may_stand = stand.may_stand; others = parts_stand tables (context_after context (Process name limit)) items rows refl are stand.others }
parts_stand tables context (Child name parent ∷ items) rows start are stand =
    record { words = stand.words; spells = stand.spells; may_stand = stand.may_stand; others = parts_stand tables (context_after context (Child name parent)) items rows refl are stand.others }
parts_stand tables context (Spare name ∷ items) rows start are stand =
    record { words = stand.words; spells = stand.spells; may_stand = stand.may_stand; others = parts_stand tables (context_after context (Spare name)) items rows start are stand.others }
parts_stand tables context (Thread name ∷ items) rows start are stand =
    record { words = stand.words; spells = stand.spells; may_stand = stand.may_stand; others = parts_stand tables (context_after context (Thread name)) items rows refl are stand.others }
parts_stand tables context (Procedure name ∷ items) rows start are stand =
    record { words = stand.words; spells = stand.spells; may_stand = stand.may_stand; others = parts_stand tables (context_after context (Procedure name)) items rows refl are stand.others }
parts_stand tables context (Do line ∷ items) rows start are stand =
    let after = start_after_line (context_with_variables context line) (depth_after context.depth (kind_of line)) start in
    record { words = stand.words; spells = stand.spells; may_stand = stand.may_stand; others = parts_stand tables (context_after context (Do line)) items rows after are stand.others }
parts_stand tables context (Schedule threads ∷ items) rows start are stand =
    rw (only_schedule tables (context_at_place context Scheduled) items refl stand.others) (rows_stand tables context rows are (closed_by_schedule context.place threads stand.may_stand.of_place))

-- the budget

abbrev IsBudget : ℕ → Type 0
IsBudget events = (1 ≤ events) × (events ≤ 100000)

budget_spelled : (events : ℕ) (words : List (List ℕ)) → First (λ word. word ≡ codes "budget") (First (SpellsNumber 1 100000 events) Ends) words → IsBudget events
budget_spelled events [] spells = absurd spells
budget_spelled events (word ∷ []) spells = absurd spells.1
budget_spelled events (word ∷ number ∷ words) spells = (spells.1.0.0, spells.1.0.1)

budget_within : (tables : Tables) (context : ContextValue) (events : ℕ) (items : List ScriptLine) → IsBudget events → Stand tables context items → IsBudget (budget_from events items)
budget_within tables context events [] within stand = within
budget_within tables context events (Budget given ∷ items) within stand = budget_within tables (context_after context (Budget given)) given items (budget_spelled given stand.words stand.spells) stand.others
budget_within tables context events (item ∷ items) within stand = budget_within tables (context_after context item) events items within stand.others

-- the lines after the first that is no budget

abbrev after_budget : ContextValue
after_budget = context_at_place first_context Processes

parts_after_budget : (tables : Tables) (items : List ScriptLine) (rows : List (List Tid)) → AreRows tables rows → Stand tables first_context items → Stand tables after_budget (with_rows items rows)
parts_after_budget tables [] rows are stand = rows_stand tables after_budget rows are refl
parts_after_budget tables (Budget events ∷ items) rows are stand = parts_stand tables after_budget items rows refl are stand.others
parts_after_budget tables (Process name limit ∷ items) rows are stand =
    record {
      words = stand.words;
      spells = stand.spells;
      may_stand = record { of_place = refl; once = refl; within_limits = refl; in_its_place = refl };
      others = parts_stand tables (context_after after_budget (Process name limit)) items rows refl are stand.others;
    }
parts_after_budget tables (Child name parent ∷ items) rows are stand =
    record {
      words = stand.words;
      spells = stand.spells;
      may_stand = record { of_place = refl; once = refl; within_limits = refl; in_its_place = refl };
      others = parts_stand tables (context_after after_budget (Child name parent)) items rows refl are stand.others;
    }
parts_after_budget tables (Schedule threads ∷ items) rows are stand =
    rw (only_schedule tables (context_at_place after_budget Scheduled) items refl stand.others) (rows_stand tables after_budget rows are refl)
parts_after_budget tables (item ∷ items) rows are stand = absurd (false≢true stand.may_stand.of_place)

-- the canonical lines stand after one another
pub written_stand : (tables : Tables) (items : List ScriptLine) → Stand tables first_context items → Stand tables first_context (written items (rows_of items))
written_stand tables items stand =
    let within = budget_within tables first_context 100000 items (omega arith, omega arith) stand in
    record {
      words = item_words tables (Budget (budget_of items));
      spells = (refl, ((within.0, within.1, refl), refl));
      may_stand = record { of_place = refl; once = refl; within_limits = refl; in_its_place = refl };
      others = parts_after_budget tables items (rows_of items) (rows_named tables 15 (flat_map turns_of_item items) (turns_named tables first_context items stand)) stand;
    }
