-- A script whose schedule is the turns of an allowed run is spelled by its canonical text: a text that spells the script, with
-- other lines `schedule` at its end, spells it, too.
use Rattle.std.proofs.Common.{◌≡◌, ℕ, ◌+◌, ◌≤◌, true, List, [], ◌∷◌, ◌++◌, length, map, Option, Some, None, unwrap_or, inr, refl, sym, ap, ◌∙◌, subst}
use Rattle.std.specs.Prelude.{All, codes, filter_map}
use Rattle.std.specs.List.{flat_map, list_all}
use Rattle.std.proofs.lemmas.Bool.{and_from, and_parts, false≢true, le-leb}
use Rattle.std.proofs.lemmas.List.Elements.{All-nil, All-cons, All-head, All-tail}
use Rattle.line_text.specs.Types.{Tid}
use Rattle.line_text.specs.Words.{is_one_line, joined_words, lines_of, text_of_lines, words_of}
use Rattle.line_text.proofs.JoinedWords.{is_word-plain, words_of-joined_words}
use Rattle.line_text.proofs.PartWords.{is_plain-name}
use Rattle.line_text.proofs.PrintableWords.{are_printable, are_printable-joined_words, are_printable-name, is_one_line-printable}
use Rattle.line_text.proofs.TextLines.{lines_of-text_of_lines}
use Rattle.line_forms.specs.Words.{SpellsThread, Tables, depth_after, kind_of, paths_of, thread_word}
use Rattle.script_lang.specs.Types.{Line}
use Rattle.script_lang.specs.declared.item.ScriptLine.{ScriptLine}
use Rattle.script_lang.specs.declared.item.ScriptLine.TheVariants.{Budget, Process, Child, Spare, Thread, Procedure, Do, Schedule}
use Rattle.script_lang.specs.declared.item.ScriptPlace.{ScriptPlace}
use Rattle.script_lang.specs.declared.item.ScriptPlace.TheVariants.{Start, Processes, Members, Body, Schedule as Scheduled}
use Rattle.script_lang.specs.declared.script.Part.{Part}
use Rattle.script_lang.specs.declared.script.Part.TheVariants.{Process as ProcessPart, Thread as ThreadPart, Procedure as ProcedurePart}
use Rattle.script_lang.specs.declared.script.ScriptProcess.{ScriptProcess}
use Rattle.script_lang.specs.Canonical.{header}
use Rattle.script_lang.specs.Context.{context_at_place}
use Rattle.script_lang.specs.IsScript.{IsScript}
use Rattle.script_lang.specs.Scripts.{part_of_item, script_child, script_process, script_thread}
use Rattle.script_lang.specs.Spelled.{SpellsScriptLine, path_count_after, path_uses}
use Rattle.script_lang.specs.TextTables.{tables_of_lines}
use Rattle.script_lang.specs.Words.{ContextValue, ScriptValue, SpellsLines, SpellsScript, SpellsScriptLines, before_line, body_from, budget_from, canonical_text, context_after, first_context, is_closed, is_closed_place, is_of_place, is_of_version, is_version, procedures_from, process_of_item, script_of_items, spells, tables_of, threads_from, turns_of_item}
use Rattle.script_lang.proofs.ScriptRead.{script_is_script}
use Rattle.script_lang.proofs.SpelledItems.{IsItem, along}
use Rattle.script_lang.proofs.TextFound.{text_found}
use Rattle.script_lang.proofs.TextOnly.{text_only}
use Rattle.script_lang.proofs.Versions.{header_printable, is_version_some}
use Rattle.spec_requests.specs.DeclaredNames.{IsThread}
use Rattle.spec_requests.specs.Sound.{IsSound}
use Rattle.spec_requests.proofs.SoundScripts.{sound-spelled}
use Rattle.spec_scripts.specs.ScriptRuns.{AreRunnableFrom}
use Rattle.spec_scripts.specs.Words.{History, IsAllowed, first_history, history_after}
use Rattle.spec_scripts.proofs.FitRequests.{HasThreads}
use Rattle.spec_scripts.proofs.RunTurns.{HasThreads-history_after, has-thread, opening-has}
use Rattle.spec_traces.specs.Replays.{numbered_thread, scheduled}
use Rattle.spec_traces.proofs.ScriptNames.{HasThreadName, named_thread}

-- the threads of a run

threads_declared : (script : ScriptValue) (ts : List ℕ) (h : History) → HasThreads script h.state → AreRunnableFrom script h ts → All (IsThread script) ts
threads_declared script [] h has can = All-nil (IsThread script)
threads_declared script (t ∷ ts) h has can =
    All-cons (IsThread script) t ts (has-thread script h.state t has can.0)
    (threads_declared script ts (history_after script h t) (HasThreads-history_after script h t has) can.1)

-- each turn of an allowed run is a declared thread's
turns_declared : (script : ScriptValue) (ts : List ℕ) → IsSound script → IsAllowed script ts → All (IsThread script) ts
turns_declared script ts sound allowed =
    threads_declared script ts (first_history script) (opening-has script sound) allowed.runnable

abbrev turn_word : Tables → ℕ → List ℕ
turn_word tables t = thread_word tables (numbered_thread t)

-- the thread has a name that spells it
abbrev IsNamed : Tables → ℕ → Type 0
IsNamed tables t = SpellsThread tables (numbered_thread t) (turn_word tables t)

-- each has a name that spells it
abbrev AreSpelled : Tables → List ℕ → Type 0
AreSpelled tables [] = Unit {0}
AreSpelled tables (t ∷ ts) = IsNamed tables t × AreSpelled tables ts

thread_spelled : (source : List ℕ) (script : ScriptValue) → spells source script → (t : ℕ) → IsThread script t →
    IsNamed (tables_of script) t
thread_spelled source script s t thread =
    let found : HasThreadName script t = named_thread source script s t thread in
    subst (SpellsThread (tables_of script) (numbered_thread t)) (sym (ap (λ (name : Option (List ℕ)). unwrap_or name []) found.at)) (found.is, found.at)

threads_spelled : (source : List ℕ) (script : ScriptValue) → spells source script → (ts : List ℕ) → All (IsThread script) ts →
    AreSpelled (tables_of script) ts
threads_spelled source script s [] all = tt
threads_spelled source script s (t ∷ ts) all = (
  thread_spelled source script s t (All-head (IsThread script) t ts all),
  threads_spelled source script s ts (All-tail (IsThread script) t ts all),
)

-- items with another schedule

-- a line `schedule` for each turn
abbrev turn_items : List ℕ → List ScriptLine
turn_items [] = []
turn_items (t ∷ ts) = Schedule (numbered_thread t ∷ []) ∷ turn_items ts

-- these items up to the schedule, and these turns as the schedule
abbrev with_turns : List ScriptLine → List ℕ → List ScriptLine
with_turns [] turns = turn_items turns
with_turns (Schedule threads ∷ items) turns = turn_items turns
with_turns (item ∷ items) turns = item ∷ with_turns items turns

-- all are of the schedule
abbrev AreSchedules : List ScriptLine → Type 0
AreSchedules [] = Unit {0}
AreSchedules (Schedule threads ∷ items) = AreSchedules items
AreSchedules (item ∷ items) = ⊥

-- what comes after one of the schedule is of the schedule
abbrev EndInSchedules : List ScriptLine → Type 0
EndInSchedules [] = Unit {0}
EndInSchedules (Schedule threads ∷ items) = AreSchedules items
EndInSchedules (item ∷ items) = EndInSchedules items

turns_are_schedules : (turns : List ℕ) → AreSchedules (turn_items turns)
turns_are_schedules [] = tt
turns_are_schedules (t ∷ ts) = turns_are_schedules ts

-- what items of the schedule add to a script
record AddNothing (items : List ScriptLine) : Type 0 where
  budget : (events : ℕ) → budget_from events items ≡ events
  processes : filter_map process_of_item items ≡ []
  threads : (process : ℕ) → threads_from process items ≡ []
  procedures : (process : ℕ) → procedures_from process items ≡ []
  order : filter_map part_of_item items ≡ []
  uses : flat_map path_uses items ≡ []
  body : (depth : ℕ) → body_from depth items ≡ []

add_nothing : (items : List ScriptLine) → AreSchedules items → AddNothing items
add_nothing [] h =
    record {
      budget = λ events. refl;
      processes = refl;
      threads = λ process. refl;
      procedures = λ process. refl;
      order = refl;
      uses = refl;
      body = λ depth. refl;
    }
add_nothing (Schedule threads ∷ items) h =
    let others : AddNothing items = add_nothing items h in
    record {
      budget = others.budget;
      processes = others.processes;
      threads = others.threads;
      procedures = others.procedures;
      order = others.order;
      uses = others.uses;
      body = λ depth. refl;
    }
add_nothing (item ∷ items) h = absurd h

-- both add the same to a script, but for the schedule
record AddTheSame (items others : List ScriptLine) : Type 0 where
  budget : (events : ℕ) → budget_from events items ≡ budget_from events others
  processes : filter_map process_of_item items ≡ filter_map process_of_item others
  threads : (process : ℕ) → threads_from process items ≡ threads_from process others
  procedures : (process : ℕ) → procedures_from process items ≡ procedures_from process others
  order : filter_map part_of_item items ≡ filter_map part_of_item others
  uses : flat_map path_uses items ≡ flat_map path_uses others
  body : (depth : ℕ) → body_from depth items ≡ body_from depth others

both_nothing : (items others : List ScriptLine) → AddNothing items → AddNothing others → AddTheSame items others
both_nothing items others first second =
    record {
      budget = λ events. first.budget events ∙ sym (second.budget events);
      processes = first.processes ∙ sym second.processes;
      threads = λ process. first.threads process ∙ sym (second.threads process);
      procedures = λ process. first.procedures process ∙ sym (second.procedures process);
      order = first.order ∙ sym second.order;
      uses = first.uses ∙ sym second.uses;
      body = λ depth. first.body depth ∙ sym (second.body depth);
    }

line_same : (line : Line) (items others : List ScriptLine) (after : Option ℕ) → ((depth : ℕ) → body_from depth items ≡ body_from depth others) →
    before_line line after (λ depth. body_from depth items) ≡ before_line line after (λ depth. body_from depth others)
line_same line items others None same = refl
line_same line items others (Some depth) same = ap (λ lines. line ∷ lines) (same depth)

one_more : (item : ScriptLine) (items others : List ScriptLine) → AddTheSame items others → AddTheSame (item ∷ items) (item ∷ others)
one_more (Budget events) items others same =
    record {
      budget = λ before. same.budget events;
      processes = same.processes;
      threads = same.threads;
      procedures = same.procedures;
      order = same.order;
      uses = same.uses;
      body = λ depth. refl;
    }
one_more (Process name limit) items others same =
    record {
      budget = same.budget;
      processes = ap (λ (xs : List ScriptProcess). script_process name limit ∷ xs) same.processes;
      threads = λ process. same.threads (process + 1);
      procedures = λ process. same.procedures (process + 1);
      order = ap (λ (xs : List Part). ProcessPart ∷ xs) same.order;
      uses = same.uses;
      body = λ depth. refl;
    }
one_more (Child name parent) items others same =
    record {
      budget = same.budget;
      processes = ap (λ (xs : List ScriptProcess). script_child name parent ∷ xs) same.processes;
      threads = λ process. same.threads (process + 1);
      procedures = λ process. same.procedures (process + 1);
      order = ap (λ (xs : List Part). ProcessPart ∷ xs) same.order;
      uses = same.uses;
      body = λ depth. refl;
    }
one_more (Spare name) items others same =
    record {
      budget = same.budget;
      processes = same.processes;
      threads = λ process. ap (λ xs. script_thread process name true [] ∷ xs) (same.threads process);
      procedures = same.procedures;
      order = ap (λ (xs : List Part). ThreadPart ∷ xs) same.order;
      uses = same.uses;
      body = λ depth. refl;
    }
one_more (Thread name) items others same =
    record {
      budget = same.budget;
      processes = same.processes;
      threads = λ process. rw (same.body 0, same.threads process) refl;
      procedures = same.procedures;
      order = ap (λ (xs : List Part). ThreadPart ∷ xs) same.order;
      uses = same.uses;
      body = λ depth. refl;
    }
one_more (Procedure name) items others same =
    record {
      budget = same.budget;
      processes = same.processes;
      threads = same.threads;
      procedures = λ process. rw (same.body 0, same.procedures process) refl;
      order = ap (λ (xs : List Part). ProcedurePart ∷ xs) same.order;
      uses = same.uses;
      body = λ depth. refl;
    }
one_more (Do line) items others same =
    record {
      budget = same.budget;
      processes = same.processes;
      threads = same.threads;
      procedures = same.procedures;
      order = same.order;
      uses = ap (λ paths. paths_of line ++ paths) same.uses;
      body = λ depth. line_same line items others (depth_after depth (kind_of line)) same.body;
    }
one_more (Schedule threads) items others same =
    record {
      budget = same.budget;
      processes = same.processes;
      threads = same.threads;
      procedures = same.procedures;
      order = same.order;
      uses = same.uses;
      body = λ depth. refl;
    }

-- another schedule changes nothing else
add_the_same : (items : List ScriptLine) (turns : List ℕ) → EndInSchedules items → AddTheSame (with_turns items turns) items
add_the_same [] turns h = both_nothing (turn_items turns) [] (add_nothing (turn_items turns) (turns_are_schedules turns)) (add_nothing [] tt)
add_the_same (Schedule threads ∷ items) turns h =
    both_nothing (turn_items turns) (Schedule threads ∷ items) (add_nothing (turn_items turns) (turns_are_schedules turns))
    (add_nothing (Schedule threads ∷ items) h)
add_the_same (item ∷ items) turns h = one_more item (with_turns items turns) items (add_the_same items turns h)

schedule_of_turns : (turns : List ℕ) → flat_map turns_of_item (turn_items turns) ≡ map numbered_thread turns
schedule_of_turns [] = refl
schedule_of_turns (t ∷ ts) = ap (λ others. numbered_thread t ∷ others) (schedule_of_turns ts)

schedule_is : (items : List ScriptLine) (turns : List ℕ) → flat_map turns_of_item (with_turns items turns) ≡ map numbered_thread turns
schedule_is [] turns = schedule_of_turns turns
schedule_is (Schedule threads ∷ items) turns = schedule_of_turns turns
schedule_is (Budget events ∷ items) turns = schedule_is items turns
schedule_is (Process name limit ∷ items) turns = schedule_is items turns
schedule_is (Child name parent ∷ items) turns = schedule_is items turns
schedule_is (Spare name ∷ items) turns = schedule_is items turns
schedule_is (Thread name ∷ items) turns = schedule_is items turns
schedule_is (Procedure name ∷ items) turns = schedule_is items turns
schedule_is (Do line ∷ items) turns = schedule_is items turns

-- the script of these items has the turns as its schedule
script_is : (version : ℕ) (paths : List (List ℕ)) (items : List ScriptLine) (turns : List ℕ) → EndInSchedules items →
    script_of_items version paths (with_turns items turns) ≡ scheduled (script_of_items version paths items) turns
script_is version paths items turns h =
    let same : AddTheSame (with_turns items turns) items = add_the_same items turns h in
    rw (same.budget 100000, same.processes, same.threads 0, same.procedures 0, same.order, schedule_is items turns) refl

-- lines

-- they are lines of the version of which the items are

turns_of_version : (version : ℕ) → 1 ≤ version → (turns : List ℕ) → list_all (is_of_version version) (turn_items turns) ≡ true
turns_of_version version some [] = refl
turns_of_version version some (t ∷ ts) = and_from _ _ (le-leb 1 version some) (turns_of_version version some ts)

with_turns_of_version :
    (version : ℕ) (items : List ScriptLine) (turns : List ℕ) → 1 ≤ version → list_all (is_of_version version) items ≡ true →
    list_all (is_of_version version) (with_turns items turns) ≡ true
with_turns_of_version version [] turns some all = turns_of_version version some turns
with_turns_of_version version (Schedule threads ∷ items) turns some all = turns_of_version version some turns
with_turns_of_version version (item ∷ items) turns some all =
    let parts = and_parts (is_of_version version item) (list_all (is_of_version version) items) all in
    and_from _ _ parts.0 (with_turns_of_version version items turns some parts.1)

-- where the items of a text stand
record AreInOrder (context : ContextValue) (items : List ScriptLine) : Type 0 where
  ends : EndInSchedules items
  schedules : context.place ≡ Scheduled → AreSchedules items

ends_more : (context : ContextValue) (item : ScriptLine) (items : List ScriptLine) → AreInOrder (context_after context item) items →
    EndInSchedules (item ∷ items)
ends_more context (Schedule threads) items others = others.schedules refl
ends_more context item items others = others.ends

schedules_more : (context : ContextValue) (item : ScriptLine) (items : List ScriptLine) → is_of_place context.place item ≡ true →
    AreInOrder (context_after context item) items → context.place ≡ Scheduled → AreSchedules (item ∷ items)
schedules_more context (Schedule threads) items h others place = others.schedules refl
schedules_more context item items h others place = absurd (false≢true (subst (λ (p : ScriptPlace). is_of_place p item ≡ true) place h))

in_order : (tables : Tables) (context : ContextValue) (lines : List (List ℕ)) (items : List ScriptLine) →
    SpellsScriptLines tables context lines items → AreInOrder context items
in_order tables =
    along tables (λ context lines items. AreInOrder context items) (record {
      ends = λ context closed. record { ends = tt; schedules = λ place. tt };
      skips = λ context line lines items printable skipped others. others;
      goes_on = λ context line lines item items is others.
          record {
            ends = ends_more context item items others;
            schedules = schedules_more context item items is.may_stand.of_place others;
          };
    })

takes_schedule : (place : ScriptPlace) (threads : List Tid) → is_closed_place place ≡ true → is_of_place place (Schedule threads) ≡ true
takes_schedule Start threads h = refl
takes_schedule Processes threads h = refl
takes_schedule Members threads h = refl
takes_schedule Body threads h = absurd (false≢true h)
takes_schedule Scheduled threads h = refl

closed_by_schedule : (place : ScriptPlace) (threads : List Tid) → is_of_place place (Schedule threads) ≡ true → is_closed_place place ≡ true
closed_by_schedule Start threads h = refl
closed_by_schedule Processes threads h = refl
closed_by_schedule Members threads h = refl
closed_by_schedule Body threads h = absurd (false≢true h)
closed_by_schedule Scheduled threads h = refl

-- the words of a line `schedule` with one thread
abbrev turn_words_of : Tables → ℕ → List (List ℕ)
turn_words_of tables t = codes "schedule" ∷ turn_word tables t ∷ []

abbrev turn_line : Tables → ℕ → List ℕ
turn_line tables t = joined_words (turn_words_of tables t)

turn_printable : (tables : Tables) (t : ℕ) → IsNamed tables t → are_printable (turn_line tables t) ≡ true
turn_printable tables t named =
    are_printable-joined_words (turn_words_of tables t) (and_from _ _ refl (and_from _ _ (are_printable-name (turn_word tables t) named.0) refl))

turn_words_are : (tables : Tables) (t : ℕ) → IsNamed tables t →
    words_of (turn_line tables t) ≡ turn_words_of tables t
turn_words_are tables t named =
    words_of-joined_words (turn_words_of tables t)
    (and_from _ _ refl (and_from _ _ (is_word-plain (turn_word tables t) (is_plain-name (turn_word tables t) named.0)) refl))

-- lines that spell these items, with another schedule
record HasLines (tables : Tables) (context : ContextValue) (items : List ScriptLine) : Type 0 where
  lines : List (List ℕ)
  spelled : SpellsScriptLines tables context lines items
  printable : list_all are_printable lines ≡ true

turn_lines : (tables : Tables) (context : ContextValue) (turns : List ℕ) → AreSpelled tables turns → is_closed context ≡ true →
    HasLines tables context (turn_items turns)
turn_lines tables context [] named closed = record { lines = []; spelled = closed; printable = refl }
turn_lines tables context (t ∷ ts) named closed =
    let later : HasLines tables (context_at_place context Scheduled) (turn_items ts) =
    turn_lines tables (context_at_place context Scheduled) ts named.1 refl in
    let printable : are_printable (turn_line tables t) ≡ true = turn_printable tables t named.0 in
    record {
      lines = turn_line tables t ∷ later.lines;
      spelled = (
        printable,
        inr (record {
          read = refl;
          spells =
              subst (SpellsScriptLine tables (length context.processes) (Schedule (numbered_thread t ∷ []))) (sym (turn_words_are tables t named.0))
              (refl, (named.0, refl));
          may_stand = record { of_place = takes_schedule context.place (numbered_thread t ∷ []) closed; once = refl; within_limits = refl; in_its_place = refl };
          others = later.spelled;
        }),
      );
      printable = and_from _ _ printable later.printable;
    }

item_more : (tables : Tables) (context : ContextValue) (line : List ℕ) (item : ScriptLine) (items : List ScriptLine) →
    IsItem tables context line item → HasLines tables (context_after context item) items → HasLines tables context (item ∷ items)
item_more tables context line item items is others =
    record {
      lines = line ∷ others.lines;
      spelled = (is.printable, inr (record { read = is.read; spells = is.spells; may_stand = is.may_stand; others = others.spelled }));
      printable = and_from _ _ is.printable others.printable;
    }

line_more : (tables : Tables) (turns : List ℕ) (context : ContextValue) (line : List ℕ) (item : ScriptLine) (items : List ScriptLine) →
    AreSpelled tables turns → IsItem tables context line item → HasLines tables (context_after context item) (with_turns items turns) →
    HasLines tables context (with_turns (item ∷ items) turns)
line_more tables turns context line (Schedule threads) items named is others =
    turn_lines tables context turns named (closed_by_schedule context.place threads is.may_stand.of_place)
line_more tables turns context line item items named is others = item_more tables context line item (with_turns items turns) is others

lines_with_turns : (tables : Tables) (turns : List ℕ) → AreSpelled tables turns → (context : ContextValue) (lines : List (List ℕ))
    (items : List ScriptLine) → SpellsScriptLines tables context lines items → HasLines tables context (with_turns items turns)
lines_with_turns tables turns named =
    along tables (λ context lines items. HasLines tables context (with_turns items turns)) (record {
      ends = λ context closed. turn_lines tables context turns named closed;
      skips = λ context line lines items printable skipped others. others;
      goes_on = λ context line lines item items is others. line_more tables turns context line item items named is others;
    })

-- texts

-- some lines spell the script with this schedule
record HasScriptLines (script : ScriptValue) (turns : List ℕ) : Type 0 where
  lines : List (List ℕ)
  spelled : SpellsScript lines (scheduled script turns)
  printable : list_all are_printable lines ≡ true

script_lines : (lines : List (List ℕ)) (script : ScriptValue) (turns : List ℕ) → AreSpelled (tables_of script) turns →
    is_version script.version ≡ true → SpellsScript lines script → HasScriptLines script turns
script_lines lines script turns named versioned s =
    let order : AreInOrder first_context s.items = in_order (tables_of script) first_context lines s.items s.spells in
    let others : HasLines (tables_of script) first_context (with_turns s.items turns) =
    lines_with_turns (tables_of script) turns named first_context lines s.items s.spells in
    record {
      lines = others.lines;
      spelled = record {
        items = with_turns s.items turns;
        spells = others.spelled;
        of_version = with_turns_of_version script.version s.items turns (is_version_some script.version versioned) s.of_version;
        different_paths = s.different_paths;
        numbered_paths = ap (path_count_after 0) (add_the_same s.items turns order.ends).uses ∙ s.numbered_paths;
        is_script = script_is script.version script.paths s.items turns order.ends ∙ ap (λ (at : ScriptValue). scheduled at turns) s.is_script;
      };
      printable = others.printable;
    }

all_lines : (lines : List (List ℕ)) (script : ScriptValue) (turns : List ℕ) → AreSpelled (tables_of script) turns → SpellsLines lines script →
    HasScriptLines script turns
all_lines [] script turns named s = absurd s
all_lines (line ∷ lines) script turns named s = script_lines lines script turns named s.0 s.2

-- the version of a text that spells a script
version_of_lines : (lines : List (List ℕ)) (script : ScriptValue) → SpellsLines lines script → is_version script.version ≡ true
version_of_lines [] script s = absurd s
version_of_lines (line ∷ lines) script s = s.0

are_lines : (lines : List (List ℕ)) → list_all are_printable lines ≡ true → list_all is_one_line lines ≡ true
are_lines [] h = refl
are_lines (line ∷ lines) h =
    let parts = and_parts (are_printable line) (list_all are_printable lines) h in
    and_from _ _ (is_one_line-printable line parts.0) (are_lines lines parts.1)

-- some text spells the script with this schedule
record HasText (script : ScriptValue) : Type 0 where
  text : List ℕ
  spelled : spells text script

text_with_turns : (source : List ℕ) (script : ScriptValue) (turns : List ℕ) → AreSpelled (tables_of script) turns → spells source script →
    HasText (scheduled script turns)
unfolding spells
text_with_turns source script turns named s =
    let others : HasScriptLines script turns = all_lines (lines_of source) script turns named s in
    let versioned : is_version script.version ≡ true = version_of_lines (lines_of source) script s in
    let first : List ℕ = header script.version in
    let printable : are_printable first ≡ true = header_printable script.version versioned in
    let lines : lines_of (text_of_lines (first ∷ others.lines)) ≡ first ∷ others.lines =
    lines_of-text_of_lines (first ∷ others.lines) (are_lines (first ∷ others.lines) (and_from _ _ printable others.printable)) in
    record {
      text = text_of_lines (first ∷ others.lines);
      spelled = subst (λ (ls : List (List ℕ)). SpellsLines ls (scheduled script turns)) (sym lines) (versioned, refl, others.spelled);
    }

-- a text that spells a script has a first line
no_lines : (text : List ℕ) (script : ScriptValue) → lines_of text ≡ [] → spells text script → ⊥
unfolding spells
no_lines text script e s = subst (λ (ls : List (List ℕ)). SpellsLines ls script) e s

canonical_of : (text : List ℕ) (script : ScriptValue) (lines : List (List ℕ)) → lines_of text ≡ lines → spells text script →
    spells (canonical_text script) script
canonical_of text script [] e s = absurd (no_lines text script e s)
canonical_of text script (first ∷ lines) e s =
    let is : IsScript (tables_of_lines lines) script = script_is_script text first lines script e (text_only text script s) in
    text_found (canonical_text script) script is.again

-- the canonical text of a script that some text spells spells it
canonical_again : (text : List ℕ) (script : ScriptValue) → spells text script → spells (canonical_text script) script
canonical_again text script s = canonical_of text script (lines_of text) refl s

-- the turns of an allowed run as the schedule make a script that its canonical text spells
pub replay_spelled : (source : List ℕ) (script : ScriptValue) (turns : List ℕ) → spells source script → IsAllowed script turns →
    spells (canonical_text (scheduled script turns)) (scheduled script turns)
replay_spelled source script turns s allowed =
    let declared : All (IsThread script) turns = turns_declared script turns (sound-spelled source script s) allowed in
    let some : HasText (scheduled script turns) = text_with_turns source script turns (threads_spelled source script s turns declared) s in
    canonical_again some.text (scheduled script turns) some.spelled
