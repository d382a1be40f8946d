-- The names that lines declare and the paths that they use, by the items that they spell.
use Rattle.std.proofs.Common.{◌≡◌, ℕ, ◌+◌, ◌*◌, ◌≤◌, true, false, List, [], ◌∷◌, ◌++◌, length, take, Option, Some, None, refl, sym, ap, ◌∙◌, arith, nat_le}
use Rattle.std.specs.Prelude.{map, filter_map, flat_map}
use Rattle.std.specs.List.{cons_option}
use Rattle.std.proofs.lemmas.Bool.{false≢true, leb-false}
use Rattle.std.proofs.lemmas.List.{length-append, length-map, map-append, take_all}
use Rattle.line_text.specs.Words.{words_of}
use Rattle.script_lang.specs.Types.{Line}
use Rattle.line_forms.specs.declared.line.Line.TheVariants.{Attach}
use Rattle.line_forms.specs.Words.{ProcedureName, Tables, depth_after, kind_of, path_word, paths_of}
use Rattle.script_lang.specs.declared.item.ScriptLine.{ScriptLine}
use Rattle.script_lang.specs.declared.item.ScriptLine.TheVariants.{Budget, Process, Child, Spare, Thread, Procedure, Do, Schedule}
use Rattle.script_lang.specs.declared.item.ScriptPlace.{ScriptPlace}
use Rattle.script_lang.specs.declared.item.ScriptPlace.TheVariants.{Start, Processes, Members, Body, Schedule as Scheduled}
use Rattle.script_lang.specs.Context.{ContextValue, first_context, is_over_limit, context_after, context_at_depth, context_with_variables}
use Rattle.script_lang.specs.Scripts.{process_of_item, with_limits, threads_from, procedures_from, name_of_procedure}
use Rattle.script_lang.specs.Spelled.{SpellsScriptLines, MayStand, is_of_place, path_uses}
use Rattle.script_lang.specs.TextTables.{process_of_words, thread_of_words, path_of_words, process_after, procedure_names_with, procedure_names_from as procedures_in, tables_of_lines}
use Rattle.script_lang.proofs.NamesInWords.{NamesIn, names_skipped, process_named, thread_named, procedure_named, path_used, item_names}
use Rattle.script_lang.proofs.ChildLimits.{kept-with_limits, name_kept}
use Rattle.script_lang.proofs.SpelledItems.{along}

-- the names that items declare, and the paths that they use

abbrev pub process_names : List ScriptLine → List (List ℕ)
process_names items = map (λ process. process.name) (filter_map process_of_item items)

abbrev pub thread_names : ℕ → List ScriptLine → List (List ℕ)
thread_names process items = map (λ thread. thread.name) (threads_from process items)

abbrev pub procedure_names : ℕ → List ScriptLine → List ProcedureName
procedure_names process items = map name_of_procedure (procedures_from process items)

abbrev path_names : Tables → List ScriptLine → List (List ℕ)
path_names tables items = map (path_word tables) (flat_map path_uses items)

-- lines declare what these items do
record NamesOf (tables : Tables) (lines : List (List ℕ)) (items : List ScriptLine) : Type 0 where
  processes : filter_map process_of_words (map words_of lines) ≡ process_names items
  threads : (process : ℕ) → filter_map thread_of_words (map words_of lines) ≡ thread_names process items
  procedures : (process : ℕ) → procedures_in process (map words_of lines) ≡ procedure_names process items
  paths : filter_map path_of_words (map words_of lines) ≡ path_names tables items

skipped_more : (tables : Tables) (line : List ℕ) (lines : List (List ℕ)) (items : List ScriptLine) → NamesIn (words_of line) None None None None → NamesOf tables lines items → NamesOf tables (line ∷ lines) items
skipped_more tables line lines items names others =
    record {
      processes = rw names.process others.processes;
      threads = λ process. rw names.thread (others.threads process);
      procedures = λ process. rw (names.procedure, names.process) (others.procedures process);
      paths = rw names.path others.paths;
    }

-- one item more

processes_more : (item : ScriptLine) (items : List ScriptLine) → cons_option (process_named item) (process_names items) ≡ process_names (item ∷ items)
processes_more (Process name limit) items = refl
processes_more (Child name parent) items = refl
processes_more item items = refl

threads_more : (process : ℕ) (item : ScriptLine) (items : List ScriptLine) → cons_option (thread_named item) (thread_names (process_after process (process_named item)) items) ≡ thread_names process (item ∷ items)
threads_more process (Process name limit) items = refl
threads_more process (Child name parent) items = refl
threads_more process item items = refl

procedures_more : (process : ℕ) (item : ScriptLine) (items : List ScriptLine) → procedure_names_with process (procedure_named item) (procedure_names (process_after process (process_named item)) items) ≡ procedure_names process (item ∷ items)
procedures_more process (Process name limit) items = refl
procedures_more process (Child name parent) items = refl
procedures_more process item items = refl

-- a line has one path at most
line_path_more : (tables : Tables) (line : Line) (others : List (List ℕ)) → cons_option (path_used tables (paths_of line)) others ≡ map (path_word tables) (paths_of line) ++ others
line_path_more tables (Attach fd at) others = refl
line_path_more tables line others = refl

path_more : (tables : Tables) (item : ScriptLine) (others : List (List ℕ)) → cons_option (path_used tables (path_uses item)) others ≡ map (path_word tables) (path_uses item) ++ others
path_more tables (Do line) others = line_path_more tables line others
path_more tables item others = refl

paths_more : (tables : Tables) (item : ScriptLine) (items : List ScriptLine) → cons_option (path_used tables (path_uses item)) (path_names tables items) ≡ path_names tables (item ∷ items)
paths_more tables item items = path_more tables item (path_names tables items) ∙ sym (map-append (path_word tables) (path_uses item) (flat_map path_uses items))

item_more : (tables : Tables) (line : List ℕ) (lines : List (List ℕ)) (item : ScriptLine) (items : List ScriptLine)
    → NamesIn (words_of line) (process_named item) (thread_named item) (procedure_named item) (path_used tables (path_uses item)) → NamesOf tables lines items → NamesOf tables (line ∷ lines) (item ∷ items)
item_more tables line lines item items names others =
    record {
      processes = rw (names.process, others.processes) (processes_more item items);
      threads = λ process. rw (names.thread, others.threads (process_after process (process_named item))) (threads_more process item items);
      procedures = λ process. rw (names.procedure, names.process, others.procedures (process_after process (process_named item))) (procedures_more process item items);
      paths = rw (names.path, others.paths) (paths_more tables item items);
    }

names_of_lines : (tables : Tables) (context : ContextValue) (lines : List (List ℕ)) (items : List ScriptLine) → SpellsScriptLines tables context lines items → NamesOf tables lines items
names_of_lines tables =
    along tables (λ context lines items. NamesOf tables lines items) (record {
      ends = λ context closed. record { processes = refl; threads = λ process. refl; procedures = λ process. refl; paths = refl };
      skips = λ context line lines items printable skipped others. skipped_more tables line lines items (names_skipped line skipped) others;
      goes_on = λ context line lines item items is others. item_more tables line lines item items (item_names tables (length context.processes) item (words_of line) is.spells) others;
    })

-- how many names items declare

-- processes, threads and the procedures of a process are at most as many as a script may have
pub record AreFew (context : ContextValue) : Type 0 where
  pub processes : length context.processes ≤ 64
  pub threads : length context.threads ≤ 64
  pub procedures : length context.procedures ≤ 64

few_with_line : (context : ContextValue) (after : Option ℕ) → AreFew context → AreFew (context_at_depth context after)
few_with_line context None few = record { processes = few.processes; threads = few.threads; procedures = few.procedures }
few_with_line context (Some depth) few = record { processes = few.processes; threads = few.threads; procedures = few.procedures }

one_more : (names : List (List ℕ)) (name : List ℕ) → nat_le 64 (length names) ≡ false → length (names ++ name ∷ []) ≤ 64
one_more names name room = let below = leb-false 64 (length names) room in simp length-append (omega (arith, below))

few_after : (context : ContextValue) (item : ScriptLine) → is_over_limit context item ≡ false → AreFew context → AreFew (context_after context item)
few_after context (Budget events) room few = record { processes = few.processes; threads = few.threads; procedures = few.procedures }
few_after context (Process name limit) room few = record { processes = one_more context.processes name room; threads = few.threads; procedures = omega arith }
few_after context (Child name parent) room few = record { processes = one_more context.processes name room; threads = few.threads; procedures = omega arith }
few_after context (Spare name) room few = record { processes = few.processes; threads = one_more context.threads name room; procedures = few.procedures }
few_after context (Thread name) room few = record { processes = few.processes; threads = one_more context.threads name room; procedures = few.procedures }
few_after context (Procedure name) room few = record { processes = few.processes; threads = few.threads; procedures = one_more context.procedures name room }
few_after context (Do line) room few = few_with_line (context_with_variables context line) (depth_after context.depth (kind_of line)) (record { processes = few.processes; threads = few.threads; procedures = few.procedures })
few_after context (Schedule threads) room few = record { processes = few.processes; threads = few.threads; procedures = few.procedures }

-- how many processes are there whose procedures may follow, and how many procedures they have
abbrev pub open_processes : ScriptPlace → ℕ
open_processes Start = 0
open_processes Processes = 0
open_processes Members = 1
open_processes Body = 1
open_processes Scheduled = 0

abbrev pub open_procedures : ContextValue → ℕ
open_procedures context = open_processes context.place * length context.procedures

-- so many names follow at most
pub record FewFollow (context : ContextValue) (items : List ScriptLine) : Type 0 where
  pub processes : length context.processes + length (filter_map process_of_item items) ≤ 64
  pub threads : (process : ℕ) → length context.threads + length (threads_from process items) ≤ 64
  pub procedures : (process : ℕ) → open_procedures context + length (procedures_from process items) ≤ 64 * (open_processes context.place + length (filter_map process_of_item items))

open_most : (place : ScriptPlace) (n : ℕ) → n ≤ 64 → open_processes place * n ≤ 64 * open_processes place
open_most Start n few = omega arith
open_most Processes n few = omega arith
open_most Members n few = omega arith
open_most Body n few = omega arith
open_most Scheduled n few = omega arith

in_members : (place : ScriptPlace) (name : List ℕ) → is_of_place place (Procedure name) ≡ true → place ≡ Members
in_members Members name at = refl
in_members place name at = absurd (false≢true at)

thread_in_members : (place : ScriptPlace) (name : List ℕ) → is_of_place place (Thread name) ≡ true → place ≡ Members
thread_in_members Members name at = refl
thread_in_members place name at = absurd (false≢true at)

line_in_body : (place : ScriptPlace) (line : Line) → is_of_place place (Do line) ≡ true → place ≡ Body
line_in_body Body line at = refl
line_in_body place line at = absurd (false≢true at)

few_end : (context : ContextValue) → AreFew context → FewFollow context []
few_end context few =
    let most = open_most context.place (length context.procedures) few.procedures in
    record { processes = omega (arith, few.processes); threads = λ process. omega (arith, few.threads); procedures = λ process. omega (arith, most) }

few_line : (context : ContextValue) (after : Option ℕ) (items : List ScriptLine) → context.place ≡ Body → FewFollow (context_at_depth context after) items → FewFollow context items
few_line context None items at others = record { processes = others.processes; threads = others.threads; procedures = λ process. rw at (others.procedures process) }
few_line context (Some depth) items at others = record { processes = others.processes; threads = others.threads; procedures = λ process. rw at (rw at at (others.procedures process)) }

few_more : (context : ContextValue) (item : ScriptLine) (items : List ScriptLine) → AreFew context → MayStand context item → FewFollow (context_after context item) items → FewFollow context (item ∷ items)
few_more context (Budget events) items few stands others =
    let most = open_most context.place (length context.procedures) few.procedures in
    record { processes = others.processes; threads = others.threads; procedures = λ process. let next = others.procedures process in omega (arith, most, next) }
few_more context (Process name limit) items few stands others =
    let most = open_most context.place (length context.procedures) few.procedures in
    let processes = simp length-append at others.processes in
    record { processes = omega (arith, processes); threads = λ process. others.threads (process + 1); procedures = λ process. let next = others.procedures (process + 1) in omega (arith, most, next) }
few_more context (Child name parent) items few stands others =
    let most = open_most context.place (length context.procedures) few.procedures in
    let processes = simp length-append at others.processes in
    record { processes = omega (arith, processes); threads = λ process. others.threads (process + 1); procedures = λ process. let next = others.procedures (process + 1) in omega (arith, most, next) }
few_more context (Spare name) items few stands others =
    record { processes = others.processes; threads = λ process. let next = simp length-append at (others.threads process) in omega (arith, next); procedures = others.procedures }
few_more context (Thread name) items few stands others =
    let at = thread_in_members context.place name stands.of_place in
    record { processes = others.processes; threads = λ process. let next = simp length-append at (others.threads process) in omega (arith, next); procedures = λ process. rw at (others.procedures process) }
few_more context (Procedure name) items few stands others =
    let at = in_members context.place name stands.of_place in
    record { processes = others.processes; threads = others.threads; procedures = λ process. rw at (let next = simp length-append at (others.procedures process) in omega (arith, next)) }
few_more context (Do line) items few stands others =
    let same = few_line (context_with_variables context line) (depth_after context.depth (kind_of line)) items (line_in_body context.place line stands.of_place) others in
    record { processes = same.processes; threads = same.threads; procedures = same.procedures }
few_more context (Schedule threads) items few stands others =
    let most = open_most context.place (length context.procedures) few.procedures in
    record { processes = others.processes; threads = others.threads; procedures = λ process. let next = others.procedures process in omega (arith, most, next) }

pub few_follow : (tables : Tables) (context : ContextValue) (lines : List (List ℕ)) (items : List ScriptLine) → SpellsScriptLines tables context lines items → AreFew context → FewFollow context items
few_follow tables =
    along tables (λ context lines items. AreFew context → FewFollow context items) (record {
      ends = λ context closed few. few_end context few;
      skips = λ context line lines items printable skipped others. others;
      goes_on = λ context line lines item items is others few. few_more context item items few is.may_stand (others (few_after context item is.may_stand.within_limits few));
    })

-- the tables of lines

-- what lines declare and use is what their items do
pub record NamesAgree (tables : Tables) (lines : List (List ℕ)) (items : List ScriptLine) : Type 0 where
  pub processes : (tables_of_lines lines).processes ≡ map (λ process. process.name) (with_limits [] (filter_map process_of_item items))
  pub threads : (tables_of_lines lines).threads ≡ map (λ thread. thread.name) (threads_from 0 items)
  pub procedures : (tables_of_lines lines).procedures ≡ map name_of_procedure (procedures_from 0 items)
  pub paths : filter_map path_of_words (map words_of lines) ≡ map (path_word tables) (flat_map path_uses items)

pub all_taken : {X Y : Type 0} (limit : ℕ) (of : X → Y) (xs : List X) (ys : List Y) → ys ≡ map of xs → length xs ≤ limit → take limit ys ≡ map of xs
all_taken limit of xs ys is few = ap (take limit) is ∙ take_all limit (map of xs) (rw (length-map xs of) few)

pub few_before : AreFew first_context
few_before = record { processes = omega arith; threads = omega arith; procedures = omega arith }

pub names_agree : (tables : Tables) (lines : List (List ℕ)) (items : List ScriptLine) → SpellsScriptLines tables first_context lines items → NamesAgree tables lines items
unfolding tables_of_lines
names_agree tables lines items spells =
    let names = names_of_lines tables first_context lines items spells in
    let few = few_follow tables first_context lines items spells few_before in
    let threads = few.threads 0 in
    let procedures = few.procedures 0 in
    record {
      processes = all_taken 64 (λ process. process.name) (filter_map process_of_item items) _ names.processes (omega (arith, few.processes)) ∙ sym (kept-with_limits (λ process. process.name) name_kept (filter_map process_of_item items));
      threads = all_taken 64 (λ thread. thread.name) (threads_from 0 items) _ (names.threads 0) (omega (arith, threads));
      procedures = all_taken 4096 name_of_procedure (procedures_from 0 items) _ (names.procedures 0) (omega (arith, few.processes, procedures));
      paths = names.paths;
    }
