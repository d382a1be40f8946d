-- The script that lines in their order are, and the lines of a script.
use Rattle.std.specs.Prelude.{ℕ, zero, suc, Bool, true, false, ◌+◌, List, [], ◌∷◌, ◌++◌, Option, Some, None, map, flat_map, filter_map, option_map, unwrap_or}
use Rattle.std.specs.List.{onto_first}
use Rattle.dk_base.specs.ByNumber.{at_number}
use Rattle.line_text.specs.Types.{Pid, Tid}
use Rattle.script_lang.specs.Types.{Line}
use Rattle.line_forms.specs.declared.line.Line.TheVariants.{End}
use Rattle.line_forms.specs.Words.{ProcedureName, Tables, depth_after, kind_of, qualified_name}
use Rattle.script_lang.specs.declared.item.ScriptLine.{ScriptLine}
use Rattle.script_lang.specs.declared.item.ScriptLine.TheVariants.{Budget, Process, Child, Spare, Thread, Procedure, Do, Schedule}
use Rattle.script_lang.specs.declared.script.Part.{Part}
use Rattle.script_lang.specs.declared.script.Part.TheVariants.{Process as ProcessPart, Thread as ThreadPart, Procedure as ProcedurePart}
use Rattle.script_lang.specs.declared.script.Procedure.{Procedure as ScriptProcedure}
use Rattle.script_lang.specs.declared.script.ScriptProcess.{ScriptProcess}
use Rattle.script_lang.specs.declared.script.ScriptThread.{ScriptThread}
use Rattle.script_lang.specs.Value.{ScriptValue}
use Rattle.dk_base.specs.declared.limits.TheConstants.{BUDGET_MAX, DESCRIPTORS_MAX}

-- from lines to a script

-- the budget of these lines, where it is this without them
abbrev pub budget_from : ℕ → List ScriptLine → ℕ
budget_from events [] = events
budget_from events (Budget given ∷ items) = budget_from given items
budget_from events (item ∷ items) = budget_from events items

-- without a line `budget` it is 100000
abbrev pub budget_of : List ScriptLine → ℕ
budget_of items = budget_from BUDGET_MAX items

abbrev pub script_process : List ℕ → ℕ → ScriptProcess
script_process name limit = record { name = name; limit = limit; parent = None }

-- as its line has it, which names no limit
abbrev pub script_child : List ℕ → Pid → ScriptProcess
script_child name parent = record { name = name; limit = DESCRIPTORS_MAX; parent = Some parent }

abbrev pub process_of_item : ScriptLine → Option ScriptProcess
process_of_item (Process name limit) = Some (script_process name limit)
process_of_item (Child name parent) = Some (script_child name parent)
process_of_item item = None

-- the limit of a child is that of its parent, which stands before it

abbrev pub limit_of_process : ScriptProcess → ℕ
limit_of_process process = process.limit

abbrev pub limit_at : List ScriptProcess → Pid → ℕ
limit_at processes p = unwrap_or (option_map limit_of_process (at_number processes p.0)) DESCRIPTORS_MAX

abbrev pub with_limit_from : List ScriptProcess → Option Pid → ScriptProcess → ScriptProcess
with_limit_from before None process = process
with_limit_from before (Some parent) process = record process { limit = limit_at before parent }

-- these processes and then those, each child with its limit
abbrev pub with_limits : List ScriptProcess → List ScriptProcess → List ScriptProcess
with_limits before [] = before
with_limits before (process ∷ processes) = with_limits (before ++ with_limit_from before process.parent process ∷ []) processes

abbrev pub before_line : Line → Option ℕ → (ℕ → List Line) → List Line
before_line line None body = []
before_line line (Some depth) body = line ∷ body depth

-- the lines of a body up to its end, where so many blocks are open in it
abbrev pub body_from : ℕ → List ScriptLine → List Line
body_from depth (Do line ∷ items) = before_line line (depth_after depth (kind_of line)) (λ after. body_from after items)
body_from depth items = []

abbrev pub script_thread : ℕ → List ℕ → Bool → List Line → ScriptThread
script_thread process name spare body = record { name = name; process = record { 0 = process }; spare = spare; body = body }

-- threads with spares, where so many processes stand before
abbrev pub threads_from : ℕ → List ScriptLine → List ScriptThread
threads_from process [] = []
threads_from process (Process name limit ∷ items) = threads_from (process + 1) items
threads_from process (Child name parent ∷ items) = threads_from (process + 1) items
threads_from process (Spare name ∷ items) = script_thread process name true [] ∷ threads_from process items
threads_from process (Thread name ∷ items) = script_thread process name false (body_from 0 items) ∷ threads_from process items
threads_from process (item ∷ items) = threads_from process items

abbrev pub script_procedure : ℕ → List ℕ → List Line → ScriptProcedure
script_procedure process name body = record { name = name; process = record { 0 = process }; body = body }

abbrev pub procedures_from : ℕ → List ScriptLine → List ScriptProcedure
procedures_from process [] = []
procedures_from process (Process name limit ∷ items) = procedures_from (process + 1) items
procedures_from process (Child name parent ∷ items) = procedures_from (process + 1) items
procedures_from process (Procedure name ∷ items) = script_procedure process name (body_from 0 items) ∷ procedures_from process items
procedures_from process (item ∷ items) = procedures_from process items

abbrev pub part_of_item : ScriptLine → Option Part
part_of_item (Process name limit) = Some ProcessPart
part_of_item (Child name parent) = Some ProcessPart
part_of_item (Spare name) = Some ThreadPart
part_of_item (Thread name) = Some ThreadPart
part_of_item (Procedure name) = Some ProcedurePart
part_of_item item = None

-- the lines `schedule` are one list
abbrev pub turns_of_item : ScriptLine → List Tid
turns_of_item (Schedule threads) = threads
turns_of_item item = []

-- the script of these lines of a text of this version, with these paths
abbrev pub script_of_items : ℕ → List (List ℕ) → List ScriptLine → ScriptValue
script_of_items version paths items =
    record {
      version = version;
      budget = budget_of items;
      processes = with_limits [] (filter_map process_of_item items);
      threads = threads_from 0 items;
      procedures = procedures_from 0 items;
      order = filter_map part_of_item items;
      paths = paths;
      schedule = flat_map turns_of_item items;
    }

-- the names of a script with their numbers

abbrev pub name_of_procedure : ScriptProcedure → ProcedureName
name_of_procedure procedure = qualified_name procedure.process.0 procedure.name

abbrev pub tables_of : ScriptValue → Tables
tables_of script =
    record {
      processes = map (λ process. process.name) script.processes;
      parents = map (λ process. process.parent) script.processes;
      threads = map (λ thread. thread.name) script.threads;
      procedures = map name_of_procedure script.procedures;
      paths = script.paths;
    }

-- from a script to its lines

abbrev pub body_items : List Line → List ScriptLine
body_items body = map Do body ++ Do End ∷ []

abbrev pub thread_items : ScriptThread → Bool → List ScriptLine
thread_items thread true = Spare thread.name ∷ []
thread_items thread false = Thread thread.name ∷ body_items thread.body

abbrev pub procedure_items : ScriptProcedure → List ScriptLine
procedure_items procedure = Procedure procedure.name ∷ body_items procedure.body

abbrev pub process_item_of : Option Pid → ScriptProcess → ScriptLine
process_item_of None process = Process process.name process.limit
process_item_of (Some parent) process = Child process.name parent

abbrev pub process_item : ScriptProcess → ScriptLine
process_item process = process_item_of process.parent process

-- processes, threads and procedures in this order
abbrev pub part_items : List Part → List ScriptProcess → List ScriptThread → List ScriptProcedure → List ScriptLine
part_items (ProcessPart ∷ order) (process ∷ processes) threads procedures = process_item process ∷ part_items order processes threads procedures
part_items (ThreadPart ∷ order) processes (thread ∷ threads) procedures = thread_items thread thread.spare ++ part_items order processes threads procedures
part_items (ProcedurePart ∷ order) processes threads (procedure ∷ procedures) = procedure_items procedure ++ part_items order processes threads procedures
part_items order processes threads procedures = []

-- rows of 16 and a last with the rest; in the first row so many may stand after the next thread
abbrev pub rows_from : ℕ → List Tid → List (List Tid)
rows_from room [] = []
rows_from zero (thread ∷ threads) = (thread ∷ []) ∷ rows_from 15 threads
rows_from (suc room) (thread ∷ threads) = onto_first thread (rows_from room threads)

abbrev pub schedule_items : List Tid → List ScriptLine
schedule_items schedule = map Schedule (rows_from 15 schedule)

-- the lines of a script after the first, each once
abbrev pub items_of : ScriptValue → List ScriptLine
items_of script = Budget script.budget ∷ part_items script.order script.processes script.threads script.procedures ++ schedule_items script.schedule
