-- What the reader's own contracts say of the parts of a script that it has made so far.
use Rattle.std.specs.Prelude.{ℕ, Bool, true, false, List, [], ◌∷◌, ◌++◌, length, Option, Some, None, filter_map, flat_map}
use Rattle.script_lang.specs.Types.{Line}
use Rattle.line_forms.specs.Words.{depth_after, kind_of}
use Rattle.script_lang.specs.declared.draft.Draft.{Draft}
use Rattle.script_lang.specs.declared.draft.Owner.{Owner}
use Rattle.script_lang.specs.declared.draft.Owner.TheVariants.{Nobody, Thread as OfThread, Procedure as OfProcedure}
use Rattle.script_lang.specs.declared.item.ScriptLine.{ScriptLine}
use Rattle.script_lang.specs.declared.item.ScriptLine.TheVariants.{Budget, Process, Child, Spare, Thread, Procedure, Do, Schedule}
use Rattle.script_lang.specs.declared.script.Part.{Part}
use Rattle.script_lang.specs.declared.script.Part.TheVariants.{Process as ProcessPart, Thread as ThreadPart, Procedure as ProcedurePart}
use Rattle.script_lang.specs.declared.script.Procedure.{Procedure as ScriptProcedure}
use Rattle.script_lang.specs.declared.script.ScriptProcess.{ScriptProcess}
use Rattle.script_lang.specs.declared.script.ScriptThread.{ScriptThread}
use Rattle.script_lang.specs.Scripts.{budget_from, script_child, script_process, process_of_item, with_limit_from, with_limits, body_from, script_thread, threads_from, script_procedure, procedures_from, part_of_item, turns_of_item}
use Rattle.script_lang.specs.Value.{ScriptValue}
use Rattle.dk_base.specs.declared.limits.TheConstants.{BUDGET_MAX}

-- no lines
abbrev pub empty_draft : Draft
empty_draft = record { budget = BUDGET_MAX; processes = []; threads = []; procedures = []; order = []; schedule = []; owner = Nobody; body = [] }

abbrev pub draft_with_thread : Draft → List ℕ → Bool → List Line → Draft
draft_with_thread draft name spare body = record draft { threads = draft.threads ++ script_thread (length draft.processes) name spare body ∷ [] }

abbrev pub draft_with_procedure : Draft → List ℕ → List Line → Draft
draft_with_procedure draft name body = record draft { procedures = draft.procedures ++ script_procedure (length draft.processes) name body ∷ [] }

-- a child has the limit of its parent
abbrev pub draft_with_process : Draft → ScriptProcess → Draft
draft_with_process draft process = record draft { processes = draft.processes ++ with_limit_from draft.processes process.parent process ∷ [] }

abbrev pub draft_with_part : Draft → Part → Draft
draft_with_part draft part = record draft { order = draft.order ++ part ∷ [] }

abbrev pub draft_with_owner : Draft → Owner → Draft
draft_with_owner draft owner = record draft { owner = owner; body = [] }

-- a body begins
abbrev pub draft_in_body : Draft → Part → Owner → Draft
draft_in_body draft part owner = draft_with_owner (draft_with_part draft part) owner

-- the body ends
abbrev pub draft_after_body_of : Draft → Owner → Draft
draft_after_body_of draft Nobody = draft_with_owner draft Nobody
draft_after_body_of draft (OfThread name) = draft_with_owner (draft_with_thread draft name false draft.body) Nobody
draft_after_body_of draft (OfProcedure name) = draft_with_owner (draft_with_procedure draft name draft.body) Nobody

abbrev pub draft_after_body : Draft → Draft
draft_after_body draft = draft_after_body_of draft draft.owner

abbrev pub draft_with_line : Draft → Line → Option ℕ → Draft
draft_with_line draft line None = draft_after_body draft
draft_with_line draft line (Some depth) = record draft { body = draft.body ++ line ∷ [] }

-- with an item, where so many blocks are open before it
abbrev pub draft_after : Draft → ℕ → ScriptLine → Draft
draft_after draft depth (Budget events) = record draft { budget = events }
draft_after draft depth (Process name limit) = draft_with_part (draft_with_process draft (script_process name limit)) ProcessPart
draft_after draft depth (Child name parent) = draft_with_part (draft_with_process draft (script_child name parent)) ProcessPart
draft_after draft depth (Spare name) = draft_with_part (draft_with_thread draft name true []) ThreadPart
draft_after draft depth (Thread name) = draft_in_body draft ThreadPart (OfThread name)
draft_after draft depth (Procedure name) = draft_in_body draft ProcedurePart (OfProcedure name)
draft_after draft depth (Do line) = draft_with_line draft line (depth_after depth (kind_of line))
draft_after draft depth (Schedule threads) = record draft { schedule = draft.schedule ++ threads }

-- the script of a draft with more lines after it

abbrev pub open_threads : ℕ → Owner → List Line → List ScriptThread
open_threads process Nobody body = []
open_threads process (OfThread name) body = script_thread process name false body ∷ []
open_threads process (OfProcedure name) body = []

abbrev pub open_procedures : ℕ → Owner → List Line → List ScriptProcedure
open_procedures process Nobody body = []
open_procedures process (OfThread name) body = []
open_procedures process (OfProcedure name) body = script_procedure process name body ∷ []

abbrev pub script_with : ℕ → List (List ℕ) → Draft → ℕ → List ScriptLine → ScriptValue
script_with version paths draft depth items =
    record {
      version = version;
      budget = budget_from draft.budget items;
      processes = with_limits draft.processes (filter_map process_of_item items);
      threads = draft.threads ++ open_threads (length draft.processes) draft.owner (draft.body ++ body_from depth items) ++ threads_from (length draft.processes) items;
      procedures = draft.procedures ++ open_procedures (length draft.processes) draft.owner (draft.body ++ body_from depth items) ++ procedures_from (length draft.processes) items;
      order = draft.order ++ filter_map part_of_item items;
      paths = paths;
      schedule = draft.schedule ++ flat_map turns_of_item items;
    }

-- the script of a draft
abbrev pub script_of_draft : ℕ → List (List ℕ) → Draft → ScriptValue
script_of_draft version paths draft =
    record {
      version = version;
      budget = draft.budget;
      processes = draft.processes;
      threads = draft.threads;
      procedures = draft.procedures;
      order = draft.order;
      paths = paths;
      schedule = draft.schedule;
    }
