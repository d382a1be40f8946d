-- The script of the canonical lines of a script.
use Rattle.std.proofs.Common.{◌≡◌, ℕ, zero, suc, true, ◌+◌, List, [], ◌∷◌, ◌++◌, Option, Some, None, map, refl, sym, ap, ◌∙◌}
use Rattle.std.specs.List.{filter_map, flat_map, onto_first}
use Rattle.std.proofs.lemmas.Bool.{false≢true}
use Rattle.line_text.specs.Types.{Tid}
use Rattle.script_lang.specs.Types.{Line}
use Rattle.line_forms.specs.Words.{Tables, depth_after, kind_of, paths_of}
use Rattle.script_lang.specs.declared.item.ScriptLine.{ScriptLine}
use Rattle.script_lang.specs.declared.item.ScriptLine.TheVariants.{Budget, Process, Child, Spare, Thread, Procedure, Do, Schedule}
use Rattle.script_lang.specs.declared.script.Part.TheVariants.{Process as ProcessPart, Thread as ThreadPart, Procedure as ProcedurePart}
use Rattle.script_lang.specs.Context.{ContextValue, context_after, context_at_depth, context_with_variables, first_context}
use Rattle.script_lang.specs.TextReaderContracts.{is_body}
use Rattle.script_lang.specs.Scripts.{budget_from, budget_of, script_child, script_process, process_of_item, script_thread, threads_from, procedures_from, part_of_item, body_from, before_line, turns_of_item, script_of_items, rows_from, items_of}
use Rattle.script_lang.specs.Spelled.{path_uses}
use Rattle.script_lang.proofs.DraftSteps.{is_do_of_place}
use Rattle.script_lang.proofs.Stand.{Stand}
use Rattle.script_lang.proofs.CanonicalItems.{parts_in, parts_limited, parts_same, closed_is_no_body}

-- rows of a schedule

onto_turns : (thread : Tid) (rows : List (List Tid)) → flat_map turns_of_item (map Schedule (onto_first thread rows)) ≡ thread ∷ flat_map turns_of_item (map Schedule rows)
onto_turns thread [] = refl
onto_turns thread (row ∷ rows) = refl

pub turns_of_item-rows : (room : ℕ) (turns : List Tid) → flat_map turns_of_item (map Schedule (rows_from room turns)) ≡ turns
turns_of_item-rows room [] = refl
turns_of_item-rows zero (thread ∷ turns) = ap (λ others. thread ∷ others) (turns_of_item-rows 15 turns)
turns_of_item-rows (suc room) (thread ∷ turns) = onto_turns thread (rows_from room turns) ∙ ap (λ others. thread ∷ others) (turns_of_item-rows room turns)

-- the parts' lines, with rows of a schedule after them
abbrev pub with_rows : List ScriptLine → List (List Tid) → List ScriptLine
with_rows items rows = parts_in items ++ map Schedule rows

-- these lines in canonical order, with these rows of a schedule
abbrev pub written : List ScriptLine → List (List Tid) → List ScriptLine
written items rows = Budget (budget_of items) ∷ with_rows items rows

budget_same : (events : ℕ) (items : List ScriptLine) (rows : List (List Tid)) → budget_from events (with_rows items rows) ≡ events
budget_same events [] [] = refl
budget_same events [] (row ∷ rows) = budget_same events [] rows
budget_same events (Budget given ∷ items) rows = budget_same events items rows
budget_same events (Process name limit ∷ items) rows = budget_same events items rows
budget_same events (Child name parent ∷ items) rows = budget_same events items rows
budget_same events (Spare name ∷ items) rows = budget_same events items rows
budget_same events (Thread name ∷ items) rows = budget_same events items rows
budget_same events (Procedure name ∷ items) rows = budget_same events items rows
budget_same events (Do line ∷ items) rows = budget_same events items rows
budget_same events (Schedule threads ∷ items) rows = budget_same events items rows

processes_same : (items : List ScriptLine) (rows : List (List Tid)) → filter_map process_of_item (with_rows items rows) ≡ filter_map process_of_item items
processes_same [] [] = refl
processes_same [] (row ∷ rows) = processes_same [] rows
processes_same (Budget given ∷ items) rows = processes_same items rows
processes_same (Process name limit ∷ items) rows = ap (λ others. script_process name limit ∷ others) (processes_same items rows)
processes_same (Child name parent ∷ items) rows = ap (λ others. script_child name parent ∷ others) (processes_same items rows)
processes_same (Spare name ∷ items) rows = processes_same items rows
processes_same (Thread name ∷ items) rows = processes_same items rows
processes_same (Procedure name ∷ items) rows = processes_same items rows
processes_same (Do line ∷ items) rows = processes_same items rows
processes_same (Schedule threads ∷ items) rows = processes_same items rows

order_same : (items : List ScriptLine) (rows : List (List Tid)) → filter_map part_of_item (with_rows items rows) ≡ filter_map part_of_item items
order_same [] [] = refl
order_same [] (row ∷ rows) = order_same [] rows
order_same (Budget given ∷ items) rows = order_same items rows
order_same (Process name limit ∷ items) rows = ap (λ others. ProcessPart ∷ others) (order_same items rows)
order_same (Child name parent ∷ items) rows = ap (λ others. ProcessPart ∷ others) (order_same items rows)
order_same (Spare name ∷ items) rows = ap (λ others. ThreadPart ∷ others) (order_same items rows)
order_same (Thread name ∷ items) rows = ap (λ others. ThreadPart ∷ others) (order_same items rows)
order_same (Procedure name ∷ items) rows = ap (λ others. ProcedurePart ∷ others) (order_same items rows)
order_same (Do line ∷ items) rows = order_same items rows
order_same (Schedule threads ∷ items) rows = order_same items rows

pub uses_same : (items : List ScriptLine) (rows : List (List Tid)) → flat_map path_uses (with_rows items rows) ≡ flat_map path_uses items
uses_same [] [] = refl
uses_same [] (row ∷ rows) = uses_same [] rows
uses_same (Budget given ∷ items) rows = uses_same items rows
uses_same (Process name limit ∷ items) rows = uses_same items rows
uses_same (Child name parent ∷ items) rows = uses_same items rows
uses_same (Spare name ∷ items) rows = uses_same items rows
uses_same (Thread name ∷ items) rows = uses_same items rows
uses_same (Procedure name ∷ items) rows = uses_same items rows
uses_same (Do line ∷ items) rows = ap (λ others. paths_of line ++ others) (uses_same items rows)
uses_same (Schedule threads ∷ items) rows = uses_same items rows

turns_same : (items : List ScriptLine) (rows : List (List Tid)) → flat_map turns_of_item (with_rows items rows) ≡ flat_map turns_of_item (map Schedule rows)
turns_same [] rows = refl
turns_same (Budget given ∷ items) rows = turns_same items rows
turns_same (Process name limit ∷ items) rows = turns_same items rows
turns_same (Child name parent ∷ items) rows = turns_same items rows
turns_same (Spare name ∷ items) rows = turns_same items rows
turns_same (Thread name ∷ items) rows = turns_same items rows
turns_same (Procedure name ∷ items) rows = turns_same items rows
turns_same (Do line ∷ items) rows = turns_same items rows
turns_same (Schedule threads ∷ items) rows = turns_same items rows

-- bodies

line_with_rows : (context : ContextValue) (line : Line) (items : List ScriptLine) (rows : List (List Tid)) (after : Option ℕ) → is_body context.place ≡ true
    → (is_body (context_at_depth context after).place ≡ true → body_from (context_at_depth context after).depth (with_rows items rows) ≡ body_from (context_at_depth context after).depth items)
    → before_line line after (λ depth. body_from depth (with_rows items rows)) ≡ before_line line after (λ depth. body_from depth items)
line_with_rows context line items rows None place same = refl
line_with_rows context line items rows (Some depth) place same = ap (λ lines. line ∷ lines) (same place)

body_same : (tables : Tables) (context : ContextValue) (items : List ScriptLine) (rows : List (List Tid)) → Stand tables context items → is_body context.place ≡ true → body_from context.depth (with_rows items rows) ≡ body_from context.depth items
body_same tables context [] rows stand place = absurd (false≢true (sym (closed_is_no_body context.place stand) ∙ place))
body_same tables context (Do line ∷ items) rows stand place =
    line_with_rows (context_with_variables context line) line items rows (depth_after context.depth (kind_of line)) place (body_same tables (context_after context (Do line)) items rows stand.others)
body_same tables context (item ∷ items) rows stand place = absurd (false≢true (sym (is_do_of_place context.place item stand.may_stand.of_place) ∙ place))

threads_same : (tables : Tables) (context : ContextValue) (process : ℕ) (items : List ScriptLine) (rows : List (List Tid)) → Stand tables context items → threads_from process (with_rows items rows) ≡ threads_from process items
threads_same tables context process [] [] stand = refl
threads_same tables context process [] (row ∷ rows) stand = threads_same tables context process [] rows stand
threads_same tables context process (Process name limit ∷ items) rows stand = threads_same tables (context_after context (Process name limit)) (process + 1) items rows stand.others
threads_same tables context process (Child name parent ∷ items) rows stand = threads_same tables (context_after context (Child name parent)) (process + 1) items rows stand.others
threads_same tables context process (Spare name ∷ items) rows stand = ap (λ others. script_thread process name true [] ∷ others) (threads_same tables (context_after context (Spare name)) process items rows stand.others)
threads_same tables context process (Thread name ∷ items) rows stand =
    rw (body_same tables (context_after context (Thread name)) items rows stand.others refl, threads_same tables (context_after context (Thread name)) process items rows stand.others) refl
threads_same tables context process (item ∷ items) rows stand = threads_same tables (context_after context item) process items rows stand.others

procedures_same : (tables : Tables) (context : ContextValue) (process : ℕ) (items : List ScriptLine) (rows : List (List Tid)) → Stand tables context items → procedures_from process (with_rows items rows) ≡ procedures_from process items
procedures_same tables context process [] [] stand = refl
procedures_same tables context process [] (row ∷ rows) stand = procedures_same tables context process [] rows stand
procedures_same tables context process (Process name limit ∷ items) rows stand = procedures_same tables (context_after context (Process name limit)) (process + 1) items rows stand.others
procedures_same tables context process (Child name parent ∷ items) rows stand = procedures_same tables (context_after context (Child name parent)) (process + 1) items rows stand.others
procedures_same tables context process (Procedure name ∷ items) rows stand =
    rw (body_same tables (context_after context (Procedure name)) items rows stand.others refl, procedures_same tables (context_after context (Procedure name)) process items rows stand.others) refl
procedures_same tables context process (item ∷ items) rows stand = procedures_same tables (context_after context item) process items rows stand.others

-- the rows of the canonical text
abbrev pub rows_of : List ScriptLine → List (List Tid)
rows_of items = rows_from 15 (flat_map turns_of_item items)

pub written_script : (version : ℕ) (tables : Tables) (paths : List (List ℕ)) (items : List ScriptLine) → Stand tables first_context items → script_of_items version paths (written items (rows_of items)) ≡ script_of_items version paths items
written_script version tables paths items stand =
    let rows = rows_of items in
    let budget = budget_same (budget_of items) items rows in
    let processes = processes_same items rows in
    let threads = threads_same tables first_context 0 items rows stand in
    let procedures = procedures_same tables first_context 0 items rows stand in
    let order = order_same items rows in
    let schedule = turns_same items rows ∙ turns_of_item-rows 15 (flat_map turns_of_item items) in
    rw (budget, processes, threads, procedures, order, schedule) refl

pub script_written : (version : ℕ) (tables : Tables) (paths : List (List ℕ)) (items : List ScriptLine) → Stand tables first_context items → items_of (script_of_items version paths items) ≡ written items (rows_of items)
script_written version tables paths items stand =
    ap (λ parts. Budget (budget_of items) ∷ parts ++ map Schedule (rows_of items)) (parts_limited 0 items ∙ parts_same tables first_context 0 items stand)
