-- The lines of a script's parts, from the script and back.
use Rattle.std.proofs.Common.{◌≡◌, ℕ, Bool, true, false, ◌+◌, List, [], ◌∷◌, ◌++◌, Option, Some, None, map, refl, ap, ◌∙◌, subst}
use Rattle.std.specs.List.{filter, filter_map}
use Rattle.std.proofs.lemmas.Bool.{false≢true}
use Rattle.std.proofs.lemmas.List.{append_assoc}
use Rattle.script_lang.specs.Types.{Kind, Line}
use Rattle.line_forms.specs.declared.line.Kind.TheVariants.{Act, Loop, Test, Closing}
use Rattle.line_forms.specs.declared.line.Line.TheVariants.{Repeat, If, End}
use Rattle.line_forms.specs.Words.{Tables, depth_after, kind_of}
use Rattle.script_lang.specs.declared.item.ScriptLine.{ScriptLine}
use Rattle.script_lang.specs.declared.item.ScriptLine.TheVariants.{Budget, Process, Child, Spare, Thread, Procedure, Do, Schedule}
use Rattle.script_lang.specs.declared.item.ScriptPlace.{ScriptPlace}
use Rattle.script_lang.specs.declared.item.ScriptPlace.TheVariants.{Start, Processes, Members, Body, Schedule as Scheduled}
use Rattle.script_lang.specs.declared.script.Part.{Part}
use Rattle.script_lang.specs.declared.script.Part.TheVariants.{Process as ProcessPart, Thread as ThreadPart, Procedure as ProcedurePart}
use Rattle.script_lang.specs.declared.script.Procedure.{Procedure as ScriptProcedure}
use Rattle.script_lang.specs.declared.script.ScriptProcess.{ScriptProcess}
use Rattle.script_lang.specs.declared.script.ScriptThread.{ScriptThread}
use Rattle.script_lang.specs.Context.{ContextValue, context_after, is_closed_place, context_at_depth, context_with_variables}
use Rattle.script_lang.specs.TextReaderContracts.{is_body}
use Rattle.script_lang.specs.Scripts.{process_item, process_of_item, with_limits, threads_from, procedures_from, part_of_item, body_from, before_line, part_items, procedure_items, thread_items}
use Rattle.script_lang.proofs.DraftSteps.{is_do_of_place}
use Rattle.script_lang.proofs.ChildLimits.{item_kept, kept-with_limits}
use Rattle.script_lang.proofs.Stand.{Stand}

-- neither a budget nor a part of the schedule
abbrev pub is_part : ScriptLine → Bool
is_part (Budget events) = false
is_part (Process name limit) = true
is_part (Child name parent) = true
is_part (Spare name) = true
is_part (Thread name) = true
is_part (Procedure name) = true
is_part (Do line) = true
is_part (Schedule threads) = false

abbrev pub parts_in : List ScriptLine → List ScriptLine
parts_in items = filter is_part items

-- the lines of the parts of these lines, where so many processes stand before
abbrev pub parts_again : ℕ → List ScriptLine → List ScriptLine
parts_again process items = part_items (filter_map part_of_item items) (filter_map process_of_item items) (threads_from process items) (procedures_from process items)

-- with the rest of a body before, where one has begun
abbrev with_open : Bool → ℕ → List ScriptLine → List ScriptLine → List ScriptLine
with_open false depth items others = others
with_open true depth items others = map Do (body_from depth items) ++ Do End ∷ others

close_is_end : (line : Line) → kind_of line ≡ Closing → line ≡ End
close_is_end End h = refl
close_is_end (Repeat times) h = cc
close_is_end (If cond) h = cc
close_is_end line h = cc

body_ends : (depth : ℕ) (kind : Kind) → depth_after depth kind ≡ None → kind ≡ Closing
body_ends depth Act h = cc
body_ends depth Loop h = cc
body_ends depth Test h = cc
body_ends depth Closing h = refl

pub closed_is_no_body : (place : ScriptPlace) → is_closed_place place ≡ true → is_body place ≡ false
closed_is_no_body Start h = refl
closed_is_no_body Processes h = refl
closed_is_no_body Members h = refl
closed_is_no_body Body h = absurd (false≢true h)
closed_is_no_body Scheduled h = refl

-- what is shown of the lines after these
abbrev Same : ContextValue → ℕ → List ScriptLine → Type 0
Same context process items = with_open (is_body context.place) context.depth items (parts_again process items) ≡ parts_in items

line_same : (context : ContextValue) (process : ℕ) (line : Line) (items : List ScriptLine) (after : Option ℕ) → depth_after context.depth (kind_of line) ≡ after → is_body context.place ≡ true → Same (context_at_depth (context_with_variables context line) after) process items
    → map Do (before_line line after (λ depth. body_from depth items)) ++ Do End ∷ parts_again process items ≡ Do line ∷ parts_in items
line_same context process line items None e place same =
    rw (close_is_end line (body_ends context.depth (kind_of line) e)) (ap (λ others. Do End ∷ others) same)
line_same context process line items (Some depth) e place same =
    ap (λ others. Do line ∷ others) (subst (λ b. with_open b depth items (parts_again process items) ≡ parts_in items) place same)

-- the parts' lines again
pub parts_same : (tables : Tables) (context : ContextValue) (process : ℕ) (items : List ScriptLine) → Stand tables context items → Same context process items
parts_same tables context process [] stand = rw (closed_is_no_body context.place stand) refl
parts_same tables context process (Budget events ∷ items) stand =
    rw (is_do_of_place context.place (Budget events) stand.may_stand.of_place) (parts_same tables (context_after context (Budget events)) process items stand.others)
parts_same tables context process (Process name limit ∷ items) stand =
    rw (is_do_of_place context.place (Process name limit) stand.may_stand.of_place) (ap (λ others. Process name limit ∷ others) (parts_same tables (context_after context (Process name limit)) (process + 1) items stand.others))
parts_same tables context process (Child name parent ∷ items) stand =
    rw (is_do_of_place context.place (Child name parent) stand.may_stand.of_place) (ap (λ others. Child name parent ∷ others) (parts_same tables (context_after context (Child name parent)) (process + 1) items stand.others))
parts_same tables context process (Spare name ∷ items) stand =
    let place = is_do_of_place context.place (Spare name) stand.may_stand.of_place in
    rw place (ap (λ others. Spare name ∷ others) (subst (λ b. with_open b context.depth items (parts_again process items) ≡ parts_in items) place (parts_same tables (context_after context (Spare name)) process items stand.others)))
parts_same tables context process (Thread name ∷ items) stand =
    rw (is_do_of_place context.place (Thread name) stand.may_stand.of_place) (ap (λ others. Thread name ∷ others) (append_assoc (map Do (body_from 0 items)) (Do End ∷ []) (parts_again process items) ∙ parts_same tables (context_after context (Thread name)) process items stand.others))
parts_same tables context process (Procedure name ∷ items) stand =
    rw (is_do_of_place context.place (Procedure name) stand.may_stand.of_place) (ap (λ others. Procedure name ∷ others) (append_assoc (map Do (body_from 0 items)) (Do End ∷ []) (parts_again process items) ∙ parts_same tables (context_after context (Procedure name)) process items stand.others))
parts_same tables context process (Do line ∷ items) stand =
    let place = is_do_of_place context.place (Do line) stand.may_stand.of_place in
    rw place (line_same context process line items (depth_after context.depth (kind_of line)) refl place (parts_same tables (context_after context (Do line)) process items stand.others))
parts_same tables context process (Schedule threads ∷ items) stand =
    rw (is_do_of_place context.place (Schedule threads) stand.may_stand.of_place) (parts_same tables (context_after context (Schedule threads)) process items stand.others)

-- of processes their lines alone count

parts_alike : (order : List Part) (processes others : List ScriptProcess) (threads : List ScriptThread) (procedures : List ScriptProcedure) → map process_item processes ≡ map process_item others
    → part_items order processes threads procedures ≡ part_items order others threads procedures
parts_alike [] processes others threads procedures same = refl
parts_alike (ProcessPart ∷ order) [] [] threads procedures same = refl
parts_alike (ProcessPart ∷ order) [] (other ∷ others) threads procedures same = cc
parts_alike (ProcessPart ∷ order) (process ∷ processes) [] threads procedures same = cc
parts_alike (ProcessPart ∷ order) (process ∷ processes) (other ∷ others) threads procedures same =
    let first : process_item process ≡ process_item other = cc in
    let later : map process_item processes ≡ map process_item others = cc in
    rw (first, parts_alike order processes others threads procedures later) refl
parts_alike (ThreadPart ∷ order) processes others [] procedures same = refl
parts_alike (ThreadPart ∷ order) processes others (thread ∷ threads) procedures same = ap (λ items. thread_items thread thread.spare ++ items) (parts_alike order processes others threads procedures same)
parts_alike (ProcedurePart ∷ order) processes others threads [] same = refl
parts_alike (ProcedurePart ∷ order) processes others threads (procedure ∷ procedures) same = ap (λ items. procedure_items procedure ++ items) (parts_alike order processes others threads procedures same)

pub parts_limited : (process : ℕ) (items : List ScriptLine) → part_items (filter_map part_of_item items) (with_limits [] (filter_map process_of_item items)) (threads_from process items) (procedures_from process items) ≡ parts_again process items
parts_limited process items =
    parts_alike (filter_map part_of_item items) (with_limits [] (filter_map process_of_item items)) (filter_map process_of_item items) (threads_from process items) (procedures_from process items) (kept-with_limits process_item item_kept (filter_map process_of_item items))
