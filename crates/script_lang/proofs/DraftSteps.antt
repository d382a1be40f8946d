-- The script of a draft with one more line.
use Rattle.std.proofs.Common.{◌≡◌, ℕ, Bool, true, false, List, ◌∷◌, length, Option, Some, None, refl, sym, ap, subst, ◌∙◌}
use Rattle.std.proofs.lemmas.List.{append_assoc, append-nil, length-append}
use Rattle.std.proofs.lemmas.Bool.{false≢true}
use Rattle.line_text.specs.Types.{Tid}
use Rattle.script_lang.specs.Types.{Line}
use Rattle.line_forms.specs.Words.{depth_after, kind_of}
use Rattle.script_lang.specs.declared.draft.Draft.{Draft}
use Rattle.script_lang.specs.declared.draft.Owner.{Owner}
use Rattle.script_lang.specs.declared.draft.Owner.TheVariants.{Nobody, Thread as OfThread, Procedure as OfProcedure}
use Rattle.script_lang.specs.declared.item.ScriptLine.{ScriptLine}
use Rattle.script_lang.specs.declared.item.ScriptLine.TheVariants.{Budget, Process, Child, Spare, Thread, Procedure, Do, Schedule}
use Rattle.script_lang.specs.declared.item.ScriptPlace.{ScriptPlace}
use Rattle.script_lang.specs.declared.item.ScriptPlace.TheVariants.{Start, Processes, Members, Body, Schedule as Scheduled}
use Rattle.script_lang.specs.Spelled.{is_of_place}
use Rattle.script_lang.specs.declared.script.Part.{Part}
use Rattle.script_lang.specs.declared.script.Procedure.{Procedure as ScriptProcedure}
use Rattle.script_lang.specs.declared.script.ScriptProcess.{ScriptProcess}
use Rattle.script_lang.specs.declared.script.ScriptThread.{ScriptThread}
use Rattle.script_lang.specs.Context.{ContextValue, context_after, context_at_depth, context_with_variables}
use Rattle.script_lang.specs.Drafts.{draft_after, draft_after_body_of, draft_with_line, script_with}
use Rattle.script_lang.specs.TextReaderContracts.{has_owner, is_body, Agrees}

abbrev pub is_do : ScriptLine → Bool
is_do (Do line) = true
is_do item = false

true≢false : true ≡ false → ⊥
true≢false h = false≢true (sym h)

-- how many blocks are open in the body that an item begins
abbrev depth_after_item : ScriptLine → ℕ → ℕ
depth_after_item (Thread name) depth = 0
depth_after_item (Procedure name) depth = 0
depth_after_item item depth = depth

module _ (version : ℕ) (paths : List (List ℕ)) (budget : ℕ) (processes : List ScriptProcess) (threads : List ScriptThread) (procedures : List ScriptProcedure) (order : List Part) (schedule : List Tid) (body : List Line) where
  draft_with : Owner → Draft
  draft_with owner = record { budget = budget; processes = processes; threads = threads; procedures = procedures; order = order; schedule = schedule; owner = owner; body = body }

  line_ends : (owner : Owner) (depth after : ℕ) (line : Line) (items : List ScriptLine) → depth_after depth (kind_of line) ≡ None → has_owner owner ≡ true
      → script_with version paths (draft_with_line (draft_with owner) line None) after items ≡ script_with version paths (draft_with owner) depth (Do line ∷ items)
  unfolding draft_with
  line_ends Nobody depth after line items e h = absurd (false≢true h)
  line_ends (OfThread name) depth after line items e h = rw e (simp (append_assoc, append-nil))
  line_ends (OfProcedure name) depth after line items e h = rw e (simp (append_assoc, append-nil))

  line_goes_on : (owner : Owner) (depth after : ℕ) (line : Line) (items : List ScriptLine) → depth_after depth (kind_of line) ≡ Some after → has_owner owner ≡ true
      → script_with version paths (draft_with_line (draft_with owner) line (Some after)) after items ≡ script_with version paths (draft_with owner) depth (Do line ∷ items)
  unfolding draft_with
  line_goes_on Nobody depth after line items e h = absurd (false≢true h)
  line_goes_on (OfThread name) depth after line items e h = rw e (simp (append_assoc, append-nil))
  line_goes_on (OfProcedure name) depth after line items e h = rw e (simp (append_assoc, append-nil))

  item_more : (item : ScriptLine) (depth after : ℕ) (items : List ScriptLine) → is_do item ≡ false
      → script_with version paths (draft_after (draft_with Nobody) depth item) (depth_after_item item depth) items ≡ script_with version paths (draft_with Nobody) depth (item ∷ items)
  unfolding draft_with
  item_more (Budget events) depth after items h = refl
  item_more (Process name limit) depth after items h = simp (append_assoc, append-nil, length-append)
  item_more (Child name parent) depth after items h = simp (append_assoc, append-nil, length-append)
  item_more (Spare name) depth after items h = simp (append_assoc, append-nil)
  item_more (Thread name) depth after items h = simp (append_assoc, append-nil)
  item_more (Procedure name) depth after items h = simp (append_assoc, append-nil)
  item_more (Do line) depth after items h = absurd (true≢false h)
  item_more (Schedule turns) depth after items h = simp (append_assoc, append-nil)

pub is_do_of_place : (place : ScriptPlace) (item : ScriptLine) → is_of_place place item ≡ true → is_body place ≡ is_do item
is_do_of_place Start (Budget events) h = refl
is_do_of_place Start (Process name limit) h = refl
is_do_of_place Start (Child name parent) h = refl
is_do_of_place Start (Schedule threads) h = refl
is_do_of_place Start (Spare name) h = absurd (false≢true h)
is_do_of_place Start (Thread name) h = absurd (false≢true h)
is_do_of_place Start (Procedure name) h = absurd (false≢true h)
is_do_of_place Start (Do line) h = absurd (false≢true h)
is_do_of_place Processes (Process name limit) h = refl
is_do_of_place Processes (Child name parent) h = refl
is_do_of_place Processes (Schedule threads) h = refl
is_do_of_place Processes (Budget events) h = absurd (false≢true h)
is_do_of_place Processes (Spare name) h = absurd (false≢true h)
is_do_of_place Processes (Thread name) h = absurd (false≢true h)
is_do_of_place Processes (Procedure name) h = absurd (false≢true h)
is_do_of_place Processes (Do line) h = absurd (false≢true h)
is_do_of_place Members (Process name limit) h = refl
is_do_of_place Members (Child name parent) h = refl
is_do_of_place Members (Spare name) h = refl
is_do_of_place Members (Thread name) h = refl
is_do_of_place Members (Procedure name) h = refl
is_do_of_place Members (Schedule threads) h = refl
is_do_of_place Members (Budget events) h = absurd (false≢true h)
is_do_of_place Members (Do line) h = absurd (false≢true h)
is_do_of_place Body (Do line) h = refl
is_do_of_place Body (Budget events) h = absurd (false≢true h)
is_do_of_place Body (Process name limit) h = absurd (false≢true h)
is_do_of_place Body (Child name parent) h = absurd (false≢true h)
is_do_of_place Body (Spare name) h = absurd (false≢true h)
is_do_of_place Body (Thread name) h = absurd (false≢true h)
is_do_of_place Body (Procedure name) h = absurd (false≢true h)
is_do_of_place Body (Schedule threads) h = absurd (false≢true h)
is_do_of_place Scheduled (Schedule threads) h = refl
is_do_of_place Scheduled (Budget events) h = absurd (false≢true h)
is_do_of_place Scheduled (Process name limit) h = absurd (false≢true h)
is_do_of_place Scheduled (Child name parent) h = absurd (false≢true h)
is_do_of_place Scheduled (Spare name) h = absurd (false≢true h)
is_do_of_place Scheduled (Thread name) h = absurd (false≢true h)
is_do_of_place Scheduled (Procedure name) h = absurd (false≢true h)
is_do_of_place Scheduled (Do line) h = absurd (false≢true h)

-- how many blocks are open after an item
abbrev depth_then : ℕ → Option ℕ → ℕ
depth_then depth None = depth
depth_then depth (Some after) = after

line_more : (version : ℕ) (paths : List (List ℕ)) (draft : Draft) (depth : ℕ) (after : Option ℕ) (line : Line) (items : List ScriptLine) → depth_after depth (kind_of line) ≡ after → has_owner draft.owner ≡ true
    → script_with version paths (draft_with_line draft line after) (depth_then depth after) items ≡ script_with version paths draft depth (Do line ∷ items)
unfolding draft_with
line_more version paths draft depth None line items e h = line_ends version paths draft.budget draft.processes draft.threads draft.procedures draft.order draft.schedule draft.body draft.owner depth depth line items e h
line_more version paths draft depth (Some after) line items e h = line_goes_on version paths draft.budget draft.processes draft.threads draft.procedures draft.order draft.schedule draft.body draft.owner depth after line items e h

with_depth_then : (context : ContextValue) (after : Option ℕ) → (context_at_depth context after).depth ≡ depth_then context.depth after
with_depth_then context None = refl
with_depth_then context (Some after) = refl

no_owner : (owner : Owner) → has_owner owner ≡ false → owner ≡ Nobody
no_owner Nobody h = refl
no_owner (OfThread name) h = absurd (true≢false h)
no_owner (OfProcedure name) h = absurd (true≢false h)

depth_after_is : (context : ContextValue) (item : ScriptLine) → is_do item ≡ false → (context_after context item).depth ≡ depth_after_item item context.depth
depth_after_is context (Budget events) h = refl
depth_after_is context (Process name limit) h = refl
depth_after_is context (Child name parent) h = refl
depth_after_is context (Spare name) h = refl
depth_after_is context (Thread name) h = refl
depth_after_is context (Procedure name) h = refl
depth_after_is context (Do line) h = absurd (true≢false h)
depth_after_is context (Schedule threads) h = refl

other_more : (version : ℕ) (paths : List (List ℕ)) (draft : Draft) (depth : ℕ) (item : ScriptLine) (items : List ScriptLine) → is_do item ≡ false → draft.owner ≡ Nobody
    → script_with version paths (draft_after draft depth item) (depth_after_item item depth) items ≡ script_with version paths draft depth (item ∷ items)
unfolding draft_with
other_more version paths draft depth item items h e =
    let with_owner : Owner → Draft = λ owner. record { budget = draft.budget; processes = draft.processes; threads = draft.threads; procedures = draft.procedures; order = draft.order; schedule = draft.schedule; owner = owner; body = draft.body } in
    subst (λ owner. script_with version paths (draft_after (with_owner owner) depth item) (depth_after_item item depth) items ≡ script_with version paths (with_owner owner) depth (item ∷ items)) (sym e)
    (item_more version paths draft.budget draft.processes draft.threads draft.procedures draft.order draft.schedule draft.body item depth depth items h)

draft_more_as : (version : ℕ) (paths : List (List ℕ)) (draft : Draft) (context : ContextValue) (item : ScriptLine) (items : List ScriptLine) → has_owner draft.owner ≡ is_do item
    → script_with version paths (draft_after draft context.depth item) (context_after context item).depth items ≡ script_with version paths draft context.depth (item ∷ items)
draft_more_as version paths draft context (Budget events) items h = other_more version paths draft context.depth (Budget events) items refl (no_owner draft.owner h)
draft_more_as version paths draft context (Process name limit) items h = other_more version paths draft context.depth (Process name limit) items refl (no_owner draft.owner h)
draft_more_as version paths draft context (Child name parent) items h = other_more version paths draft context.depth (Child name parent) items refl (no_owner draft.owner h)
draft_more_as version paths draft context (Spare name) items h = other_more version paths draft context.depth (Spare name) items refl (no_owner draft.owner h)
draft_more_as version paths draft context (Thread name) items h = other_more version paths draft context.depth (Thread name) items refl (no_owner draft.owner h)
draft_more_as version paths draft context (Procedure name) items h = other_more version paths draft context.depth (Procedure name) items refl (no_owner draft.owner h)
draft_more_as version paths draft context (Schedule threads) items h = other_more version paths draft context.depth (Schedule threads) items refl (no_owner draft.owner h)
draft_more_as version paths draft context (Do line) items h =
    rw (with_depth_then (context_with_variables context line) (depth_after context.depth (kind_of line))) (line_more version paths draft context.depth (depth_after context.depth (kind_of line)) line items refl h)

-- the script of a draft with one more line
pub draft_more : (version : ℕ) (paths : List (List ℕ)) (draft : Draft) (context : ContextValue) (item : ScriptLine) (items : List ScriptLine) → Agrees draft context → is_of_place context.place item ≡ true
    → script_with version paths (draft_after draft context.depth item) (context_after context item).depth items ≡ script_with version paths draft context.depth (item ∷ items)
draft_more version paths draft context item items h p = draft_more_as version paths draft context item items (h.in_body ∙ is_do_of_place context.place item p)

owner_closed : (draft : Draft) (owner : Owner) → has_owner (draft_after_body_of draft owner).owner ≡ false
owner_closed draft Nobody = refl
owner_closed draft (OfThread name) = refl
owner_closed draft (OfProcedure name) = refl

owner_after_line : (draft : Draft) (context : ContextValue) (line : Line) (after : Option ℕ) → has_owner draft.owner ≡ true → is_body context.place ≡ true
    → has_owner (draft_with_line draft line after).owner ≡ is_body (context_at_depth context after).place
owner_after_line draft context line None h p = owner_closed draft draft.owner
owner_after_line draft context line (Some depth) h p = h ∙ sym p

processes_closed : (draft : Draft) (owner : Owner) → (draft_after_body_of draft owner).processes ≡ draft.processes
processes_closed draft Nobody = refl
processes_closed draft (OfThread name) = refl
processes_closed draft (OfProcedure name) = refl

processes_after_line : (draft : Draft) (context : ContextValue) (line : Line) (after : Option ℕ) → length draft.processes ≡ length context.processes
    → length (draft_with_line draft line after).processes ≡ length (context_at_depth context after).processes
processes_after_line draft context line None h = ap length (processes_closed draft draft.owner) ∙ h
processes_after_line draft context line (Some depth) h = h

-- a draft goes on agreeing with what stands before
pub agrees_more : (draft : Draft) (context : ContextValue) (item : ScriptLine) → Agrees draft context → is_of_place context.place item ≡ true → Agrees (draft_after draft context.depth item) (context_after context item)
agrees_more draft context (Budget events) h p = record { in_body = h.in_body ∙ is_do_of_place context.place (Budget events) p; processes = h.processes }
agrees_more draft context (Process name limit) h p = record { in_body = h.in_body ∙ is_do_of_place context.place (Process name limit) p; processes = simp length-append (rw h.processes refl) }
agrees_more draft context (Child name parent) h p = record { in_body = h.in_body ∙ is_do_of_place context.place (Child name parent) p; processes = simp length-append (rw h.processes refl) }
agrees_more draft context (Spare name) h p = record { in_body = h.in_body; processes = h.processes }
agrees_more draft context (Thread name) h p = record { in_body = refl; processes = h.processes }
agrees_more draft context (Procedure name) h p = record { in_body = refl; processes = h.processes }
agrees_more draft context (Schedule threads) h p = record { in_body = h.in_body ∙ is_do_of_place context.place (Schedule threads) p; processes = h.processes }
agrees_more draft context (Do line) h p =
    let q : is_body context.place ≡ true = is_do_of_place context.place (Do line) p in
    record {
      in_body = owner_after_line draft (context_with_variables context line) line (depth_after context.depth (kind_of line)) (h.in_body ∙ q) q;
      processes = processes_after_line draft (context_with_variables context line) line (depth_after context.depth (kind_of line)) h.processes;
    }
