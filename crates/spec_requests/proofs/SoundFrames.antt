-- What holds of each line of a script's bodies holds of the commands that are ahead in its threads' frames.
use Rattle.std.proofs.Common.{◌≡◌, ℕ, List, [], ◌∷◌, ◌++◌, Option, Some, None, Bool, true, false, if◌then◌else◌, refl, zero, suc}
use Rattle.std.specs.Prelude.{All, slice_get, ◌==◌}
use Rattle.std.proofs.lemmas.List.Elements.{All-nil, All-cons, All-head, All-tail, All-append}
use Rattle.spec_requests.specs.Types.{Answer, Event, Procedure, ScriptThread}
use Rattle.dk_base.specs.declared.answer.Answer.TheVariants as answer
use Rattle.dk_base.specs.ByNumber.{at_number}
use Rattle.script_lang.specs.Types.{Cond, Kind, Line}
use Rattle.line_forms.specs.declared.line.Kind.TheVariants.{Act, Loop, Test, Closing}
use Rattle.line_forms.specs.Words.{kind_of}
use Rattle.script_lang.specs.Words.{ScriptValue}
use Rattle.spec_requests.specs.Requests.{Frame, is_met, new_frame, first_frame_or_empty, first_frame, body_or_empty, procedure_body, procedure_frame, steps_after, frame_after_command, frame_after_answer, frame_after}
use Rattle.spec_requests.specs.Steps.{BodyStep, copies, innermost_block, outer_blocks, before_innermost, tested_steps, line_before, blocks_of, steps_of_body, next_steps, times_of, tested_condition}
use Rattle.spec_requests.specs.Steps.BodyStep.{Do, When}
use Rattle.spec_requests.specs.Variables.{Variables}

-- a step that is a command of which P holds, or a test
abbrev pub IsStep : (Line → Type 0) → BodyStep → Type 0
IsStep P (Do line) = (kind_of line ≡ Act) × P line
IsStep P (When cond n) = Unit {0}

abbrev pub AreSteps : (Line → Type 0) → List BodyStep → Type 0
AreSteps P steps = All (IsStep P) steps

-- of each block
abbrev AreBlocks : (Line → Type 0) → List (List BodyStep) → Type 0
AreBlocks P blocks = All (AreSteps P) blocks

innermost_block-steps : (P : Line → Type 0) (blocks : List (List BodyStep)) → AreBlocks P blocks → AreSteps P (innermost_block blocks)
innermost_block-steps P [] h = All-nil (IsStep P)
innermost_block-steps P (block ∷ blocks) h = All-head (AreSteps P) block blocks h

outer_blocks-blocks : (P : Line → Type 0) (blocks : List (List BodyStep)) → AreBlocks P blocks → AreBlocks P (outer_blocks blocks)
outer_blocks-blocks P [] h = h
outer_blocks-blocks P (block ∷ blocks) h = All-tail (AreSteps P) block blocks h

before_innermost-blocks :
    (P : Line → Type 0) (steps : List BodyStep) (blocks : List (List BodyStep)) →
    AreSteps P steps → AreBlocks P blocks → AreBlocks P (before_innermost steps blocks)
before_innermost-blocks P steps blocks first h =
    All-cons
    (AreSteps P)
    (steps ++ innermost_block blocks)
    (outer_blocks blocks)
    (All-append (IsStep P) steps (innermost_block blocks) first (innermost_block-steps P blocks h))
    (outer_blocks-blocks P blocks h)

copies-steps : (P : Line → Type 0) (n : ℕ) (steps : List BodyStep) → AreSteps P steps → AreSteps P (copies n steps)
copies-steps P zero steps h = All-nil (IsStep P)
copies-steps P (suc n) steps h = All-append (IsStep P) steps (copies n steps) h (copies-steps P n steps h)

tested_steps-steps : (P : Line → Type 0) (cond : Cond) (block : List BodyStep) → AreSteps P block → AreSteps P (tested_steps cond block)
tested_steps-steps P cond block h = All-cons (IsStep P) (When cond _) block tt h

line_before-blocks :
    (P : Line → Type 0) (line : Line) (kind : Kind) (blocks : List (List BodyStep)) → kind_of line ≡ kind →
    P line → AreBlocks P blocks → AreBlocks P (line_before line kind blocks)
line_before-blocks P line Act blocks same here h =
    before_innermost-blocks P (Do line ∷ []) blocks (All-cons (IsStep P) (Do line) [] (same, here) (All-nil (IsStep P))) h
line_before-blocks P line Loop blocks same here h =
    before_innermost-blocks
    P
    (copies (times_of line) (innermost_block blocks))
    (outer_blocks blocks)
    (copies-steps P (times_of line) (innermost_block blocks) (innermost_block-steps P blocks h))
    (outer_blocks-blocks P blocks h)
line_before-blocks P line Test blocks same here h =
    before_innermost-blocks
    P
    (tested_steps (tested_condition line) (innermost_block blocks))
    (outer_blocks blocks)
    (tested_steps-steps P (tested_condition line) (innermost_block blocks) (innermost_block-steps P blocks h))
    (outer_blocks-blocks P blocks h)
line_before-blocks P line Closing blocks same here h = All-cons (AreSteps P) [] blocks (All-nil (IsStep P)) h

blocks_of-blocks : (P : Line → Type 0) (lines : List Line) → All P lines → AreBlocks P (blocks_of lines)
blocks_of-blocks P [] h = All-nil (AreSteps P)
blocks_of-blocks P (line ∷ lines) h =
    line_before-blocks
    P
    line
    (kind_of line)
    (blocks_of lines)
    refl
    (All-head P line lines h)
    (blocks_of-blocks P lines (All-tail P line lines h))

steps_of_body-steps : (P : Line → Type 0) (body : List Line) → All P body → AreSteps P (steps_of_body body)
steps_of_body-steps P body h = innermost_block-steps P (blocks_of body) (blocks_of-blocks P body h)

next_steps-steps :
    (P : Line → Type 0) (test : Cond → Bool) (skip : ℕ) (steps : List BodyStep) → AreSteps P steps → AreSteps P (next_steps test skip steps)
next_steps-steps P test skip [] h = h
next_steps-steps P test (suc skip) (step ∷ steps) h = next_steps-steps P test skip steps (All-tail (IsStep P) step steps h)
next_steps-steps P test zero (Do line ∷ steps) h = h
next_steps-steps P test zero (When cond n ∷ steps) h =
    next_steps-steps P test (if test cond then 0 else n) steps (All-tail (IsStep P) (When cond n) steps h)

steps_after-steps : (P : Line → Type 0) (steps : List BodyStep) → AreSteps P steps → AreSteps P (steps_after steps)
steps_after-steps P [] h = h
steps_after-steps P (step ∷ steps) h = All-tail (IsStep P) step steps h

-- P holds of each command that is ahead in a frame
pub record IsFrame (P : Line → Type 0) (f : Frame) : Type 0 where
  pub steps : AreSteps P f.steps

new_frame-frame :
    (P : Line → Type 0) (procedure notice : Bool) (variables : Variables) (body : List Line) → All P body →
    IsFrame P (new_frame procedure notice variables body)
new_frame-frame P procedure notice variables body h =
    record { steps = next_steps-steps P (is_met answer.Done notice) 0 (steps_of_body body) (steps_of_body-steps P body h) }

-- P holds of each line of the body in which a thread begins
abbrev pub BeginsWith : (Line → Type 0) → ScriptValue → ℕ → Type 0
BeginsWith P script u = (x : ScriptThread) → at_number script.threads u ≡ Some x → All P x.body

pub first_frame-frame : (P : Line → Type 0) (script : ScriptValue) (u : ℕ) → BeginsWith P script u → IsFrame P (first_frame script u)
first_frame-frame P script u h = by_thread (at_number script.threads u) refl
  where
    by_spare : (x : ScriptThread) (spare : Bool) (variables : Variables) → All P x.body → IsFrame P (new_frame spare false variables (if spare then [] else x.body))
    by_spare x true variables all = new_frame-frame P true false variables [] (All-nil P)
    by_spare x false variables all = new_frame-frame P false false variables x.body all

    by_thread : (o : Option ScriptThread) → at_number script.threads u ≡ o → IsFrame P (first_frame_or_empty o)
    by_thread None e = new_frame-frame P false false _ [] (All-nil P)
    by_thread (Some x) e = by_spare x x.spare _ (h x e)

-- and of each line of a procedure
abbrev pub EntersLines : (Line → Type 0) → ScriptValue → ℕ → Type 0
EntersLines P script entry = (x : Procedure) → slice_get script.procedures entry ≡ Some x → All P x.body

-- of the one that an answer says to be entered, if it says so
abbrev pub AnswerEntersLines : (Line → Type 0) → ScriptValue → Answer → Type 0
AnswerEntersLines P script (answer.Entered call entry cookie bytes fds) = EntersLines P script entry
AnswerEntersLines P script (answer.EnteredNotice notice entry cookie) = EntersLines P script entry
AnswerEntersLines P script a = Unit {0}

procedure_frame-frame :
    (P : Line → Type 0) (script : ScriptValue) (entry : ℕ) (notice : Bool) (variables : Variables) → EntersLines P script entry →
    IsFrame P (procedure_frame script entry notice variables)
procedure_frame-frame P script entry notice variables h =
    new_frame-frame P true notice variables (procedure_body script entry) (by_procedure (slice_get script.procedures entry) refl)
  where
    by_procedure : (o : Option Procedure) → slice_get script.procedures entry ≡ o → All P (body_or_empty o)
    by_procedure None e = All-nil P
    by_procedure (Some x) e = h x e

frame_after_command-frame : (P : Line → Type 0) (f : Frame) (a : Answer) → IsFrame P f → IsFrame P (frame_after_command f a)
frame_after_command-frame P f a h =
    record { steps = next_steps-steps P (is_met a f.notice) 0 (steps_after f.steps) (steps_after-steps P f.steps h.steps) }

frame_after_answer-frame :
    (P : Line → Type 0) (script : ScriptValue) (f : Frame) (a : Answer) → AnswerEntersLines P script a → IsFrame P f →
    IsFrame P (frame_after_answer script f a)
frame_after_answer-frame P script f (answer.Entered call entry cookie bytes fds) s h = procedure_frame-frame P script entry false _ s
frame_after_answer-frame P script f (answer.EnteredNotice notice entry cookie) s h = procedure_frame-frame P script entry true _ s
frame_after_answer-frame P script f answer.Wait s h = h
frame_after_answer-frame P script f (answer.WaitCall call) s h = h
frame_after_answer-frame P script f (answer.EnterFailed call) s h = h
frame_after_answer-frame P script f a s h = frame_after_command-frame P f a h

-- by an answer of its thread, or another's
pub frame_after-frame :
    (P : Line → Type 0) (script : ScriptValue) (u : ℕ) (f : Frame) (e : Event) →
    ((e.thread.0 == u) ≡ true → AnswerEntersLines P script e.answer) → IsFrame P f → IsFrame P (frame_after script u f e)
frame_after-frame P script u f e s h = by_test (e.thread.0 == u) refl
  where
    by_test : (b : Bool) → (e.thread.0 == u) ≡ b → IsFrame P (if b then frame_after_answer script f e.answer else f)
    by_test true same = frame_after_answer-frame P script f e.answer (s same) h
    by_test false same = h

-- where a frame stays or becomes a procedure's

pub frame_after_answer-procedure : (script : ScriptValue) (f : Frame) (a : Answer) → f.procedure ≡ true → (frame_after_answer script f a).procedure ≡ true
frame_after_answer-procedure script f (answer.Entered call entry cookie bytes fds) h = refl
frame_after_answer-procedure script f (answer.EnteredNotice notice entry cookie) h = refl
frame_after_answer-procedure script f a h = h
