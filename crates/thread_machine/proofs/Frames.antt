-- A machine stands where its frame does.
use Rattle.std.proofs.Common.{◌≡◌, ℕ, ◌+◌, ◌<◌, Bool, true, false, List, [], ◌∷◌, length, drop, Some, None, refl, ap, ◌∙◌, sym, subst, arith}
use Rattle.std.specs.Prelude.{slice_get}
use Rattle.line_text.specs.Types.{Answer}
use Rattle.dk_base.specs.declared.answer.Answer.TheVariants as answer
use Rattle.script_lang.specs.Types.{Cond, Line}
use Rattle.line_forms.specs.declared.line.Cond.TheVariants as cond
use Rattle.line_forms.specs.declared.line.Kind.TheVariants.{Act}
use Rattle.line_forms.specs.Words.{kind_of}
use Rattle.script_lang.specs.Words.{ScriptValue}
use Rattle.spec_requests.specs.Words.{BodyStep, Frame, Variables, arguments, empty_value, frame_after_answer, frame_after_command, is_met, next_steps, procedure_body, request_ahead, request_at, request_at_end, request_of, set_each, steps_after, steps_of_body, values_of, vars_ahead, vars_of, with_both}
use Rattle.spec_requests.specs.Steps.BodyStep.{Do}
use Rattle.thread_machine.specs.declared.known.TestContext.{TestContext}
use Rattle.thread_machine.specs.declared.machine.Machine.{Machine}
use Rattle.thread_machine.specs.declared.machine.AnswerEffect.TheVariants as effect
use Rattle.thread_machine.specs.Bodies.{IsBody, IsSpelledLine}
use Rattle.thread_machine.specs.LastAnswers.{is_met_in, last_answer}
use Rattle.thread_machine.specs.Machines.{IsPlaced, IsMachine, HasDeclaredEntry, Stands, Precedes, Settles, StartsFrameOf, StartsFrame, effect_of, machine_lines, is_in_procedure}
use Rattle.thread_machine.specs.Places.{StandsAt, AtCommand, steps_from, first_place}
use Rattle.thread_machine.specs.Slots.{Holds, slot_value}
use Rattle.thread_machine.proofs.Positions.{drop-at}
use Rattle.thread_machine.proofs.SameRequests.{request-same}
use Rattle.thread_machine.proofs.Walks.{Advanced, advance, steps_from-end, next_steps-same}

-- what is kept of the last answer tells what tests say

is_met_in-kept : (a : Answer) (known : TestContext) (c : Cond) → known.last ≡ last_answer a → is_met_in known c ≡ is_met a known.notice c
is_met_in-kept a known c e =
    let same : is_met_in known c ≡ is_met_in (record { last = last_answer a; notice = known.notice }) c = rw e refl
    in same ∙ kept a c
  where
    kept : (b : Answer) (d : Cond) → is_met_in (record { last = last_answer b; notice = known.notice }) d ≡ is_met b known.notice d
    kept (answer.Failure errno) cond.Good = refl
    kept (answer.Failure errno) cond.Yes = refl
    kept (answer.Failure errno) cond.Unref = refl
    kept (answer.Failure errno) (cond.Errno other) = refl
    kept (answer.Cancel true) cond.Good = refl
    kept (answer.Cancel true) cond.Yes = refl
    kept (answer.Cancel true) cond.Unref = refl
    kept (answer.Cancel true) (cond.Errno other) = refl
    kept (answer.Cancel false) cond.Good = refl
    kept (answer.Cancel false) cond.Yes = refl
    kept (answer.Cancel false) cond.Unref = refl
    kept (answer.Cancel false) (cond.Errno other) = refl
    kept b cond.Good = refl
    kept b cond.Yes = refl
    kept b cond.Unref = refl
    kept b (cond.Errno other) = refl

-- the first line of its lines

pub stands-first : (body : List Line) → IsBody body → StandsAt body first_place
stands-first body h = record { few = omega arith; nested = h.nested; around = tt }

-- on to the next command

pub settled :
    (script : ScriptValue) (mid new : Machine) (before : List BodyStep) (values : Variables) (a : Answer) (by_notice in_procedure : Bool) →
    Precedes script mid before values a by_notice in_procedure → Settles script mid new →
    Stands
    script
    new
    (record {
      steps = next_steps (is_met a by_notice) 0 before;
      variables = values;
      last = a;
      notice = by_notice;
      procedure = in_procedure;
    })
settled script mid new before values a by_notice in_procedure p s =
    let kept : next_steps (is_met_in mid.known) 0 before ≡ next_steps (is_met mid_answer mid.known.notice) 0 before =
    next_steps-same (is_met_in mid.known) (is_met mid_answer mid.known.notice) 0 before (λ c. is_met_in-kept mid_answer mid.known c p.last)
    in let noticed : next_steps (is_met a mid.known.notice) 0 before ≡ next_steps (is_met a by_notice) 0 before =
    ap (λ (n : Bool). next_steps (is_met a n) 0 before) p.notice
    in let same_lines : machine_lines script mid ≡ machine_lines script new = rw (s.thread, s.entry) refl
    in record {
      steps =
          sym noticed
          ∙ sym kept
          ∙ ap (next_steps (is_met_in mid.known) 0) p.steps
          ∙ s.ahead
          ∙ ap (λ (body : List Line). steps_from body new.place) same_lines;
      variables = rw s.variables p.variables;
      last = rw s.known p.last;
      notice = rw s.known p.notice;
      procedure = rw (s.thread, s.entry) p.procedure;
    }
  where
    mid_answer : Answer
    mid_answer = a

pub settled-machine : (script : ScriptValue) (mid new : Machine) → IsPlaced script mid → Settles script mid new → IsMachine script new
settled-machine script mid new p s =
    let same_lines : machine_lines script mid ≡ machine_lines script new = rw (s.thread, s.entry) refl
    in record {
      placed = record {
        first = rw s.thread p.first;
        declared = rw s.thread p.declared;
        entry = rw s.entry p.entry;
        stands = subst (λ (body : List Line). StandsAt body new.place) same_lines s.stands;
      };
      command = subst (λ (body : List Line). AtCommand (drop new.place.position body)) same_lines s.command;
    }

-- at a command

at-line :
    (script : ScriptValue) (machine : Machine) (line : Line) → IsMachine script machine →
    slice_get (machine_lines script machine) machine.place.position ≡ Some line → kind_of line ≡ Act
at-line script machine line m there = subst AtCommand (drop-at (machine_lines script machine) machine.place.position line there) m.command

advanced :
    (script : ScriptValue) (machine : Machine) (line : Line) → IsMachine script machine →
    slice_get (machine_lines script machine) machine.place.position ≡ Some line →
    Advanced (machine_lines script machine) machine.place.position machine.place.blocks line
advanced script machine line m there =
    advance (machine_lines script machine) machine.place.position machine.place.blocks line there (at-line script machine line m there) m.placed.stands

pub next-command :
    (script : ScriptValue) (machine : Machine) (line : Line) (f : Frame) → IsMachine script machine → Stands script machine f →
    slice_get (machine_lines script machine) machine.place.position ≡ Some line → IsSpelledLine line →
    request_at (slot_value machine.variables.set) line ≡ request_of f
next-command script machine line f m s there spelled =
    let steps : f.steps ≡ Do line ∷ _ = s.steps ∙ (advanced script machine line m there).ahead
    in request-same machine.variables.set f.variables line s.variables spelled ∙ sym (ap (request_ahead f) steps)

no-steps :
    (script : ScriptValue) (machine : Machine) (f : Frame) → IsMachine script machine → Stands script machine f →
    slice_get (machine_lines script machine) machine.place.position ≡ None → f.steps ≡ []
no-steps script machine f m s there =
    s.steps ∙ steps_from-end (machine_lines script machine) machine.place.position machine.place.blocks there m.placed.stands

pub next-end :
    (script : ScriptValue) (machine : Machine) (f : Frame) → IsMachine script machine → Stands script machine f →
    slice_get (machine_lines script machine) machine.place.position ≡ None →
    request_of f ≡ request_at_end (is_in_procedure script machine.thread.0 machine.entry)
next-end script machine f m s there =
    ap (request_ahead f) (no-steps script machine f m s there) ∙ ap request_at_end (sym s.procedure)

-- after the command that an answer ends

pub ended-line :
    (script : ScriptValue) (old new : Machine) (line : Line) (a : Answer) (f : Frame) → IsMachine script old → Stands script old f →
    slice_get (machine_lines script old) old.place.position ≡ Some line → new.thread ≡ old.thread → new.entry ≡ old.entry →
    new.place ≡ record { position = old.place.position + 1; blocks = old.place.blocks } → new.known.last ≡ last_answer a →
    new.known.notice ≡ old.known.notice → Holds new.variables.set (set_each f.variables (vars_of line) (values_of a)) →
    Precedes script new (steps_after f.steps) (set_each f.variables (vars_ahead f.steps) (values_of a)) a f.notice f.procedure
ended-line script old new line a f m s there thread entry place last notice variables =
    let adv = advanced script old line m there
    in let steps = s.steps ∙ adv.ahead
    in record {
      steps = rw (thread, entry, place) (ap steps_after steps);
      variables =
          subst
          (λ (vars : List (List ℕ)). Holds new.variables.set (set_each f.variables vars (values_of a)))
          (sym (ap vars_ahead steps))
          variables;
      last = last;
      notice = notice ∙ s.notice;
      procedure = rw (thread, entry) s.procedure;
    }

pub ended-placed :
    (script : ScriptValue) (old new : Machine) (line : Line) → IsMachine script old →
    slice_get (machine_lines script old) old.place.position ≡ Some line → new.thread ≡ old.thread → new.entry ≡ old.entry →
    new.place ≡ record { position = old.place.position + 1; blocks = old.place.blocks } → IsPlaced script new
ended-placed script old new line m there thread entry place =
    record {
      first = rw thread m.placed.first;
      declared = rw thread m.placed.declared;
      entry = rw entry m.placed.entry;
      stands = rw (thread, entry, place) ((advanced script old line m there).stands);
    }

pub ended-end :
    (script : ScriptValue) (old new : Machine) (a : Answer) (f : Frame) → IsMachine script old → Stands script old f →
    slice_get (machine_lines script old) old.place.position ≡ None → new.thread ≡ old.thread → new.entry ≡ old.entry →
    new.place ≡ old.place → new.known.last ≡ last_answer a → new.known.notice ≡ old.known.notice →
    new.variables ≡ old.variables →
    Precedes script new (steps_after f.steps) (set_each f.variables (vars_ahead f.steps) (values_of a)) a f.notice f.procedure
ended-end script old new a f m s there thread entry place last notice variables =
    let none : f.steps ≡ [] = no-steps script old f m s there
    in let ahead_none : steps_from (machine_lines script old) old.place ≡ [] = sym s.steps ∙ none
    in record {
      steps = rw (thread, entry, place, none) (sym ahead_none);
      variables =
          rw (none, variables) s.variables;
      last = last;
      notice = notice ∙ s.notice;
      procedure = rw (thread, entry) s.procedure;
    }

-- what answers do to frames

pub frame_after_answer-waits : (script : ScriptValue) (f : Frame) (a : Answer) → effect_of a ≡ effect.KeepsFrame → frame_after_answer script f a ≡ f
frame_after_answer-waits script f answer.Wait h = refl
frame_after_answer-waits script f (answer.WaitCall call) h = refl
frame_after_answer-waits script f (answer.EnterFailed call) h = refl
frame_after_answer-waits script f a h = cc

pub frame_after_answer-ends : (script : ScriptValue) (f : Frame) (a : Answer) → effect_of a ≡ effect.EndsCommand → frame_after_answer script f a ≡ frame_after_command f a
frame_after_answer-ends script f (answer.Entered call entry cookie bytes fds) h = cc
frame_after_answer-ends script f (answer.EnteredNotice notice entry cookie) h = cc
frame_after_answer-ends script f answer.Wait h = cc
frame_after_answer-ends script f (answer.WaitCall call) h = cc
frame_after_answer-ends script f (answer.EnterFailed call) h = cc
frame_after_answer-ends script f a h = refl

-- a frame that an accept begins

pub begun-placed :
    (script : ScriptValue) (old new : Machine) (entry : ℕ) (by_notice : Bool) (values : Variables) → IsMachine script old →
    new.thread ≡ old.thread → StartsFrame entry by_notice values new → entry < length script.procedures →
    IsBody (procedure_body script entry) → IsPlaced script new
begun-placed script old new entry by_notice values m thread b few body =
    record {
      first = rw thread m.placed.first;
      declared = rw thread m.placed.declared;
      entry = rw b.entry few;
      stands = rw (b.entry, b.place) (stands-first (procedure_body script entry) body);
    }

pub begun-precedes :
    (script : ScriptValue) (new : Machine) (entry : ℕ) (by_notice : Bool) (values : Variables) → StartsFrame entry by_notice values new →
    Precedes script new (steps_of_body (procedure_body script entry)) values answer.Done by_notice true
begun-precedes script new entry by_notice values b =
    record {
      steps = rw (b.entry, b.place) refl;
      variables = b.variables;
      last = b.last;
      notice = b.notice;
      procedure = rw b.entry refl;
    }

pub enters-placed :
    (script : ScriptValue) (old new : Machine) (a : Answer) → effect_of a ≡ effect.BeginsFrame → IsMachine script old →
    new.thread ≡ old.thread → StartsFrameOf a new → HasDeclaredEntry script a → ((entry : ℕ) → IsBody (procedure_body script entry)) →
    IsPlaced script new
enters-placed script old new (answer.Entered call entry cookie bytes fds) r m thread e few body =
    begun-placed script old new entry false (arguments (with_both bytes fds) cookie) m thread e few (body entry)
enters-placed script old new (answer.EnteredNotice notice entry cookie) r m thread e few body =
    begun-placed script old new entry true (arguments empty_value cookie) m thread e few (body entry)
enters-placed script old new a r m thread e few body = cc

pub enters-stands :
    (script : ScriptValue) (mid new : Machine) (f : Frame) (a : Answer) → effect_of a ≡ effect.BeginsFrame → StartsFrameOf a mid →
    Settles script mid new → Stands script new (frame_after_answer script f a)
enters-stands script mid new f (answer.Entered call entry cookie bytes fds) r e s =
    settled
    script
    mid
    new
    (steps_of_body (procedure_body script entry))
    (arguments (with_both bytes fds) cookie)
    answer.Done
    false
    true
    (begun-precedes script mid entry false (arguments (with_both bytes fds) cookie) e)
    s
enters-stands script mid new f (answer.EnteredNotice notice entry cookie) r e s =
    settled
    script
    mid
    new
    (steps_of_body (procedure_body script entry))
    (arguments empty_value cookie)
    answer.Done
    true
    true
    (begun-precedes script mid entry true (arguments empty_value cookie) e)
    s
enters-stands script mid new f a r e s = cc
