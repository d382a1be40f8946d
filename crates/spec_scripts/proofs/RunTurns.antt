-- Each turn of a sound script is one that the kernel takes, and whatever its runs name is declared.
use Rattle.std.proofs.Common.{◌≡◌, ℕ, ◌+◌, ◌*◌, ◌≤◌, ◌<◌, List, [], ◌∷◌, ◌++◌, Option, Some, None, IsSome, Bool, true, false, if◌then◌else◌, length, map, option_map, unwrap_or, arith, refl, sym, ap, ◌∙◌, subst, append-nil, append_assoc}
use Rattle.std.specs.Prelude.{All}
use Rattle.std.proofs.lemmas.Bool.{false≢true}
use Rattle.std.proofs.lemmas.Bool.Decides.{nat_tests}
use Rattle.std.proofs.lemmas.List.{length-map, map-append}
use Rattle.std.proofs.lemmas.List.Elements.{All-nil, All-head, All-push}
use Rattle.dk_base.specs.ByNumber.{at_number}
use Rattle.dk_base.specs.declared.answer.Answer.TheVariants as answer
use Rattle.spec_kernel.specs.Types.{Answer, Pid, Process, Request, Thread}
use Rattle.spec_records.specs.Words.{new_thread_where, parent_in, process_in, state_in}
use Rattle.spec_kernel.specs.Words.{IsRun, MayTurn, State, bound_of, can_go_on, is_runnable, is_running, is_unborn_process, parent_of, process_of, state_of, step, thread_of, with_new_thread}
use Rattle.spec_events.specs.Words.{output_at, shown_answer, with_output}
use Rattle.spec_records.proofs.Lists.{at_number-map, numbered_there, numbered_within, same_numbered}
use Rattle.spec_kernel.proofs.Runs.{process_of-state_after}
use Rattle.spec_kernel.proofs.Opening.{bound_of-opening, next_thread, object_at-opening, opened}
use Rattle.spec_kernel.proofs.Steps.{ProcessIdentity, events-step, process_identity, process_of-step, processes-step, step-keeps, threads-step}
use Rattle.law_states.specs.Invariant.{Invariant}
use Rattle.law_states.proofs.Events.{step_keeps}
use Rattle.law_states.proofs.Openings.{opening_keeps}
use Rattle.law_channels.specs.Channels.{AreChannels}
use Rattle.law_channels.proofs.Acts.{step_fits}
use Rattle.law_channels.proofs.Runs.{opening_fits}
use Rattle.script_lang.specs.Types.{Line}
use Rattle.line_forms.specs.declared.line.Line.TheVariants as line
use Rattle.spec_requests.specs.Types.{Procedure, ScriptThread}
use Rattle.script_lang.specs.Words.{ScriptValue}
use Rattle.spec_requests.specs.Words.{BodyStep, Frame, IsDeclaredAnswer, IsDeclaredEvent, IsEntryOf, IsFitLine, IsNumberOf, IsProcess, IsSound, IsSoundProcedure, IsSoundThread, IsThread, Variables, frame_of, request_after, request_ahead, request_at, request_at_end}
use Rattle.spec_requests.specs.Steps.BodyStep.{Do, When}
use Rattle.spec_requests.proofs.Elements.{All-at_number, All-slice_get, at_number-within}
use Rattle.spec_requests.proofs.SoundFrames.{AnswerEntersLines, AreSteps, EntersLines, IsFrame, IsStep, first_frame-frame, frame_after-frame}
use Rattle.spec_scripts.specs.DeclaredRuns.{IsDeclared, IsDeclaredDoor}
use Rattle.spec_scripts.specs.ScriptRuns.{History, event_at_turn, with_script_threads, opening_of, first_history, reply_at_turn, request_at_turn, history_after, run, run_from, AreRunnableFrom, IsAllowed, turns_from, turns_of}
use Rattle.spec_scripts.proofs.DeclaredObjects.{IsKnownNotice, IsKnownName, no_rows-known}
use Rattle.spec_scripts.proofs.KnownStates.{IsKnown, IsKnownAnswer, IsKnownCall, answer-declared}
use Rattle.spec_scripts.proofs.KnownActs.{MakesDeclared}
use Rattle.spec_scripts.proofs.DeclaredStates.{AsksDeclared, IsKnownStep, step-known, root-declared, waiting-declared}
use Rattle.spec_scripts.proofs.FitRequests.{HasThreads, IsEarly, request-fit}
use Rattle.spec_scripts.proofs.Children.{IsFresh-state_with_children, parents-state_with_children, state_with_children}
use Rattle.spec_scripts.proofs.Histories.{IsOpening-opening_of, events-opening_of, events-run, frame_of-append, state_after-turns_of}

-- what a fit line makes is declared

makes_at : (script : ScriptValue) (of : ℕ) (variables : Variables) (x : Line) → IsFitLine script of x → MakesDeclared script of (request_at variables x)
makes_at script of variables (line.Create var entry cookie attrs) fit = fit
makes_at script of variables (line.Fork child) fit = at_number-within script.processes child.0 fit.process fit.there
makes_at script of variables x fit = tt

makes_at_end : (script : ScriptValue) (of : ℕ) (procedure : Bool) → MakesDeclared script of (request_at_end procedure)
makes_at_end script of true = tt
makes_at_end script of false = tt

makes_ahead :
    (script : ScriptValue) (of : ℕ) (f : Frame) (steps : List BodyStep) → AreSteps (IsFitLine script of) steps →
    MakesDeclared script of (request_ahead f steps)
makes_ahead script of f [] all = makes_at_end script of f.procedure
makes_ahead script of f (When cond n ∷ steps) all = makes_at_end script of f.procedure
makes_ahead script of f (Do x ∷ steps) all =
    let here = All-head (IsStep (IsFitLine script of)) (Do x) steps all in makes_at script of f.variables x here.1

-- a runnable thread is there
pub is_runnable-there : (m : State) (t : ℕ) → is_runnable m t ≡ true → IsNumberOf (length m.process_table.threads) t
is_runnable-there m t h = by_thread (thread_of m t) refl h
  where
    by_thread : (x : Option Thread) → thread_of m t ≡ x → can_go_on m (state_in x) ≡ true → IsNumberOf (length m.process_table.threads) t
    by_thread None e h = absurd (false≢true h)
    by_thread (Some x) e h = numbered_within m.process_table.threads t x e

-- what a history of a sound script keeps
pub record IsKnownHistory (script : ScriptValue) (h : History) : Type 0 where
  pub has : HasThreads script h.state
  pub owners : (u : ℕ) → IsThread script u → IsProcess script (process_of h.state u)
  pub known : IsKnown script h.state
  pub events : All (IsDeclaredEvent script) h.events
  pub invariant : Invariant h.state
  pub channels : AreChannels h.state
  -- the lines of each thread's frame are of a body of its process
  pub frames : (u : ℕ) → IsThread script u → IsFrame (IsFitLine script (process_of h.state u)) (frame_of script u h.events)

request_at_turn-declared :
    (script : ScriptValue) (h : History) (t : ℕ) → IsKnownHistory script h → IsThread script t →
    AsksDeclared script (process_of h.state t) (request_at_turn script h t)
request_at_turn-declared script h t kept thread = by_test (is_running h.state t)
  where
    by_test : (b : Bool) → AsksDeclared script (process_of h.state t) (if b then Some (request_after script t h.events) else None)
    by_test true =
        makes_ahead script (process_of h.state t) (frame_of script t h.events) (frame_of script t h.events).steps (kept.frames t thread).steps
    by_test false = tt

-- the thread of a turn is declared
pub has-thread : (script : ScriptValue) (m : State) (t : ℕ) → HasThreads script m → is_runnable m t ≡ true → IsThread script t
has-thread script m t has can =
    let there : IsNumberOf (length m.process_table.threads) t = is_runnable-there m t can
    in let low : 1 ≤ t = there.0
    in let high : t ≤ length m.process_table.threads = there.1
    in let same : length m.process_table.threads ≡ length script.threads = has.threads
    in let last : t ≤ length script.threads = omega arith
    in (low, last)

pub history_after-thread : (script : ScriptValue) (h : History) (t : ℕ) → IsKnownHistory script h → is_runnable h.state t ≡ true → IsThread script t
history_after-thread script h t kept can = has-thread script h.state t kept.has can

-- a process has the parent that it had
parent_of-step : (m : State) (t p : ℕ) (r : Option Request) → parent_of (step m t r).state p ≡ parent_of m p
parent_of-step m t p r =
    from_identity (at_number (step m t r).state.process_table.processes p)
    ∙ ap parent_in_identity (same_numbered process_identity (step m t r).state.process_table.processes m.process_table.processes p (step-keeps m t r).processes)
    ∙ sym (from_identity (at_number m.process_table.processes p))
  where
    parent_in_identity : Option ProcessIdentity → Option Pid
    parent_in_identity None = None
    parent_in_identity (Some x) = x.parent

    from_identity : (o : Option Process) → parent_in o ≡ parent_in_identity (option_map process_identity o)
    from_identity None = refl
    from_identity (Some x) = refl

pub HasThreads-history_after : (script : ScriptValue) (h : History) (t : ℕ) → HasThreads script h.state → HasThreads script (history_after script h t).state
HasThreads-history_after script h t has =
    record {
      threads = threads-step h.state t (request_at_turn script h t) ∙ has.threads;
      processes = processes-step h.state t (request_at_turn script h t) ∙ has.processes;
      parents = λ child x parent there e. parent_of-step h.state t child (request_at_turn script h t) ∙ has.parents child x parent there e;
    }

-- the bytes of a task name nothing, nor do those of a reply
declared-shown : (script : ScriptValue) (output : Option (List ℕ)) (a : Answer) → IsDeclaredAnswer script a → IsDeclaredAnswer script (with_output output a)
declared-shown script None a h = h
declared-shown script (Some bytes) a h = tt

-- the clock moves by so much in an event, at most
early-channels : (m : State) → AreChannels m → m.events ≤ 100000 → IsEarly m
early-channels m channels few =
    let early : m.channels.timers.clock ≤ 10000 * m.events = channels.early
    in let last : m.channels.timers.clock ≤ 1000000000 = omega (arith, few, early)
    in last

-- each runnable thread's turn is one that the kernel takes
pub may_turn :
    (script : ScriptValue) (h : History) (t : ℕ) → IsSound script → IsKnownHistory script h → is_runnable h.state t ≡ true →
    h.state.events ≤ 100000 → MayTurn h.state t (request_at_turn script h t)
may_turn script h t sound kept can few = by_test (is_running h.state t) refl
  where
    small : h.state.events < 1000000
    small = omega (arith, few)

    by_test :
        (b : Bool) → is_running h.state t ≡ b →
        MayTurn h.state t (if b then Some (request_after script t h.events) else None)
    by_test true running =
        record {
          running = running;
          fit = request-fit script h.state t (frame_of script t h.events) kept.has (early-channels h.state kept.channels few) (kept.frames t (history_after-thread script h t kept can));
          few = small;
        }
    by_test false waits = record { runnable = can; waits = waits; few = small }

-- what a thread of a process enters is a procedure of that process

enters-own : (script : ScriptValue) (p entry : ℕ) → IsSound script → IsEntryOf script p entry → EntersLines (IsFitLine script p) script entry
enters-own script p entry sound h x e =
    let both : Some h.procedure ≡ Some x = sym h.there ∙ e
    in let same : h.procedure ≡ x = cc
    in let own : x.process.0 ≡ p = ap (λ (y : Procedure). y.process.0) (sym same) ∙ h.same_process
    in subst (λ q. All (IsFitLine script q) x.body) own (All-slice_get (IsSoundProcedure script) script.procedures entry x sound.procedures e).body

answer-enters : (script : ScriptValue) (p : ℕ) (a : Answer) → IsSound script → IsKnownAnswer script p a → AnswerEntersLines (IsFitLine script p) script a
answer-enters script p (answer.Entered call entry cookie bytes fds) sound h = enters-own script p entry sound h
answer-enters script p (answer.EnteredNotice notice entry cookie) sound h = enters-own script p entry sound h
answer-enters script p a sound h = tt

shown-enters :
    (script : ScriptValue) (p : ℕ) (output : Option (List ℕ)) (a : Answer) → AnswerEntersLines (IsFitLine script p) script a →
    AnswerEntersLines (IsFitLine script p) script (with_output output a)
shown-enters script p None a h = h
shown-enters script p (Some bytes) a h = tt

pub turn-known :
    (script : ScriptValue) (h : History) (t : ℕ) → IsKnownHistory script h → is_runnable h.state t ≡ true →
    IsKnownStep script h.state t (request_at_turn script h t)
turn-known script h t kept can =
    let thread : IsThread script t = history_after-thread script h t kept can
    in step-known script h.state t (request_at_turn script h t) kept.known kept.invariant.consistent thread kept.owners
    (request_at_turn-declared script h t kept thread)

-- the frame of each thread after a turn
frames-history_after :
    (script : ScriptValue) (h : History) (t u : ℕ) → IsSound script → IsKnownHistory script h → is_runnable h.state t ≡ true → IsThread script u →
    IsFrame (IsFitLine script (process_of (history_after script h t).state u)) (frame_of script u (history_after script h t).events)
frames-history_after script h t u sound kept can thread =
    rw (frame_of-append script u h.events (event_at_turn script h t), process_of-step h.state t u (request_at_turn script h t))
    (frame_after-frame (IsFitLine script (process_of h.state u)) script u (frame_of script u h.events) (event_at_turn script h t)
    (λ same. own (grind (arith, nat_tests)))
    (kept.frames u thread))
  where
    own : t ≡ u → AnswerEntersLines (IsFitLine script (process_of h.state u)) script (event_at_turn script h t).answer
    own same =
        subst
        (λ v. AnswerEntersLines (IsFitLine script (process_of h.state v)) script (event_at_turn script h t).answer)
        same
        (shown-enters script (process_of h.state t) (reply_at_turn script h t) (shown_answer h.state t (step h.state t (request_at_turn script h t)).answer)
        (shown-enters script (process_of h.state t) (output_at (state_of h.state t)) (step h.state t (request_at_turn script h t)).answer
        (answer-enters script (process_of h.state t) (step h.state t (request_at_turn script h t)).answer sound (turn-known script h t kept can).answer)))

pub IsKnownHistory-history_after :
    (script : ScriptValue) (h : History) (t : ℕ) → IsSound script → IsKnownHistory script h → is_runnable h.state t ≡ true →
    h.state.events ≤ 100000 → IsKnownHistory script (history_after script h t)
IsKnownHistory-history_after script h t sound kept can few =
    let thread : IsThread script t = history_after-thread script h t kept can
    in let after = turn-known script h t kept can
    in record {
      has = HasThreads-history_after script h t kept.has;
      owners = λ u known. rw (process_of-step h.state t u (request_at_turn script h t)) (kept.owners u known);
      known = after.state;
      events =
          All-push
          (IsDeclaredEvent script)
          h.events
          (event_at_turn script h t)
          kept.events
          (record {
            thread = thread;
            root = root-declared script h.state t kept.known thread;
            answer =
                declared-shown script (reply_at_turn script h t) (shown_answer h.state t (step h.state t (request_at_turn script h t)).answer)
                (declared-shown script (output_at (state_of h.state t)) (step h.state t (request_at_turn script h t)).answer
                (answer-declared script (process_of h.state t) (step h.state t (request_at_turn script h t)).answer after.answer));
          });
      invariant = (step_keeps h.state t (request_at_turn script h t) kept.invariant (may_turn script h t sound kept can few)).invariant;
      channels = step_fits h.state t (request_at_turn script h t) kept.channels (may_turn script h t sound kept can few);
      frames = λ u known. frames-history_after script h t u sound kept can known;
    }

-- what the answer of a turn names is declared
pub history_after-answer :
    (script : ScriptValue) (h : History) (t : ℕ) → IsSound script → IsKnownHistory script h → is_runnable h.state t ≡ true →
    IsDeclaredAnswer script (step h.state t (request_at_turn script h t)).answer
history_after-answer script h t sound kept can =
    answer-declared script (process_of h.state t) (step h.state t (request_at_turn script h t)).answer (turn-known script h t kept can).answer

-- the begin

processes-with_script_threads : (xs : List ScriptThread) (m : State) → (with_script_threads m xs).process_table.processes ≡ m.process_table.processes
processes-with_script_threads [] m = refl
processes-with_script_threads (x ∷ xs) m = processes-with_script_threads xs (with_new_thread m x.process.0 x.spare)

abbrev process_of_thread : Thread → ℕ
process_of_thread x = x.process.0

abbrev process_of_declared : ScriptThread → ℕ
process_of_declared x = x.process.0

new_thread-process : (unborn : Bool) (n p : ℕ) (spare : Bool) → process_of_thread (new_thread_where unborn n p spare) ≡ p
new_thread-process true n p spare = refl
new_thread-process false n p spare = refl

-- each thread is of the process that the script says
threads-with_script_threads :
    (xs : List ScriptThread) (m : State) →
    map process_of_thread (with_script_threads m xs).process_table.threads ≡ map process_of_thread m.process_table.threads ++ map process_of_declared xs
threads-with_script_threads [] m = sym (append-nil (map process_of_thread m.process_table.threads))
threads-with_script_threads (x ∷ xs) m =
    let new : Thread = next_thread m x.process.0 x.spare
    in threads-with_script_threads xs (with_new_thread m x.process.0 x.spare)
    ∙ ap (λ (ns : List ℕ). ns ++ map process_of_declared xs) (map-append process_of_thread m.process_table.threads (new ∷ []))
    ∙ append_assoc (map process_of_thread m.process_table.threads) (process_of_thread new ∷ []) (map process_of_declared xs)
    ∙ ap (λ (n : ℕ). map process_of_thread m.process_table.threads ++ n ∷ map process_of_declared xs) (new_thread-process (is_unborn_process m x.process.0) (length m.process_table.threads + 1) x.process.0 x.spare)

opening_of-threads : (script : ScriptValue) → IsSound script → map process_of_thread (opening_of script).process_table.threads ≡ map process_of_declared script.threads
opening_of-threads script sound =
    threads-with_script_threads script.threads (state_with_children script)
    ∙ ap (λ (xs : List Thread). map process_of_thread xs ++ map process_of_declared script.threads) (IsFresh-state_with_children script sound).threads

process_of-opening_of :
    (script : ScriptValue) (u : ℕ) (x : ScriptThread) → IsSound script → at_number script.threads u ≡ Some x → process_of (opening_of script) u ≡ x.process.0
process_of-opening_of script u x sound there =
    from_thread (thread_of (opening_of script) u)
    ∙ ap (λ (o : Option ℕ). unwrap_or o 0)
    (sym (at_number-map process_of_thread (opening_of script).process_table.threads u)
    ∙ ap (λ (ns : List ℕ). at_number ns u) (opening_of-threads script sound)
    ∙ at_number-map process_of_declared script.threads u
    ∙ ap (option_map process_of_declared) there)
  where
    from_thread : (o : Option Thread) → process_in o ≡ unwrap_or (option_map process_of_thread o) 0
    from_thread None = refl
    from_thread (Some y) = refl

pub opening-has : (script : ScriptValue) → IsSound script → HasThreads script (opening_of script)
opening-has script sound =
    record {
      threads =
          sym (length-map (opening_of script).process_table.threads process_of_thread)
          ∙ ap length (opening_of-threads script sound)
          ∙ length-map script.threads process_of_declared;
      processes =
          ap length (processes-with_script_threads script.threads (state_with_children script))
          ∙ (IsFresh-state_with_children script sound).count;
      parents = λ child x parent there e.
          ap (λ (ps : List Process). parent_in (at_number ps child)) (processes-with_script_threads script.threads (state_with_children script))
          ∙ parents-state_with_children script child x parent there e;
    }

-- a declared thread with its record
declared_thread : (script : ScriptValue) (u : ℕ) → IsThread script u → IsSome (at_number script.threads u)
declared_thread script u thread = numbered_there script.threads u thread.0 thread.1

owner-there : (script : ScriptValue) (u : ℕ) → IsSound script → IsThread script u → IsProcess script (process_of (opening_of script) u)
owner-there script u sound thread = by_thread (at_number script.threads u) refl (declared_thread script u thread)
  where
    by_thread : (o : Option ScriptThread) → at_number script.threads u ≡ o → IsSome o → IsProcess script (process_of (opening_of script) u)
    by_thread None e some = absurd (false≢true some)
    by_thread (Some x) e some =
        subst (IsProcess script) (sym (process_of-opening_of script u x sound e)) (All-at_number (IsSoundThread script) script.threads u x sound.threads e).process

first-frame : (script : ScriptValue) (u : ℕ) → IsSound script → IsFrame (IsFitLine script (process_of (opening_of script) u)) (frame_of script u [])
first-frame script u sound =
    first_frame-frame (IsFitLine script (process_of (opening_of script) u)) script u
    (λ x e.
    subst (λ p. All (IsFitLine script p) x.body) (sym (process_of-opening_of script u x sound e))
    (All-at_number (IsSoundThread script) script.threads u x sound.threads e).body)

none_bound : (o : Option ℕ) (d : ℕ) → o ≡ None → o ≡ Some d → ⊥
none_bound o d none some = cc

pub IsKnownHistory-first_history : (script : ScriptValue) → IsSound script → IsKnownHistory script (first_history script)
IsKnownHistory-first_history script sound =
    let opens = opened (IsOpening-opening_of script sound)
    in record {
      has = opening-has script sound;
      owners = λ u thread. owner-there script u sound thread;
      known = record {
        doors = rw opens.doors (All-nil (IsDeclaredDoor script));
        calls = rw opens.call_tree (All-nil (IsKnownCall script (length (opening_of script).doors)));
        rows =
            no_rows-known (length (opening_of script).doors) (opening_of script).tables
            (object_at-opening (IsOpening-opening_of script sound));
        names = rw opens.names (All-nil (IsKnownName (length (opening_of script).doors)));
        bindings = λ t d e some. absurd (none_bound (bound_of (opening_of script) t) d (bound_of-opening (IsOpening-opening_of script sound) t) e);
        notices = rw opens.notice_list (All-nil (IsKnownNotice (length (opening_of script).doors)));
      };
      events = All-nil (IsDeclaredEvent script);
      invariant = opening_keeps (opening_of script) (IsOpening-opening_of script sound);
      channels = opening_fits (opening_of script) (IsOpening-opening_of script sound);
      frames = λ u thread. first-frame script u sound;
    }

-- whole runs

run_from-known :
    (script : ScriptValue) (ts : List ℕ) (h : History) → IsSound script → IsKnownHistory script h → h.state.events + length ts ≤ 100000 →
    AreRunnableFrom script h ts → IsKnownHistory script (run_from script h ts)
run_from-known script [] h sound kept few can = kept
run_from-known script (t ∷ ts) h sound kept few can =
    let one : (history_after script h t).state.events ≡ h.state.events + 1 = events-step h.state t (request_at_turn script h t)
    in run_from-known script ts (history_after script h t) sound
    (IsKnownHistory-history_after script h t sound kept can.0 (omega (arith, few)))
    (omega (arith, few, one))
    can.1

-- so few turns are allowed
few_turns : (script : ScriptValue) (ts : List ℕ) → IsSound script → IsAllowed script ts → (opening_of script).events + length ts ≤ 100000
few_turns script ts sound allowed =
    let none : (opening_of script).events ≡ 0 = events-opening_of script
    in let within : length ts ≤ script.budget = allowed.within
    in let small : script.budget ≤ 100000 = sound.small_budget
    in omega arith

pub run-known : (script : ScriptValue) (ts : List ℕ) → IsSound script → IsAllowed script ts → IsKnownHistory script (run script ts)
unfolding run
run-known script ts sound allowed =
    run_from-known script ts (first_history script) sound (IsKnownHistory-first_history script sound) (few_turns script ts sound allowed) allowed.runnable

pub declared-known : (script : ScriptValue) (h : History) → IsKnownHistory script h → IsDeclared script h
declared-known script h kept =
    record { events = kept.events; doors = kept.known.doors; waiting = waiting-declared script h.state kept.has.threads }

pub run-declared : (script : ScriptValue) (ts : List ℕ) → IsSound script → IsAllowed script ts → IsDeclared script (run script ts)
run-declared script ts sound allowed = declared-known script (run script ts) (run-known script ts sound allowed)

pub run-may_turn :
    (script : ScriptValue) (ts : List ℕ) (t : ℕ) → IsSound script → IsAllowed script ts → is_runnable (run script ts).state t ≡ true →
    MayTurn (run script ts).state t (request_at_turn script (run script ts) t)
run-may_turn script ts t sound allowed can =
    let within : length ts ≤ script.budget = allowed.within
    in let small : script.budget ≤ 100000 = sound.small_budget
    in let events : (run script ts).state.events ≡ length ts = events-run script ts
    in may_turn script (run script ts) t sound (run-known script ts sound allowed) can (omega arith)

-- the turns of a run are a run of the written kernel

turns_from-run :
    (script : ScriptValue) (ts : List ℕ) (h : History) → IsSound script → IsKnownHistory script h →
    h.state.events + length ts ≤ 100000 → AreRunnableFrom script h ts → IsRun h.state (turns_from script h ts)
turns_from-run script [] h sound kept few can = tt
turns_from-run script (t ∷ ts) h sound kept few can =
    let one : (history_after script h t).state.events ≡ h.state.events + 1 = events-step h.state t (request_at_turn script h t)
    in let left : h.state.events ≤ 100000 = omega arith
    in let rest : (history_after script h t).state.events + length ts ≤ 100000 = omega arith
    in (
      may_turn script h t sound kept can.0 left,
      turns_from-run script ts (history_after script h t) sound (IsKnownHistory-history_after script h t sound kept can.0 left) rest can.1,
    )

pub turns_of-run : (script : ScriptValue) (ts : List ℕ) → IsSound script → IsAllowed script ts → IsRun (opening_of script) (turns_of script ts)
turns_of-run script ts sound allowed =
    turns_from-run
    script
    ts
    (first_history script)
    sound
    (IsKnownHistory-first_history script sound)
    (few_turns script ts sound allowed)
    allowed.runnable

-- a thread of a run is of the process that the script says
pub process_of-run :
    (script : ScriptValue) (ts : List ℕ) (t : ℕ) → IsSound script → IsThread script t →
    option_map process_of_declared (at_number script.threads t) ≡ Some (process_of (run script ts).state t)
process_of-run script ts t sound thread = by_thread (at_number script.threads t) refl (declared_thread script t thread)
  where
    same : process_of (run script ts).state t ≡ process_of (opening_of script) t
    same =
        ap (λ (m : State). process_of m t) (sym (state_after-turns_of script ts))
        ∙ process_of-state_after (opening_of script) (turns_of script ts) t

    by_thread :
        (o : Option ScriptThread) → at_number script.threads t ≡ o → IsSome o →
        option_map process_of_declared o ≡ Some (process_of (run script ts).state t)
    by_thread None e some = absurd (false≢true some)
    by_thread (Some x) e some = ap Some (sym (same ∙ process_of-opening_of script t x sound e))
