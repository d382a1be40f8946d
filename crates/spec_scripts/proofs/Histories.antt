-- Runs of a script, one turn more at the end.
use Rattle.std.proofs.Common.{◌≡◌, ◌<◌, ◌≤◌, ℕ, ◌+◌, List, [], ◌∷◌, ◌++◌, length, true, arith, refl, sym, ap, ◌∙◌, suc, append-nil, append_assoc}
use Rattle.std.specs.Prelude.{All, map}
use Rattle.std.proofs.lemmas.List.Elements.{All-head, All-tail}
use Rattle.dk_base.specs.declared.limits.TheConstants.{THREADS_MAX}
use Rattle.spec_kernel.specs.Types.{Event}
use Rattle.spec_kernel.specs.Words.{IsOpening, State, Turn, is_runnable, opening, state_after, with_new_thread}
use Rattle.spec_events.specs.Words.{events_with_replies}
use Rattle.spec_kernel.specs.Opening.IsOpening.{thread}
use Rattle.spec_kernel.proofs.Steps.{events-step}
use Rattle.spec_kernel.proofs.Opening.{length-with_new_thread, opening_events}
use Rattle.spec_requests.specs.Types.{ScriptThread}
use Rattle.script_lang.specs.Words.{ScriptValue as Script}
use Rattle.spec_requests.specs.Words.{Frame, IsProcess, IsSound, IsSoundThread, first_frame, frame_after, frame_from, frame_of}
use Rattle.spec_scripts.proofs.Children.{IsFresh, IsFresh-state_with_children, events-with_children, state_with_children}
use Rattle.spec_scripts.specs.ScriptRuns.{History, event_at_turn, first_history, request_at_turn, history_after, run, run_from, AreRunnableFrom, turns_from, turns_of, threads_of_events, opening_of, with_script_threads, limit_of, thread_of_event}

pub run_from-append :
    (script : Script) (ts : List ℕ) (h : History) (t : ℕ) →
    run_from script h (ts ++ t ∷ []) ≡ history_after script (run_from script h ts) t
run_from-append script [] h t = refl
run_from-append script (u ∷ us) h t = run_from-append script us (history_after script h u) t

pub run-append : (script : Script) (ts : List ℕ) (t : ℕ) → run script (ts ++ t ∷ []) ≡ history_after script (run script ts) t
unfolding run
run-append script ts t = run_from-append script ts (first_history script) t

abbrev pub turn_at : Script → History → ℕ → Turn
turn_at script h t = record { thread = t; request = request_at_turn script h t }

pub state_after-turns_from :
    (script : Script) (ts : List ℕ) (h : History) →
    state_after h.state (turns_from script h ts) ≡ (run_from script h ts).state
state_after-turns_from script [] h = refl
state_after-turns_from script (u ∷ us) h = state_after-turns_from script us (history_after script h u)

pub state_after-turns_of :
    (script : Script) (ts : List ℕ) → state_after (opening_of script) (turns_of script ts) ≡ (run script ts).state
unfolding run
state_after-turns_of script ts = state_after-turns_from script ts (first_history script)

events-turns_from :
    (script : Script) (ts : List ℕ) (h : History) →
    (run_from script h ts).events ≡ h.events ++ events_with_replies h.state h.asked (turns_from script h ts)
events-turns_from script [] h = sym (append-nil h.events)
events-turns_from script (u ∷ us) h =
    let next = history_after script h u
    in events-turns_from script us next
    ∙ append_assoc h.events (event_at_turn script h u ∷ []) (events_with_replies next.state next.asked (turns_from script next us))

pub events-turns_of :
    (script : Script) (ts : List ℕ) → (run script ts).events ≡ events_with_replies (opening_of script) [] (turns_of script ts)
unfolding run
events-turns_of script ts = events-turns_from script ts (first_history script)

length-turns_from : (script : Script) (ts : List ℕ) (h : History) → length (turns_from script h ts) ≡ length ts
length-turns_from script [] h = refl
length-turns_from script (u ∷ us) h = ap suc (length-turns_from script us (history_after script h u))

pub length-turns_of : (script : Script) (ts : List ℕ) → length (turns_of script ts) ≡ length ts
length-turns_of script ts = length-turns_from script ts (first_history script)

pub AreRunnableFrom-append :
    (script : Script) (ts : List ℕ) (h : History) (t : ℕ) →
    AreRunnableFrom script h ts → is_runnable (run_from script h ts).state t ≡ true → AreRunnableFrom script h (ts ++ t ∷ [])
AreRunnableFrom-append script [] h t all here = (here, tt)
AreRunnableFrom-append script (u ∷ us) h t all here =
    (all.0, AreRunnableFrom-append script us (history_after script h u) t all.1 here)

IsOpening-with_script_threads :
    (script : Script) (xs : List ScriptThread) (m : State) → length m.process_table.processes ≡ length script.processes →
    length m.process_table.threads + length xs ≤ THREADS_MAX → All (IsSoundThread script) xs → IsOpening m →
    IsOpening (with_script_threads m xs)
IsOpening-with_script_threads script [] m same few sound h = h
IsOpening-with_script_threads script (x ∷ xs) m same few sound h =
    let of : IsProcess script x.process.0 = (All-head (IsSoundThread script) x xs sound).process
    in let one : length (with_new_thread m x.process.0 x.spare).process_table.threads ≡ length m.process_table.threads + 1 =
    length-with_new_thread m x.process.0 x.spare
    in let low : 1 ≤ x.process.0 = of.0
    in let last : x.process.0 ≤ length script.processes = of.1
    in let high : x.process.0 ≤ length m.process_table.processes = omega arith
    in let left : length m.process_table.threads < THREADS_MAX = omega arith
    in let rest : length (with_new_thread m x.process.0 x.spare).process_table.threads + length xs ≤ THREADS_MAX = omega arith
    in IsOpening-with_script_threads
    script
    xs
    (with_new_thread m x.process.0 x.spare)
    same
    rest
    (All-tail (IsSoundThread script) x xs sound)
    (thread x.process.0 x.spare low high left h)

-- a sound script begins in an opening state
pub IsOpening-opening_of : (script : Script) → IsSound script → IsOpening (opening_of script)
IsOpening-opening_of script sound =
    let fresh : IsFresh script (state_with_children script) = IsFresh-state_with_children script sound
    in let none : length (state_with_children script).process_table.threads ≡ 0 = ap length fresh.threads
    in let few : length script.threads ≤ THREADS_MAX = sound.few_threads
    in IsOpening-with_script_threads
    script
    script.threads
    (state_with_children script)
    fresh.count
    (omega arith)
    sound.threads
    fresh.opens

events-with_script_threads : (xs : List ScriptThread) (m : State) → (with_script_threads m xs).events ≡ m.events
events-with_script_threads [] m = refl
events-with_script_threads (x ∷ xs) m = events-with_script_threads xs (with_new_thread m x.process.0 x.spare)

-- every script begins with no event
pub events-opening_of : (script : Script) → (opening_of script).events ≡ 0
events-opening_of script =
    let limits = map limit_of script.processes
    in events-with_script_threads script.threads (state_with_children script)
    ∙ events-with_children script.processes 0 (opening limits)
    ∙ opening_events limits

pub threads_of_events-append : (es fs : List Event) → threads_of_events (es ++ fs) ≡ threads_of_events es ++ threads_of_events fs
threads_of_events-append [] fs = refl
threads_of_events-append (e ∷ es) fs = ap (λ ts. thread_of_event e ∷ ts) (threads_of_events-append es fs)

pub length-threads_of_events : (es : List Event) → length (threads_of_events es) ≡ length es
length-threads_of_events [] = refl
length-threads_of_events (e ∷ es) = ap suc (length-threads_of_events es)

frame_from-append :
    (script : Script) (u : ℕ) (es : List Event) (f : Frame) (e : Event) →
    frame_from script u f (es ++ e ∷ []) ≡ frame_after script u (frame_from script u f es) e
frame_from-append script u [] f e = refl
frame_from-append script u (x ∷ es) f e = frame_from-append script u es (frame_after script u f x) e

-- a thread's frame after one event more
pub frame_of-append :
    (script : Script) (u : ℕ) (es : List Event) (e : Event) →
    frame_of script u (es ++ e ∷ []) ≡ frame_after script u (frame_of script u es) e
frame_of-append script u es e = frame_from-append script u es (first_frame script u) e

events-run_from :
    (script : Script) (ts : List ℕ) (h : History) → (run_from script h ts).state.events ≡ h.state.events + length ts
events-run_from script [] h = omega arith
events-run_from script (u ∷ us) h =
    let one : (history_after script h u).state.events ≡ h.state.events + 1 = events-step h.state u (request_at_turn script h u)
    in let rest : (run_from script (history_after script h u) us).state.events ≡ (history_after script h u).state.events + length us =
    events-run_from script us (history_after script h u)
    in omega arith

-- a run counts its turns
pub events-run : (script : Script) (ts : List ℕ) → (run script ts).state.events ≡ length ts
unfolding run
events-run script ts =
    let none : (opening_of script).events ≡ 0 = events-opening_of script
    in let rest : (run_from script (first_history script) ts).state.events ≡ (opening_of script).events + length ts =
    events-run_from script ts (first_history script)
    in omega arith
