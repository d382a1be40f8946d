-- The schedule of a script does not count in its runs, and `play` takes the turns of a schedule that is the turns of a run.
use Rattle.std.proofs.Common.{◌≡◌, ℕ, ◌+◌, ◌-◌, ◌≤◌, ◌==◌, ◌||◌, zero, suc, Bool, true, false, if◌then◌else◌, List, [], ◌∷◌, ◌++◌, length, map, take, Option, Some, None, refl, sym, ap, ◌∙◌, subst, arith, append-nil}
use Rattle.std.specs.Prelude.{nat_le, is_none}
use Rattle.std.specs.List.{flat_map}
use Rattle.std.proofs.lemmas.Bool.Decides.{nat_tests}
use Rattle.dk_base.specs.declared.answer.Answer.TheVariants as answer
use Rattle.spec_kernel.specs.Words.{is_running, least_runnable, process_of, step, waiting_threads}
use Rattle.spec_events.specs.Words.{asked_with, event_of, line_in, reply_after, with_reply}
use Rattle.script_lang.specs.Words.{ScriptValue}
use Rattle.spec_requests.specs.Types.{Answer, Event, Request, Tid}
use Rattle.spec_requests.specs.Words.{Frame, answer_text, end_line_of, first_frame, frame_after, frame_after_answer, frame_from, line_of, lines_text, request_after, request_of, spaced_name, trace_text, waiting_text}
use Rattle.spec_requests.specs.TraceNames.{procedure_name}
use Rattle.spec_requests.specs.declared.ending.Ending.{Ending}
use Rattle.spec_requests.specs.declared.ending.Ending.TheVariants.{Complete, Stalled, Budget}
use Rattle.spec_scripts.specs.ScriptRuns.{AreRunnableFrom}
use Rattle.spec_scripts.specs.Words.{History, IsAllowed, ending_of, first_history, history_after, is_over, least_runnable_turns, refusal, refusal_from, request_at_turn, run, run_from, scheduled_turns, text_of_history, tid_number, turns_of_play}
use Rattle.spec_scripts.proofs.Plays.{events-of-turns}
use Rattle.spec_traces.specs.Replays.{scheduled}

-- requests

answer_same : (script : ScriptValue) (turns : List ℕ) (f : Frame) (a : Answer) →
    frame_after_answer (scheduled script turns) f a ≡ frame_after_answer script f a
answer_same script turns f (answer.Entered call entry cookie bytes fds) = refl
answer_same script turns f (answer.EnteredNotice notice entry cookie) = refl
answer_same script turns f a = refl

event_same : (script : ScriptValue) (turns : List ℕ) (t : ℕ) (f : Frame) (e : Event) →
    frame_after (scheduled script turns) t f e ≡ frame_after script t f e
event_same script turns t f e = by_test (e.thread.0 == t)
  where
    by_test : (b : Bool) →
        (if b then frame_after_answer (scheduled script turns) f e.answer else f) ≡ (if b then frame_after_answer script f e.answer else f)
    by_test true = answer_same script turns f e.answer
    by_test false = refl

frame_same : (script : ScriptValue) (turns : List ℕ) (t : ℕ) (events : List Event) (f : Frame) →
    frame_from (scheduled script turns) t f events ≡ frame_from script t f events
frame_same script turns t [] f = refl
frame_same script turns t (e ∷ events) f =
    ap (λ (g : Frame). frame_from (scheduled script turns) t g events) (event_same script turns t f e)
    ∙ frame_same script turns t events (frame_after script t f e)

-- a thread asks the same
request_same : (script : ScriptValue) (turns : List ℕ) (t : ℕ) (events : List Event) →
    request_after (scheduled script turns) t events ≡ request_after script t events
request_same script turns t events = ap request_of (frame_same script turns t events (first_frame script t))

turn_same : (script : ScriptValue) (turns : List ℕ) (h : History) (t : ℕ) →
    request_at_turn (scheduled script turns) h t ≡ request_at_turn script h t
turn_same script turns h t = by_test (is_running h.state t)
  where
    by_test : (b : Bool) →
        (if b then Some (request_after (scheduled script turns) t h.events) else None) ≡ (if b then Some (request_after script t h.events) else None)
    by_test true = ap Some (request_same script turns t h.events)
    by_test false = refl

-- runs

-- a history in which a thread has made this request, or none
abbrev after_request : History → ℕ → Option Request → History
after_request h t request =
    record {
      state = (step h.state t request).state;
      events = h.events ++ with_reply (reply_after h.asked (process_of h.state t) (line_in request)) (event_of h.state t request) ∷ [];
      asked = asked_with h.asked (process_of h.state t) (line_in request);
    }

-- a turn makes the same history
history_same : (script : ScriptValue) (turns : List ℕ) (h : History) (t : ℕ) →
    history_after (scheduled script turns) h t ≡ history_after script h t
history_same script turns h t = ap (after_request h t) (turn_same script turns h t)

run_from_same : (script : ScriptValue) (turns : List ℕ) (ts : List ℕ) (h : History) →
    run_from (scheduled script turns) h ts ≡ run_from script h ts
run_from_same script turns [] h = refl
run_from_same script turns (t ∷ ts) h =
    ap (λ (at : History). run_from (scheduled script turns) at ts) (history_same script turns h t)
    ∙ run_from_same script turns ts (history_after script h t)

-- the schedule does not count in a run
pub run_same : (script : ScriptValue) (turns ts : List ℕ) → run (scheduled script turns) ts ≡ run script ts
unfolding run
run_same script turns ts = run_from_same script turns ts (first_history script)

runnable_same : (script : ScriptValue) (turns ts : List ℕ) (h : History) → AreRunnableFrom script h ts →
    AreRunnableFrom (scheduled script turns) h ts
runnable_same script turns [] h can = tt
runnable_same script turns (t ∷ ts) h can = (
  can.0,
  subst (λ (at : History). AreRunnableFrom (scheduled script turns) at ts) (sym (history_same script turns h t))
      (runnable_same script turns ts (history_after script h t) can.1),
)

-- the turns of `play`

numbers_of_schedule : (script : ScriptValue) (turns : List ℕ) → map tid_number (scheduled script turns).schedule ≡ turns
numbers_of_schedule script [] = refl
numbers_of_schedule script (t ∷ turns) = ap (λ others. t ∷ others) (numbers_of_schedule script turns)

take_all : (n : ℕ) (turns : List ℕ) → length turns ≤ n → take n turns ≡ turns
take_all zero [] few = refl
take_all zero (t ∷ turns) few = absurd (omega arith)
take_all (suc n) [] few = refl
take_all (suc n) (t ∷ turns) few = ap (λ others. t ∷ others) (take_all n turns (omega arith))

-- all turns of the schedule are taken, as far as the budget reaches
scheduled_same : (script : ScriptValue) (turns : List ℕ) → length turns ≤ script.budget → scheduled_turns (scheduled script turns) ≡ turns
scheduled_same script turns few = ap (take script.budget) (numbers_of_schedule script turns) ∙ take_all script.budget turns few

none_refused : (script : ScriptValue) (ts : List ℕ) (h : History) (n : ℕ) → AreRunnableFrom script h ts → refusal_from script h n ts ≡ None
none_refused script [] h n can = refl
none_refused script (t ∷ ts) h n can = rw (can.0) (none_refused script ts (history_after script h t) (n + 1) can.1)

-- no turn is refused
pub replay_unrefused : (script : ScriptValue) (turns : List ℕ) → IsAllowed script turns → refusal (scheduled script turns) ≡ None
unfolding refusal
replay_unrefused script turns allowed =
    ap (refusal_from (scheduled script turns) (first_history script) 0) (scheduled_same script turns allowed.within)
    ∙ none_refused (scheduled script turns) turns (first_history script) 0 (runnable_same script turns turns (first_history script) allowed.runnable)

no_more_turns : (script : ScriptValue) (n : ℕ) (h : History) (least : Option ℕ) → least_runnable h.state ≡ least →
    (is_none least || nat_le script.budget (length h.events)) ≡ true →
    n + length h.events ≡ script.budget → least_runnable_turns script n h ≡ []
no_more_turns script zero h least e over left = refl
no_more_turns script (suc n) h None e over left = rw e refl
no_more_turns script (suc n) h (Some t) e over left = absurd (at_budget (length h.events) script.budget over left)
  where
    at_budget : (events budget : ℕ) → nat_le budget events ≡ true → suc n + events ≡ budget → ⊥
    at_budget events budget over left = grind (arith, nat_tests)

-- the turns of the schedule are those of `play`
pub replay_turns : (script : ScriptValue) (turns : List ℕ) → IsAllowed script turns → is_over script (run script turns) ≡ true →
    turns_of_play (scheduled script turns) ≡ turns
unfolding turns_of_play
replay_turns script turns allowed over =
    let few : length turns ≤ script.budget = allowed.within in
    let events : length (run script turns).events ≡ length turns = events-of-turns script turns in
    let none : least_runnable_turns (scheduled script turns) (script.budget - length turns) (run script turns) ≡ [] =
    no_more_turns (scheduled script turns) (script.budget - length turns) (run script turns) (least_runnable (run script turns).state) refl over (omega arith) in
    ap
    (λ first. first ++ least_runnable_turns (scheduled script turns) (script.budget - length first) (run (scheduled script turns) first))
    (scheduled_same script turns allowed.within)
    ∙ ap (λ (h : History). turns ++ least_runnable_turns (scheduled script turns) (script.budget - length turns) h) (run_same script turns turns)
    ∙ ap (λ others. turns ++ others) none
    ∙ append-nil turns

-- texts

answer_text_same : (script : ScriptValue) (turns : List ℕ) (a : Answer) → answer_text (procedure_name (scheduled script turns)) a ≡ answer_text (procedure_name script) a
answer_text_same script turns (answer.Info info) = refl
answer_text_same script turns a = refl

line_same : (script : ScriptValue) (turns : List ℕ) (e : Event) → line_of (scheduled script turns) e ≡ line_of script e
unfolding line_of
line_same script turns e = rw (answer_text_same script turns e.answer) refl

lines_same : (script : ScriptValue) (turns : List ℕ) (events : List Event) → lines_text (scheduled script turns) events ≡ lines_text script events
lines_same script turns [] = refl
lines_same script turns (e ∷ events) = rw (line_same script turns e, lines_same script turns events) refl

names_same : (script : ScriptValue) (turns : List ℕ) (waiting : List Tid) →
    flat_map (spaced_name (scheduled script turns)) waiting ≡ flat_map (spaced_name script) waiting
names_same script turns [] = refl
names_same script turns (t ∷ waiting) = ap (λ others. spaced_name script t ++ others) (names_same script turns waiting)

waiting_same : (script : ScriptValue) (turns : List ℕ) (ending : Ending) (waiting : List Tid) →
    waiting_text (scheduled script turns) ending waiting ≡ waiting_text script ending waiting
waiting_same script turns Complete waiting = refl
waiting_same script turns Stalled waiting = names_same script turns waiting
waiting_same script turns Budget waiting = refl

end_same : (script : ScriptValue) (turns : List ℕ) (ending : Ending) (n : ℕ) (waiting : List Tid) →
    end_line_of (scheduled script turns) ending n waiting ≡ end_line_of script ending n waiting
unfolding end_line_of
end_same script turns ending n waiting = rw (waiting_same script turns ending waiting) refl

trace_same : (script : ScriptValue) (turns : List ℕ) (events : List Event) (ending : Ending) (waiting : List Tid) →
    trace_text (scheduled script turns) events ending waiting ≡ trace_text script events ending waiting
unfolding trace_text
trace_same script turns events ending waiting = rw (lines_same script turns events, end_same script turns ending (length events) waiting) refl

-- a history has the same text
text_same : (script : ScriptValue) (turns : List ℕ) (h : History) → text_of_history (scheduled script turns) h ≡ text_of_history script h
text_same script turns h = trace_same script turns h.events (ending_of h.state) (waiting_threads h.state)

-- the text of the run is the same
pub replay_text : (script : ScriptValue) (turns : List ℕ) →
    text_of_history (scheduled script turns) (run (scheduled script turns) turns) ≡ text_of_history script (run script turns)
replay_text script turns =
    text_same script turns (run (scheduled script turns) turns) ∙ ap (text_of_history script) (run_same script turns turns)
