-- A journal stays a run of its script, turn by turn.
use Rattle.std.proofs.Common.{◌≡◌, ℕ, ◌+◌, ◌≤◌, ◌<◌, List, [], ◌∷◌, ◌++◌, length, Option, Some, None, true, arith, refl, ap, ◌∙◌, length-append, zero-add}
use Rattle.std.specs.Prelude.{nat_le, nat_lt, not}
use Rattle.std.proofs.lemmas.Bool.Decides.{nat_tests}
use Rattle.spec_kernel.specs.Words.{MayTurn, StandsFor, State, is_runnable, process_of}
use Rattle.spec_events.specs.Words.{AskedLine, asked_with}
use Rattle.script_lang.specs.Words.{ScriptValue}
use Rattle.spec_scripts.specs.Words.{History, IsAllowed, IsDeclared, event_at_turn, first_history, history_after, line_at_turn, request_at_turn, run, run_from, threads_of_events}
use Rattle.spec_scripts.proofs.Histories.{run-append, AreRunnableFrom-append, threads_of_events-append, length-threads_of_events, events-run}
use Rattle.spec_scripts.proofs.RunTurns.{IsKnownHistory, run-known, declared-known, may_turn, process_of-run}
use Rattle.spec_requests.specs.Words.{IsThread}
use Rattle.sys_run.specs.Sys.{SysValue, asked_in, history, state_of_run, IsJournal, with_turn}
use Rattle.sys_run.specs.TurnRequests.{IsDeclaredIn}

pub history-with_turn : (p : SysValue) (t : ℕ) → history (with_turn p t) ≡ history_after p.script (history p) t
unfolding history
history-with_turn p t =
    ap (run p.script) (threads_of_events-append p.journal (event_at_turn p.script (history p) t ∷ []))
    ∙ run-append p.script (threads_of_events p.journal) t

pub events-history : (p : SysValue) → (history p).state.events ≡ length p.journal
unfolding history
events-history p = events-run p.script (threads_of_events p.journal) ∙ length-threads_of_events p.journal

-- a kernel counts the events after which it stands
pub events-counted : (p : SysValue) (kernel : State) → StandsFor kernel (state_of_run p) → kernel.events ≡ length p.journal
events-counted p kernel stands = ap (λ (m : State). m.events) stands ∙ events-history p

-- what a journal's history keeps
pub known-history : (p : SysValue) → IsJournal p → IsKnownHistory p.script (history p)
unfolding history
known-history p is = run-known p.script (threads_of_events p.journal) is.script is.allowed

pub declared-history : (p : SysValue) → IsJournal p → IsDeclared p.script (history p)
declared-history p is = declared-known p.script (history p) (known-history p is)

pub may_turn-of : (p : SysValue) (t : ℕ) → IsJournal p → is_runnable (state_of_run p) t ≡ true → length p.journal < p.script.budget → MayTurn (history p).state t (request_at_turn p.script (history p) t)
may_turn-of p t is can left =
    let small : p.script.budget ≤ 100000 = is.script.small_budget
    in let events : (history p).state.events ≡ length p.journal = events-history p
    in may_turn p.script (history p) t is.script (known-history p is) can (omega arith)

allowed_more :
    (script : ScriptValue) (ts : List ℕ) (t : ℕ) →
    IsAllowed script ts → is_runnable (run script ts).state t ≡ true → length ts < script.budget → IsAllowed script (ts ++ t ∷ [])
unfolding run
allowed_more script ts t h can left =
    let one : length (ts ++ t ∷ []) ≡ length ts + 1 = simp length-append refl
    in record { runnable = AreRunnableFrom-append script ts (first_history script) t h.runnable can; within = omega arith }

pub IsJournal-with_turn :
    (p : SysValue) (t : ℕ) → IsJournal p → is_runnable (state_of_run p) t ≡ true → length p.journal < p.script.budget →
    IsJournal (with_turn p t)
unfolding history run
IsJournal-with_turn p t is can left =
    record {
      script = is.script;
      events = rw (history-with_turn p t) (ap (λ es. es ++ event_at_turn p.script (history p) t ∷ []) is.events);
      allowed = rw (threads_of_events-append p.journal (event_at_turn p.script (history p) t ∷ [])) (allowed_more p.script (threads_of_events p.journal) t is.allowed can (rw (length-threads_of_events p.journal) left));
    }

pub le-not_lt : (a b : ℕ) → nat_le a b ≡ not (nat_lt b a)
le-not_lt a b = grind (arith, nat_tests)

events-run_from : (script : ScriptValue) (ts : List ℕ) (h : History) → length (run_from script h ts).events ≡ length h.events + length ts
events-run_from script [] h = omega arith
events-run_from script (u ∷ us) h =
    let one : length (history_after script h u).events ≡ length h.events + 1 = simp length-append refl
    in let rest : length (run_from script (history_after script h u) us).events ≡ length (history_after script h u).events + length us =
    events-run_from script us (history_after script h u)
    in omega arith

pub length-history : (p : SysValue) → length (history p).events ≡ length p.journal
unfolding history run
length-history p =
    let rest : length (run_from p.script (first_history p.script) (threads_of_events p.journal)).events ≡ length (threads_of_events p.journal) =
    events-run_from p.script (threads_of_events p.journal) (first_history p.script) ∙ zero-add (length (threads_of_events p.journal))
    in rest ∙ length-threads_of_events p.journal

-- the lines that the processes asked

-- with those of one turn more
pub asked_in-with_turn :
    (p : SysValue) (t : ℕ) →
    asked_in (with_turn p t) ≡ asked_with (asked_in p) (process_of (state_of_run p) t) (line_at_turn p.script (history p) t)
asked_in-with_turn p t = ap (λ (h : History). h.asked) (history-with_turn p t)

one_line : (asked : List AskedLine) (p : ℕ) (line : Option (List ℕ)) → length (asked_with asked p line) ≤ length asked + 1
one_line asked p None = omega arith
one_line asked p (Some line) =
    let one : length (asked_with asked p (Some line)) ≡ length asked + 1 = simp length-append refl in omega arith

asked-run_from : (script : ScriptValue) (ts : List ℕ) (h : History) → length (run_from script h ts).asked ≤ length h.asked + length ts
asked-run_from script [] h = omega arith
asked-run_from script (u ∷ us) h =
    let one : length (history_after script h u).asked ≤ length h.asked + 1 = one_line h.asked (process_of h.state u) (line_at_turn script h u)
    in let rest : length (run_from script (history_after script h u) us).asked ≤ length (history_after script h u).asked + length us =
    asked-run_from script us (history_after script h u)
    in omega arith

-- there are no more than events
pub few_asked : (p : SysValue) → length (asked_in p) ≤ length p.journal
unfolding history run
few_asked p =
    let rest : length (run_from p.script (first_history p.script) (threads_of_events p.journal)).asked ≤ 0 + length (threads_of_events p.journal) =
    asked-run_from p.script (threads_of_events p.journal) (first_history p.script)
    in let count : length (threads_of_events p.journal) ≡ length p.journal = length-threads_of_events p.journal
    in omega arith

-- a thread is of the process that declares it
pub declared-in : (p : SysValue) (t : ℕ) → IsJournal p → IsThread p.script t → IsDeclaredIn p.script t (process_of (state_of_run p) t)
unfolding history
declared-in p t is thread = process_of-run p.script (threads_of_events p.journal) t is.script thread
