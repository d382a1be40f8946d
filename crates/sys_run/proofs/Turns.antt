-- What a turn leaves after, from the clauses of the calls that it makes.
use Rattle.std.proofs.Common.{◌≡◌, ℕ, ◌+◌, ◌<◌, ◌≤◌, List, length, Option, Some, None, true, arith, refl, sym, subst, ap, ◌∙◌}
use Rattle.spec_kernel.specs.Types.{Answer, Event, Pid, Request, Tid, What}
use Rattle.thread_machine.specs.declared.machine.Machine.{Machine}
use Rattle.thread_machine.specs.Words.{HasDeclaredEntry, Stands}
use Rattle.spec_records.specs.Words.{tid}
use Rattle.spec_kernel.specs.Words.{MayTurn, StandsFor, State, is_runnable, process_of, root, state_of, step, what_of}
use Rattle.spec_events.specs.Words.{output_at, shown_answer, with_output, asked_with, line_in, reply_after}
use Rattle.script_lang.specs.Words.{ScriptValue}
use Rattle.ncd_app.specs.Words.{NcdValue}
use Rattle.std.specs.Option.{option_map}
use Rattle.spec_requests.specs.Types.{ScriptThread}
use Rattle.spec_requests.specs.Words.{IsProcess, IsThread, frame_of}
use Rattle.spec_scripts.specs.Words.{event_at_turn, reply_at_turn, request_at_turn}
use Rattle.spec_scripts.proofs.RunTurns.{history_after-answer, history_after-thread}
use Rattle.sys_run.specs.NameTables.{HasTables}
use Rattle.sys_run.specs.Sys.{SysValue, asked_in, history, state_of_run, with_turn, IsJournal}
use Rattle.sys_run.specs.TurnRequests.{HasReplied, IsDeclaredIn, MayReply, MayTake, process_number, request_if_running}
use Rattle.sys_run.proofs.Journals.{asked_in-with_turn, declared-in, events-history, few_asked, known-history, may_turn-of, history-with_turn}
use Rattle.sys_run.proofs.Machines.{entered-declared}

-- what a thread asks for at its turn, by the frame to which the journal leads
abbrev pub asked : SysValue → ℕ → Option Request
asked p t = request_if_running (state_of_run p) t (frame_of p.script t p.journal)

-- it is what the journal's history asks
pub request_at_turn-history : (p : SysValue) (t : ℕ) → IsJournal p → request_at_turn p.script (history p) t ≡ asked p t
request_at_turn-history p t is = ap (λ (es : List Event). request_if_running (state_of_run p) t (frame_of p.script t es)) (sym is.events)

-- a thread's kernel and machine stand where it may take its turn
pub may_take :
    (p : SysValue) (t : ℕ) (kept : State) (x : Machine) → IsJournal p → StandsFor kept (state_of_run p) →
    Stands p.script x (frame_of p.script t p.journal) → is_runnable (state_of_run p) t ≡ true → length p.journal < p.script.budget →
    MayTake p.script kept x t
may_take p t kept x is kernel machine can left =
    record {
      state = state_of_run p;
      frame = frame_of p.script t p.journal;
      kernel_stands = kernel;
      machine_stands = machine;
      may = subst (MayTurn (state_of_run p) t) (request_at_turn-history p t is) (may_turn-of p t is can left);
    }

-- the process that declares a thread, of which there is one

pub declared-by : (o : Option ScriptThread) (q : Pid) → option_map (λ x. x.process) o ≡ Some q → option_map process_number o ≡ Some q.0
declared-by None q e = cc
declared-by (Some x) q e = let same : x.process ≡ q = cc in ap (λ (y : Pid). Some y.0) same

its_process :
    (p : SysValue) (t q : ℕ) → IsJournal p → is_runnable (state_of_run p) t ≡ true → IsDeclaredIn p.script t q → process_of (state_of_run p) t ≡ q
its_process p t q is can declared =
    let thread = history_after-thread p.script (history p) t (known-history p is) can
    in let both : Some (process_of (state_of_run p) t) ≡ Some q = sym (declared-in p t is thread) ∙ declared
    in cc

-- the tables can reply to what it asks
pub may_reply :
    (p : SysValue) (t : ℕ) (tables : List NcdValue) → IsJournal p → HasTables p.script (asked_in p) tables → is_runnable (state_of_run p) t ≡ true →
    length p.journal < p.script.budget → MayReply p.script tables t
may_reply p t tables is stand can left =
    let small : p.script.budget ≤ 100000 = is.script.small_budget
    in let few : length (asked_in p) ≤ length p.journal = few_asked p
    in record {
      asked = asked_in p;
      tables_stand = stand;
      few = omega arith;
      thread = thread;
      process = λ q declared.
          let owner : IsProcess p.script (process_of (state_of_run p) t) = (known-history p is).owners t thread
          in let count : length tables ≡ length p.script.processes = stand.there
          in rw (its_process p t q is can declared, ← count) at owner;
    }
  where
    thread : IsThread p.script t
    thread = history_after-thread p.script (history p) t (known-history p is) can

-- what was replied at a turn is what its event shows, and the tables stand after it
pub record IsRepliedTurn (p : SysValue) (t : ℕ) (reply : Option (List ℕ)) (tables : List NcdValue) : Type 0 where
  pub shown : reply ≡ reply_at_turn p.script (history p) t
  pub tables_stand : HasTables p.script (asked_in (with_turn p t)) tables

pub replied-turn :
    (p : SysValue) (t : ℕ) (old : List NcdValue) (reply : Option (List ℕ)) (new : List NcdValue) → IsJournal p →
    HasTables p.script (asked_in p) old → is_runnable (state_of_run p) t ≡ true → HasReplied p.script t (asked p t) old reply new →
    IsRepliedTurn p t reply new
replied-turn p t old reply new is stand can h = by_request (asked p t) (request_at_turn-history p t is) h
  where
    by_request :
        (q : Option Request) → request_at_turn p.script (history p) t ≡ q → HasReplied p.script t q old reply new → IsRepliedTurn p t reply new
    by_request None same h =
        record {
          shown = h.0 ∙ ap (λ (q : Option Request). reply_after (asked_in p) (process_of (state_of_run p) t) (line_in q)) (sym same);
          tables_stand =
              rw (
                asked_in-with_turn p t
                    ∙ ap (λ (q : Option Request). asked_with (asked_in p) (process_of (state_of_run p) t) (line_in q)) same,
                h.1,
              )
              stand;
        }
    by_request (Some r) same h =
        let own : process_of (state_of_run p) t ≡ h.process = its_process p t h.process is can h.declared
        in record {
          shown =
              h.replied (asked_in p) stand.stand
              ∙ ap (λ (n : ℕ). reply_after (asked_in p) n (line_in (Some r))) (sym own)
              ∙ ap (λ (q : Option Request). reply_after (asked_in p) (process_of (state_of_run p) t) (line_in q)) (sym same);
          tables_stand =
              record {
                stand =
                    rw
                    (asked_in-with_turn p t
                    ∙ ap (λ (q : Option Request). asked_with (asked_in p) (process_of (state_of_run p) t) (line_in q)) same
                    ∙ ap (λ (n : ℕ). asked_with (asked_in p) n (line_in (Some r))) own)
                    (h.stand (asked_in p) stand.stand);
                there = h.there ∙ stand.there;
              };
        }

-- the answer of a turn enters only what is declared
pub entered-turn :
    (p : SysValue) (t : ℕ) (a : Answer) → IsJournal p → is_runnable (state_of_run p) t ≡ true →
    a ≡ (step (state_of_run p) t (asked p t)).answer → HasDeclaredEntry p.script a
entered-turn p t a is can answer =
    entered-declared
    p.script
    a
    (rw (answer, ← request_at_turn-history p t is) (history_after-answer p.script (history p) t is.script (known-history p is) can))

entered-with : (script : ScriptValue) (output : Option (List ℕ)) (a : Answer) → HasDeclaredEntry script a → HasDeclaredEntry script (with_output output a)
entered-with script None a h = h
entered-with script (Some bytes) a h = tt

-- with the bytes of a task
pub shown-turn :
    (p : SysValue) (t : ℕ) (output : Option (List ℕ)) (a b : Answer) → output ≡ output_at (state_of (state_of_run p) t) →
    a ≡ with_output output b → b ≡ (step (state_of_run p) t (asked p t)).answer →
    a ≡ shown_answer (state_of_run p) t (step (state_of_run p) t (asked p t)).answer
shown-turn p t output a b o is answer = rw (is, o, answer) refl

pub shown-entered :
    (script : ScriptValue) (output : Option (List ℕ)) (a b : Answer) → a ≡ with_output output b → HasDeclaredEntry script b → HasDeclaredEntry script a
shown-entered script output a b is h = rw is (entered-with script output b h)

-- and with those of a reply
pub shown-reply :
    (p : SysValue) (t : ℕ) (reply : Option (List ℕ)) (a b : Answer) → reply ≡ reply_at_turn p.script (history p) t → a ≡ with_output reply b →
    b ≡ shown_answer (state_of_run p) t (step (state_of_run p) t (asked p t)).answer →
    a ≡ with_output (reply_at_turn p.script (history p) t) (shown_answer (state_of_run p) t (step (state_of_run p) t (asked p t)).answer)
shown-reply p t reply a b r is shown = rw (is, r, shown) refl

-- the kernel stands after the turn
pub kernel-after :
    (p : SysValue) (t : ℕ) (k : State) → IsJournal p → StandsFor k (step (state_of_run p) t (asked p t)).state →
    StandsFor k (history (with_turn p t)).state
kernel-after p t k is h = rw (history-with_turn p t, request_at_turn-history p t is) h

abbrev pub event_from : ℕ → Tid → Tid → What → Answer → Event
event_from n t r w a = record { number = n; thread = t; root = r; what = w; answer = a }

-- the event that a turn appends, from its parts
pub turn-event :
    (p : SysValue) (t r : Tid) (w : What) (a : Answer) → IsJournal p → r.0 ≡ root (state_of_run p) t.0 →
    w ≡ what_of (state_of_run p) t.0 (asked p t.0) →
    a ≡ with_output (reply_at_turn p.script (history p) t.0) (shown_answer (state_of_run p) t.0 (step (state_of_run p) t.0 (asked p t.0)).answer) →
    event_from (length p.journal + 1) t r w a ≡ event_at_turn p.script (history p) t.0
turn-event p t r w a is hr hw ha =
    let events : (history p).state.events + 1 ≡ length p.journal + 1 = ap (λ n. n + 1) (events-history p)
    in let root_is : r ≡ tid (root (history p).state t.0) = ap tid hr
    in rw (← events, root_is, hw, ha, request_at_turn-history p t.0 is) refl
