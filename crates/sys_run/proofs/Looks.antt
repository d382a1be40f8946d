-- What the kernel's threads say of the run.
use Rattle.std.proofs.Common.{◌≡◌, ℕ, List, [], ◌∷◌, length, Option, Some, None, Bool, true, false, refl, ap, sym, ◌∙◌, subst}
use Rattle.std.specs.Prelude.{nat_lt, nat_le, is_none, option_map, not, All, slice_get, ◌||◌, if◌then◌else◌}
use Rattle.spec_kernel.specs.Types.{Event, Tid}
use Rattle.spec_kernel.specs.Words.{IsOpening, IsRun, StandsFor, State, Turn, least_runnable, waiting_threads}
use Rattle.spec_requests.specs.declared.ending.Ending.TheVariants.{Complete, Stalled, Budget}
use Rattle.spec_requests.specs.Words.{IsDeclaredEvent, IsDeclaredThread}
use Rattle.spec_requests.proofs.Elements.{All-slice_get}
use Rattle.spec_scripts.specs.Words.{ending_of, ending_waiting, ending_with, is_over, opening_of, threads_of_events, tid_number, turns_of}
use Rattle.spec_scripts.proofs.Histories.{IsOpening-opening_of}
use Rattle.spec_scripts.proofs.RunTurns.{turns_of-run}
use Rattle.law_runs.specs.Words.{Laws}
use Rattle.sys_run.specs.Sys.{SysValue, history, state_of_run, next_turn, scheduled_turn, LawsOf, IsJournal}
use Rattle.sys_run.specs.Threads.{is_any}
use Rattle.sys_run.proofs.Journals.{length-history, le-not_lt, declared-history}
use Rattle.sys_run.proofs.Systems.{waiting_threads-kept}

pub ending-budget : (m : State) (t : ℕ) → Some t ≡ least_runnable m → Budget ≡ ending_of m
ending-budget m t e = ap (λ o. ending_with o (waiting_threads m)) e

waiting-some : (ts : List Tid) → true ≡ is_any ts → Stalled ≡ ending_waiting ts
waiting-some [] h = cc
waiting-some (t ∷ ts) h = refl

waiting-none : (ts : List Tid) → false ≡ is_any ts → Complete ≡ ending_waiting ts
waiting-none [] h = refl
waiting-none (t ∷ ts) h = cc

none-runnable : (m : State) → None ≡ least_runnable m → ending_waiting (waiting_threads m) ≡ ending_of m
none-runnable m e = ap (λ o. ending_with o (waiting_threads m)) e

pub ending-stalled :
    (kept m : State) → StandsFor kept m → None ≡ least_runnable m → true ≡ is_any (waiting_threads kept) → Stalled ≡ ending_of m
ending-stalled kept m stands e any =
    waiting-some (waiting_threads m) (any ∙ ap is_any (waiting_threads-kept kept m stands))
    ∙ none-runnable m e

pub ending-complete :
    (kept m : State) → StandsFor kept m → None ≡ least_runnable m → false ≡ is_any (waiting_threads kept) → Complete ≡ ending_of m
ending-complete kept m stands e any =
    waiting-none (waiting_threads m) (any ∙ ap is_any (waiting_threads-kept kept m stands))
    ∙ none-runnable m e

-- the thread of the next turn
pub next_turn-least :
    (p : SysValue) (o : Option ℕ) → true ≡ nat_lt (length p.journal) p.script.budget → o ≡ least_runnable (state_of_run p) →
    o ≡ next_turn p
next_turn-least p o left e = let test : nat_lt (length p.journal) p.script.budget ≡ true = sym left in rw test e

pub next_turn-used : (p : SysValue) → false ≡ nat_lt (length p.journal) p.script.budget → None ≡ next_turn p
next_turn-used p used = let test : nat_lt (length p.journal) p.script.budget ≡ false = sym used in rw test refl

-- the thread of the schedule's next turn
pub scheduled-left :
    (p : SysValue) (o : Option Tid) → true ≡ nat_lt (length p.journal) p.script.budget → o ≡ slice_get p.script.schedule (length p.journal) →
    o ≡ scheduled_turn p
scheduled-left p o left e = let test : nat_lt (length p.journal) p.script.budget ≡ true = sym left in rw test e

pub scheduled-used : (p : SysValue) → false ≡ nat_lt (length p.journal) p.script.budget → None ≡ scheduled_turn p
scheduled-used p used = let test : nat_lt (length p.journal) p.script.budget ≡ false = sym used in rw test refl

-- the laws of every run, as they are told
abbrev pub EveryRun : Type 0
EveryRun = (m : State) (xs : List Turn) → IsOpening m → IsRun m xs → Laws m xs

-- the laws hold of the journal's run
pub laws-journal : (p : SysValue) → EveryRun → IsJournal p → LawsOf p
laws-journal p every is =
    every
    (opening_of p.script)
    (turns_of p.script (threads_of_events p.journal))
    (IsOpening-opening_of p.script is.script)
    (turns_of-run p.script (threads_of_events p.journal) is.script is.allowed)

-- whatever the journal's events and the waiting threads name is declared

pub events-declared : (p : SysValue) → IsJournal p → All (IsDeclaredEvent p.script) p.journal
events-declared p is = subst (All (IsDeclaredEvent p.script)) (sym is.events) (declared-history p is).events

pub event-declared : (p : SysValue) (i : ℕ) (e : Event) → IsJournal p → slice_get p.journal i ≡ Some e → IsDeclaredEvent p.script e
event-declared p i e is there = All-slice_get (IsDeclaredEvent p.script) p.journal i e (events-declared p is) there

pub waiting-known :
    (p : SysValue) (kept : State) (waiting : List Tid) → IsJournal p → StandsFor kept (state_of_run p) →
    waiting ≡ waiting_threads kept → All (IsDeclaredThread p.script) waiting
waiting-known p kept waiting is stands e =
    subst
    (All (IsDeclaredThread p.script))
    (sym (e ∙ waiting_threads-kept kept (state_of_run p) stands))
    (declared-history p is).waiting

if_over : (a b : Bool) (o : Option ℕ) → b ≡ not a → is_none (if a then o else None) ≡ (is_none o || b)
if_over true b None h = refl
if_over true b (Some t) h = sym h
if_over false b None h = refl
if_over false b (Some t) h = sym h

-- the run is over where no thread takes the next turn
pub over-next : (p : SysValue) → is_none (next_turn p) ≡ is_over p.script (history p)
over-next p =
    let count : length (history p).events ≡ length p.journal = length-history p
    in let tests : nat_le p.script.budget (length (history p).events) ≡ not (nat_lt (length p.journal) p.script.budget) =
    rw count (le-not_lt p.script.budget (length p.journal))
    in if_over
    (nat_lt (length p.journal) p.script.budget)
    (nat_le p.script.budget (length (history p).events))
    (least_runnable (state_of_run p))
    tests

is_none-map : (o : Option Tid) → is_none o ≡ is_none (option_map tid_number o)
is_none-map None = refl
is_none-map (Some t) = refl

pub is_none-next : (p : SysValue) (o : Option Tid) → option_map tid_number o ≡ next_turn p → is_none o ≡ is_over p.script (history p)
is_none-next p o h = is_none-map o ∙ ap is_none h ∙ over-next p
