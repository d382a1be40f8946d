-- A legal history is a run, and its entries are the run's events.
use Rattle.std.proofs.Common.{◌≡◌, ℕ, zero, suc, ◌+◌, ◌<◌, ◌≤◌, List, [], ◌∷◌, ◌++◌, Bool, true, false, Option, None, Some, length, map, slice_get, refl, ap, sym, subst, ◌∙◌, arith, append_assoc}
use Rattle.std.proofs.lemmas.List.{append-nil}
use Rattle.spec_records.specs.declared.record.ThreadState.TheVariants as is
use Rattle.spec_kernel.specs.Types.{Answer, Request, ThreadState}
use Rattle.spec_kernel.specs.Words.{IsOpening, IsRun, State, Turn, state_after, state_after_turn, state_at, state_of, step, what_of}
use Rattle.spec_events.specs.Words.{event_of, events_of, output_at, with_output}
use Rattle.spec_kernel.proofs.Runs.{state_at_all}
use Rattle.law_runs.specs.Laws.{Laws}
use Rattle.law_runs.specs.Tasks.{Tasks}
use Rattle.spec_histories.specs.Histories.{Entry, Follows, History, IsHistory, IsLegal, end, entry_of, turns_of}
use Rattle.law_histories.specs.Shown.{HasNoTask, Shown, event_shown, event_told, is_task}

pub run : (m : State) (es : List Entry) → IsLegal m es → IsRun m (turns_of es)
run m [] l = tt
run m (e ∷ es) l = (l.0.may, run (state_after_turn m e.turn) es l.1)

-- the answer of an entry is that of the step at its place
pub answer_at :
    (m : State) (es : List Entry) (i : ℕ) (e : Entry) → IsLegal m es → slice_get es i ≡ Some e →
    e.answer ≡ (step (state_at m (turns_of es) i) e.turn.thread e.turn.request).answer
answer_at m [] i e l f = absurd (cc)
answer_at m (x ∷ es) zero e l f =
    let same : x ≡ e = cc in subst (λ (y : Entry). y.answer ≡ (step m y.turn.thread y.turn.request).answer) same (ap (λ (y : Entry). y.answer) l.0.is)
answer_at m (x ∷ es) (suc i) e l f = answer_at (state_after_turn m x.turn) es i e l.1 f

abbrev pub AreLaws : Type 0
AreLaws = (m : State) (xs : List Turn) → IsOpening m → IsRun m xs → Laws m xs

tasks_of : (m : State) (xs : List Turn) → Laws m xs → Tasks m xs
unfolding Laws
tasks_of m xs l = l.tasks

task_at : (xs : List Turn) (i : ℕ) (x : Turn) → HasNoTask xs → slice_get xs i ≡ Some x → is_task x.request ≡ false
task_at [] i x h e = absurd (cc e)
task_at (y ∷ ys) zero x h e = let k : y ≡ x = cc e in subst (λ (z : Turn). is_task z.request ≡ false) k h.0
task_at (y ∷ ys) (suc i) x h e = task_at ys i x h.1 e

no_task : (m : State) (xs : List Turn) → Tasks m xs → HasNoTask xs → (t : ℕ) (s : ThreadState) → state_of (state_after m xs) t ≡ s → output_at s ≡ None
no_task m xs h only t (is.Working op input) e =
    let was = h.asked (length xs) t op input (omega arith) (ap (λ n. state_of n t) (state_at_all m xs (length xs) (omega arith)) ∙ e) in
    let ok : is_task was.turn.request ≡ false = task_at xs was.at was.turn only was.found in
    let asked : is_task was.turn.request ≡ true = ap is_task was.work in
    absurd (cc (asked, ok))
no_task m xs h only t is.Dormant e = refl
no_task m xs h only t is.Running e = refl
no_task m xs h only t (is.Idle since) e = refl
no_task m xs h only t (is.Given item) e = refl
no_task m xs h only t (is.Calling c) e = refl
no_task m xs h only t (is.Getting port max nget one interrupted) e = refl
no_task m xs h only t (is.Awaiting path) e = refl
no_task m xs h only t is.FailedReturn e = refl
no_task m xs h only t is.Done e = refl

-- after each beginning of the turns no thread is at a task
IsQuiet : State → List Turn → Type 0
IsQuiet m [] = Unit {0}
IsQuiet m (x ∷ xs) = (output_at (state_of m x.thread) ≡ None) × IsQuiet (state_after_turn m x) xs

entries_shown : (m : State) (es : List Entry) → IsLegal m es → IsQuiet m (turns_of es) → map event_told es ≡ map event_shown (events_of m (turns_of es))
unfolding IsQuiet
entries_shown m [] l q = refl
entries_shown m (e ∷ es) l q =
    let x = e.turn in
    let this : event_told e ≡ event_shown (event_of m x.thread x.request) =
    ap event_told l.0.is ∙ ap (λ o. record { number = m.events + 1; thread = x.thread; root = written_root m x; what = what_of m x.thread x.request; answer = with_output o (step m x.thread x.request).answer }) (sym q.0) in
    λ i. this i ∷ entries_shown (state_after_turn m x) es l.1 q.1 i
  where
    written_root : State → Turn → ℕ
    written_root m x = (entry_of m x).root

run-first : (m : State) (before xs : List Turn) → IsRun m (before ++ xs) → IsRun m before
run-first m [] xs r = tt
run-first m (x ∷ before) xs r = (r.0, run-first (state_after_turn m x) before xs r.1)

task-first : (before xs : List Turn) → HasNoTask (before ++ xs) → HasNoTask before
task-first [] xs r = tt
task-first (x ∷ before) xs r = (r.0, task-first before xs r.1)

after-snoc : (m : State) (before : List Turn) (x : Turn) → state_after m (before ++ x ∷ []) ≡ state_after_turn (state_after m before) x
after-snoc m [] x = refl
after-snoc m (y ∷ before) x = after-snoc (state_after_turn m y) before x

quiet :
    AreLaws → (m : State) (before xs : List Turn) → IsOpening m → IsRun m (before ++ xs) → HasNoTask (before ++ xs) →
    IsQuiet (state_after m before) xs
unfolding IsQuiet
quiet laws m before [] o r n = tt
quiet laws m before (x ∷ xs) o r n =
    let tasks = tasks_of m before (laws m before o (run-first m before (x ∷ xs) r)) in
    let same : before ++ x ∷ xs ≡ (before ++ x ∷ []) ++ xs = sym (append_assoc before (x ∷ []) xs) in (
      no_task m before tasks (task-first before (x ∷ xs) n) x.thread (state_of (state_after m before) x.thread) refl,
      subst (λ (n : State). IsQuiet n xs) (after-snoc m before x)
          (quiet laws m (before ++ x ∷ []) xs o (subst (λ (ys : List Turn). IsRun m ys) same r) (subst (λ (ys : List Turn). HasNoTask ys) same n)),
    )

pub all_shown :
    AreLaws → (h : History) → IsHistory h → HasNoTask (turns_of h.entries) → map event_told h.entries ≡ map event_shown (events_of h.opening (turns_of h.entries))
all_shown laws h l n =
    entries_shown h.opening h.entries l.legal (quiet laws h.opening [] (turns_of h.entries) l.opens (run h.opening h.entries l.legal) n)
