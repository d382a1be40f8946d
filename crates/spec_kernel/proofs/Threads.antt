-- The process table after a change of one thread, and the readers that see it.
use Rattle.std.proofs.Common.{◌≡◌, ℕ, ◌==◌, Bool, true, false, if◌then◌else◌, List, Option, None, Some, option_map, map, find, refl, ap, ◌∙◌, arith}
use Rattle.std.proofs.lemmas.Bool.Decides.{nat_tests}
use Rattle.spec_kernel.specs.Types.{Call, CallStage, Inv, Process, Thread, ThreadState}
use Rattle.spec_records.specs.declared.record.CallStage.TheVariants as stage
use Rattle.spec_records.specs.declared.record.ThreadState.TheVariants as is
use Rattle.dk_base.specs.ByNumber.{at_number}
use Rattle.spec_records.specs.Words.{Leaving, ProcessTable, cancelled_invocation, cancelled_thread, begin_process, begun_thread, change_process, change_process_in, change_thread, change_thread_in, deserted_at, deserted_in, end_process, ended_process, ended_thread, idle_thread, interrupted_state, interrupted_thread, interrupted_where, invocation_in, is_first_of, is_left, is_served_by, left_thread, left_thread_of, left_threads, live_process, thread_at, thread_at_state, with_ended}
use Rattle.spec_records.proofs.Lists.{at_number-map, at_number-renumbered_there, map-with_at_number, map-map_same}

-- a change of one thread

pub thread_at-change_thread :
    (table : ProcessTable) (t u : ℕ) (change : Thread → Thread) →
    thread_at (change_thread table t change) u ≡ (if u == t then option_map change (thread_at table t) else thread_at table u)
thread_at-change_thread table t u change = go (thread_at table t) refl
  where
    there : (b : Bool) → (u == t) ≡ b → thread_at table t ≡ None → thread_at table u ≡ (if b then None else thread_at table u)
    there true f e = ap (thread_at table) (grind (arith, nat_tests)) ∙ e
    there false f e = refl

    go :
        (o : Option Thread) → thread_at table t ≡ o →
        thread_at (change_thread_in table t change o) u ≡ (if u == t then option_map change o else thread_at table u)
    go None e = there (u == t) refl e
    go (Some x) e = at_number-renumbered_there table.threads t u (change x) x e

pub processes-change_thread :
    (table : ProcessTable) (t : ℕ) (change : Thread → Thread) → (change_thread table t change).processes ≡ table.processes
processes-change_thread table t change = go (thread_at table t)
  where
    go : (o : Option Thread) → (change_thread_in table t change o).processes ≡ table.processes
    go None = refl
    go (Some x) = refl

-- a reader that does not see the change reads the same threads
pub map-change_thread :
    {Y : Type 0} (f : Thread → Y) (table : ProcessTable) (t : ℕ) (change : Thread → Thread) →
    ((x : Thread) → f (change x) ≡ f x) → map f (change_thread table t change).threads ≡ map f table.threads
map-change_thread f table t change same = go (thread_at table t) refl
  where
    go : (o : Option Thread) → thread_at table t ≡ o → map f (change_thread_in table t change o).threads ≡ map f table.threads
    go None e = refl
    go (Some x) e =
        map-with_at_number f table.threads t (change x) (λ y h. let k : x ≡ y = cc in same x ∙ ap f k)

-- the end of a process

pub threads-end_process : (table : ProcessTable) (p : ℕ) → (end_process table p).threads ≡ table.threads
threads-end_process table p = go (at_number table.processes p)
  where
    go : (o : Option Process) → (with_ended table p o).threads ≡ table.threads
    go None = refl
    go (Some x) = refl

pub thread_at-end_process : (table : ProcessTable) (p u : ℕ) → thread_at (end_process table p) u ≡ thread_at table u
thread_at-end_process table p u = ap (λ xs. at_number xs u) (threads-end_process table p)

pub at_number-end_process :
    (table : ProcessTable) (p q : ℕ) →
    at_number (end_process table p).processes q
    ≡ (if q == p then option_map ended_process (at_number table.processes p) else at_number table.processes q)
at_number-end_process table p q = go (at_number table.processes p) refl
  where
    there : (b : Bool) → (q == p) ≡ b → at_number table.processes p ≡ None → at_number table.processes q ≡ (if b then None else at_number table.processes q)
    there true f e = ap (at_number table.processes) (grind (arith, nat_tests)) ∙ e
    there false f e = refl

    go :
        (o : Option Process) → at_number table.processes p ≡ o →
        at_number (with_ended table p o).processes q ≡ (if q == p then option_map ended_process o else at_number table.processes q)
    go None e = there (q == p) refl e
    go (Some x) e = at_number-renumbered_there table.processes p q (ended_process x) x e

-- the beginning of a process

pub threads-begin_process :
    (table : ProcessTable) (p : ℕ) → (begin_process table p).threads ≡ map (begun_thread p) table.threads
threads-begin_process table p = go (at_number table.processes p)
  where
    begun : ProcessTable
    begun = record table { threads = map (begun_thread p) table.threads }

    go : (o : Option Process) → (change_process_in begun p live_process o).threads ≡ map (begun_thread p) table.threads
    go None = refl
    go (Some x) = refl

pub thread_at-begin_process :
    (table : ProcessTable) (p u : ℕ) → thread_at (begin_process table p) u ≡ option_map (begun_thread p) (thread_at table u)
thread_at-begin_process table p u =
    ap (λ xs. at_number xs u) (threads-begin_process table p) ∙ at_number-map (begun_thread p) table.threads u

-- a process changes
pub at_number-change_process :
    (table : ProcessTable) (p q : ℕ) (change : Process → Process) →
    at_number (change_process table p change).processes q
    ≡ (if q == p then option_map change (at_number table.processes p) else at_number table.processes q)
at_number-change_process table p q change = go (at_number table.processes p) refl
  where
    there : (b : Bool) → (q == p) ≡ b → at_number table.processes p ≡ None → at_number table.processes q ≡ (if b then None else at_number table.processes q)
    there true f e = ap (at_number table.processes) (grind (arith, nat_tests)) ∙ e
    there false f e = refl

    go :
        (o : Option Process) → at_number table.processes p ≡ o →
        at_number (change_process_in table p change o).processes q ≡ (if q == p then option_map change o else at_number table.processes q)
    go None e = there (q == p) refl e
    go (Some x) e = at_number-renumbered_there table.processes p q (change x) x e

pub at_number-begin_process :
    (table : ProcessTable) (p q : ℕ) →
    at_number (begin_process table p).processes q
    ≡ (if q == p then option_map live_process (at_number table.processes p) else at_number table.processes q)
at_number-begin_process table p q = at_number-change_process (record table { threads = map (begun_thread p) table.threads }) p q live_process

-- a reader that does not see the change reads the same processes
pub map-change_process :
    {Y : Type 0} (f : Process → Y) (table : ProcessTable) (p : ℕ) (change : Process → Process) →
    ((x : Process) → f (change x) ≡ f x) → map f (change_process table p change).processes ≡ map f table.processes
map-change_process f table p change same = go (at_number table.processes p) refl
  where
    go :
        (o : Option Process) → at_number table.processes p ≡ o →
        map f (change_process_in table p change o).processes ≡ map f table.processes
    go None e = refl
    go (Some x) e = map-with_at_number f table.processes p (change x) (λ y h. let k : x ≡ y = cc in same x ∙ ap f k)

-- a thread of a process that begins stays, or runs
pub begun_thread-case : (P : Thread → Type 0) (p : ℕ) (x : Thread) → P x → P (thread_at_state is.Running x) → P (begun_thread p x)
begun_thread-case P p x same runs = go (is_first_of p x)
  where
    go : (b : Bool) → P (if b then thread_at_state is.Running x else x)
    go true = runs
    go false = same

pub map-begin_process :
    {Y : Type 0} (f : Thread → Y) → ((x : Thread) → f (thread_at_state is.Running x) ≡ f x) → (table : ProcessTable) (p : ℕ) →
    map f (begin_process table p).threads ≡ map f table.threads
map-begin_process f same table p =
    ap (map f) (threads-begin_process table p)
    ∙ map-map_same f (begun_thread p) (λ x. begun_thread-case (λ y. f y ≡ f x) p x refl (same x)) table.threads

-- threads when callers and threads leave

-- what each change of a thread keeps, its leaving keeps
pub left_thread-case :
    (P : Thread → Type 0) (who : Leaving) (now : ℕ) (served : Option Call) (x : Thread) → P x → P (ended_thread x) →
    P (interrupted_thread x) → ((y : Thread) → P y → P (idle_thread now y)) → ((y : Thread) → P y → P (cancelled_thread y)) →
    P (left_thread who now served x)
left_thread-case P who now served x same ended interrupted idle cancelled = go (who.ends x.number)
  where
    unless : (b : Bool) (y : Thread) → P y → P (if b then y else cancelled_thread y)
    unless true y h = h
    unless false y h = cancelled y h

    deserted : (no_cancel : Bool) (s : CallStage) (y : Thread) → P y → P (deserted_at now no_cancel s y)
    deserted no_cancel (stage.Given u) y h = idle y h
    deserted no_cancel (stage.Entered u) y h = unless no_cancel y h
    deserted no_cancel stage.Queued y h = h
    deserted no_cancel (stage.Returned bytes objects) y h = h
    deserted no_cancel (stage.Ended e) y h = h
    deserted no_cancel (stage.Answered k) y h = h
    deserted no_cancel stage.Gone y h = h

    left : (b : Bool) (r : Call) (y : Thread) → P y → P (if b then deserted_at now r.no_cancel r.stage y else y)
    left true r y h = deserted r.no_cancel r.stage y h
    left false r y h = h

    served_left : (o : Option Call) (y : Thread) → P y → P (deserted_in who now o y)
    served_left None y h = h
    served_left (Some r) y h = left (is_left who r) r y h

    where_interrupted : (b : Bool) → P (interrupted_where b x)
    where_interrupted true = interrupted
    where_interrupted false = same

    go :
        (b : Bool) → P (if b then ended_thread x else deserted_in who now served (interrupted_where (who.interrupts x.number) x))
    go true = ended
    go false = served_left served (interrupted_where (who.interrupts x.number) x) (where_interrupted (who.interrupts x.number))

pub left_thread_of-case :
    (P : Thread → Type 0) (who : Leaving) (now : ℕ) (calls : List Call) (x : Thread) → P x → P (ended_thread x) →
    P (interrupted_thread x) → ((y : Thread) → P y → P (idle_thread now y)) → ((y : Thread) → P y → P (cancelled_thread y)) →
    P (left_thread_of who now calls x)
left_thread_of-case P who now calls x = left_thread-case P who now (find (is_served_by x.number) calls) x

-- a reader that sees neither an invocation nor a state
pub left_thread_of-same :
    {Y : Type 0} (f : Thread → Y) →
    ((invocation : Option Inv) (state : ThreadState) (x : Thread) → f (record x { invocation = invocation; state = state }) ≡ f x) →
    (who : Leaving) (now : ℕ) (calls : List Call) (x : Thread) → f (left_thread_of who now calls x) ≡ f x
left_thread_of-same f same who now calls x =
    left_thread_of-case (λ y. f y ≡ f x) who now calls x refl
    (same None is.Done x)
    (same x.invocation (interrupted_state x.state) x)
    (λ y h. same None (is.Idle now) y ∙ h)
    (λ y h. same (option_map cancelled_invocation y.invocation) y.state y ∙ h)

pub map-left_threads :
    {Y : Type 0} (f : Thread → Y) →
    ((invocation : Option Inv) (state : ThreadState) (x : Thread) → f (record x { invocation = invocation; state = state }) ≡ f x) →
    (who : Leaving) (now : ℕ) (calls : List Call) (table : ProcessTable) →
    map f (left_threads who now calls table).threads ≡ map f table.threads
map-left_threads f same who now calls table =
    map-map_same f (left_thread_of who now calls) (left_thread_of-same f same who now calls) table.threads

-- invocations

pub invocation-change_thread :
    (table : ProcessTable) (t u : ℕ) (change : Thread → Thread) →
    invocation_in (thread_at (change_thread table t change) u)
    ≡ (if u == t then invocation_in (option_map change (thread_at table t)) else invocation_in (thread_at table u))
invocation-change_thread table t u change =
    ap invocation_in (thread_at-change_thread table t u change) ∙ go (u == t)
  where
    go :
        (b : Bool) →
        invocation_in (if b then option_map change (thread_at table t) else thread_at table u)
        ≡ (if b then invocation_in (option_map change (thread_at table t)) else invocation_in (thread_at table u))
    go true = refl
    go false = refl
