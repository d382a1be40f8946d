-- What holds of the states in which a run may begin.
use Rattle.std.proofs.Common.{◌≡◌, ◌<◌, ◌≤◌, ℕ, zero, suc, ◌+◌, ◌==◌, ◌||◌, Bool, true, false, true≢false, if◌then◌else◌, List, [], ◌∷◌, ◌++◌, Option, None, Some, option_map, unwrap_or, length, length-append, map, replicate, slice_get, refl, sym, subst, ap, ap₂, ◌∙◌, ◌⊎◌, inl, inr, ⊎_elim, arith}
use Rattle.std.proofs.lemmas.Bool.Decides.{nat_tests}
use Rattle.std.specs.List.{list_any}
use Rattle.std.proofs.lemmas.List.{length-map, map-append}
use Rattle.dk_base.specs.ByNumber.{at_number}
use Rattle.dk_base.specs.declared.limits.TheConstants.{THREADS_MAX}
use Rattle.spec_kernel.specs.Types.{Fd, Obj, Pid, Process, Thread}
use Rattle.spec_records.specs.declared.record.ProcessStage.TheVariants.{Live, Unborn}
use Rattle.spec_records.specs.declared.record.ThreadState.TheVariants as is
use Rattle.spec_records.specs.Words.{CallTree, NoticeList, ProcessTable, bound_at, bound_in, change_process_in, child_of, empty_table, invocation_in, is_unborn_in, items_in_order, kept_notices, live_calls, make_child, new_process, new_thread_where, no_associations, no_timers, object_in, object_named, opening_state, parent_in, pid, process_in, state_in, table_in}
use Rattle.spec_kernel.specs.State.{State, bound_of, invocation_of, is_unborn_process, object_at, parent_of, process_of, state_of, table_of, thread_of, waiting_items}
use Rattle.spec_kernel.specs.Kept.{forget}
use Rattle.spec_kernel.specs.Opening.{IsOpening, is_thread_of, no_process, opening, with_child, with_new_process, with_new_thread, with_processes}
use Rattle.spec_kernel.specs.Opening.IsOpening.{child as is_child, processes, thread}
use Rattle.spec_records.proofs.Lists.{numbered_push, at_number-map, at_number-suc, numbered_within, same_length}
use Rattle.spec_kernel.proofs.Threads.{at_number-change_process, map-change_process}

pub record IsOpeningProcess (p : ℕ) (x : Process) : Type 0 where
  pub number : x.number ≡ p
  pub made : x.made ≡ 0
  pub stage : (x.stage ≡ Live) ⊎ (x.stage ≡ Unborn)

pub record IsOpeningThread (t : ℕ) (x : Thread) : Type 0 where
  pub number : x.number ≡ t
  pub made : x.made ≡ 0
  pub invocation : x.invocation ≡ None
  pub state : (x.state ≡ is.Running) ⊎ (x.state ≡ is.Dormant)

-- a process of this number is there
abbrev pub IsDeclaredIn : State → ℕ → Type 0
IsDeclaredIn m p = (1 ≤ p) × (p ≤ length m.process_table.processes)

abbrev pub opening_table : Process → List (Option Obj)
opening_table x = empty_table x.limit

pub record IsOpened (m : State) : Type 0 where
  pub processes : (p : ℕ) (x : Process) → at_number m.process_table.processes p ≡ Some x → IsOpeningProcess p x
  pub tables : m.tables ≡ map opening_table m.process_table.processes
  pub threads : (t : ℕ) (x : Thread) → thread_of m t ≡ Some x → IsOpeningThread t x
  pub declared : (t : ℕ) (x : Thread) → thread_of m t ≡ Some x → IsDeclaredIn m x.process.0
  pub few_threads : length m.process_table.threads ≤ THREADS_MAX
  pub bindings : m.bindings ≡ replicate THREADS_MAX None
  pub names : m.names ≡ []
  pub doors : m.doors ≡ []
  pub call_tree : m.call_tree ≡ record { made = 0; calls = [] }
  pub notice_list : m.notice_list ≡ record { made = 0; notices = [] }
  pub channels : m.channels ≡ record { pipes = []; ports = []; associations = no_associations; timers = no_timers }
  pub events : m.events ≡ 0

-- how many there are

length-with_new_process :
    (m : State) (limit : ℕ) → length (with_new_process m limit).process_table.processes ≡ length m.process_table.processes + 1
length-with_new_process m limit =
    length-append m.process_table.processes (new_process (length m.process_table.processes + 1) limit ∷ [])

-- the thread that is one more
abbrev pub next_thread : State → ℕ → Bool → Thread
next_thread m p spare = new_thread_where (is_unborn_process m p) (length m.process_table.threads + 1) p spare

next_process : (m : State) (p : ℕ) (spare : Bool) → (next_thread m p spare).process.0 ≡ p
next_process m p spare = go (is_unborn_process m p)
  where
    go : (b : Bool) → (new_thread_where b (length m.process_table.threads + 1) p spare).process.0 ≡ p
    go true = refl
    go false = refl

pub length-with_new_thread :
    (m : State) (p : ℕ) (spare : Bool) → length (with_new_thread m p spare).process_table.threads ≡ length m.process_table.threads + 1
length-with_new_thread m p spare = length-append m.process_table.threads (next_thread m p spare ∷ [])

pub length-with_child :
    (m : State) (c parent : ℕ) → length (with_child m c parent).process_table.processes ≡ length m.process_table.processes
length-with_child m c parent =
    same_length process_number (with_child m c parent).process_table.processes m.process_table.processes
    (map-change_process process_number m.process_table c (child_of parent) (λ x. refl))
  where
    process_number : Process → ℕ
    process_number x = x.number

-- a process is made a child, and no thread changes
pub threads-make_child : (table : ProcessTable) (c parent : ℕ) → (make_child table c parent).threads ≡ table.threads
threads-make_child table c parent = go (at_number table.processes c)
  where
    go : (o : Option Process) → (change_process_in table c (child_of parent) o).threads ≡ table.threads
    go None = refl
    go (Some x) = refl

pub thread_of-with_child : (m : State) (c parent t : ℕ) → thread_of (with_child m c parent) t ≡ thread_of m t
thread_of-with_child m c parent t = ap (λ xs. at_number xs t) (threads-make_child m.process_table c parent)

pub process_at-with_child :
    (m : State) (c parent p : ℕ) →
    at_number (with_child m c parent).process_table.processes p
    ≡ (if p == c then option_map (child_of parent) (at_number m.process_table.processes c) else at_number m.process_table.processes p)
process_at-with_child m c parent p = at_number-change_process m.process_table c p (child_of parent)

length-with_processes :
    (limits : List ℕ) (m : State) →
    length (with_processes m limits).process_table.processes ≡ length m.process_table.processes + length limits
length-with_processes [] m = omega arith
length-with_processes (limit ∷ limits) m =
    let one : length (with_new_process m limit).process_table.processes ≡ length m.process_table.processes + 1 = length-with_new_process m limit
    in let rest : length (with_processes (with_new_process m limit) limits).process_table.processes ≡ length (with_new_process m limit).process_table.processes + length limits =
    length-with_processes limits (with_new_process m limit)
    in omega arith

pub opening_processes : (limits : List ℕ) → length (opening limits).process_table.processes ≡ length limits
opening_processes limits =
    let all : length (opening limits).process_table.processes ≡ 0 + length limits = length-with_processes limits no_process in omega arith

events-with_processes : (limits : List ℕ) (m : State) → (with_processes m limits).events ≡ m.events
events-with_processes [] m = refl
events-with_processes (limit ∷ limits) m = events-with_processes limits (with_new_process m limit)

pub opening_events : (limits : List ℕ) → (opening limits).events ≡ 0
opening_events limits = events-with_processes limits no_process

threads-with_processes : (limits : List ℕ) (m : State) → (with_processes m limits).process_table.threads ≡ m.process_table.threads
threads-with_processes [] m = refl
threads-with_processes (limit ∷ limits) m = threads-with_processes limits (with_new_process m limit)

-- an opening begins without threads
pub opening_threads : (limits : List ℕ) → (opening limits).process_table.threads ≡ []
opening_threads limits = threads-with_processes limits no_process

-- what holds of each number holds with one item more, if it holds of that
still_each :
    {X : Type 0} (P : ℕ → X → Type 0) (xs : List X) (y : X) → ((k : ℕ) (x : X) → at_number xs k ≡ Some x → P k x) →
    P (length xs + 1) y → (k : ℕ) (x : X) → at_number (xs ++ y ∷ []) k ≡ Some x → P k x
still_each P xs y h here k x e = go (k == length xs + 1) refl (sym (numbered_push xs y k) ∙ e)
  where
    go : (b : Bool) → (k == length xs + 1) ≡ b → (if b then Some y else at_number xs k) ≡ Some x → P k x
    go true t f =
        let there : length xs + 1 ≡ k = grind (arith, nat_tests) in
        let it : y ≡ x = cc in
        subst (λ n. P n x) there (subst (P (length xs + 1)) it here)
    go false t f = h k x f

no_process-opened : IsOpened no_process
no_process-opened =
    record {
      processes = λ p x e. absurd (none p x e);
      tables = refl;
      threads = λ t x e. absurd (none t x e);
      declared = λ t x e. absurd (none t x e);
      few_threads = omega arith;
      bindings = refl;
      names = refl;
      doors = refl;
      call_tree = refl;
      notice_list = refl;
      channels = refl;
      events = refl;
    }
  where
    none : {X : Type 0} (k : ℕ) (x : X) → at_number [] k ≡ Some x → ⊥
    none {X} k x e = let w : (1 ≤ k) × (k ≤ 0) = numbered_within [] k x e in omega arith

declared_still : (m : State) (limit p : ℕ) → IsDeclaredIn m p → IsDeclaredIn (with_new_process m limit) p
declared_still m limit p h =
    let more : length (with_new_process m limit).process_table.processes ≡ length m.process_table.processes + 1 = length-with_new_process m limit
    in let low : 1 ≤ p = h.0
    in let high : p ≤ length m.process_table.processes = h.1
    in (low, omega arith)

with_new_process-opened : (m : State) (limit : ℕ) → IsOpened m → IsOpened (with_new_process m limit)
with_new_process-opened m limit h =
    record {
      processes =
          still_each IsOpeningProcess m.process_table.processes (new_process (length m.process_table.processes + 1) limit) h.processes
          (record { number = refl; made = refl; stage = inl refl });
      tables = ap (λ ts. ts ++ empty_table limit ∷ []) h.tables ∙ sym (map-append opening_table m.process_table.processes (new_process (length m.process_table.processes + 1) limit ∷ []));
      threads = h.threads;
      declared = λ t x e. declared_still m limit x.process.0 (h.declared t x e);
      few_threads = h.few_threads;
      bindings = h.bindings;
      names = h.names;
      doors = h.doors;
      call_tree = h.call_tree;
      notice_list = h.notice_list;
      channels = h.channels;
      events = h.events;
    }

with_processes-opened : (m : State) (limits : List ℕ) → IsOpened m → IsOpened (with_processes m limits)
with_processes-opened m [] h = h
with_processes-opened m (limit ∷ limits) h =
    with_processes-opened (with_new_process m limit) limits (with_new_process-opened m limit h)

with_new_thread-opened :
    (m : State) (p : ℕ) (spare : Bool) → IsDeclaredIn m p → length m.process_table.threads < THREADS_MAX → IsOpened m →
    IsOpened (with_new_thread m p spare)
with_new_thread-opened m p spare there few h =
    record {
      processes = h.processes;
      tables = h.tables;
      threads =
          still_each IsOpeningThread m.process_table.threads (next_thread m p spare) h.threads (new (is_unborn_process m p));
      declared =
          still_each (λ t (x : Thread). IsDeclaredIn m x.process.0) m.process_table.threads (next_thread m p spare) h.declared
          (subst (IsDeclaredIn m) (sym (next_process m p spare)) there);
      few_threads =
          let more : length (with_new_thread m p spare).process_table.threads ≡ length m.process_table.threads + 1 = length-with_new_thread m p spare in
          omega arith;
      bindings = h.bindings;
      names = h.names;
      doors = h.doors;
      call_tree = h.call_tree;
      notice_list = h.notice_list;
      channels = h.channels;
      events = h.events;
    }
  where
    begins : (b : Bool) → (opening_state b ≡ is.Running) ⊎ (opening_state b ≡ is.Dormant)
    begins true = inr refl
    begins false = inl refl

    new : (b : Bool) → IsOpeningThread (length m.process_table.threads + 1) (new_thread_where b (length m.process_table.threads + 1) p spare)
    new true = record { number = refl; made = refl; invocation = refl; state = inr refl }
    new false = record { number = refl; made = refl; invocation = refl; state = begins spare }

-- another of these processes is a child
with_child-opened : (m : State) (c parent : ℕ) → IsOpened m → IsOpened (with_child m c parent)
with_child-opened m c parent h =
    record {
      processes = λ p x e. child_or_not p x (p == c) refl (sym (process_at-with_child m c parent p) ∙ e);
      tables = h.tables ∙ sym (map-change_process opening_table m.process_table c (child_of parent) (λ x. refl));
      threads = λ t x e. h.threads t x (sym (thread_of-with_child m c parent t) ∙ e);
      declared =
          λ t x e.
          let there : IsDeclaredIn m x.process.0 = h.declared t x (sym (thread_of-with_child m c parent t) ∙ e) in
          (there.0, subst (λ n. x.process.0 ≤ n) (sym (length-with_child m c parent)) there.1);
      few_threads = subst (λ (xs : List Thread). length xs ≤ THREADS_MAX) (sym (threads-make_child m.process_table c parent)) h.few_threads;
      bindings = h.bindings;
      names = h.names;
      doors = h.doors;
      call_tree = h.call_tree;
      notice_list = h.notice_list;
      channels = h.channels;
      events = h.events;
    }
  where
    made_child : (p : ℕ) (x : Process) (o : Option Process) → at_number m.process_table.processes p ≡ o → option_map (child_of parent) o ≡ Some x → IsOpeningProcess p x
    made_child p x None f e = cc
    made_child p x (Some y) f e =
        let it : child_of parent y ≡ x = cc in
        subst (IsOpeningProcess p) it (record { number = (h.processes p y f).number; made = (h.processes p y f).made; stage = inr refl })

    child_or_not :
        (p : ℕ) (x : Process) (b : Bool) → (p == c) ≡ b →
        (if b then option_map (child_of parent) (at_number m.process_table.processes c) else at_number m.process_table.processes p) ≡ Some x →
        IsOpeningProcess p x
    child_or_not p x true f e =
        let it : p ≡ c = grind (arith, nat_tests) in
        made_child p x (at_number m.process_table.processes c) (ap (at_number m.process_table.processes) it) e
    child_or_not p x false f e = h.processes p x e

pub opened : {m : State} → IsOpening m → IsOpened m
opened (processes limits) = with_processes-opened no_process limits no_process-opened
opened (is_child {m} c parent first after there long none h) = with_child-opened m c parent (opened h)
opened (thread {m} p spare low high few h) = with_new_thread-opened m p spare (low, high) few (opened h)

-- children, and the threads of what has not begun

pub record IsOpeningChild (m : State) (c parent : ℕ) : Type 0 where
  pub first : 1 ≤ parent
  pub after : parent < c
  pub limit : length (table_of m c) ≡ length (table_of m parent)

parents-with_processes :
    (limits : List ℕ) (m : State) → ((p : ℕ) → parent_of m p ≡ None) → (p : ℕ) → parent_of (with_processes m limits) p ≡ None
parents-with_processes [] m h p = h p
parents-with_processes (limit ∷ limits) m h p = parents-with_processes limits (with_new_process m limit) one p
  where
    new : Process
    new = new_process (length m.process_table.processes + 1) limit

    one : (q : ℕ) → parent_of (with_new_process m limit) q ≡ None
    one q = ap parent_in (numbered_push m.process_table.processes new q) ∙ go (q == length m.process_table.processes + 1)
      where
        go : (b : Bool) → parent_in (if b then Some new else at_number m.process_table.processes q) ≡ None
        go true = refl
        go false = h q

pub children-opening : {m : State} → IsOpening m → (p : ℕ) (q : Pid) → parent_of m p ≡ Some q → IsOpeningChild m p q.0
children-opening (processes limits) p q e =
    let none : parent_of (opening limits) p ≡ None = parents-with_processes limits no_process no_parent p in
    let it : None ≡ Some q = sym none ∙ e in
    cc
  where
    no_parent : (k : ℕ) → parent_of no_process k ≡ None
    no_parent zero = refl
    no_parent (suc k) = ap parent_in (at_number-suc {X = Process} [] k)
children-opening (is_child {m} c parent first after there long none h) p q e =
    go (children-opening h p q) (p == c) refl (at_number m.process_table.processes c)
    (ap parent_in (sym (process_at-with_child m c parent p)) ∙ e)
  where
    made : (o : Option Process) → p ≡ c → parent_in (option_map (child_of parent) o) ≡ Some q → IsOpeningChild (with_child m c parent) p q.0
    made None i f = cc
    made (Some x) i f =
        let it : pid parent ≡ q = cc in
        subst (λ n. IsOpeningChild (with_child m c parent) n q.0) (sym i)
        (subst (λ (n : Pid). IsOpeningChild (with_child m c parent) c n.0) it (record { first = first; after = after; limit = long }))

    go :
        (parent_of m p ≡ Some q → IsOpeningChild m p q.0) → (b : Bool) → (p == c) ≡ b → (o : Option Process) →
        parent_in (if b then option_map (child_of parent) o else at_number m.process_table.processes p) ≡ Some q →
        IsOpeningChild (with_child m c parent) p q.0
    go g true i o f = made o (grind (arith, nat_tests)) f
    go g false i o f =
        let it : IsOpeningChild m p q.0 = g f in record { first = it.first; after = it.after; limit = it.limit }
children-opening (thread {m} n spare low high few h) p q e =
    let it : IsOpeningChild m p q.0 = children-opening h p q e in record { first = it.first; after = it.after; limit = it.limit }

-- a test that no item passes fails at each place
pub none_passes :
    {X : Type 0} (test : X → Bool) (xs : List X) → list_any test xs ≡ false → (k : ℕ) (x : X) → at_number xs k ≡ Some x → test x ≡ false
none_passes test xs e zero x f = cc
none_passes {X} test xs e (suc k) x f = go xs k e (sym (at_number-suc xs k) ∙ f)
  where
    first : (a b : Bool) → a || b ≡ false → a ≡ false
    first false b g = refl
    first true b g = cc

    second : (a b : Bool) → a || b ≡ false → b ≡ false
    second false b g = g
    second true b g = cc

    go : (ys : List X) (i : ℕ) → list_any test ys ≡ false → slice_get ys i ≡ Some x → test x ≡ false
    go [] i g f = cc
    go (y ∷ ys) zero g f = let it : y ≡ x = cc in subst (λ z. test z ≡ false) it (first (test y) (list_any test ys) g)
    go (y ∷ ys) (suc i) g f = go ys i (second (test y) (list_any test ys) g) f

pub unborn-opening : {m : State} → IsOpening m → (t : ℕ) → is_unborn_process m (process_of m t) ≡ true → state_of m t ≡ is.Dormant
unborn-opening (processes limits) t e =
    let none : thread_of (opening limits) t ≡ None = ap (λ xs. at_number xs t) (opening_threads limits) ∙ no_thread t in
    let it : false ≡ true = ap (λ o. is_unborn_process (opening limits) (process_in o)) (sym none) ∙ e in
    cc
  where
    no_thread : (k : ℕ) → at_number {X = Thread} [] k ≡ None
    no_thread zero = refl
    no_thread (suc k) = at_number-suc {X = Thread} [] k
unborn-opening (is_child {m} c parent first after there long none h) t e =
    ap state_in same ∙ go (unborn-opening h t) (thread_of m t) refl (process_of m t == c) refl
    (sym (ap is_unborn_in (process_at-with_child m c parent (process_of m t)))
    ∙ ap (λ o. is_unborn_process (with_child m c parent) (process_in o)) (sym same)
    ∙ e)
  where
    same : thread_of (with_child m c parent) t ≡ thread_of m t
    same = thread_of-with_child m c parent t

    go :
        (is_unborn_process m (process_of m t) ≡ true → state_of m t ≡ is.Dormant) → (o : Option Thread) → thread_of m t ≡ o → (b : Bool) →
        (process_of m t == c) ≡ b →
        is_unborn_in
        (if b then option_map (child_of parent) (at_number m.process_table.processes c) else at_number m.process_table.processes (process_of m t))
        ≡ true →
        state_of m t ≡ is.Dormant
    go k o f false i g = k g
    go k None f true i g = let it : process_of m t ≡ 0 = ap process_in f in grind (arith, nat_tests)
    go k (Some x) f true i g =
        let it : process_of m t ≡ x.process.0 = ap process_in f in
        let not_of_it : (x.process.0 == c) ≡ false = none_passes (is_thread_of c) m.process_table.threads none t x f in
        absurd (true≢false (sym (subst (λ n. (n == c) ≡ true) it i) ∙ not_of_it))
unborn-opening (thread {m} p spare low high few h) t e =
    go (unborn-opening h t) (t == length m.process_table.threads + 1) refl
    (ap (λ o. is_unborn_process m (process_in o)) (sym (numbered_push m.process_table.threads (next_thread m p spare) t)) ∙ e)
    (ap state_in (numbered_push m.process_table.threads (next_thread m p spare) t))
  where
    new : (b : Bool) → is_unborn_process m p ≡ b → b ≡ true → (new_thread_where b (length m.process_table.threads + 1) p spare).state ≡ is.Dormant
    new true f g = refl
    new false f g = cc

    go :
        (is_unborn_process m (process_of m t) ≡ true → state_of m t ≡ is.Dormant) → (b : Bool) →
        (t == length m.process_table.threads + 1) ≡ b →
        is_unborn_process m (process_in (if b then Some (next_thread m p spare) else thread_of m t)) ≡ true →
        state_of (with_new_thread m p spare) t ≡ state_in (if b then Some (next_thread m p spare) else thread_of m t) →
        state_of (with_new_thread m p spare) t ≡ is.Dormant
    go k true i g f =
        f ∙ new (is_unborn_process m p) refl (ap (is_unborn_process m) (sym (next_process m p spare)) ∙ g)
    go k false i g f = f ∙ k g

-- readers at such a state

pub length-tables_opening : {m : State} → IsOpening m → length m.tables ≡ length m.process_table.processes
length-tables_opening {m} h = ap length (opened h).tables ∙ length-map m.process_table.processes opening_table

pub invocation_of-opening : {m : State} → IsOpening m → (t : ℕ) → invocation_of m t ≡ None
invocation_of-opening {m} h t = go (thread_of m t) refl
  where
    go : (o : Option Thread) → thread_of m t ≡ o → invocation_in o ≡ None
    go None e = refl
    go (Some x) e = ((opened h).threads t x e).invocation

-- a thread runs or is dormant, and a number that no thread has reads as Done
pub state_of-opening :
    {m : State} → IsOpening m → (t : ℕ) →
    (state_of m t ≡ is.Running) ⊎ (state_of m t ≡ is.Dormant) ⊎ (state_of m t ≡ is.Done)
state_of-opening {m} h t = go (thread_of m t) refl
  where
    go :
        (o : Option Thread) → thread_of m t ≡ o →
        (state_in o ≡ is.Running) ⊎ (state_in o ≡ is.Dormant) ⊎ (state_in o ≡ is.Done)
    go None e = inr (inr refl)
    go (Some x) e = ⊎_elim inl (λ d. inr (inl d)) ((opened h).threads t x e).state

unbound : (n t : ℕ) → bound_at (replicate n None) t ≡ None
unbound n zero = refl
unbound n (suc k) = ap bound_in (at_number-suc (replicate n None) k) ∙ at n k
  where
    at : (n k : ℕ) → bound_in (slice_get (replicate n None) k) ≡ None
    at zero k = refl
    at (suc n) zero = refl
    at (suc n) (suc k) = at n k

pub bound_of-opening : {m : State} → IsOpening m → (t : ℕ) → bound_of m t ≡ None
bound_of-opening {m} h t = ap (λ bs. bound_at bs t) (opened h).bindings ∙ unbound THREADS_MAX t

empty_row : (n k : ℕ) → object_in (slice_get (empty_table n) k) ≡ None
empty_row zero k = refl
empty_row (suc n) zero = refl
empty_row (suc n) (suc k) = empty_row n k

pub object_at-opening : {m : State} → IsOpening m → (p : ℕ) (fd : Fd) → object_at m p fd ≡ None
object_at-opening {m} h p fd =
    ap (λ ts. object_named (table_in ts p) fd) (opened h).tables
    ∙ ap (λ (o : Option (List (Option Obj))). object_named (unwrap_or o []) fd) (at_number-map opening_table m.process_table.processes p)
    ∙ go (at_number m.process_table.processes p)
  where
    go : (o : Option Process) → object_named (unwrap_or (option_map opening_table o) []) fd ≡ None
    go None = refl
    go (Some x) = empty_row x.limit fd.0

pub forget-opening : {m : State} → IsOpening m → forget m ≡ m
forget-opening {m} h =
    ap₂ {A = CallTree} {B = NoticeList} {C = State} (λ tree list. record m { call_tree = live_calls tree; notice_list = kept_notices m.doors list })
    (opened h).call_tree
    (opened h).notice_list
    ∙ sym (ap₂ {A = CallTree} {B = NoticeList} {C = State} (λ tree list. record m { call_tree = tree; notice_list = list }) (opened h).call_tree (opened h).notice_list)

pub waiting_items-opening : {m : State} → IsOpening m → waiting_items m ≡ []
waiting_items-opening {m} h =
    ap₂ (λ tree list. items_in_order tree.calls list.notices) (opened h).call_tree (opened h).notice_list
