-- A child process is made, and begins: what the pools hold, and what is known of threads that wait, is so of the records that change.
use Rattle.std.proofs.Common.{◌≡◌, ℕ, zero, suc, ◌+◌, ◌==◌, ◌&&◌, ◌||◌, Bool, true, false, not, cond, nat_lt, if◌then◌else◌, List, [], ◌∷◌, ◌++◌, Option, Some, None, option_map, slice_get, slice_set, find, filter, is_some, length, map, refl, sym, subst, ap, ap₂, ◌∙◌, arith}
use Rattle.std.specs.List.{list_any, position_or_len}
use Rattle.std.proofs.Math.Path.{fun_ext}
use Rattle.std.proofs.lemmas.Bool.Decides.{nat_tests}
use Rattle.std.proofs.lemmas.List.{length-map}
use Rattle.std.proofs.lemmas.List.Elements.{filter-append, filter_agree}
use Rattle.std.proofs.lemmas.List.Quantifiers.{position-Some}
use Rattle.std.proofs.lemmas.Option.{slice_get-get_or}
use Rattle.std.specs.Prelude.{IfSome}
use Rattle.dk_base.specs.ByNumber.{at_number, with_at_number}
use Rattle.dk_base.specs.declared.number.PathId.{PathId}
use Rattle.dk_base.specs.declared.number.Tid.{Tid}
use Rattle.dk_base.specs.declared.object.Item.TheVariants as item
use Rattle.spec_records.specs.declared.pool.TheConstants.{LOST_DOOR}
use Rattle.spec_records.specs.declared.record.ThreadState.TheVariants as is
use Rattle.spec_records.specs.Words.{CallTree, IsAscending, Leaving, NoticeList, Port, ProcessTable, begin_process, begun_thread, bind_lost, bound_at, call_number, change_process_in, child_of, first_place, ended_thread, interrupted_where, is_dormant, is_first_of, is_idle, is_served_by, is_spare_in, left_thread, left_thread_of, left_threads, make_child, new_thread, parked_at, process_in, state_in, thread_at}
use Rattle.spec_records.proofs.Lists.{at_number-map, at_number-suc, length-with_at_number, with_at_number-suc}
use Rattle.proc_table.specs.Words.{first_number, is_getting, is_of}
use Rattle.spec_kernel.specs.Leaving.{bind_first}
use Rattle.spec_kernel.specs.Types.{Call, Door, Name, Obj, Parked, Pool, Process, Thread, ThreadState}
use Rattle.spec_kernel.proofs.Threads.{begun_thread-case, left_thread_of-same, thread_at-begin_process}
use Rattle.law_states.specs.Core.{is_outside}
use Rattle.dk_base.specs.declared.thread_set.ThreadSet.{ThreadSet}
use Rattle.dk_base.specs.Words.{has, with_thread}
use Rattle.server_pool.specs.Words.{PoolsValue, change_at_number, change_item, change_spares, is_another_spare, is_thread, spares_or_none, stack_in, without_spare}
use Rattle.server_pool.proofs.Changed.{changed_elsewhere, changed_here}
use Rattle.fork_step.specs.Forking.{bind_lost_first, bindings_of_child}
use Rattle.law_pools.specs.Words.{Agrees, spare_at, spare_in, spares_among}
use Rattle.law_pools.proofs.Beginning.{agrees_begin}
use Rattle.law_pools.proofs.Beginning.{stays_spare as is_left}
use Rattle.law_pools.proofs.Readers.{length-change_at_number, same_number}
use Rattle.law_pools.proofs.Stacks.{agrees_bind, not_parked}
use Rattle.law_calls.specs.Words.{AreBacked}
use Rattle.law_calls.proofs.Backing.{processes_changed}
use Rattle.law_calls.proofs.Free.{serves_not}
use Rattle.kernel_store.specs.Forking.{stays_spare}
use Rattle.kernel_store.specs.Turning.{KnowsPaths, KnowsPortsIn}
use Rattle.kernel_store.proofs.Knowing.{knows_fewer}
use Rattle.kernel_store.proofs.Waits.{waits_fewer}

-- a process is a child: the threads are the same, and the processes as many

other_processes :
    {n : ℕ} {table : ProcessTable} {doors : List Door} {tree : CallTree} {list : NoticeList} {v : PoolsValue} → Agrees n table doors tree list v →
    (processes : List Process) → length processes ≡ length table.processes → Agrees n (record table { processes = processes }) doors tree list v
other_processes {n} {table} {doors} {tree} {list} {v} h processes many =
    record {
      stacks =
          λ q. let s = h.stacks q in record {
            parked = λ i x e. let k = s.parked i x e in record { parked = k.parked; same_pool = k.same_pool; since = k.since };
            all = s.all;
            in_order = s.in_order;
          };
      queues = h.queues;
      spares = λ p. h.spares p ∙ spares p (length table.threads);
      calls = h.calls;
      call_dates = h.call_dates;
      notices = h.notices;
      notice_dates = h.notice_dates;
      kept = h.kept;
      common = h.common ∙ sym many;
      spare_lists = h.spare_lists ∙ sym many;
      private = h.private;
    }
  where
    spares : (p k : ℕ) → spares_among table p k ≡ spares_among (record table { processes = processes }) p k
    spares p zero = refl
    spares p (suc k) = ap (λ us. us ++ spare_at table p (suc k)) (spares p k)

module _ (table : ProcessTable) (child parent : ℕ) where
  pub agrees_child :
      {n : ℕ} {doors : List Door} {tree : CallTree} {list : NoticeList} {v : PoolsValue} → Agrees n table doors tree list v →
      Agrees n (make_child table child parent) doors tree list v
  agrees_child {n} {doors} {tree} {list} {v} h = go (at_number table.processes child)
    where
      go : (o : Option Process) → Agrees n (change_process_in table child (child_of parent) o) doors tree list v
      go None = h
      go (Some x) = other_processes h (with_at_number table.processes child (child_of parent x)) (length-with_at_number table.processes child (child_of parent x))

  pub backed_child :
      (tree : CallTree) → IsAscending call_number 0 tree.made tree.calls → AreBacked table tree.calls → AreBacked (make_child table child parent) tree.calls
  backed_child tree up b = go (at_number table.processes child)
    where
      go : (o : Option Process) → AreBacked (change_process_in table child (child_of parent) o) tree.calls
      go None = b
      go (Some x) = processes_changed table tree up b (with_at_number table.processes child (child_of parent x))

  child_thread : (t : ℕ) → thread_at (make_child table child parent) t ≡ thread_at table t
  child_thread t = go (at_number table.processes child)
    where
      go : (o : Option Process) → thread_at (change_process_in table child (child_of parent) o) t ≡ thread_at table t
      go None = refl
      go (Some x) = refl

  pub knows_child : {names : List Name} {named : ThreadSet} → KnowsPaths table names named → KnowsPaths (make_child table child parent) names named
  knows_child k = knows_fewer k (λ t path e. ap state_in (sym (child_thread t)) ∙ e)

  pub waits_child :
      {tables : List (List (Option Obj))} {names : List Name} {calls : List Call} {ports : List Port} {ended : ThreadSet} →
      KnowsPortsIn table tables names calls ports ended → KnowsPortsIn (make_child table child parent) tables names calls ports ended
  waits_child k = waits_fewer k (λ t e. ap state_in (child_thread t))

-- a process begins: its threads run, or stay as they are

module _ (table : ProcessTable) (child : ℕ) where
  pub knows_begun : {names : List Name} {named : ThreadSet} → KnowsPaths table names named → KnowsPaths (begin_process table child) names named
  knows_begun k = knows_fewer k (λ t path e. go (thread_at table t) path (ap state_in (sym (thread_at-begin_process table child t)) ∙ e))
    where
      go : (o : Option Thread) (path : PathId) → state_in (option_map (begun_thread child) o) ≡ is.Awaiting path → state_in o ≡ is.Awaiting path
      go None path e = e
      go (Some x) path e = begun_thread-case (λ y. y.state ≡ is.Awaiting path → x.state ≡ is.Awaiting path) child x (λ f. f) (λ f. cc) e

  pub waits_begun :
      {tables : List (List (Option Obj))} {names : List Name} {calls : List Call} {ports : List Port} {ended : ThreadSet} →
      KnowsPortsIn table tables names calls ports ended → KnowsPortsIn (begin_process table child) tables names calls ports ended
  waits_begun k =
      waits_fewer k
      (λ t e. ap state_in (thread_at-begin_process table child t) ∙ go (thread_at table t) (ap (λ o. is_getting (state_in o)) (sym (thread_at-begin_process table child t)) ∙ e))
    where
      go : (o : Option Thread) → is_getting (state_in (option_map (begun_thread child) o)) ≡ true → state_in (option_map (begun_thread child) o) ≡ state_in o
      go None e = refl
      go (Some x) e = begun_thread-case (λ y. is_getting y.state ≡ true → y.state ≡ x.state) child x (λ f. refl) (λ f. absurd cc) e

-- a thread that is Dormant stands in no pool, nor does any other that is not idle

none_there : (u : ℕ) (stack : List Parked) → ((i : ℕ) (x : Parked) → slice_get stack i ≡ Some x → x.thread.0 ≡ u → ⊥) → list_any (is_thread u) stack ≡ false
none_there u [] h = refl
none_there u (x ∷ xs) h = go (is_thread u x) refl (none_there u xs (λ i y e. h (suc i) y e))
  where
    go : (b : Bool) → (x.thread.0 == u) ≡ b → list_any (is_thread u) xs ≡ false → (b || list_any (is_thread u) xs) ≡ false
    go true e f = absurd (h zero x refl (same_number x.thread.0 u e))
    go false e f = f

pub stands_nowhere :
    {n : ℕ} {table : ProcessTable} {doors : List Door} {tree : CallTree} {list : NoticeList} {v : PoolsValue} → Agrees n table doors tree list v → (u : ℕ) →
    is_idle (state_in (thread_at table u)) ≡ false → (pool : Pool) → list_any (is_thread u) (stack_in v pool) ≡ false
stands_nowhere {n} {table} {doors} {tree} {list} {v} h u calm pool =
    none_there u (stack_in v pool)
    (λ i x e f.
    let k : parked_at table v.bindings u ≡ Some x = subst (λ t. parked_at table v.bindings t ≡ Some x) f ((h.stacks pool).parked i x e).parked in
    let none : parked_at table v.bindings u ≡ None = not_parked table v.bindings u calm in
    let m : Some x ≡ None = sym k ∙ none in
    absurd cc)

pub nowhere_first :
    {n : ℕ} {table : ProcessTable} {doors : List Door} {tree : CallTree} {list : NoticeList} {v : PoolsValue} → Agrees n table doors tree list v → (first : Option Tid) →
    IfSome first (λ u. is_idle (state_in (thread_at table u.0)) ≡ false) → IfSome first (λ u. (pool : Pool) → list_any (is_thread u.0) (stack_in v pool) ≡ false)
nowhere_first h None not_idle = tt
nowhere_first h (Some u) not_idle = stands_nowhere h u.0 not_idle

-- the first thread of a child

first_is : (o : Option Tid) (place : Option ℕ) → option_map (λ (t : Tid). t.0) o ≡ option_map (λ k. k + 1) place → (bindings : List (Option ℕ)) → bind_lost_first bindings o ≡ bind_first bindings place
first_is None None e bindings = refl
first_is None (Some k) e bindings = cc
first_is (Some t) None e bindings = cc
first_is (Some t) (Some k) e bindings = let same : t.0 ≡ k + 1 = cc in ap (bind_lost bindings) same

pub child_bindings :
    (table : ProcessTable) (child t : ℕ) (bindings : List (Option ℕ)) (first : Option Tid) → option_map (λ (u : Tid). u.0) first ≡ first_number table child →
    bindings_of_child bindings t first ≡ (if is_some (bound_at bindings t) then bind_first bindings (first_place table child) else bindings)
child_bindings table child t bindings first e =
    ap (λ bs. if is_some (bound_at bindings t) then bs else bindings) (first_is first (first_place table child) e bindings)

first_in : (table : ProcessTable) (child i : ℕ) → first_place table child ≡ Some i → process_in (thread_at table (i + 1)) ≡ child
first_in table child i e =
    let h = position-Some (is_first_of child) table.threads i (new_thread 0 0 true) e in
    ap process_in (ap (at_number table.threads) next ∙ at_number-suc table.threads i ∙ slice_get-get_or table.threads i (new_thread 0 0 true) h.0)
    ∙ grind (arith, nat_tests, h.1)
  where
    next : i + 1 ≡ suc i
    next = omega arith

calm : (s : ThreadState) → is_dormant s ≡ true → is_idle s ≡ false
calm s e = grind (arith, nat_tests)

pub first_calm :
    (table : ProcessTable) (child : ℕ) (first : Option Tid) → option_map (λ (u : Tid). u.0) first ≡ first_number table child →
    ((t : ℕ) → process_in (thread_at table t) ≡ child → is_dormant (state_in (thread_at table t)) ≡ true) →
    IfSome first (λ u. is_idle (state_in (thread_at table u.0)) ≡ false)
first_calm table child None e dormant = tt
first_calm table child (Some u) e dormant = go (first_place table child) refl e
  where
    go : (o : Option ℕ) → first_place table child ≡ o → Some u.0 ≡ option_map (λ k. k + 1) o → is_idle (state_in (thread_at table u.0)) ≡ false
    go None f g = cc
    go (Some i) f g =
        let same : u.0 ≡ i + 1 = cc in
        calm (state_in (thread_at table u.0)) (dormant u.0 (ap (λ t. process_in (thread_at table t)) same ∙ first_in table child i f))

-- bindings of a thread that is not parked agree as well

pub agrees_child_bound :
    {n : ℕ} {table : ProcessTable} {doors : List Door} {tree : CallTree} {list : NoticeList} {v : PoolsValue} → Agrees n table doors tree list v → (t : ℕ) (first : Option Tid) →
    IfSome first (λ u. is_idle (state_in (thread_at table u.0)) ≡ false) → Agrees n table doors tree list (record v { bindings = bindings_of_child v.bindings t first })
agrees_child_bound {n} {table} {doors} {tree} {list} {v} h t first not_idle = go (is_some (bound_at v.bindings t))
  where
    bound : (o : Option Tid) → IfSome o (λ u. is_idle (state_in (thread_at table u.0)) ≡ false) → Agrees n table doors tree list (record v { bindings = bind_lost_first v.bindings o })
    bound None f = h
    bound (Some u) f = agrees_bind h u.0 (Some LOST_DOOR) f

    go : (b : Bool) → Agrees n table doors tree list (record v { bindings = if b then bind_lost_first v.bindings first else v.bindings })
    go true = bound first not_idle
    go false = h

-- spares that are withdrawn

-- of a change that changes nothing
set_same : {X : Type 0} (xs : List X) (n : ℕ) (x : X) → at_number xs n ≡ Some x → with_at_number xs n x ≡ xs
set_same xs zero x e = refl
set_same {X} xs (suc n) x e = with_at_number-suc xs n x ∙ set_at xs n (sym (at_number-suc xs n) ∙ e)
  where
    set_at : (ys : List X) (i : ℕ) → slice_get ys i ≡ Some x → slice_set ys i x ≡ ys
    set_at [] i f = refl
    set_at (y ∷ ys) zero f = let same : y ≡ x = cc in ap (λ z. z ∷ ys) (sym same)
    set_at (y ∷ ys) (suc i) f = ap (λ zs. y ∷ zs) (set_at ys i f)

unchanged : {X : Type 0} (xs : List X) (n : ℕ) (change : X → X) → ((x : X) → change x ≡ x) → change_at_number xs n change ≡ xs
unchanged {X} xs n change same = go (at_number xs n) refl
  where
    go : (o : Option X) → at_number xs n ≡ o → change_item xs n change o ≡ xs
    go None e = refl
    go (Some x) e = ap (with_at_number xs n) (same x) ∙ set_same xs n x e

-- of two changes after each other
set_twice : {X : Type 0} (xs : List X) (n : ℕ) (x y : X) → with_at_number (with_at_number xs n x) n y ≡ with_at_number xs n y
set_twice xs zero x y = refl
set_twice {X} xs (suc n) x y =
    ap (λ ys. with_at_number ys (suc n) y) (with_at_number-suc xs n x) ∙ with_at_number-suc (slice_set xs n x) n y ∙ set_at xs n
    ∙ sym (with_at_number-suc xs n y)
  where
    set_at : (ys : List X) (i : ℕ) → slice_set (slice_set ys i x) i y ≡ slice_set ys i y
    set_at [] i = refl
    set_at (z ∷ ys) zero = refl
    set_at (z ∷ ys) (suc i) = ap (λ zs. z ∷ zs) (set_at ys i)

changed_twice :
    {X : Type 0} (xs : List X) (n : ℕ) (f g : X → X) → change_at_number (change_at_number xs n f) n g ≡ change_at_number xs n (λ x. g (f x))
changed_twice {X} xs n f g = go (at_number xs n) refl
  where
    go : (o : Option X) → at_number xs n ≡ o → change_at_number (change_item xs n f o) n g ≡ change_item xs n (λ x. g (f x)) o
    go None e = ap (change_item xs n g) e
    go (Some x) e =
        let here : at_number (with_at_number xs n (f x)) n ≡ Some (f x) = subst (λ o. at_number (change_item xs n f o) n ≡ option_map f o) e (changed_here xs n f) in
        ap (change_item (with_at_number xs n (f x)) n g) here ∙ set_twice xs n (f x) (g (f x))

filter_twice : (p q : ℕ → Bool) (xs : List ℕ) → filter q (filter p xs) ≡ filter (λ x. p x && q x) xs
filter_twice p q [] = refl
filter_twice p q (x ∷ xs) = go (p x) (filter_twice p q xs)
  where
    go : (b : Bool) → filter q (filter p xs) ≡ filter (λ y. p y && q y) xs → filter q (cond b (x ∷ filter p xs) (filter p xs)) ≡ cond (b && q x) (x ∷ filter (λ y. p y && q y) xs) (filter (λ y. p y && q y) xs)
    go true e = ap (λ ys. cond (q x) (x ∷ ys) ys) e
    go false e = e

filter_all : (p : ℕ → Bool) → ((x : ℕ) → p x ≡ true) → (xs : List ℕ) → filter p xs ≡ xs
filter_all p all [] = refl
filter_all p all (x ∷ xs) = ap (λ b. cond b (x ∷ filter p xs) (filter p xs)) (all x) ∙ ap (λ ys. x ∷ ys) (filter_all p all xs)

-- those that are not yet withdrawn
abbrev pub is_to_come : ProcessTable → ℕ → ThreadSet → ℕ → Bool
is_to_come table child rest t = has rest t || stays_spare table child t

filters : (v : PoolsValue) (child : ℕ) (p q : ℕ → Bool) → ((t : ℕ) → p t ≡ q t) → change_spares v child (filter p) ≡ change_spares v child (filter q)
filters v child p q same = ap (change_spares v child) (fun_ext (λ xs. filter_agree p q same xs))

module _ (v : PoolsValue) (table : ProcessTable) (child : ℕ) where
  either_stays : (b s : Bool) → (b || not (b && not s)) ≡ true
  either_stays true s = refl
  either_stays false s = refl

  pub none_withdrawn : (rest : ThreadSet) → ((t : ℕ) → has rest t ≡ is_of child (thread_at table t)) → v ≡ change_spares v child (filter (is_to_come table child rest))
  none_withdrawn rest all =
      ap (λ spares. record v { spares = spares })
      (sym
      (unchanged v.spares child (filter (is_to_come table child rest))
      (filter_all (is_to_come table child rest)
      (λ t. ap (λ b. b || stays_spare table child t) (all t) ∙ either_stays (is_of child (thread_at table t)) (is_spare_in (thread_at table t))))))

  pub all_withdrawn : (rest : ThreadSet) → ((t : ℕ) → has rest t ≡ false) → change_spares v child (filter (is_to_come table child rest)) ≡ change_spares v child (filter (stays_spare table child))
  all_withdrawn rest none = filters v child (is_to_come table child rest) (stays_spare table child) (λ t. ap (λ b. b || stays_spare table child t) (none t))

  module _ (rest later : ThreadSet) (t : ℕ) (taken : (u : ℕ) → has later u ≡ with_thread rest t false u) (here : has rest t ≡ true) (own : is_of child (thread_at table t) ≡ true) where
    -- one that stays
    pub one_stays :
        is_spare_in (thread_at table t) ≡ true →
        change_spares v child (filter (is_to_come table child rest)) ≡ change_spares v child (filter (is_to_come table child later))
    one_stays spare = filters v child (is_to_come table child rest) (is_to_come table child later) (λ u. go u (u == t) refl (taken u))
      where
        go : (u : ℕ) (b : Bool) → (u == t) ≡ b → has later u ≡ (if b then false else has rest u) → (has rest u || stays_spare table child u) ≡ (has later u || stays_spare table child u)
        go u true e f =
            let same : u ≡ t = same_number u t e in
            let stays : stays_spare table child u ≡ true =
            ap (stays_spare table child) same ∙ ap₂ (λ a b. not (a && not b)) own spare in
            ap₂ (λ a b. a || b) (ap (has rest) same ∙ here) stays ∙ sym (ap₂ (λ a b. a || b) f stays)
        go u false e f = ap (λ a. a || stays_spare table child u) (sym f)

    -- one that does not
    pub one_withdrawn :
        is_spare_in (thread_at table t) ≡ false →
        change_spares (change_spares v child (filter (is_to_come table child rest))) child (without_spare t) ≡ change_spares v child (filter (is_to_come table child later))
    one_withdrawn first =
        ap (λ spares. record v { spares = spares }) (changed_twice v.spares child (filter (is_to_come table child rest)) (without_spare t))
        ∙ ap (change_spares v child) (fun_ext (λ xs. filter_twice (is_to_come table child rest) (is_another_spare t) xs))
        ∙ filters v child (λ u. is_to_come table child rest u && is_another_spare t u) (is_to_come table child later) (λ u. go u (u == t) refl (taken u))
      where
        go :
            (u : ℕ) (b : Bool) → (u == t) ≡ b → has later u ≡ (if b then false else has rest u) →
            ((has rest u || stays_spare table child u) && not (u == t)) ≡ (has later u || stays_spare table child u)
        go u true e f =
            let same : u ≡ t = same_number u t e in
            let goes : stays_spare table child u ≡ false =
            ap (stays_spare table child) same ∙ ap₂ (λ a b. not (a && not b)) own first in
            ap (λ c. (has rest u || stays_spare table child u) && not c) e ∙ none (has rest u || stays_spare table child u)
            ∙ sym (ap₂ (λ a b. a || b) f goes)
          where
            none : (a : Bool) → (a && false) ≡ false
            none true = refl
            none false = refl
        go u false e f = ap (λ c. (has rest u || stays_spare table child u) && not c) e ∙ both (has rest u || stays_spare table child u) ∙ ap (λ a. a || stays_spare table child u) (sym f)
          where
            both : (a : Bool) → (a && true) ≡ a
            both true = refl
            both false = refl

-- those that the records have left

spares_stay : (table : ProcessTable) (child n : ℕ) → filter (stays_spare table child) (spares_among table child n) ≡ filter (is_left table) (spares_among table child n)
spares_stay table child zero = refl
spares_stay table child (suc n) =
    filter-append (stays_spare table child) (spares_among table child n) (spare_at table child (suc n))
    ∙ ap₂ (λ us vs. us ++ vs) (spares_stay table child n) (go (thread_at table (suc n)) refl)
    ∙ sym (filter-append (is_left table) (spares_among table child n) (spare_at table child (suc n)))
  where
    twice : (b : Bool) → not (true && not b) ≡ b
    twice true = refl
    twice false = refl

    at : (x : Thread) → thread_at table (suc n) ≡ Some x → (b d : Bool) → (x.process.0 == child) ≡ b →
        filter (stays_spare table child) (if b && d then suc n ∷ [] else []) ≡ filter (is_left table) (if b && d then suc n ∷ [] else [])
    at x e true true f =
        ap (λ c. cond c (suc n ∷ []) [])
        (ap₂ (λ a b. not (a && not b)) (ap (is_of child) e ∙ f) (ap is_spare_in e) ∙ twice x.spare ∙ sym (ap is_spare_in e))
    at x e true false f = refl
    at x e false d f = refl

    go : (o : Option Thread) → thread_at table (suc n) ≡ o → filter (stays_spare table child) (spare_in child (suc n) o) ≡ filter (is_left table) (spare_in child (suc n) o)
    go None e = refl
    go (Some x) e = at x e (x.process.0 == child) (is_dormant x.state) refl

changed_spares : (o : Option (List ℕ)) (p : ℕ → Bool) → spares_or_none (option_map (filter p) o) ≡ filter p (spares_or_none o)
changed_spares None p = refl
changed_spares (Some us) p = refl

module _
    {n : ℕ} {table : ProcessTable} {doors : List Door} {tree : CallTree} {list : NoticeList} {v : PoolsValue} (h : Agrees n table doors tree list v) (child : ℕ)
    (dormant : (t : ℕ) → process_in (thread_at table t) ≡ child → is_dormant (state_in (thread_at table t)) ≡ true) where
  pub agrees_begun : Agrees n (begin_process table child) doors tree list (change_spares v child (filter (stays_spare table child)))
  agrees_begun =
      agrees_begin h child
      (λ t x e own. calm x.state (ap (λ o. is_dormant (state_in o)) (sym e) ∙ dormant t (ap process_in e ∙ own)))
      (change_spares v child (filter (stays_spare table child))) refl (λ q. refl) (λ q. refl)
      (ap spares_or_none (changed_here v.spares child (filter (stays_spare table child)))
      ∙ changed_spares (at_number v.spares child) (stays_spare table child)
      ∙ ap (filter (stays_spare table child)) (h.spares child)
      ∙ spares_stay table child (length table.threads)
      ∙ sym (ap (filter (is_left table)) (h.spares child)))
      (λ p other. ap spares_or_none (changed_elsewhere v.spares child p (filter (stays_spare table child)) (λ e. absurd (differs p other e))))
      refl (length-change_at_number v.spares child (filter (stays_spare table child))) refl
    where
      differs : (p : ℕ) → (child == p) ≡ false → child ≡ p → ⊥
      differs p e f = absurd (grind (arith, nat_tests))

-- a thread that has not begun stays so as others leave, unless it ends

pub dormant_left :
    (table : ProcessTable) (calls : List Call) (who : Leaving) (now : ℕ) → ((t : ℕ) (x : Thread) → thread_at table t ≡ Some x → x.number ≡ t) → AreBacked table calls →
    (t : ℕ) → who.ends t ≡ false → is_dormant (state_in (thread_at table t)) ≡ true → is_dormant (state_in (thread_at (left_threads who now calls table) t)) ≡ true
dormant_left table calls who now numbers backed t stays dormant =
    ap (λ o. is_dormant (state_in o)) (at_number-map (left_thread_of who now calls) table.threads t) ∙ go (thread_at table t) refl dormant
  where
    outside : (s : ThreadState) → is_dormant s ≡ true → is_outside s ≡ true
    outside s e = grind (arith, nat_tests)

    not_given : (s : ThreadState) (c : ℕ) → is_dormant s ≡ true → s ≡ is.Given (item.Call c) → ⊥
    not_given s c e f = absurd (grind (arith, nat_tests))

    none : find (is_served_by t) calls ≡ None
    none = serves_not table t calls backed (outside _ dormant) (λ c e. not_given _ c dormant e)

    at : (x : Thread) (b : Bool) → is_dormant x.state ≡ true → is_dormant (interrupted_where b x).state ≡ true
    at x b e = asleep b x.state e
      where
        asleep : (b : Bool) (s : ThreadState) → is_dormant s ≡ true → is_dormant (interrupted_where b (record x { state = s })).state ≡ true
        asleep true is.Dormant e = refl
        asleep true _ e = cc
        asleep false s e = e

    go : (o : Option Thread) → thread_at table t ≡ o → is_dormant (state_in o) ≡ true → is_dormant (state_in (option_map (left_thread_of who now calls) o)) ≡ true
    go None e f = f
    go (Some x) e f =
        let number = numbers t x e in
        subst (λ k. is_dormant (left_thread who now (find (is_served_by k) calls) x).state ≡ true) (sym number)
        (subst (λ o. is_dormant (left_thread who now o x).state ≡ true) (sym none)
        (subst (λ b. is_dormant (if b then ended_thread x else interrupted_where (who.interrupts x.number) x).state ≡ true) (sym (ap who.ends number ∙ stays)) (at x (who.interrupts x.number) f)))

-- the first thread of a process is the same

pub first_left :
    (table : ProcessTable) (calls : List Call) (who : Leaving) (now child : ℕ) → first_place (left_threads who now calls table) child ≡ first_place table child
first_left table calls who now child =
    ap₂ (λ (k n : ℕ). cond (nat_lt k n) (Some k) None) (places table.threads) (length-map table.threads (left_thread_of who now calls))
  where
    same : (x : Thread) → is_first_of child (left_thread_of who now calls x) ≡ is_first_of child x
    same x = left_thread_of-same (is_first_of child) (λ i s y. refl) who now calls x

    places : (xs : List Thread) → position_or_len (is_first_of child) (map (left_thread_of who now calls) xs) ≡ position_or_len (is_first_of child) xs
    places [] = refl
    places (x ∷ xs) = ap₂ (λ (b : Bool) (k : ℕ). cond (not b) (1 + k) 0) (same x) (places xs)

-- nobody is idle that was not, as a process begins
pub idle_begun :
    (table : ProcessTable) (child t : ℕ) → is_idle (state_in (thread_at (begin_process table child) t)) ≡ true → is_idle (state_in (thread_at table t)) ≡ true
idle_begun table child t e = go (thread_at table t) (ap (λ o. is_idle (state_in o)) (sym (thread_at-begin_process table child t)) ∙ e)
  where
    go : (o : Option Thread) → is_idle (state_in (option_map (begun_thread child) o)) ≡ true → is_idle (state_in o) ≡ true
    go None f = f
    go (Some x) f = begun_thread-case (λ y. is_idle y.state ≡ true → is_idle x.state ≡ true) child x (λ g. g) (λ g. cc) f
