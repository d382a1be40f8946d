-- What pools hold agrees with the records where a thread leaves its pool from any place of it; and which threads stand in a pool.
use Rattle.std.proofs.Common.{◌≡◌, ℕ, ◌==◌, ◌&&◌, Bool, true, false, if◌then◌else◌, List, Option, Some, None, is_some, length, slice_get, refl, sym, ap, subst, le_refl, ◌∙◌, arith}
use Rattle.std.proofs.lemmas.Bool.Decides.{nat_tests}
use Rattle.dk_base.specs.ByNumber.{at_number}
use Rattle.spec_records.specs.declared.record.ThreadState.TheVariants as is
use Rattle.spec_records.specs.declared.pool.Pool.TheVariants.{Common, Private}
use Rattle.spec_records.specs.Words.{CallTree, NoticeList, ProcessTable, bound_at, bound_in, change_thread, is_dormant, is_idle, is_pool, parked_at, parked_in, parked_thread, pool_of_thread, process_in, set_thread_state, state_in, thread_at, thread_at_state, tid, unbind_thread}
use Rattle.spec_kernel.specs.Types.{Door, Parked, Pool, Thread, ThreadState}
use Rattle.spec_kernel.proofs.Giving.{same_pool}
use Rattle.spec_records.proofs.Lists.{at_number-with_at_number}
use Rattle.spec_kernel.proofs.Threads.{processes-change_thread}
use Rattle.server_pool.specs.Words.{PoolValue, PoolsValue, change_pool, pool_at, pool_or_empty, queue_in, spares_or_none, stack_in, unpark_in}
use Rattle.law_pools.specs.Words.{Agrees, IsListed, IsQueueOf, IsStackOf, pool_by}
use Rattle.law_pools.proofs.Parking.{IsParkedAlikeBut, nowhere, stack_kept, stack_without}
use Rattle.law_pools.proofs.Readers.{common-change_pool, is_pool-self, is_pool-sym, private-change_pool, queue-change_other, queue-change_same, spares-change_pool, stack-change_other, stack-change_same}
use Rattle.law_pools.proofs.Stacks.{changed_spares, not_parked, state_changed, thread_elsewhere}

-- a thread that is parked is no spare
parked_not_dormant :
    (table : ProcessTable) (bindings : List (Option ℕ)) (t : ℕ) (x : Parked) → parked_at table bindings t ≡ Some x →
    is_dormant (state_in (thread_at table t)) ≡ false
parked_not_dormant table bindings t x e = go (thread_at table t) e
  where
    by_state : (pool : Pool) (s : ThreadState) → parked_in t pool s ≡ Some x → is_dormant s ≡ false
    by_state pool is.Dormant f = cc
    by_state pool _ f = refl

    go : (o : Option Thread) → parked_thread bindings t o ≡ Some x → is_dormant (state_in o) ≡ false
    go None f = refl
    go (Some y) f = by_state (pool_of_thread y (bound_at bindings t)) y.state f

-- what pools hold says nothing of bindings

stack_bound : (w : PoolsValue) (bound : List (Option ℕ)) (q : Pool) → stack_in (record w { bindings = bound }) q ≡ stack_in w q
stack_bound w bound (Common p) = refl
stack_bound w bound (Private d) = refl

queue_bound : (w : PoolsValue) (bound : List (Option ℕ)) (q : Pool) → queue_in (record w { bindings = bound }) q ≡ queue_in w q
queue_bound w bound (Common p) = refl
queue_bound w bound (Private d) = refl

module _ {n : ℕ} {table : ProcessTable} {doors : List Door} {tree : CallTree} {list : NoticeList} {v : PoolsValue} (h : Agrees n table doors tree list v) where
  -- a pool where a thread is parked is there
  parked_there : (pool : Pool) (t : ℕ) (x : Parked) → parked_at table v.bindings t ≡ Some x → is_pool pool x.pool ≡ true → is_some (pool_at v pool) ≡ true
  parked_there pool t x e f = let p : IsListed (stack_in v pool) x = (h.stacks pool).all t x e f in go (pool_at v pool) p.place p.there
    where
      go : (o : Option PoolValue) (i : ℕ) → slice_get (pool_or_empty o).parked i ≡ Some x → is_some o ≡ true
      go None i g = cc
      go (Some pool) i g = refl

  -- a thread leaves its pool, and is bound to another door then, or to none
  module _
      (t : ℕ) (pool : Pool) (x : Parked) (change : Thread → Thread) (bound : List (Option ℕ))
      (parked : parked_at table v.bindings t ≡ Some x) (its_pool : is_pool pool x.pool ≡ true)
      (never_idle : (y : Thread) → is_idle (change y).state ≡ false) (never_dormant : (y : Thread) → is_dormant (change y).state ≡ false)
      (others : (u : ℕ) → (u == t) ≡ false → bound_at bound u ≡ bound_at v.bindings u) where
    abbrev after : ProcessTable
    after = change_thread table t change

    abbrev w : PoolsValue
    w = change_pool v pool (unpark_in t)

    there : is_some (pool_at v pool) ≡ true
    there = parked_there pool t x parked its_pool

    gone : parked_at after bound t ≡ None
    gone = not_parked after bound t (state_changed table t change is_idle refl never_idle)

    alike : IsParkedAlikeBut t table v.bindings after bound
    alike =
        record {
          others =
              λ u e.
              ap (parked_thread bound u) (thread_elsewhere table t u change e) ∙ same u (others u e) (thread_at table u);
        }
      where
        same : (u : ℕ) → bound_at bound u ≡ bound_at v.bindings u → (o : Option Thread) → parked_thread bound u o ≡ parked_thread v.bindings u o
        same u f None = refl
        same u f (Some y) = ap (λ c. parked_in u (pool_of_thread y c) y.state) f

    own : IsStackOf after bound n pool (stack_in w pool)
    own =
        subst (IsStackOf after bound n pool) (sym (stack-change_same v pool pool (unpark_in t) (is_pool-self pool) there))
        (stack_without t table v.bindings after bound n pool alike (stack_in v pool) gone (h.stacks pool))

    stack : (q : Pool) (b : Bool) → is_pool pool q ≡ b → IsStackOf after bound n q (stack_in w q)
    stack q true f = subst (λ p. IsStackOf after bound n p (stack_in w p)) (same_pool pool q f) own
    stack q false f =
        subst (IsStackOf after bound n q) (sym (stack-change_other v pool q (unpark_in t) f))
        (stack_kept t table v.bindings after bound n n q (stack_in v q) alike (h.stacks q) (le_refl n)
        (record {
          other_pool =
              λ z g.
              let joined : Some z ≡ Some x = sym g ∙ parked in
              let same : z ≡ x = cc in
              ap (λ (y : Parked). is_pool q y.pool) same
              ∙ ap (is_pool q) (sym (same_pool pool x.pool its_pool))
              ∙ is_pool-sym q pool ∙ f;
        })
        (nowhere after bound t q gone))

    queue : (q : Pool) (b : Bool) → is_pool pool q ≡ b → queue_in w q ≡ queue_in v q
    queue q true f = queue-change_same v pool q (unpark_in t) f there ∙ ap (queue_in v) (same_pool pool q f)
    queue q false f = queue-change_other v pool q (unpark_in t) f

    processes : length table.processes ≡ length after.processes
    processes = ap length (sym (processes-change_thread table t change))

    pub agrees_left : Agrees n after doors tree list (record w { bindings = bound })
    agrees_left =
        record {
          stacks = λ q. subst (IsStackOf after bound n q) (sym (stack_bound w bound q)) (stack q (is_pool pool q) refl);
          queues =
              λ q. subst (IsQueueOf doors tree.calls list.notices q) (sym (queue_bound w bound q ∙ queue q (is_pool pool q) refl)) (h.queues q);
          spares =
              λ p. ap (λ us. spares_or_none (at_number us p)) (spares-change_pool v pool (unpark_in t))
              ∙ h.spares p
              ∙ sym (changed_spares table t p change (parked_not_dormant table v.bindings t x parked) never_dormant);
          calls = h.calls;
          call_dates = h.call_dates;
          notices = h.notices;
          notice_dates = h.notice_dates;
          kept = h.kept;
          common = common-change_pool v pool (unpark_in t) ∙ h.common ∙ processes;
          spare_lists = ap length (spares-change_pool v pool (unpark_in t)) ∙ h.spare_lists ∙ processes;
          private = private-change_pool v pool (unpark_in t) ∙ h.private;
        }

module _ {n : ℕ} {table : ProcessTable} {doors : List Door} {tree : CallTree} {list : NoticeList} {v : PoolsValue} (h : Agrees n table doors tree list v) where
  -- a thread that is parked wakes with an error, and is bound to no door then
  pub agrees_failed :
      (t : ℕ) (pool : Pool) (x : Parked) → parked_at table v.bindings t ≡ Some x → is_pool pool x.pool ≡ true →
      Agrees n (set_thread_state table t is.FailedReturn) doors tree list
      (record (change_pool v pool (unpark_in t)) { bindings = unbind_thread v.bindings t })
  agrees_failed t pool x parked its_pool =
      agrees_left h t pool x (thread_at_state is.FailedReturn) (unbind_thread v.bindings t) parked its_pool (λ y. refl) (λ y. refl) others
    where
      others : (u : ℕ) → (u == t) ≡ false → bound_at (unbind_thread v.bindings t) u ≡ bound_at v.bindings u
      others u e =
          ap bound_in
          (at_number-with_at_number v.bindings t u None
          ∙ ap (λ c. if c && is_some (at_number v.bindings t) then Some None else at_number v.bindings u) e)

-- where an idle thread is parked

pub record IsParkedSomewhere (table : ProcessTable) (bindings : List (Option ℕ)) (t : ℕ) : Type 0 where
  pub record_of : Parked
  pub parked : parked_at table bindings t ≡ Some record_of
  pub own : is_pool (pool_by (process_in (thread_at table t)) (bound_at bindings t)) record_of.pool ≡ true

pub idle_is_parked :
    (table : ProcessTable) (bindings : List (Option ℕ)) (t : ℕ) → is_idle (state_in (thread_at table t)) ≡ true → IsParkedSomewhere table bindings t
idle_is_parked table bindings t e = go (thread_at table t) refl e
  where
    same : (y : Thread) (b : Option ℕ) → is_pool (pool_by y.process.0 b) (pool_of_thread y b) ≡ true
    same y None = grind (arith, nat_tests)
    same y (Some d) = grind (arith, nat_tests)

    by_state :
        (y : Thread) → thread_at table t ≡ Some y → (s : ThreadState) → y.state ≡ s → is_idle s ≡ true → IsParkedSomewhere table bindings t
    by_state y f (is.Idle since) g i =
        record {
          record_of = record { thread = tid t; pool = pool_of_thread y (bound_at bindings t); since = since };
          parked = ap (parked_thread bindings t) f ∙ ap (parked_in t (pool_of_thread y (bound_at bindings t))) g;
          own =
              ap (λ o. is_pool (pool_by (process_in o) (bound_at bindings t)) (pool_of_thread y (bound_at bindings t))) f
              ∙ same y (bound_at bindings t);
        }
    by_state y f _ g i = cc

    go : (o : Option Thread) → thread_at table t ≡ o → is_idle (state_in o) ≡ true → IsParkedSomewhere table bindings t
    go None f i = cc
    go (Some y) f i = by_state y f y.state refl i
