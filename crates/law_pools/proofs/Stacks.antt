-- What pools hold agrees with the records, from one state to the next: changes of threads and of the doors that they are bound to.
use Rattle.std.proofs.Common.{◌≡◌, ℕ, ◌<◌, ◌≤◌, ◌==◌, ◌&&◌, Bool, true, false, if◌then◌else◌, List, Option, Some, None, option_map, is_some, length, map, refl, sym, ap, ◌∙◌, subst, le_refl, arith}
use Rattle.std.proofs.lemmas.Bool.Decides.{nat_tests}
use Rattle.dk_base.specs.ByNumber.{at_number, with_at_number}
use Rattle.dk_base.specs.declared.object.Item.{Item}
use Rattle.spec_records.specs.declared.pool.Parked.{Parked}
use Rattle.spec_records.specs.declared.pool.Pool.{Pool}
use Rattle.spec_records.specs.declared.pool.TheConstants.{LOST_DOOR}
use Rattle.spec_records.specs.declared.record.Thread.{Thread}
use Rattle.spec_records.specs.declared.record.ThreadState.{ThreadState}
use Rattle.spec_records.specs.declared.record.ThreadState.TheVariants as is
use Rattle.spec_records.specs.Words.{CallTree, NoticeList, ProcessTable, bound_at, bound_in, change_thread, change_thread_in, end_thread, ended_thread, enter_thread, give_thread, idle_thread, is_dormant, is_idle, is_pool, is_private_in, park_thread, parked_at, parked_in, parked_thread, pick_parked, pool_of_thread, process_in, set_thread_state, state_in, thread_at, thread_at_state, thread_in_invocation, tid}
use Rattle.spec_kernel.specs.Types.{Door}
use Rattle.spec_kernel.proofs.Giving.{same_pool}
use Rattle.spec_records.proofs.Lists.{at_number-with_at_number, is_some-at_number, length-with_at_number}
use Rattle.spec_kernel.proofs.Threads.{processes-change_thread, thread_at-change_thread}
use Rattle.server_pool.specs.Words.{AllParkedBefore, PoolsValue, PoolValue, change_pool, match_in, park_in, pick_of, pool_at, pool_or_empty, queue_in, spares_or_none, stack_in}
use Rattle.law_pools.specs.Words.{Agrees, HasPlaces, IsParkedIn, IsQueueOf, IsStackOf, date_of_call, date_of_notice, pool_by, spare_at, spare_in, spares_among}
use Rattle.law_pools.proofs.Dated.{dated_later}
use Rattle.law_pools.proofs.Parked.{pick_of_stack, pick_parked_in}
use Rattle.law_pools.proofs.Parking.{IsParkedAlikeBut, all_before, nowhere, stack_kept, stack_later, stack_popped, stack_pushed}
use Rattle.law_pools.proofs.Readers.{bindings-change_pool, common-change_pool, is_pool-self, is_pool-sym, private-change_pool, queue-change_other, queue-change_same, same_number, spares-change_pool, stack-change_other, stack-change_same}
use Rattle.law_pools.proofs.Spares.{not_spare, spares_same}

-- the pick

pub pick_agrees :
    {n : ℕ} {table : ProcessTable} {doors : List Door} {tree : CallTree} {list : NoticeList} {v : PoolsValue} → Agrees n table doors tree list v → (pool : Pool) →
    pick_parked table v.bindings pool ≡ pick_of (stack_in v pool)
pick_agrees {n} {table} {doors} {tree} {v} h pool = pick_of_stack table v.bindings n pool (stack_in v pool) (h.stacks pool)

-- the records after a change of one thread

pub not_parked : (table : ProcessTable) (bindings : List (Option ℕ)) (t : ℕ) → is_idle (state_in (thread_at table t)) ≡ false → parked_at table bindings t ≡ None
not_parked table bindings t e = go (thread_at table t) e
  where
    not_idle : (pool : Pool) (s : ThreadState) → is_idle s ≡ false → parked_in t pool s ≡ None
    not_idle pool (is.Idle since) f = cc
    not_idle pool _ f = refl

    go : (o : Option Thread) → is_idle (state_in o) ≡ false → parked_thread bindings t o ≡ None
    go None f = refl
    go (Some x) f = not_idle (pool_of_thread x (bound_at bindings t)) x.state f

pub length-change_thread : (table : ProcessTable) (t : ℕ) (change : Thread → Thread) → length (change_thread table t change).threads ≡ length table.threads
length-change_thread table t change = go (thread_at table t)
  where
    go : (o : Option Thread) → length (change_thread_in table t change o).threads ≡ length table.threads
    go None = refl
    go (Some x) = length-with_at_number table.threads t (change x)

pub thread_there :
    (table : ProcessTable) (t : ℕ) (change : Thread → Thread) → thread_at (change_thread table t change) t ≡ option_map change (thread_at table t)
thread_there table t change = thread_at-change_thread table t t change ∙ grind (arith, nat_tests)

pub thread_elsewhere :
    (table : ProcessTable) (t u : ℕ) (change : Thread → Thread) → (u == t) ≡ false → thread_at (change_thread table t change) u ≡ thread_at table u
thread_elsewhere table t u change e = thread_at-change_thread table t u change ∙ ap (λ b. if b then option_map change (thread_at table t) else thread_at table u) e

pub changed_alike :
    (table : ProcessTable) (bindings : List (Option ℕ)) (t : ℕ) (change : Thread → Thread) →
    IsParkedAlikeBut t table bindings (change_thread table t change) bindings
changed_alike table bindings t change = record { others = λ u e. ap (parked_thread bindings u) (thread_elsewhere table t u change e) }

-- a change of a thread's state to one of a kind
pub state_changed :
    (table : ProcessTable) (t : ℕ) (change : Thread → Thread) (test : ThreadState → Bool) → test is.Done ≡ false →
    ((x : Thread) → test (change x).state ≡ false) → test (state_in (thread_at (change_thread table t change) t)) ≡ false
state_changed table t change test done each = ap (λ o. test (state_in o)) (thread_there table t change) ∙ go (thread_at table t)
  where
    go : (o : Option Thread) → test (state_in (option_map change o)) ≡ false
    go None = done
    go (Some x) = each x

-- a thread that was and is no spare leaves those of all processes

pub kept_spares :
    (table : ProcessTable) (t p k : ℕ) (change : Thread → Thread) → is_dormant (state_in (thread_at table t)) ≡ false →
    ((x : Thread) → is_dormant (change x).state ≡ false) → spares_among (change_thread table t change) p k ≡ spares_among table p k
kept_spares table t p k change before later = spares_same table (change_thread table t change) p k (λ u l. go u (u == t) refl)
  where
    there : spare_at (change_thread table t change) p t ≡ spare_at table p t
    there = not_spare (change_thread table t change) p t (state_changed table t change is_dormant refl later) ∙ sym (not_spare table p t before)

    go : (u : ℕ) (b : Bool) → (u == t) ≡ b → spare_at (change_thread table t change) p u ≡ spare_at table p u
    go u true e = subst (λ w. spare_at (change_thread table t change) p w ≡ spare_at table p w) (sym (same_number u t e)) there
    go u false e = ap (spare_in p u) (thread_elsewhere table t u change e)

pub changed_spares :
    (table : ProcessTable) (t p : ℕ) (change : Thread → Thread) → is_dormant (state_in (thread_at table t)) ≡ false →
    ((x : Thread) → is_dormant (change x).state ≡ false) →
    spares_among (change_thread table t change) p (length (change_thread table t change).threads) ≡ spares_among table p (length table.threads)
changed_spares table t p change before later =
    ap (spares_among (change_thread table t change) p) (length-change_thread table t change)
    ∙ kept_spares table t p (length table.threads) change before later

-- a thread parks

module _
    {n : ℕ} {table : ProcessTable} {doors : List Door} {tree : CallTree} {list : NoticeList} {v : PoolsValue} (h : Agrees n table doors tree list v) where
  pub park_above : (t k : ℕ) (pool q : Pool) → n < k → AllParkedBefore (stack_in v pool) (record { thread = tid t; pool = q; since = k })
  park_above t k pool q l =
      all_before t table v.bindings table v.bindings n k pool (stack_in v pool) (record { others = λ u e. refl }) (h.stacks pool)
      (record { thread = tid t; pool = q; since = k }) l

  there_too : {X Y : Type 0} (xs : List X) (ys : List Y) (i : ℕ) → length xs ≡ length ys → is_some (at_number ys i) ≡ true → is_some (at_number xs i) ≡ true
  there_too xs ys i e f = is_some-at_number xs i ∙ grind (arith, nat_tests, is_some-at_number ys i)

  pub own_pool_there :
      HasPlaces table v.bindings doors tree.calls list.notices → (t : ℕ) (x : Thread) → thread_at table t ≡ Some x →
      (bound_at v.bindings t ≡ Some LOST_DOOR → ⊥) → is_some (pool_at v (pool_by x.process.0 (bound_at v.bindings t))) ≡ true
  own_pool_there places t x e not_lost = go (bound_at v.bindings t) refl
    where
      private_there : (o : Option Door) → is_private_in o ≡ true → is_some o ≡ true
      private_there None f = cc
      private_there (Some d) f = refl

      go : (b : Option ℕ) → bound_at v.bindings t ≡ b → is_some (pool_at v (pool_by x.process.0 b)) ≡ true
      go None f = there_too v.common table.processes x.process.0 h.common (places.process_there t x e)
      go (Some d) f = there_too v.private doors d h.private (private_there (at_number doors d) (places.bound_private t d f (apart (d == LOST_DOOR) refl)))
        where
          apart : (c : Bool) → (d == LOST_DOOR) ≡ c → (d == LOST_DOOR) ≡ false
          apart true g = absurd (not_lost (f ∙ ap Some (grind (arith, nat_tests))))
          apart false g = g

  pub agrees_park :
      HasPlaces table v.bindings doors tree.calls list.notices → (t k : ℕ) (x : Thread) (pool : Pool) → thread_at table t ≡ Some x →
      is_idle x.state ≡ false → is_dormant x.state ≡ false → n < k → pool ≡ pool_by (process_in (thread_at table t)) (bound_at v.bindings t) →
      (bound_at v.bindings t ≡ Some LOST_DOOR → ⊥) →
      Agrees k (park_thread table t k) doors tree list (change_pool v pool (park_in (record { thread = tid t; pool = pool; since = k })))
  agrees_park places t k x pool e idle dormant l own not_lost =
      record {
        stacks = λ q. subst (λ b. IsStackOf after b k q (stack_in w q)) (sym (bindings-change_pool v pool (park_in y))) (stack q (is_pool pool q) refl);
        queues = λ q. subst (IsQueueOf doors tree.calls list.notices q) (sym (queue q (is_pool pool q) refl)) (h.queues q);
        spares =
            λ p. ap (λ us. spares_or_none (at_number us p)) (spares-change_pool v pool (park_in y))
            ∙ h.spares p
            ∙ sym (changed_spares table t p (idle_thread k) (ap (λ o. is_dormant (state_in o)) e ∙ dormant) (λ z. refl));
        calls = h.calls;
        call_dates = dated_later (map date_of_call tree.calls) 0 n k (omega arith) h.call_dates;
        notices = h.notices;
        notice_dates = dated_later (map date_of_notice list.notices) 0 n k (omega arith) h.notice_dates;
        kept = h.kept;
        common = common-change_pool v pool (park_in y) ∙ h.common ∙ ap length (sym (processes-change_thread table t (idle_thread k)));
        spare_lists = ap length (spares-change_pool v pool (park_in y)) ∙ h.spare_lists ∙ ap length (sym (processes-change_thread table t (idle_thread k)));
        private = private-change_pool v pool (park_in y) ∙ h.private;
      }
    where
      y : Parked
      y = record { thread = tid t; pool = pool; since = k }

      after : ProcessTable
      after = park_thread table t k

      w : PoolsValue
      w = change_pool v pool (park_in y)

      alike : IsParkedAlikeBut t table v.bindings after v.bindings
      alike = changed_alike table v.bindings t (idle_thread k)

      before : parked_at table v.bindings t ≡ None
      before = not_parked table v.bindings t (ap (λ o. is_idle (state_in o)) e ∙ idle)

      by_pool : (b : Option ℕ) → pool_of_thread (idle_thread k x) b ≡ pool_by x.process.0 b
      by_pool None = refl
      by_pool (Some d) = refl

      its_pool : pool_of_thread (idle_thread k x) (bound_at v.bindings t) ≡ pool
      its_pool = by_pool (bound_at v.bindings t) ∙ ap (λ o. pool_by (process_in o) (bound_at v.bindings t)) (sym e) ∙ sym own

      later : parked_at after v.bindings t ≡ Some y
      later =
          ap (parked_thread v.bindings t) (thread_there table t (idle_thread k) ∙ ap (option_map (idle_thread k)) e)
          ∙ ap (λ q. Some (record { thread = tid t; pool = q; since = k })) its_pool

      there : is_some (pool_at v pool) ≡ true
      there =
          ap (λ q. is_some (pool_at v q)) (own ∙ ap (λ o. pool_by (process_in o) (bound_at v.bindings t)) e)
          ∙ own_pool_there places t x e not_lost

      own_stack : IsStackOf after v.bindings k pool (stack_in w pool)
      own_stack =
          subst (IsStackOf after v.bindings k pool) (sym (stack-change_same v pool pool (park_in y) (is_pool-self pool) there))
          (stack_pushed t table v.bindings after v.bindings n k pool (stack_in v pool) alike (h.stacks pool) y before later (is_pool-self pool) l
          (le_refl k))

      stack : (q : Pool) (b : Bool) → is_pool pool q ≡ b → IsStackOf after v.bindings k q (stack_in w q)
      stack q true f = subst (λ p. IsStackOf after v.bindings k p (stack_in w p)) (same_pool pool q f) own_stack
      stack q false f =
          subst (IsStackOf after v.bindings k q) (sym (stack-change_other v pool q (park_in y) f))
          (stack_kept t table v.bindings after v.bindings n k q (stack_in v q) alike (h.stacks q) (omega arith)
          (nowhere table v.bindings t q before)
          (record {
            other_pool =
                λ z g.
                let joined : Some y ≡ Some z = sym later ∙ g in
                let same : y ≡ z = cc in
                ap (λ (p : Parked). is_pool q p.pool) (sym same) ∙ is_pool-sym q pool ∙ f;
          }))

      queue : (q : Pool) (b : Bool) → is_pool pool q ≡ b → queue_in w q ≡ queue_in v q
      queue q true f =
          queue-change_same v pool q (park_in y) f there ∙ ap (queue_in v) (same_pool pool q f)
      queue q false f = queue-change_other v pool q (park_in y) f

  -- a thread that was and is neither parked nor a spare

  pub agrees_change :
      (t : ℕ) (change : Thread → Thread) → is_idle (state_in (thread_at table t)) ≡ false →
      is_dormant (state_in (thread_at table t)) ≡ false → ((x : Thread) → is_idle (change x).state ≡ false) →
      ((x : Thread) → is_dormant (change x).state ≡ false) → Agrees n (change_thread table t change) doors tree list v
  agrees_change t change idle dormant never_idle never_dormant =
      record {
        stacks =
            λ q. stack_kept t table v.bindings after v.bindings n n q (stack_in v q) (changed_alike table v.bindings t change) (h.stacks q)
            (le_refl n)
            (nowhere table v.bindings t q (not_parked table v.bindings t idle))
            (nowhere after v.bindings t q (not_parked after v.bindings t (state_changed table t change is_idle refl never_idle)));
        queues = h.queues;
        spares = λ p. h.spares p ∙ sym (changed_spares table t p change dormant never_dormant);
        calls = h.calls;
        call_dates = h.call_dates;
        notices = h.notices;
        notice_dates = h.notice_dates;
        kept = h.kept;
        common = h.common ∙ ap length (sym (processes-change_thread table t change));
        spare_lists = h.spare_lists ∙ ap length (sym (processes-change_thread table t change));
        private = h.private;
      }
    where
      after : ProcessTable
      after = change_thread table t change

  pub agrees_turn :
      (t : ℕ) (s : ThreadState) → is_idle (state_in (thread_at table t)) ≡ false → is_dormant (state_in (thread_at table t)) ≡ false →
      is_idle s ≡ false → is_dormant s ≡ false → Agrees n (set_thread_state table t s) doors tree list v
  agrees_turn t s idle dormant not_idle not_dormant = agrees_change t (thread_at_state s) idle dormant (λ x. not_idle) (λ x. not_dormant)

  pub agrees_enter :
      (t : ℕ) (i : Item) → is_idle (state_in (thread_at table t)) ≡ false → is_dormant (state_in (thread_at table t)) ≡ false →
      Agrees n (enter_thread table t i) doors tree list v
  agrees_enter t i idle dormant = agrees_change t (thread_in_invocation i) idle dormant (λ x. refl) (λ x. refl)

  pub agrees_ended :
      (t : ℕ) → is_idle (state_in (thread_at table t)) ≡ false → is_dormant (state_in (thread_at table t)) ≡ false →
      Agrees n (end_thread table t) doors tree list v
  agrees_ended t idle dormant = agrees_change t ended_thread idle dormant (λ x. refl) (λ x. refl)

  -- such a thread is bound to another door, or to none
  pub agrees_bind :
      (t : ℕ) (b : Option ℕ) → is_idle (state_in (thread_at table t)) ≡ false →
      Agrees n table doors tree list (record v { bindings = with_at_number v.bindings t b })
  agrees_bind t b idle =
      record {
        stacks =
            λ q. stack_kept t table v.bindings table bound n n q (stack_in v q) (record { others = other }) (h.stacks q) (le_refl n)
            (nowhere table v.bindings t q (not_parked table v.bindings t idle))
            (nowhere table bound t q (not_parked table bound t idle));
        queues = h.queues;
        spares = h.spares;
        calls = h.calls;
        call_dates = h.call_dates;
        notices = h.notices;
        notice_dates = h.notice_dates;
        kept = h.kept;
        common = h.common;
        spare_lists = h.spare_lists;
        private = h.private;
      }
    where
      bound : List (Option ℕ)
      bound = with_at_number v.bindings t b

      other : (u : ℕ) → (u == t) ≡ false → parked_at table bound u ≡ parked_at table v.bindings u
      other u e = go (thread_at table u)
        where
          same : bound_at bound u ≡ bound_at v.bindings u
          same =
              let read : at_number bound u ≡ at_number v.bindings u =
              at_number-with_at_number v.bindings t u b
              ∙ ap (λ c. if c && is_some (at_number v.bindings t) then Some b else at_number v.bindings u) e in
              ap bound_in read

          go : (o : Option Thread) → parked_thread bound u o ≡ parked_thread v.bindings u o
          go None = refl
          go (Some x) = ap (λ c. parked_in u (pool_of_thread x c) x.state) same

  -- no thread parked, and no call or notice was made since

  pub agrees_later : (k : ℕ) → n ≤ k → Agrees k table doors tree list v
  agrees_later k l =
      record {
        stacks = λ q. stack_later table v.bindings n k q (stack_in v q) l (h.stacks q);
        queues = h.queues;
        spares = h.spares;
        calls = h.calls;
        call_dates = dated_later (map date_of_call tree.calls) 0 n k l h.call_dates;
        notices = h.notices;
        notice_dates = dated_later (map date_of_notice list.notices) 0 n k l h.notice_dates;
        kept = h.kept;
        common = h.common;
        spare_lists = h.spare_lists;
        private = h.private;
      }

-- a thread is given an item

pick_there : (v : PoolsValue) (pool : Pool) (x : Parked) → pick_of (stack_in v pool) ≡ Some x → is_some (pool_at v pool) ≡ true
pick_there v pool x e = go (pool_at v pool) e
  where
    go : (o : Option PoolValue) → pick_of (pool_or_empty o).parked ≡ Some x → is_some o ≡ true
    go None f = cc
    go (Some p) f = refl

idle_at : (table : ProcessTable) (bindings : List (Option ℕ)) (t : ℕ) (x : Parked) → parked_at table bindings t ≡ Some x → is_idle (state_in (thread_at table t)) ≡ true
idle_at table bindings t x e = go (thread_at table t) e
  where
    idle : (pool : Pool) (s : ThreadState) → parked_in t pool s ≡ Some x → is_idle s ≡ true
    idle pool (is.Idle since) f = refl
    idle pool _ f = cc

    go : (o : Option Thread) → parked_thread bindings t o ≡ Some x → is_idle (state_in o) ≡ true
    go None f = cc
    go (Some y) f = idle (pool_of_thread y (bound_at bindings t)) y.state f

idle_not_dormant : (s : ThreadState) → is_idle s ≡ true → is_dormant s ≡ false
idle_not_dormant (is.Idle since) e = refl
idle_not_dormant is.Dormant e = cc
idle_not_dormant _ e = refl

module _
    {n : ℕ} {table : ProcessTable} {doors : List Door} {tree : CallTree} {list : NoticeList} {v : PoolsValue} (h : Agrees n table doors tree list v) (pool : Pool)
    (x : Parked) (picked : pick_of (stack_in v pool) ≡ Some x) where
  its_record : IsParkedIn table v.bindings n pool x
  its_record = pick_parked_in table v.bindings n pool (stack_in v pool) x (h.stacks pool) picked

  pub given_is_idle : is_idle (state_in (thread_at table x.thread.0)) ≡ true
  given_is_idle = idle_at table v.bindings x.thread.0 x its_record.parked

  pub given_pool_there : is_some (pool_at v pool) ≡ true
  given_pool_there = pick_there v pool x picked

  pub spares_given : (i : Item) (p k : ℕ) → spares_among (give_thread table x.thread.0 i) p k ≡ spares_among table p k
  spares_given i p k =
      kept_spares table x.thread.0 p k (thread_at_state (is.Given i))
      (idle_not_dormant (state_in (thread_at table x.thread.0)) given_is_idle) (λ y. refl)

  pub stack_given :
      (i : Item) (q : Pool) → IsStackOf (give_thread table x.thread.0 i) v.bindings n q (stack_in (change_pool v pool match_in) q)
  stack_given i q = go (is_pool pool q) refl
    where
      t : ℕ
      t = x.thread.0

      after : ProcessTable
      after = give_thread table t i

      gone : parked_at after v.bindings t ≡ None
      gone = not_parked after v.bindings t (state_changed table t (thread_at_state (is.Given i)) is_idle refl (λ y. refl))

      alike : IsParkedAlikeBut t table v.bindings after v.bindings
      alike = changed_alike table v.bindings t (thread_at_state (is.Given i))

      own : IsStackOf after v.bindings n pool (stack_in (change_pool v pool match_in) pool)
      own =
          subst (IsStackOf after v.bindings n pool) (sym (stack-change_same v pool pool match_in (is_pool-self pool) given_pool_there))
          (stack_popped t table v.bindings after v.bindings n pool alike (stack_in v pool) x (h.stacks pool) picked refl gone)

      go : (b : Bool) → is_pool pool q ≡ b → IsStackOf after v.bindings n q (stack_in (change_pool v pool match_in) q)
      go true f = subst (λ p. IsStackOf after v.bindings n p (stack_in (change_pool v pool match_in) p)) (same_pool pool q f) own
      go false f =
          subst (IsStackOf after v.bindings n q) (sym (stack-change_other v pool q match_in f))
          (stack_kept t table v.bindings after v.bindings n n q (stack_in v q) alike (h.stacks q) (le_refl n)
          (record {
            other_pool =
                λ z g.
                let joined : Some z ≡ Some x = sym g ∙ its_record.parked in
                let same : z ≡ x = cc in
                ap (λ (y : Parked). is_pool q y.pool) same
                ∙ ap (is_pool q) (sym (same_pool pool x.pool its_record.same_pool))
                ∙ is_pool-sym q pool ∙ f;
          })
          (nowhere after v.bindings t q gone))
