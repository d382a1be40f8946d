-- The pools where a thread leaves them: its pool where it is parked, and the spares of its process where it was not started; and
-- where it parks after others that parked at the same event.
use Rattle.std.proofs.Common.{◌≡◌, ℕ, zero, suc, ◌==◌, ◌&&◌, Bool, true, false, not, if◌then◌else◌, List, [], ◌∷◌, ◌++◌, Option, Some, None, option_map, is_some, length, slice_set, refl, sym, ap, ap₂, ◌∙◌, subst, le_refl, arith}
use Rattle.std.proofs.lemmas.Bool.Decides.{nat_tests}
use Rattle.std.proofs.lemmas.List.Elements.{filter-append}
use Rattle.dk_base.specs.ByNumber.{at_number, with_at_number}
use Rattle.spec_records.specs.declared.record.ThreadState.TheVariants as is
use Rattle.spec_records.specs.Words.{CallTree, NoticeList, ProcessTable, bound_at, change_thread, change_thread_in, end_thread, ended_thread, idle_thread, is_dormant, is_idle, is_pool, is_spare_of, park_thread, parked_at, parked_in, parked_thread, pool_of_thread, process_in, state_in, thread_at, tid}
use Rattle.spec_kernel.specs.Types.{Door, Parked, Pool, Thread, ThreadState}
use Rattle.spec_kernel.proofs.Giving.{same_pool}
use Rattle.spec_records.proofs.Lists.{at_number-renumbered_there, with_at_number-suc}
use Rattle.spec_kernel.proofs.Threads.{processes-change_thread}
use Rattle.server_pool.specs.Words.{AllParkedBefore, PoolValue, PoolsValue, change_at_number, change_item, change_pool, change_spares, is_another_spare, park_in, pool_at, spares_of, spares_or_none, stack_in, unpark_in, without_spare, without_thread}
use Rattle.law_pools.specs.Words.{Agrees, IsQueueOf, IsStackOf, pool_by, spare_at, spare_in, spares_among}
use Rattle.law_pools.proofs.Leaving.{read_change, read_kept}
use Rattle.law_pools.proofs.Parking.{IsParkedAlikeBut, nowhere, stack_kept, stack_pushed_after, stack_without}
use Rattle.law_pools.proofs.Queues.{stack_same}
use Rattle.law_pools.proofs.Readers.{bindings-change_pool, common-change_pool, is_pool-self, is_pool-sym, length-change_at_number, private-change_pool, same_number, spares-change_other, spares-change_pool, spares-change_same, stack-change_other, stack-change_same}
use Rattle.law_pools.proofs.Spares.{not_spare, spares_same}
use Rattle.law_pools.proofs.Stacks.{changed_alike, changed_spares, length-change_thread, not_parked, state_changed, thread_elsewhere, thread_there}

-- a change that leaves a thread as parked, and a spare as it was: of its invocation, say

module _ {n : ℕ} {table : ProcessTable} {doors : List Door} {tree : CallTree} {list : NoticeList} {v : PoolsValue} (h : Agrees n table doors tree list v) where
  pub agrees_alike :
      (t : ℕ) (change : Thread → Thread) → ((x : Thread) (b : Option ℕ) → parked_in t (pool_of_thread (change x) b) (change x).state ≡ parked_in t (pool_of_thread x b) x.state) →
      ((x : Thread) (p : ℕ) → is_spare_of p (change x) ≡ is_spare_of p x) → Agrees n (change_thread table t change) doors tree list v
  agrees_alike t change parked spare =
      record {
        stacks =
            λ q. let s = h.stacks q in record {
              parked =
                  λ i x e. let k = s.parked i x e in
                  record { parked = at x.thread.0 ∙ k.parked; same_pool = k.same_pool; since = k.since };
              all = λ u x e f. s.all u x (sym (at u) ∙ e) f;
              in_order = s.in_order;
            };
        queues = h.queues;
        spares =
            λ p. h.spares p
            ∙ sym (spares_same table after p (length table.threads) (λ u l. spares_at p u (u == t) refl))
            ∙ ap (spares_among after p) (sym (length-change_thread table t change));
        calls = h.calls;
        call_dates = h.call_dates;
        notices = h.notices;
        notice_dates = h.notice_dates;
        kept = h.kept;
        common = h.common ∙ ap length (sym (processes-change_thread table t change));
        spare_lists = h.spare_lists ∙ ap length (sym (processes-change_thread table t change));
        private = h.private;
      }
    where
      after : ProcessTable
      after = change_thread table t change

      own : (o : Option Thread) → parked_thread v.bindings t (option_map change o) ≡ parked_thread v.bindings t o
      own None = refl
      own (Some x) = parked x (bound_at v.bindings t)

      here : parked_at after v.bindings t ≡ parked_at table v.bindings t
      here = ap (parked_thread v.bindings t) (thread_there table t change) ∙ own (thread_at table t)

      at_either : (u : ℕ) (b : Bool) → (u == t) ≡ b → parked_at after v.bindings u ≡ parked_at table v.bindings u
      at_either u true e = subst (λ w. parked_at after v.bindings w ≡ parked_at table v.bindings w) (sym (same_number u t e)) here
      at_either u false e = ap (parked_thread v.bindings u) (thread_elsewhere table t u change e)

      at : (u : ℕ) → parked_at after v.bindings u ≡ parked_at table v.bindings u
      at u = at_either u (u == t) refl

      own_spare : (p : ℕ) (o : Option Thread) → spare_in p t (option_map change o) ≡ spare_in p t o
      own_spare p None = refl
      own_spare p (Some x) = ap (λ b. if b then t ∷ [] else []) (spare x p)

      spares_at : (p u : ℕ) (b : Bool) → (u == t) ≡ b → spare_at after p u ≡ spare_at table p u
      spares_at p u true e =
          subst (λ w. spare_at after p w ≡ spare_at table p w) (sym (same_number u t e))
          (ap (spare_in p t) (thread_there table t change) ∙ own_spare p (thread_at table t))
      spares_at p u false e = ap (spare_in p u) (thread_elsewhere table t u change e)

-- an idle thread leaves its pool

idle_not_dormant : (s : ThreadState) → is_idle s ≡ true → is_dormant s ≡ false
idle_not_dormant (is.Idle since) e = refl
idle_not_dormant is.Dormant e = cc
idle_not_dormant _ e = refl

dormant_not_idle : (s : ThreadState) → is_dormant s ≡ true → is_idle s ≡ false
dormant_not_idle is.Dormant e = refl
dormant_not_idle (is.Idle since) e = cc
dormant_not_idle _ e = refl

-- where a thread is parked, it is in its own pool
pub parked_in_own :
    (table : ProcessTable) (bindings : List (Option ℕ)) (t : ℕ) (x : Parked) → parked_at table bindings t ≡ Some x →
    x.pool ≡ pool_by (process_in (thread_at table t)) (bound_at bindings t)
parked_in_own table bindings t x e = go (thread_at table t) e
  where
    by_pool : (y : Thread) (b : Option ℕ) → pool_of_thread y b ≡ pool_by y.process.0 b
    by_pool y None = refl
    by_pool y (Some d) = refl

    at_state : (pool : Pool) (s : ThreadState) → parked_in t pool s ≡ Some x → x.pool ≡ pool
    at_state pool (is.Idle since) f = let same : record { thread = tid t; pool = pool; since = since } ≡ x = cc in ap (λ (y : Parked). y.pool) (sym same)
    at_state pool _ f = cc

    go : (o : Option Thread) → parked_thread bindings t o ≡ Some x → x.pool ≡ pool_by (process_in o) (bound_at bindings t)
    go None f = cc
    go (Some y) f = at_state (pool_of_thread y (bound_at bindings t)) y.state f ∙ by_pool y (bound_at bindings t)

module _ {n : ℕ} {table : ProcessTable} {doors : List Door} {tree : CallTree} {list : NoticeList} {v : PoolsValue} (h : Agrees n table doors tree list v) (t : ℕ) where
  abbrev after : ProcessTable
  after = end_thread table t

  gone : parked_at after v.bindings t ≡ None
  gone = not_parked after v.bindings t (state_changed table t ended_thread is_idle refl (λ x. refl))

  pub agrees_unparked :
      (pool : Pool) → pool ≡ pool_by (process_in (thread_at table t)) (bound_at v.bindings t) → is_idle (state_in (thread_at table t)) ≡ true →
      Agrees n (end_thread table t) doors tree list (change_pool v pool (unpark_in t))
  agrees_unparked pool own idle =
      record {
        stacks =
            λ q. stack_same after n q v.bindings w.bindings (stack_at q (is_pool pool q)) (stack_in w q) (bindings-change_pool v pool (unpark_in t))
            (read_change (λ (x : PoolValue). x.parked) (without_thread t) (unpark_in t) (λ x. refl) refl v pool q)
            (stack q (is_pool pool q) refl);
        queues =
            λ q. subst (IsQueueOf doors tree.calls list.notices q)
            (sym (read_kept (λ (x : PoolValue). x.waiting) (unpark_in t) (λ x. refl) v pool q)) (h.queues q);
        spares =
            λ p. ap (λ us. spares_or_none (at_number us p)) (spares-change_pool v pool (unpark_in t))
            ∙ h.spares p
            ∙ sym (changed_spares table t p ended_thread (idle_not_dormant (state_in (thread_at table t)) idle) (λ x. refl));
        calls = h.calls;
        call_dates = h.call_dates;
        notices = h.notices;
        notice_dates = h.notice_dates;
        kept = h.kept;
        common = common-change_pool v pool (unpark_in t) ∙ h.common ∙ ap length (sym (processes-change_thread table t ended_thread));
        spare_lists =
            ap length (spares-change_pool v pool (unpark_in t)) ∙ h.spare_lists
            ∙ ap length (sym (processes-change_thread table t ended_thread));
        private = private-change_pool v pool (unpark_in t) ∙ h.private;
      }
    where
      w : PoolsValue
      w = change_pool v pool (unpark_in t)

      stack_at : Pool → Bool → List Parked
      stack_at q b = if b then without_thread t (stack_in v q) else stack_in v q

      alike : IsParkedAlikeBut t table v.bindings after v.bindings
      alike = changed_alike table v.bindings t ended_thread

      stack : (q : Pool) (b : Bool) → is_pool pool q ≡ b → IsStackOf after v.bindings n q (if b then without_thread t (stack_in v q) else stack_in v q)
      stack q true e = stack_without t table v.bindings after v.bindings n q alike (stack_in v q) gone (h.stacks q)
      stack q false e =
          stack_kept t table v.bindings after v.bindings n n q (stack_in v q) alike (h.stacks q) (le_refl n)
          (record { other_pool = λ x k. ap (is_pool q) (parked_in_own table v.bindings t x k ∙ sym own) ∙ is_pool-sym q pool ∙ e })
          (nowhere after v.bindings t q gone)

  -- a spare thread leaves those of its process

  spare_without : (p u : ℕ) (b : Bool) → (u == t) ≡ b → spare_at after p u ≡ without_spare t (spare_at table p u)
  spare_without p u true e =
      subst (λ w. spare_at after p w ≡ without_spare t (spare_at table p w)) (sym (same_number u t e))
      (not_spare after p t (state_changed table t ended_thread is_dormant refl (λ x. refl)) ∙ sym (at_own (thread_at table t)))
    where
      kept : (b : Bool) → without_spare t (if b then t ∷ [] else []) ≡ []
      kept true = ap (λ b. if not b then t ∷ [] else []) (self t)
        where
          self : (k : ℕ) → (k == k) ≡ true
          self k = grind (arith, nat_tests)
      kept false = refl

      at_own : (o : Option Thread) → without_spare t (spare_in p t o) ≡ []
      at_own None = refl
      at_own (Some x) = kept (is_spare_of p x)
  spare_without p u false e = ap (spare_in p u) (thread_elsewhere table t u ended_thread e) ∙ sym (other (thread_at table u))
    where
      kept : (b : Bool) → without_spare t (if b then u ∷ [] else []) ≡ (if b then u ∷ [] else [])
      kept true = ap (λ b. if not b then u ∷ [] else []) e
      kept false = refl

      other : (o : Option Thread) → without_spare t (spare_in p u o) ≡ spare_in p u o
      other None = refl
      other (Some x) = kept (is_spare_of p x)

  spares_without : (p k : ℕ) → spares_among after p k ≡ without_spare t (spares_among table p k)
  spares_without p zero = refl
  spares_without p (suc k) =
      ap₂ (λ us vs. us ++ vs) (spares_without p k) (spare_without p (suc k) (suc k == t) refl)
      ∙ sym (filter-append (is_another_spare t) (spares_among table p k) (spare_at table p (suc k)))

  -- another process's stay
  spare_elsewhere : (p u : ℕ) (b : Bool) → (u == t) ≡ b → (process_in (thread_at table t) == p) ≡ false → spare_at after p u ≡ spare_at table p u
  spare_elsewhere p u true e other =
      subst (λ w. spare_at after p w ≡ spare_at table p w) (sym (same_number u t e))
      (not_spare after p t (state_changed table t ended_thread is_dormant refl (λ x. refl)) ∙ sym (at_own (thread_at table t) other))
    where
      at_own : (o : Option Thread) → (process_in o == p) ≡ false → spare_in p t o ≡ []
      at_own None f = refl
      at_own (Some x) f = ap (λ b. if b && is_dormant x.state then t ∷ [] else []) f
  spare_elsewhere p u false e other = ap (spare_in p u) (thread_elsewhere table t u ended_thread e)

  changed_spares_of :
      (p : ℕ) (o : Option (List ℕ)) → at_number v.spares p ≡ o → spares_of (change_spares v p (without_spare t)) p ≡ without_spare t (spares_of v p)
  changed_spares_of p None e =
      ap (λ xs. spares_or_none (at_number xs p)) (unchanged v.spares p e) ∙ ap spares_or_none e ∙ sym (ap (λ o. without_spare t (spares_or_none o)) e)
    where
      unchanged : (xs : List (List ℕ)) (k : ℕ) → at_number xs k ≡ None → change_at_number xs k (without_spare t) ≡ xs
      unchanged xs k f = ap (λ o. change_item xs k (without_spare t) o) f
  changed_spares_of p (Some us) e = spares-change_same v p (without_spare t) (ap is_some e)

  pub agrees_not_spare :
      (p : ℕ) → p ≡ process_in (thread_at table t) → is_dormant (state_in (thread_at table t)) ≡ true →
      Agrees n (end_thread table t) doors tree list (change_spares v p (without_spare t))
  agrees_not_spare p own dormant =
      record {
        stacks =
            λ q. stack_kept t table v.bindings after v.bindings n n q (stack_in v q) (changed_alike table v.bindings t ended_thread) (h.stacks q)
            (le_refl n)
            (nowhere table v.bindings t q (not_parked table v.bindings t (dormant_not_idle (state_in (thread_at table t)) dormant)))
            (nowhere after v.bindings t q gone);
        queues = h.queues;
        spares = λ q. spares q (p == q) refl ∙ ap (spares_among after q) (sym (length-change_thread table t ended_thread));
        calls = h.calls;
        call_dates = h.call_dates;
        notices = h.notices;
        notice_dates = h.notice_dates;
        kept = h.kept;
        common = h.common ∙ ap length (sym (processes-change_thread table t ended_thread));
        spare_lists =
            length-change_at_number v.spares p (without_spare t) ∙ h.spare_lists
            ∙ ap length (sym (processes-change_thread table t ended_thread));
        private = h.private;
      }
    where
      spares :
          (q : ℕ) (b : Bool) → (p == q) ≡ b → spares_of (change_spares v p (without_spare t)) q ≡ spares_among after q (length table.threads)
      spares q true e =
          subst (λ k. spares_of (change_spares v p (without_spare t)) k ≡ spares_among after k (length table.threads)) (same_number p q e)
          (changed_spares_of p (at_number v.spares p) refl ∙ ap (without_spare t) (h.spares p) ∙ sym (spares_without p (length table.threads)))
      spares q false e =
          spares-change_other v p q (without_spare t) e ∙ h.spares q
          ∙ sym (spares_same table after q (length table.threads)
          (λ u l. spare_elsewhere q u (u == t) refl (ap (λ k. k == q) (sym own) ∙ e)))

-- a thread parks that is no spare and in no pool, after all that are in its pool

module _ {n : ℕ} {table : ProcessTable} {doors : List Door} {tree : CallTree} {list : NoticeList} {v : PoolsValue} (h : Agrees n table doors tree list v) where
  pub agrees_park_after :
      (t : ℕ) (pool : Pool) → is_some (thread_at table t) ≡ true → is_idle (state_in (thread_at table t)) ≡ false →
      is_dormant (state_in (thread_at table t)) ≡ false → pool ≡ pool_by (process_in (thread_at table t)) (bound_at v.bindings t) →
      is_some (pool_at v pool) ≡ true → AllParkedBefore (stack_in v pool) (record { thread = tid t; pool = pool; since = n }) →
      Agrees n (park_thread table t n) doors tree list (change_pool v pool (park_in (record { thread = tid t; pool = pool; since = n })))
  agrees_park_after t pool is_there idle dormant own there above =
      record {
        stacks =
            λ q. subst (λ b. IsStackOf after b n q (stack_in w q)) (sym (bindings-change_pool v pool (park_in y))) (stack q (is_pool pool q) refl);
        queues =
            λ q. subst (IsQueueOf doors tree.calls list.notices q)
            (sym (read_kept (λ (x : PoolValue). x.waiting) (park_in y) (λ x. refl) v pool q)) (h.queues q);
        spares =
            λ p. ap (λ us. spares_or_none (at_number us p)) (spares-change_pool v pool (park_in y))
            ∙ h.spares p
            ∙ sym (changed_spares table t p (idle_thread n) dormant (λ z. refl));
        calls = h.calls;
        call_dates = h.call_dates;
        notices = h.notices;
        notice_dates = h.notice_dates;
        kept = h.kept;
        common = common-change_pool v pool (park_in y) ∙ h.common ∙ ap length (sym (processes-change_thread table t (idle_thread n)));
        spare_lists = ap length (spares-change_pool v pool (park_in y)) ∙ h.spare_lists ∙ ap length (sym (processes-change_thread table t (idle_thread n)));
        private = private-change_pool v pool (park_in y) ∙ h.private;
      }
    where
      y : Parked
      y = record { thread = tid t; pool = pool; since = n }

      after : ProcessTable
      after = park_thread table t n

      w : PoolsValue
      w = change_pool v pool (park_in y)

      alike : IsParkedAlikeBut t table v.bindings after v.bindings
      alike = changed_alike table v.bindings t (idle_thread n)

      before : parked_at table v.bindings t ≡ None
      before = not_parked table v.bindings t idle

      by_pool : (x : Thread) (b : Option ℕ) → pool_of_thread (idle_thread n x) b ≡ pool_by x.process.0 b
      by_pool x None = refl
      by_pool x (Some d) = refl

      parks : (o : Option Thread) → is_some o ≡ true → pool ≡ pool_by (process_in o) (bound_at v.bindings t) → parked_thread v.bindings t (option_map (idle_thread n) o) ≡ Some y
      parks None e f = cc
      parks (Some x) e f = ap (λ q. Some (record { thread = tid t; pool = q; since = n })) (by_pool x (bound_at v.bindings t) ∙ sym f)

      later : parked_at after v.bindings t ≡ Some y
      later = ap (parked_thread v.bindings t) (thread_there table t (idle_thread n)) ∙ parks (thread_at table t) is_there own

      own_stack : IsStackOf after v.bindings n pool (stack_in w pool)
      own_stack =
          subst (IsStackOf after v.bindings n pool) (sym (stack-change_same v pool pool (park_in y) (is_pool-self pool) there))
          (stack_pushed_after t table v.bindings after v.bindings n n pool (stack_in v pool) alike (h.stacks pool) y before later
          (is_pool-self pool) above (le_refl n) (le_refl n))

      stack : (q : Pool) (b : Bool) → is_pool pool q ≡ b → IsStackOf after v.bindings n q (stack_in w q)
      stack q true f = subst (λ p. IsStackOf after v.bindings n p (stack_in w p)) (same_pool pool q f) own_stack
      stack q false f =
          subst (IsStackOf after v.bindings n q) (sym (stack-change_other v pool q (park_in y) f))
          (stack_kept t table v.bindings after v.bindings n n q (stack_in v q) alike (h.stacks q) (le_refl n)
          (nowhere table v.bindings t q before)
          (record {
            other_pool =
                λ z g.
                let joined : Some y ≡ Some z = sym later ∙ g in
                let same : y ≡ z = cc in
                ap (λ (p : Parked). is_pool q p.pool) (sym same) ∙ is_pool-sym q pool ∙ f;
          }))

-- one change of a thread after another is one change
pub change_twice :
    (table : ProcessTable) (t : ℕ) (f g : Thread → Thread) → change_thread (change_thread table t f) t g ≡ change_thread table t (λ x. g (f x))
change_twice table t f g = go (thread_at table t) refl
  where
    again : (xs : List Thread) (k : ℕ) (y x : Thread) → at_number xs k ≡ Some x → at_number (with_at_number xs k y) k ≡ Some y
    again xs k y x e = at_number-renumbered_there xs k k y x e ∙ grind (arith, nat_tests)

    twice : (xs : List Thread) (k : ℕ) (y z : Thread) → with_at_number (with_at_number xs k y) k z ≡ with_at_number xs k z
    twice xs zero y z = refl
    twice xs (suc k) y z =
        ap (λ us. with_at_number us (suc k) z) (with_at_number-suc xs k y) ∙ with_at_number-suc (slice_set xs k y) k z ∙ set_twice xs k y z
        ∙ sym (with_at_number-suc xs k z)
      where
        set_twice : (xs : List Thread) (k : ℕ) (y z : Thread) → slice_set (slice_set xs k y) k z ≡ slice_set xs k z
        set_twice [] k y z = refl
        set_twice (x ∷ xs) zero y z = refl
        set_twice (x ∷ xs) (suc k) y z = ap (λ us. x ∷ us) (set_twice xs k y z)

    go : (o : Option Thread) → thread_at table t ≡ o → change_thread (change_thread_in table t f o) t g ≡ change_thread_in table t (λ x. g (f x)) o
    go None e = ap (change_thread_in table t g) e
    go (Some x) e =
        ap (change_thread_in (record table { threads = with_at_number table.threads t (f x) }) t g) (again table.threads t (f x) x e)
        ∙ ap (λ xs. record table { threads = xs }) (twice table.threads t (f x) (g (f x)))
