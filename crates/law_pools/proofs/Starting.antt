-- What pools hold agrees with the records as spare threads start, and as processes and threads are made.
use Rattle.std.proofs.Common.{◌≡◌, ℕ, zero, suc, ◌+◌, ◌==◌, ◌&&◌, Bool, true, false, if◌then◌else◌, List, [], ◌∷◌, ◌++◌, Option, Some, None, is_some, length, drop, refl, sym, ap, ap₂, ◌∙◌, subst, le_refl, add-one, append-nil, length-append, arith}
use Rattle.std.proofs.lemmas.Bool.Decides.{nat_tests}
use Rattle.dk_base.specs.ByNumber.{at_number}
use Rattle.spec_records.specs.declared.pool.Parked.{Parked}
use Rattle.spec_records.specs.declared.pool.Pool.{Pool}
use Rattle.spec_records.specs.declared.pool.Pool.TheVariants.{Common, Private}
use Rattle.spec_records.specs.declared.record.Process.{Process}
use Rattle.spec_records.specs.declared.record.Thread.{Thread}
use Rattle.spec_records.specs.declared.record.ThreadState.{ThreadState}
use Rattle.spec_records.specs.declared.record.ThreadState.TheVariants as is
use Rattle.spec_records.specs.Words.{CallTree, NoticeList, ProcessTable, is_dormant, is_idle, new_thread, parked_at, parked_thread, set_thread_state, start_spare, state_in, thread_at, thread_at_state, unborn_thread}
use Rattle.spec_kernel.specs.Types.{Door}
use Rattle.spec_records.proofs.Lists.{at_number-suc, is_some-at_number, numbered_past, numbered_push}
use Rattle.spec_kernel.proofs.Threads.{processes-change_thread}
use Rattle.server_pool.specs.Words.{PoolValue, PoolsValue, change_spares, empty_pool, no_pools, pool_at, pool_or_empty, spares_of, spares_or_none, stack_in, with_spare, without_lowest}
use Rattle.law_pools.specs.Words.{Agrees, IsQueueOf, IsStackOf, spare_at, spare_in, spares_among}
use Rattle.law_pools.proofs.Parking.{nowhere, stack_kept}
use Rattle.law_pools.proofs.Readers.{length-change_at_number, same_number, spares-change_other, spares-change_same}
use Rattle.law_pools.proofs.Spares.{IsLowest, lowest_of, not_spare, not_spare_in, spare_dormant, spare_of_one, spares_left, spares_same, start_first, start_none}
use Rattle.law_pools.proofs.Stacks.{changed_alike, length-change_thread, not_parked, state_changed, thread_elsewhere}

-- spares start

spare_list_there : (v : PoolsValue) (p t : ℕ) (rest : List ℕ) → spares_of v p ≡ t ∷ rest → is_some (at_number v.spares p) ≡ true
spare_list_there v p t rest e = go (at_number v.spares p) e
  where
    go : (o : Option (List ℕ)) → spares_or_none o ≡ t ∷ rest → is_some o ≡ true
    go None f = cc
    go (Some us) f = refl

dormant_not_idle : (s : ThreadState) → is_dormant s ≡ true → is_idle s ≡ false
dormant_not_idle is.Dormant e = refl
dormant_not_idle _ e = cc

module _
    {n : ℕ} {table : ProcessTable} {doors : List Door} {tree : CallTree} {list : NoticeList} {v : PoolsValue} (h : Agrees n table doors tree list v) (p : ℕ) where
  pub no_spare : spares_of v p ≡ [] → start_spare table p ≡ table
  no_spare e = start_none table p (sym (h.spares p) ∙ e)

  module _ (t : ℕ) (rest : List ℕ) (e : spares_of v p ≡ t ∷ rest) where
    lowest : IsLowest table p (length table.threads) t
    lowest = lowest_of table p (length table.threads) t rest (sym (h.spares p) ∙ e)

    pub start_spare_is : start_spare table p ≡ set_thread_state table t is.Running
    start_spare_is = start_first table p (length table.threads) t lowest

    was_dormant : is_dormant (state_in (thread_at table t)) ≡ true
    was_dormant = spare_dormant p t (thread_at table t) lowest.spare

    abbrev after : ProcessTable
    after = set_thread_state table t is.Running

    others : (q u : ℕ) → (u == t) ≡ false → spare_at after q u ≡ spare_at table q u
    others q u f = ap (spare_in q u) (thread_elsewhere table t u (thread_at_state is.Running) f)

    gone : (q : ℕ) → spare_at after q t ≡ []
    gone q = not_spare after q t (state_changed table t (thread_at_state is.Running) is_dormant refl (λ x. refl))

    started : Agrees n after doors tree list (change_spares v p without_lowest)
    started =
        record {
          stacks =
              λ q. stack_kept t table v.bindings after v.bindings n n q (stack_in v q)
              (changed_alike table v.bindings t (thread_at_state is.Running)) (h.stacks q) (le_refl n)
              (nowhere table v.bindings t q (not_parked table v.bindings t (dormant_not_idle (state_in (thread_at table t)) was_dormant)))
              (nowhere after v.bindings t q
              (not_parked after v.bindings t (state_changed table t (thread_at_state is.Running) is_idle refl (λ x. refl))));
          queues = h.queues;
          spares = λ q. spares q (p == q) refl ∙ ap (spares_among after q) (sym (length-change_thread table t (thread_at_state is.Running)));
          calls = h.calls;
          call_dates = h.call_dates;
          notices = h.notices;
          notice_dates = h.notice_dates;
          kept = h.kept;
          common = h.common ∙ ap length (sym (processes-change_thread table t (thread_at_state is.Running)));
          spare_lists =
              length-change_at_number v.spares p without_lowest ∙ h.spare_lists
              ∙ ap length (sym (processes-change_thread table t (thread_at_state is.Running)));
          private = h.private;
        }
      where
        spares : (q : ℕ) (b : Bool) → (p == q) ≡ b → spares_of (change_spares v p without_lowest) q ≡ spares_among after q (length table.threads)
        spares q false f =
            spares-change_other v p q without_lowest f ∙ h.spares q
            ∙ sym (spares_same table after q (length table.threads) (λ u l. same u (u == t) refl))
          where
            same : (u : ℕ) (b : Bool) → (u == t) ≡ b → spare_at after q u ≡ spare_at table q u
            same u true g =
                ap (spare_at after q) (same_number u t g) ∙ gone q ∙ sym (spare_of_one p q t (thread_at table t) lowest.spare f) ∙ ap (spare_at table q) (sym (same_number u t g))
            same u false g = others q u g
        spares q true f =
            subst (λ r. spares_of (change_spares v p without_lowest) r ≡ spares_among after r (length table.threads)) (same_number p q f)
            (spares-change_same v p without_lowest (spare_list_there v p t rest e)
            ∙ ap (drop 1) (h.spares p ∙ spares_left table after p (length table.threads) t lowest (gone p) (others p) (length table.threads) lowest.high))

    pub agrees_start : Agrees n (start_spare table p) doors tree list (change_spares v p without_lowest)
    agrees_start = subst (λ table. Agrees n table doors tree list (change_spares v p without_lowest)) (sym start_spare_is) started

-- a process is made, with no thread and no spare

-- what is added at the end of a list reads as nothing at its number
read_push :
    {X Y : Type 0} (read : Option X → Y) (xs : List X) (x : X) (k : ℕ) → read (Some x) ≡ read None →
    read (at_number (xs ++ x ∷ []) k) ≡ read (at_number xs k)
read_push read xs x k same = ap read (numbered_push xs x k) ∙ go (k == length xs + 1) refl
  where
    go : (b : Bool) → (k == length xs + 1) ≡ b → read (if b then Some x else at_number xs k) ≡ read (at_number xs k)
    go true e = same ∙ ap read (sym (numbered_past xs k (grind (arith, nat_tests))))
    go false e = refl

module _
    {n : ℕ} {table : ProcessTable} {doors : List Door} {tree : CallTree} {list : NoticeList} {v : PoolsValue} (h : Agrees n table doors tree list v) where
  pub agrees_process :
      (x : Process) (w : PoolsValue) → w.bindings ≡ v.bindings → w.private ≡ v.private → w.common ≡ v.common ++ empty_pool ∷ [] →
      w.spares ≡ v.spares ++ [] ∷ [] → Agrees n (record table { processes = table.processes ++ x ∷ [] }) doors tree list w
  agrees_process x w bindings private common spares =
      record {
        stacks =
            λ q. subst (λ b. IsStackOf after b n q (stack_in w q)) (sym bindings)
            (subst (IsStackOf after v.bindings n q) (sym (ap (λ (p : PoolValue). p.parked) (pools q)))
            (stack_kept 0 table v.bindings after v.bindings n n q (stack_in v q) (record { others = λ u e. refl }) (h.stacks q) (le_refl n)
            (nowhere table v.bindings 0 q refl) (nowhere after v.bindings 0 q refl)));
        queues =
            λ q. subst (IsQueueOf doors tree.calls list.notices q) (sym (ap (λ (p : PoolValue). p.waiting) (pools q))) (h.queues q);
        spares =
            λ p. ap (λ us. spares_or_none (at_number us p)) spares
            ∙ read_push spares_or_none v.spares [] p refl
            ∙ h.spares p
            ∙ sym (spares_same table after p (length table.threads) (λ u l. refl));
        calls = h.calls;
        call_dates = h.call_dates;
        notices = h.notices;
        notice_dates = h.notice_dates;
        kept = h.kept;
        common = ap length common ∙ one_more v.common empty_pool table.processes x h.common;
        spare_lists = ap length spares ∙ one_more v.spares [] table.processes x h.spare_lists;
        private = ap length private ∙ h.private;
      }
    where
      after : ProcessTable
      after = record table { processes = table.processes ++ x ∷ [] }

      one_more : {X Y : Type 0} (xs : List X) (x : X) (ys : List Y) (y : Y) → length xs ≡ length ys → length (xs ++ x ∷ []) ≡ length (ys ++ y ∷ [])
      one_more xs x ys y e = length-append xs (x ∷ []) ∙ ap (λ k. k + 1) e ∙ sym (length-append ys (y ∷ []))

      pools : (q : Pool) → pool_or_empty (pool_at w q) ≡ pool_or_empty (pool_at v q)
      pools (Common p) = ap (λ ps. pool_or_empty (at_number ps p.0)) common ∙ read_push pool_or_empty v.common empty_pool p.0 refl
      pools (Private d) = ap (λ ps. pool_or_empty (at_number ps d)) private

  -- a thread is made

  module _ (x : Thread) where
    abbrev number : ℕ
    number = length table.threads + 1

    abbrev with_thread : ProcessTable
    with_thread = record table { threads = table.threads ++ x ∷ [] }

    at_others : (u : ℕ) → (u == number) ≡ false → thread_at with_thread u ≡ thread_at table u
    at_others u e = numbered_push table.threads x u ∙ ap (λ b. if b then Some x else at_number table.threads u) e

    at_new : thread_at with_thread number ≡ Some x
    at_new = numbered_push table.threads x number ∙ grind (arith, nat_tests)

    none_before : thread_at table number ≡ None
    none_before = numbered_past table.threads number (omega arith)

    stacks_after : is_idle x.state ≡ false → (q : Pool) → IsStackOf with_thread v.bindings n q (stack_in v q)
    stacks_after not_idle q =
        stack_kept number table v.bindings with_thread v.bindings n n q (stack_in v q)
        (record { others = λ u e. ap (parked_thread v.bindings u) (at_others u e) }) (h.stacks q) (le_refl n)
        (nowhere table v.bindings number q (ap (parked_thread v.bindings number) none_before))
        (nowhere with_thread v.bindings number q
        (not_parked with_thread v.bindings number (ap (λ o. is_idle (state_in o)) at_new ∙ not_idle)))

    spares_after :
        (q : ℕ) → spares_among with_thread q (length with_thread.threads)
        ≡ spares_among table q (length table.threads) ++ spare_in q number (Some x)
    spares_after q =
        ap (spares_among with_thread q) (length-append table.threads (x ∷ []) ∙ add-one (length table.threads))
        ∙ ap₂ (λ us vs. us ++ vs)
        (spares_same table with_thread q (length table.threads) (λ u l. ap (spare_in q u) (at_others u (grind (arith, nat_tests)))))
        (ap (spare_at with_thread q) (sym (add-one (length table.threads))) ∙ ap (spare_in q number) at_new)

    -- one that is neither parked nor Dormant
    agrees_active : is_idle x.state ≡ false → is_dormant x.state ≡ false → Agrees n with_thread doors tree list v
    agrees_active not_idle not_dormant =
        record {
          stacks = stacks_after not_idle;
          queues = h.queues;
          spares =
              λ q. h.spares q
              ∙ sym (append-nil (spares_among table q (length table.threads)))
              ∙ ap (λ us. spares_among table q (length table.threads) ++ us) (sym (not_spare_in q number (Some x) not_dormant))
              ∙ sym (spares_after q);
          calls = h.calls;
          call_dates = h.call_dates;
          notices = h.notices;
          notice_dates = h.notice_dates;
          kept = h.kept;
          common = h.common;
          spare_lists = h.spare_lists;
          private = h.private;
        }

    -- one that is Dormant
    agrees_dormant :
        (p : ℕ) → x.process.0 ≡ p → is_dormant x.state ≡ true → is_some (at_number table.processes p) ≡ true →
        Agrees n with_thread doors tree list (change_spares v p (with_spare number))
    agrees_dormant p own dormant process =
        record {
          stacks = stacks_after (dormant_not_idle x.state dormant);
          queues = h.queues;
          spares = λ q. spares q (p == q) refl ∙ sym (spares_after q);
          calls = h.calls;
          call_dates = h.call_dates;
          notices = h.notices;
          notice_dates = h.notice_dates;
          kept = h.kept;
          common = h.common;
          spare_lists = length-change_at_number v.spares p (with_spare number) ∙ h.spare_lists;
          private = h.private;
        }
      where
        there : is_some (at_number v.spares p) ≡ true
        there = is_some-at_number v.spares p ∙ grind (arith, nat_tests, is_some-at_number table.processes p)

        -- it is one of its process's
        listed : (q : ℕ) (b : Bool) → (p == q) ≡ b → (if b then number ∷ [] else []) ≡ spare_in q number (Some x)
        listed q b e =
            ap (λ c. if c then number ∷ [] else []) (sym (and_true b))
            ∙ ap₂ (λ c d. if c && d then number ∷ [] else []) (sym (ap (λ k. k == q) own ∙ e)) (sym dormant)
          where
            and_true : (c : Bool) → (c && true) ≡ c
            and_true true = refl
            and_true false = refl

        spares :
            (q : ℕ) (b : Bool) → (p == q) ≡ b →
            spares_of (change_spares v p (with_spare number)) q ≡ spares_among table q (length table.threads) ++ spare_in q number (Some x)
        spares q false e =
            spares-change_other v p q (with_spare number) e ∙ h.spares q
            ∙ sym (append-nil (spares_among table q (length table.threads)))
            ∙ ap (λ us. spares_among table q (length table.threads) ++ us) (listed q false e)
        spares q true e =
            ap (spares_of (change_spares v p (with_spare number))) (sym (same_number p q e))
            ∙ spares-change_same v p (with_spare number) there
            ∙ ap (with_spare number) (h.spares p)
            ∙ ap (λ r. spares_among table r (length table.threads) ++ number ∷ []) (same_number p q e)
            ∙ ap (λ us. spares_among table q (length table.threads) ++ us) (listed q true e)

  pub agrees_thread :
      (p : ℕ) →
      Agrees n (record table { threads = table.threads ++ new_thread (length table.threads + 1) p false ∷ [] }) doors tree list v
  agrees_thread p = agrees_active (new_thread (length table.threads + 1) p false) refl refl

  pub agrees_spare :
      (p : ℕ) → is_some (at_number table.processes p) ≡ true →
      Agrees n (record table { threads = table.threads ++ new_thread (length table.threads + 1) p true ∷ [] }) doors tree list
      (change_spares v p (with_spare (length table.threads + 1)))
  agrees_spare p process = agrees_dormant (new_thread (length table.threads + 1) p true) p refl refl process

  -- of a process that has not begun, where each is Dormant, whether or not it is a spare
  pub agrees_unborn :
      (p : ℕ) (spare : Bool) → is_some (at_number table.processes p) ≡ true →
      Agrees n (record table { threads = table.threads ++ unborn_thread (length table.threads + 1) p spare ∷ [] }) doors tree list
      (change_spares v p (with_spare (length table.threads + 1)))
  agrees_unborn p spare process = agrees_dormant (unborn_thread (length table.threads + 1) p spare) p refl refl process

-- no process, no door, no call and no notice

pub agrees_none : Agrees 0 (record { processes = []; threads = [] }) [] (record { made = 0; calls = [] }) (record { made = 0; notices = [] }) no_pools
agrees_none =
    record {
      stacks =
          λ q. subst (IsStackOf none none_bound 0 q) (sym (ap (λ (p : PoolValue). p.parked) (no_pool q)))
          (record { parked = λ i x e. cc; all = λ t x e f. absurd (nobody t x e); in_order = tt });
      queues =
          λ q. subst (IsQueueOf [] [] [] q) (sym (ap (λ (p : PoolValue). p.waiting) (no_pool q)))
          (record { calls_wait = refl; notices_wait = refl; in_order = tt });
      spares = λ p. ap spares_or_none (nothing p);
      calls = tt;
      call_dates = tt;
      notices = tt;
      notice_dates = tt;
      kept = tt;
      common = refl;
      spare_lists = refl;
      private = refl;
    }
  where
    none : ProcessTable
    none = record { processes = []; threads = [] }

    none_bound : List (Option ℕ)
    none_bound = no_pools.bindings

    nothing : {X : Type 0} (k : ℕ) → at_number {X = X} [] k ≡ None
    nothing zero = refl
    nothing (suc k) = at_number-suc [] k

    no_pool : (q : Pool) → pool_or_empty (pool_at no_pools q) ≡ empty_pool
    no_pool (Common p) = ap pool_or_empty (nothing p.0)
    no_pool (Private d) = ap pool_or_empty (nothing d)

    nobody : (t : ℕ) (x : Parked) → parked_at none none_bound t ≡ Some x → ⊥
    nobody t x e =
        let f : None ≡ Some x = sym (ap (parked_thread none_bound t) (nothing t)) ∙ e in
        absurd cc
