-- What pools hold agrees with the records as a process begins: its threads that run are no spares any more.
use Rattle.std.proofs.Common.{◌≡◌, ℕ, zero, suc, ◌==◌, ◌&&◌, Bool, true, false, not, if◌then◌else◌, List, [], ◌∷◌, ◌++◌, Option, Some, None, option_map, filter, length, map, refl, sym, ap, ap₂, ◌∙◌, subst, arith}
use Rattle.std.proofs.lemmas.List.{length-map}
use Rattle.std.proofs.lemmas.List.Elements.{filter-append}
use Rattle.std.proofs.lemmas.Bool.Decides.{nat_tests}
use Rattle.dk_base.specs.ByNumber.{at_number}
use Rattle.dk_base.specs.declared.number.Pid.{Pid}
use Rattle.spec_records.specs.declared.pool.Pool.{Pool}
use Rattle.spec_records.specs.declared.record.Process.{Process}
use Rattle.spec_records.specs.declared.record.Thread.{Thread}
use Rattle.spec_records.specs.declared.record.ThreadState.{ThreadState}
use Rattle.spec_records.specs.declared.record.ThreadState.TheVariants as is
use Rattle.spec_records.specs.Words.{CallTree, NoticeList, ProcessTable, begin_process, begun_thread, bound_at, change_process_in, is_dormant, is_idle, is_spare_in, live_process, parked_at, parked_in, parked_thread, pool_of_thread, thread_at, thread_at_state}
use Rattle.spec_records.proofs.Lists.{length-with_at_number}
use Rattle.spec_kernel.specs.Types.{Door}
use Rattle.spec_kernel.proofs.Threads.{thread_at-begin_process, threads-begin_process}
use Rattle.server_pool.specs.Words.{PoolsValue, queue_in, spares_of, stack_in}
use Rattle.law_pools.specs.Words.{Agrees, IsQueueOf, spare_at, spare_in, spares_among}
use Rattle.law_pools.proofs.Queues.{stack_same}
use Rattle.law_pools.proofs.Readers.{same_number}
use Rattle.law_pools.proofs.Spares.{spares_same}

length-begin_process : (table : ProcessTable) (p : ℕ) → length (begin_process table p).processes ≡ length table.processes
length-begin_process table p = go (at_number table.processes p)
  where
    go :
        (o : Option Process) →
        length (change_process_in (record table { threads = map (begun_thread p) table.threads }) p live_process o).processes ≡ length table.processes
    go None = refl
    go (Some x) = length-with_at_number table.processes p (live_process x)

-- of a process that begins the threads that are spares stay so
abbrev pub stays_spare : ProcessTable → ℕ → Bool
stays_spare table t = is_spare_in (thread_at table t)

-- one thread

process_begun : (child : ℕ) (x : Thread) → (begun_thread child x).process ≡ x.process
process_begun child x = go ((x.process.0 == child) && not x.spare)
  where
    go : (b : Bool) → (if b then thread_at_state is.Running x else x).process ≡ x.process
    go true = refl
    go false = refl

dormant_begun : (child : ℕ) (x : Thread) → is_dormant (begun_thread child x).state ≡ (if (x.process.0 == child) && not x.spare then false else is_dormant x.state)
dormant_begun child x = go ((x.process.0 == child) && not x.spare)
  where
    go : (b : Bool) → is_dormant (if b then thread_at_state is.Running x else x).state ≡ (if b then false else is_dormant x.state)
    go true = refl
    go false = refl

begun_spare :
    (child p u : ℕ) (x : Thread) →
    spare_in p u (Some (begun_thread child x)) ≡ (if (x.process.0 == p) && (if (x.process.0 == child) && not x.spare then false else is_dormant x.state) then u ∷ [] else [])
begun_spare child p u x = ap₂ (λ (q : Pid) (d : Bool). if (q.0 == p) && d then u ∷ [] else []) (process_begun child x) (dormant_begun child x)

left : (u : ℕ) (keep : ℕ → Bool) (a s d : Bool) → keep u ≡ s → (if a && (if a && not s then false else d) then u ∷ [] else []) ≡ filter keep (if a && d then u ∷ [] else [])
left u keep false s d e = refl
left u keep true true true e = ap (λ b. if b then u ∷ [] else []) (sym e)
left u keep true true false e = refl
left u keep true false true e = ap (λ b. if b then u ∷ [] else []) (sym e)
left u keep true false false e = refl

same : (u : ℕ) (b a s d : Bool) → (b ≡ true → a ≡ false) → (if b && (if a && not s then false else d) then u ∷ [] else []) ≡ (if b && d then u ∷ [] else [])
same u false a s d h = refl
same u true a s d h = ap (λ c. if (if c && not s then false else d) then u ∷ [] else []) (h refl)

apart : (k child p : ℕ) → (child == p) ≡ false → (k == p) ≡ true → (k == child) ≡ false
apart k child p e f = grind (arith, nat_tests)

parked_begun :
    (bindings : List (Option ℕ)) (child u : ℕ) (x : Thread) → (x.process.0 ≡ child → is_idle x.state ≡ false) →
    parked_thread bindings u (Some (begun_thread child x)) ≡ parked_thread bindings u (Some x)
parked_begun bindings child u x calm = go (x.process.0 == child) x.spare refl
  where
    not_idle : (pool : Pool) (s : ThreadState) → is_idle s ≡ false → parked_in u pool s ≡ None
    not_idle pool (is.Idle since) f = cc
    not_idle pool _ f = refl

    go : (b s : Bool) → (x.process.0 == child) ≡ b → parked_thread bindings u (Some (if b && not s then thread_at_state is.Running x else x)) ≡ parked_thread bindings u (Some x)
    go true false e = sym (not_idle (pool_of_thread x (bound_at bindings u)) x.state (calm (same_number x.process.0 child e)))
    go true true e = refl
    go false s e = refl

module _ (table : ProcessTable) (child : ℕ) where
  -- another process's spares stay
  spare_elsewhere : (p u : ℕ) → (child == p) ≡ false → spare_at (begin_process table child) p u ≡ spare_at table p u
  spare_elsewhere p u other = ap (spare_in p u) (thread_at-begin_process table child u) ∙ go (thread_at table u)
    where
      go : (o : Option Thread) → spare_in p u (option_map (begun_thread child) o) ≡ spare_in p u o
      go None = refl
      go (Some x) = begun_spare child p u x ∙ same u (x.process.0 == p) (x.process.0 == child) x.spare (is_dormant x.state) (apart x.process.0 child p other)

  -- its own
  spare_left : (u : ℕ) → spare_at (begin_process table child) child u ≡ filter (stays_spare table) (spare_at table child u)
  spare_left u = ap (spare_in child u) (thread_at-begin_process table child u) ∙ go (thread_at table u) refl
    where
      go : (o : Option Thread) → thread_at table u ≡ o → spare_in child u (option_map (begun_thread child) o) ≡ filter (stays_spare table) (spare_in child u o)
      go None e = refl
      go (Some x) e = begun_spare child child u x ∙ left u (stays_spare table) (x.process.0 == child) x.spare (is_dormant x.state) (ap is_spare_in e)

  spares_left : (n : ℕ) → spares_among (begin_process table child) child n ≡ filter (stays_spare table) (spares_among table child n)
  spares_left zero = refl
  spares_left (suc n) =
      ap₂ (λ us vs. us ++ vs) (spares_left n) (spare_left (suc n))
      ∙ sym (filter-append (stays_spare table) (spares_among table child n) (spare_at table child (suc n)))

module _
    {n : ℕ} {table : ProcessTable} {doors : List Door} {tree : CallTree} {list : NoticeList} {v : PoolsValue} (h : Agrees n table doors tree list v) (child : ℕ)
    (calm : (t : ℕ) (x : Thread) → thread_at table t ≡ Some x → x.process.0 ≡ child → is_idle x.state ≡ false) where
  abbrev after : ProcessTable
  after = begin_process table child

  at : (u : ℕ) → parked_at after v.bindings u ≡ parked_at table v.bindings u
  at u = ap (parked_thread v.bindings u) (thread_at-begin_process table child u) ∙ go (thread_at table u) refl
    where
      go : (o : Option Thread) → thread_at table u ≡ o → parked_thread v.bindings u (option_map (begun_thread child) o) ≡ parked_thread v.bindings u o
      go None e = refl
      go (Some x) e = parked_begun v.bindings child u x (calm u x e)

  as_many : length after.threads ≡ length table.threads
  as_many = ap length (threads-begin_process table child) ∙ length-map table.threads (begun_thread child)

  -- its threads that are no spares run, and leave its spares
  pub agrees_begin :
      (w : PoolsValue) → w.bindings ≡ v.bindings → ((q : Pool) → stack_in w q ≡ stack_in v q) → ((q : Pool) → queue_in w q ≡ queue_in v q) →
      spares_of w child ≡ filter (stays_spare table) (spares_of v child) → ((p : ℕ) → (child == p) ≡ false → spares_of w p ≡ spares_of v p) →
      length w.common ≡ length v.common → length w.spares ≡ length v.spares → length w.private ≡ length v.private → Agrees n after doors tree list w
  agrees_begin w bindings stacks queues own others common spare_lists private =
      record {
        stacks =
            λ q. let s = h.stacks q in stack_same after n q v.bindings w.bindings (stack_in v q) (stack_in w q) bindings (stacks q)
            (record {
              parked = λ i x e. let k = s.parked i x e in record { parked = at x.thread.0 ∙ k.parked; same_pool = k.same_pool; since = k.since };
              all = λ u x e f. s.all u x (sym (at u) ∙ e) f;
              in_order = s.in_order;
            });
        queues = λ q. subst (IsQueueOf doors tree.calls list.notices q) (sym (queues q)) (h.queues q);
        spares = λ p. spares p (child == p) refl ∙ ap (spares_among after p) (sym as_many);
        calls = h.calls;
        call_dates = h.call_dates;
        notices = h.notices;
        notice_dates = h.notice_dates;
        kept = h.kept;
        common = common ∙ h.common ∙ sym (length-begin_process table child);
        spare_lists = spare_lists ∙ h.spare_lists ∙ sym (length-begin_process table child);
        private = private ∙ h.private;
      }
    where
      spares : (p : ℕ) (b : Bool) → (child == p) ≡ b → spares_of w p ≡ spares_among after p (length table.threads)
      spares p true e =
          subst (λ r. spares_of w r ≡ spares_among after r (length table.threads)) (same_number child p e)
          (own ∙ ap (filter (stays_spare table)) (h.spares child) ∙ sym (spares_left table child (length table.threads)))
      spares p false e =
          others p e ∙ h.spares p
          ∙ sym (spares_same table after p (length table.threads) (λ u l. spare_elsewhere table child p u e))
