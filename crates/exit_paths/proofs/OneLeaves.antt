-- One caller leaves: what becomes of threads, which of them become idle, and whose calls can be collected.
use Rattle.std.proofs.Common.{◌≡◌, ℕ, zero, suc, ◌==◌, ◌&&◌, ◌||◌, not, Bool, true, false, if◌then◌else◌, List, [], ◌∷◌, Option, Some, None, option_map, is_some, find, filter, map, slice_get, refl, sym, ap, ap₂, ◌∙◌, subst, arith}
use Rattle.std.proofs.lemmas.Bool.Decides.{nat_tests}
use Rattle.spec_records.specs.declared.record.CallStage.TheVariants as stage
use Rattle.spec_records.specs.declared.record.ThreadState.TheVariants as is
use Rattle.spec_records.specs.Words.{CallTree, Leaving, ProcessTable, cancelled_thread, change_thread, deserted_at, deserted_in, end_thread, ended_thread, idle_thread, interrupted_state, interrupted_thread, interruption, is_given_to, is_entered_by, is_idle, is_left, is_served_by, is_to_collect, is_live_call, left_call, left_calls, left_thread_of, left_threads, live_calls, state_in, tid, thread_at, thread_end}
use Rattle.spec_records.proofs.Lists.{at_number-map, at_number-suc}
use Rattle.spec_records.proofs.NumberedLists.{find-passes}
use Rattle.spec_kernel.specs.Types.{Call, CallStage, Thread, ThreadState}
use Rattle.spec_kernel.proofs.Threads.{processes-change_thread}
use Rattle.dk_base.specs.declared.limits.TheConstants.{THREADS_MAX}
use Rattle.dk_base.proofs.NumbersWhere.{numbers_where-same}
use Rattle.call_tree.specs.Words.{AreLive, AreSound, caller_among, caller_in, is_call, is_called_by, is_ready_of}
use Rattle.law_pools.proofs.Readers.{same_number}
use Rattle.law_pools.proofs.WaitingLists.{both_true}
use Rattle.exit_paths.proofs.CallersLeft.{or_false, stands}
use Rattle.law_pools.proofs.Stacks.{thread_elsewhere, thread_there}
use Rattle.exit_paths.specs.Words.{deserted_as, deserted_at_stage, became_idle, became_ready, deserted_in_call, has_ready, is_idle_at, parked_of, threads_where, with_deserted, woken_of}
use Rattle.exit_paths.specs.declared.fates.Deserted.{Deserted}
use Rattle.exit_paths.specs.declared.fates.Desertion.{Desertion}
use Rattle.exit_paths.specs.declared.fates.Desertion.TheVariants.{Stays, Parks, IsCancelled}

equal : (k : ℕ) → (k == k) ≡ true
equal k = grind (arith, nat_tests)

-- a thread after a change of one
pub at_changed : (table : ProcessTable) (t k : ℕ) (f : Thread → Thread) → thread_at (change_thread table t f) k ≡ option_map (λ x. if k == t then f x else x) (thread_at table k)
at_changed table t k f = go (k == t) refl
  where
    same : (o : Option Thread) → o ≡ option_map (λ x. x) o
    same None = refl
    same (Some x) = refl

    go : (b : Bool) → (k == t) ≡ b → thread_at (change_thread table t f) k ≡ option_map (λ x. if k == t then f x else x) (thread_at table k)
    go true e =
        subst (λ j. thread_at (change_thread table t f) j ≡ option_map f (thread_at table j)) (sym (same_number k t e)) (thread_there table t f)
        ∙ ap (λ b. option_map (λ x. if b then f x else x) (thread_at table k)) (sym e)
    go false e = thread_elsewhere table t k f e ∙ same (thread_at table k) ∙ ap (λ b. option_map (λ x. if b then f x else x) (thread_at table k)) (sym e)

-- tables with the same threads
same_tables : (a b : ProcessTable) → a.processes ≡ b.processes → ((k : ℕ) → thread_at a k ≡ thread_at b k) → a ≡ b
same_tables a b p h = ap₂ (λ ps ts. record { processes = ps; threads = ts }) p (same_list a.threads b.threads (λ k. sym (at_number-suc a.threads k) ∙ h (suc k) ∙ at_number-suc b.threads k))
  where
    same_list : {X : Type 0} (xs ys : List X) → ((k : ℕ) → slice_get xs k ≡ slice_get ys k) → xs ≡ ys
    same_list [] [] e = refl
    same_list [] (y ∷ ys) e = let f = e 0 in cc
    same_list (x ∷ xs) [] e = let f = e 0 in cc
    same_list (x ∷ xs) (y ∷ ys) e =
        let f : Some x ≡ Some y = e 0 in
        let same : x ≡ y = cc in
        ap₂ (λ z zs. z ∷ zs) same (same_list xs ys (λ k. e (suc k)))

-- the server of a call, as its caller leaves

abbrev pub deserted_where : ℕ → Option Deserted → ℕ → Thread → Thread
deserted_where now None k x = x
deserted_where now (Some d) k x = if k == d.server.0 then deserted_as now d.desertion x else x

pub at_deserted : (now : ℕ) (o : Option Deserted) (table : ProcessTable) (k : ℕ) → thread_at (with_deserted now o table) k ≡ option_map (deserted_where now o k) (thread_at table k)
at_deserted now None table k = same (thread_at table k)
  where
    same : (o : Option Thread) → o ≡ option_map (λ x. x) o
    same None = refl
    same (Some x) = refl
at_deserted now (Some d) table k = at_changed table d.server.0 k (deserted_as now d.desertion)

served_as :
    (b : Bool) (k : ℕ) (s : CallStage) (now : ℕ) (x : Thread) → (is_given_to k s || is_entered_by k s) ≡ true →
    deserted_at now b s x ≡ deserted_where now (deserted_at_stage b s) k x
served_as b k (stage.Given u) now x h = sym (ap (λ c. if c then idle_thread now x else x) (here u.0 h))
  where
    here : (j : ℕ) → ((j == k) || false) ≡ true → (k == j) ≡ true
    here j e = grind (arith, nat_tests)
served_as true k (stage.Entered u) now x h = refl
served_as false k (stage.Entered u) now x h = sym (ap (λ c. if c then cancelled_thread x else x) (here u.0 h))
  where
    here : (j : ℕ) → (j == k) ≡ true → (k == j) ≡ true
    here j e = grind (arith, nat_tests)
served_as b k stage.Queued now x h = cc
served_as b k (stage.Returned bytes objects) now x h = cc
served_as b k (stage.Ended e) now x h = cc
served_as b k (stage.Answered j) now x h = cc
served_as b k stage.Gone now x h = cc

-- a call that gives a thread to desert is served by it
deserts : (b : Bool) (s : CallStage) (d : Deserted) (k : ℕ) → deserted_at_stage b s ≡ Some d → (k == d.server.0) ≡ true → ((is_given_to k s || is_entered_by k s) ≡ true) × (is_to_collect s ≡ false)
deserts b (stage.Given u) d k f e =
    let same : record { server = u; desertion = Parks } ≡ d = cc in
    let n : (k == u.0) ≡ true = ap (λ (y : Deserted). k == y.server.0) same ∙ e in
    (here u.0 n, refl)
  where
    here : (j : ℕ) → (k == j) ≡ true → ((j == k) || false) ≡ true
    here j m = grind (arith, nat_tests)
deserts true (stage.Entered u) d k f e = absurd (cc)
deserts false (stage.Entered u) d k f e =
    let same : record { server = u; desertion = IsCancelled } ≡ d = cc in
    let n : (k == u.0) ≡ true = ap (λ (y : Deserted). k == y.server.0) same ∙ e in
    (here u.0 n, refl)
  where
    here : (j : ℕ) → (k == j) ≡ true → (j == k) ≡ true
    here j m = grind (arith, nat_tests)
deserts b stage.Queued d k f e = absurd (cc)
deserts b (stage.Returned bytes objects) d k f e = absurd (cc)
deserts b (stage.Ended j) d k f e = absurd (cc)
deserts b (stage.Answered j) d k f e = absurd (cc)
deserts b stage.Gone d k f e = absurd (cc)

module _ {tree : CallTree} (sound : AreSound tree) (who : Leaving) (t : ℕ) (leaves : (r : Call) → is_left who r ≡ (r.caller.0 == t)) (now k : ℕ) where
  plain : (r : Call) → find (is_called_by t) tree.calls ≡ Some r → is_to_collect r.stage ≡ false → not r.abandoned ≡ true
  plain r e f = go r.abandoned refl
    where
      go : (b : Bool) → r.abandoned ≡ b → not b ≡ true
      go false a = refl
      go true a = let g : is_to_collect r.stage ≡ true = sound.abandoned (is_called_by t) r e a in cc

  -- no thread to desert, where none of the caller's is served by this one
  not_deserted :
      (x : Thread) → ((r : Call) → find (is_called_by t) tree.calls ≡ Some r → is_served_by k r ≡ true → ⊥) →
      x ≡ deserted_where now (deserted_in_call (find (is_called_by t) tree.calls)) k x
  not_deserted x none = go (find (is_called_by t) tree.calls) refl
    where
      at_call : (r : Call) → find (is_called_by t) tree.calls ≡ Some r → (o : Option Deserted) → deserted_at_stage r.no_cancel r.stage ≡ o → x ≡ deserted_where now o k x
      at_call r e None f = refl
      at_call r e (Some d) f = by_number (k == d.server.0) refl
        where
          by_number : (b : Bool) → (k == d.server.0) ≡ b → x ≡ (if b then deserted_as now d.desertion x else x)
          by_number false g = refl
          by_number true g =
              let h = deserts r.no_cancel r.stage d k f g in
              absurd (none r e (ap₂ (λ a b. a && b) (plain r e h.1) h.0))

      go : (o : Option Call) → find (is_called_by t) tree.calls ≡ o → x ≡ deserted_where now (deserted_in_call o) k x
      go None e = refl
      go (Some r) e = at_call r e (deserted_at_stage r.no_cancel r.stage) refl

  by_served :
      (x : Thread) (o : Option Call) → find (is_served_by k) tree.calls ≡ o →
      deserted_in who now o x ≡ deserted_where now (deserted_in_call (find (is_called_by t) tree.calls)) k x
  by_served x None e = not_deserted x (λ r f g. let h : find (is_served_by k) tree.calls ≡ Some r = sound.server (is_called_by t) r k f g in cc)
  by_served x (Some s) e = go (s.caller.0 == t) refl
    where
      go : (b : Bool) → (s.caller.0 == t) ≡ b → (if is_left who s then deserted_at now s.no_cancel s.stage x else x) ≡ deserted_where now (deserted_in_call (find (is_called_by t) tree.calls)) k x
      go true f =
          let found : find (is_called_by t) tree.calls ≡ Some s = subst (λ j. find (is_called_by j) tree.calls ≡ Some s) (same_number s.caller.0 t f) (sound.caller (is_served_by k) s e) in
          let served = both_true (not s.abandoned) (is_given_to k s.stage || is_entered_by k s.stage) (find-passes (is_served_by k) tree.calls s e) in
          ap (λ b. if b then deserted_at now s.no_cancel s.stage x else x) (leaves s ∙ f) ∙ served_as s.no_cancel k s.stage now x served.1
          ∙ sym (ap (λ o. deserted_where now (deserted_in_call o) k x) found)
      go false f =
          ap (λ b. if b then deserted_at now s.no_cancel s.stage x else x) (leaves s ∙ f)
          ∙ not_deserted x
          (λ r g h.
          let both : Some s ≡ Some r = sym e ∙ sound.server (is_called_by t) r k g h in
          let same : s ≡ r = cc in
          let c : (r.caller.0 == t) ≡ true = find-passes (is_called_by t) tree.calls r g in
          let d : (r.caller.0 == t) ≡ false = subst (λ y. (y.caller.0 == t) ≡ false) same f in
          cc)

-- the threads

mapped : (f g : Thread → Thread) (o : Option Thread) → ((x : Thread) → o ≡ Some x → f x ≡ g x) → option_map f o ≡ option_map g o
mapped f g None h = refl
mapped f g (Some x) h = ap Some (h x refl)

twice : (f g : Thread → Thread) (o : Option Thread) → option_map g (option_map f o) ≡ option_map (λ x. g (f x)) o
twice f g None = refl
twice f g (Some x) = refl

module _ {tree : CallTree} (sound : AreSound tree) (table : ProcessTable) (numbered : (k : ℕ) (x : Thread) → thread_at table k ≡ Some x → x.number ≡ k) (t now : ℕ) where
  abbrev leaver : Option Deserted
  leaver = deserted_in_call (find (is_called_by t) tree.calls)

  kept_processes : (o : Option Deserted) (a : ProcessTable) → (with_deserted now o a).processes ≡ a.processes
  kept_processes None a = refl
  kept_processes (Some d) a = processes-change_thread a d.server.0 (deserted_as now d.desertion)

  pub interrupted_threads : with_deserted now leaver (change_thread table t interrupted_thread) ≡ left_threads (interruption t) now tree.calls table
  interrupted_threads =
      same_tables (with_deserted now leaver (change_thread table t interrupted_thread)) (left_threads (interruption t) now tree.calls table)
      (kept_processes leaver (change_thread table t interrupted_thread) ∙ processes-change_thread table t interrupted_thread)
      (λ k.
      at_deserted now leaver (change_thread table t interrupted_thread) k ∙ ap (option_map (deserted_where now leaver k)) (at_changed table t k interrupted_thread)
      ∙ twice (λ x. if k == t then interrupted_thread x else x) (deserted_where now leaver k) (thread_at table k)
      ∙ mapped (λ x. deserted_where now leaver k (if k == t then interrupted_thread x else x)) (left_thread_of (interruption t) now tree.calls) (thread_at table k)
      (λ x e. one k x (numbered k x e))
      ∙ sym (at_number-map (left_thread_of (interruption t) now tree.calls) table.threads k))
    where
      one : (k : ℕ) (x : Thread) → x.number ≡ k → deserted_where now leaver k (if k == t then interrupted_thread x else x) ≡ left_thread_of (interruption t) now tree.calls x
      one k x n =
          subst (λ j. deserted_where now leaver j (if j == t then interrupted_thread x else x) ≡ left_thread_of (interruption t) now tree.calls x) n
          (sym (by_served sound (interruption t) t (λ r. refl) now x.number (if x.number == t then interrupted_thread x else x) (find (is_served_by x.number) tree.calls) refl))

  pub ended_threads : end_thread (with_deserted now leaver table) t ≡ left_threads (thread_end t) now tree.calls table
  ended_threads =
      same_tables (end_thread (with_deserted now leaver table) t) (left_threads (thread_end t) now tree.calls table)
      (processes-change_thread (with_deserted now leaver table) t ended_thread ∙ kept_processes leaver table)
      (λ k.
      at_changed (with_deserted now leaver table) t k ended_thread ∙ ap (option_map (λ x. if k == t then ended_thread x else x)) (at_deserted now leaver table k)
      ∙ twice (deserted_where now leaver k) (λ x. if k == t then ended_thread x else x) (thread_at table k)
      ∙ mapped (λ x. if k == t then ended_thread (deserted_where now leaver k x) else deserted_where now leaver k x) (left_thread_of (thread_end t) now tree.calls) (thread_at table k)
      (λ x e. one k x (numbered k x e))
      ∙ sym (at_number-map (left_thread_of (thread_end t) now tree.calls) table.threads k))
    where
      ends : (o : Option Deserted) (k : ℕ) (x : Thread) → ended_thread (deserted_where now o k x) ≡ ended_thread x
      ends None k x = refl
      ends (Some d) k x = go (k == d.server.0) d.desertion
        where
          go : (b : Bool) (f : Desertion) → ended_thread (if b then deserted_as now f x else x) ≡ ended_thread x
          go false f = refl
          go true Stays = refl
          go true Parks = refl
          go true IsCancelled = refl

      one : (k : ℕ) (x : Thread) → x.number ≡ k → (if k == t then ended_thread (deserted_where now leaver k x) else deserted_where now leaver k x) ≡ left_thread_of (thread_end t) now tree.calls x
      one k x n =
          subst (λ j. (if j == t then ended_thread (deserted_where now leaver j x) else deserted_where now leaver j x) ≡ left_thread_of (thread_end t) now tree.calls x) n
          (ap₂ (λ a b. if x.number == t then a else b) (ends leaver x.number x)
          (sym (by_served sound (thread_end t) t (λ r. or_false (r.caller.0 == t)) now x.number x (find (is_served_by x.number) tree.calls) refl)))

-- which of them become idle

not_back : (b c : Bool) → b ≡ c → (not b && c) ≡ false
not_back b true e = ap (λ a. not a && true) e
not_back b false e = go b
  where
    go : (a : Bool) → (not a && false) ≡ false
    go true = refl
    go false = refl

module _ (now : ℕ) (o : Option Deserted) (t k : ℕ) (other : (k == parked_of o t) ≡ false) where
  undeserted : (x : Thread) → deserted_where now o k x ≡ x
  undeserted x = go o other
    where
      go : (p : Option Deserted) → (k == parked_of p t) ≡ false → deserted_where now p k x ≡ x
      go None e = refl
      go (Some d) e = ap (λ b. if b then deserted_as now d.desertion x else x) e

  same_idle : (table : ProcessTable) → is_idle_at (with_deserted now o table) k ≡ is_idle_at table k
  same_idle table = ap (λ p. is_idle (state_in p)) (at_deserted now o table k) ∙ go (thread_at table k)
    where
      go : (p : Option Thread) → is_idle (state_in (option_map (deserted_where now o k) p)) ≡ is_idle (state_in p)
      go None = refl
      go (Some x) = ap (λ (y : Thread). is_idle y.state) (undeserted x)

interrupted_idle : (table : ProcessTable) (t k : ℕ) → is_idle_at (change_thread table t interrupted_thread) k ≡ is_idle_at table k
interrupted_idle table t k = ap (λ p. is_idle (state_in p)) (at_changed table t k interrupted_thread) ∙ go (thread_at table k)
  where
    at_state : (s : ThreadState) → is_idle (interrupted_state s) ≡ is_idle s
    at_state (is.Getting port max nget one interrupted) = refl
    at_state _ = refl

    here : (b : Bool) (x : Thread) → is_idle (if b then interrupted_thread x else x).state ≡ is_idle x.state
    here true x = at_state x.state
    here false x = refl

    go : (p : Option Thread) → is_idle (state_in (option_map (λ x. if k == t then interrupted_thread x else x) p)) ≡ is_idle (state_in p)
    go None = refl
    go (Some x) = here (k == t) x

-- where it becomes so for one number alone
one_number : (test : ℕ → Bool) (u : ℕ) (listed : Bool) → listed ≡ test u → ((k : ℕ) → (k == u) ≡ false → test k ≡ false) → (k : ℕ) → ((k == u) && listed) ≡ test k
one_number test u listed is others k = go (k == u) refl
  where
    go : (b : Bool) → (k == u) ≡ b → (b && listed) ≡ test k
    go true e = is ∙ ap test (sym (same_number k u e))
    go false e = sym (others k e)

pub told_one : (test : ℕ → Bool) (u : ℕ) (listed : Bool) → listed ≡ test u → ((k : ℕ) → (k == u) ≡ false → test k ≡ false) → threads_where (λ k. (k == u) && listed) ≡ threads_where test
told_one test u listed is others = ap (map tid) (numbers_where-same (λ k. (k == u) && listed) test (one_number test u listed is others) THREADS_MAX)

pub interrupt_parks :
    (table : ProcessTable) (now : ℕ) (o : Option Deserted) (t : ℕ) (k : ℕ) → (k == parked_of o t) ≡ false →
    became_idle table (with_deserted now o (change_thread table t interrupted_thread)) k ≡ false
interrupt_parks table now o t k e =
    not_back (is_idle_at table k) (is_idle_at (with_deserted now o (change_thread table t interrupted_thread)) k)
    (sym (same_idle now o t k e (change_thread table t interrupted_thread) ∙ interrupted_idle table t k))

pub end_parks :
    (table : ProcessTable) (now : ℕ) (o : Option Deserted) (t : ℕ) (k : ℕ) → (k == parked_of o t) ≡ false →
    became_idle table (end_thread (with_deserted now o table) t) k ≡ false
end_parks table now o t k e =
    ap (λ p. not (is_idle_at table k) && is_idle (state_in p)) (at_changed (with_deserted now o table) t k ended_thread) ∙ go (k == t)
  where
    none : (b : Bool) → (not b && false) ≡ false
    none true = refl
    none false = refl

    done : (p : Option Thread) → is_idle (state_in (option_map ended_thread p)) ≡ false
    done None = refl
    done (Some x) = refl

    same : (p : Option Thread) → option_map (λ x. x) p ≡ p
    same None = refl
    same (Some x) = refl

    go : (b : Bool) → (not (is_idle_at table k) && is_idle (state_in (option_map (λ x. if b then ended_thread x else x) (thread_at (with_deserted now o table) k)))) ≡ false
    go true = ap (λ c. not (is_idle_at table k) && c) (done (thread_at (with_deserted now o table) k)) ∙ none (is_idle_at table k)
    go false =
        ap (λ p. not (is_idle_at table k) && is_idle (state_in p)) (same (thread_at (with_deserted now o table) k))
        ∙ not_back (is_idle_at table k) (is_idle_at (with_deserted now o table) k) (sym (same_idle now o t k e table))

-- whose calls can be collected

module _ (f : Call → Call) (k : ℕ) (called : (r : Call) → (f r).caller.0 ≡ r.caller.0) where
  same_ready :
      (rs : List Call) → AreLive rs → ((i : ℕ) (r : Call) → slice_get rs i ≡ Some r → (r.caller.0 == k) ≡ true → f r ≡ r) →
      is_some (find (is_ready_of k) (filter is_live_call (map f rs))) ≡ is_some (find (is_ready_of k) rs)
  same_ready [] a h = refl
  same_ready (r ∷ rs) a h = go (r.caller.0 == k) refl (same_ready rs a.1 (λ i x e. h (suc i) x e))
    where
      skip : (b : Bool) → ((f r).caller.0 == k) ≡ false → find (is_ready_of k) (if b then f r ∷ filter is_live_call (map f rs) else filter is_live_call (map f rs)) ≡ find (is_ready_of k) (filter is_live_call (map f rs))
      skip true e = ap (λ c. if c && is_to_collect (f r).stage then Some (f r) else find (is_ready_of k) (filter is_live_call (map f rs))) e
      skip false e = refl

      either : (c : Bool) (o p : Option Call) → is_some o ≡ is_some p → is_some (if c then Some r else o) ≡ is_some (if c then Some r else p)
      either true o p e = refl
      either false o p e = e

      go :
          (b : Bool) → (r.caller.0 == k) ≡ b → is_some (find (is_ready_of k) (filter is_live_call (map f rs))) ≡ is_some (find (is_ready_of k) rs) →
          is_some (find (is_ready_of k) (filter is_live_call (map f (r ∷ rs)))) ≡ is_some (find (is_ready_of k) (r ∷ rs))
      go true e ih =
          ap (λ y. is_some (find (is_ready_of k) (if is_live_call y then y ∷ filter is_live_call (map f rs) else filter is_live_call (map f rs)))) (h zero r refl e)
          ∙ ap (λ b. is_some (find (is_ready_of k) (if b then r ∷ filter is_live_call (map f rs) else filter is_live_call (map f rs)))) a.0
          ∙ either (is_ready_of k r) (find (is_ready_of k) (filter is_live_call (map f rs))) (find (is_ready_of k) rs) ih
      go false e ih =
          ap is_some (skip (is_live_call (f r)) (ap (λ j. j == k) (called r) ∙ e)) ∙ ih
          ∙ sym (ap (λ c. is_some (if c && is_to_collect r.stage then Some r else find (is_ready_of k) rs)) e)

  none_ready :
      (rs : List Call) → ((i : ℕ) (r : Call) → slice_get rs i ≡ Some r → (r.caller.0 == k) ≡ true → is_live_call (f r) ≡ false) →
      is_some (find (is_ready_of k) (filter is_live_call (map f rs))) ≡ false
  none_ready [] h = refl
  none_ready (r ∷ rs) h = go (r.caller.0 == k) refl (none_ready rs (λ i x e. h (suc i) x e))
    where
      skip : (b : Bool) → ((f r).caller.0 == k) ≡ false → find (is_ready_of k) (if b then f r ∷ filter is_live_call (map f rs) else filter is_live_call (map f rs)) ≡ find (is_ready_of k) (filter is_live_call (map f rs))
      skip true e = ap (λ c. if c && is_to_collect (f r).stage then Some (f r) else find (is_ready_of k) (filter is_live_call (map f rs))) e
      skip false e = refl

      go :
          (b : Bool) → (r.caller.0 == k) ≡ b → is_some (find (is_ready_of k) (filter is_live_call (map f rs))) ≡ false →
          is_some (find (is_ready_of k) (filter is_live_call (map f (r ∷ rs)))) ≡ false
      go true e ih = ap (λ b. is_some (find (is_ready_of k) (if b then f r ∷ filter is_live_call (map f rs) else filter is_live_call (map f rs)))) (h zero r refl e) ∙ ih
      go false e ih = ap is_some (skip (is_live_call (f r)) (ap (λ j. j == k) (called r) ∙ e)) ∙ ih

caller_kept : (who : Leaving) (r : Call) → (left_call who r).caller.0 ≡ r.caller.0
caller_kept who r = grind (arith, nat_tests)

interrupt_keeps : (t k : ℕ) (r : Call) → (r.caller.0 == k) ≡ true → (k == t) ≡ false → left_call (interruption t) r ≡ r
interrupt_keeps t k r e f =
    let same : r.caller.0 ≡ k = same_number r.caller.0 k e in
    let other : (r.caller.0 == t) ≡ false = ap (λ j. j == t) same ∙ f in
    grind (arith, nat_tests)

pub interrupt_readies :
    {tree : CallTree} → AreSound tree → (t k : ℕ) → (k == t) ≡ false → became_ready tree (live_calls (left_calls (interruption t) tree)) k ≡ false
interrupt_readies {tree} sound t k e =
    not_back (has_ready tree k) (has_ready (live_calls (left_calls (interruption t) tree)) k)
    (sym (same_ready (left_call (interruption t)) k (caller_kept (interruption t)) tree.calls sound.live (λ i r at c. interrupt_keeps t k r c e)))

end_keeps : (t k : ℕ) (r : Call) → (r.caller.0 == k) ≡ true → (k == t) ≡ false → is_served_by t r ≡ false → (r.abandoned ≡ true → is_to_collect r.stage ≡ true) → left_call (thread_end t) r ≡ r
end_keeps t k r e f g plain =
    let same : r.caller.0 ≡ k = same_number r.caller.0 k e in
    let other : (r.caller.0 == t) ≡ false = ap (λ j. j == t) same ∙ f in
    grind (arith, nat_tests)

end_forgets : (t : ℕ) (r : Call) → (r.caller.0 == t) ≡ true → is_live_call (left_call (thread_end t) r) ≡ false
end_forgets t r e = grind (arith, nat_tests)

pub end_readies :
    {tree : CallTree} → AreSound tree → (t k : ℕ) → (k == woken_of (caller_among tree.calls t) t) ≡ false →
    became_ready tree (live_calls (left_calls (thread_end t) tree)) k ≡ false
end_readies {tree} sound t k e = go (k == t) refl
  where
    none : (b : Bool) → (not b && false) ≡ false
    none true = refl
    none false = refl

    served : (i : ℕ) (r : Call) → slice_get tree.calls i ≡ Some r → (r.caller.0 == k) ≡ true → (b : Bool) → is_served_by t r ≡ b → b ≡ false
    served i r at c false g = refl
    served i r at c true g =
        let found = stands 0 tree.made i tree.calls r sound.ascending at in
        let is : find (is_served_by t) tree.calls ≡ Some r = sound.server (is_call r.number) r t found g in
        let client : (k == r.caller.0) ≡ false = subst (λ o. (k == woken_of (caller_in o) t) ≡ false) is e in
        let same : r.caller.0 ≡ k = same_number r.caller.0 k c in
        let self : (k == r.caller.0) ≡ true = ap (λ j. k == j) same ∙ equal k in
        cc

    go : (b : Bool) → (k == t) ≡ b → became_ready tree (live_calls (left_calls (thread_end t) tree)) k ≡ false
    go true f =
        ap (λ b. not (has_ready tree k) && b)
        (none_ready (left_call (thread_end t)) k (caller_kept (thread_end t)) tree.calls
        (λ i r at c. end_forgets t r (ap (λ j. r.caller.0 == j) (sym (same_number k t f)) ∙ c)))
        ∙ none (has_ready tree k)
    go false f =
        not_back (has_ready tree k) (has_ready (live_calls (left_calls (thread_end t) tree)) k)
        (sym
        (same_ready (left_call (thread_end t)) k (caller_kept (thread_end t)) tree.calls sound.live
        (λ i r at c.
        end_keeps t k r c f (served i r at c (is_served_by t r) refl)
        (let found = stands 0 tree.made i tree.calls r sound.ascending at in λ a. sound.abandoned (is_call r.number) r found a))))
