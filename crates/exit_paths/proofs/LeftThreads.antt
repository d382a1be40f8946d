-- All threads, where callers leave and threads end: the first so many have met their fates.
use Rattle.std.proofs.Common.{◌≡◌, ◌⊎◌, inl, inr, ⊎_elim, ℕ, zero, suc, ◌+◌, ◌<◌, ◌≤◌, ◌==◌, Bool, true, false, if◌then◌else◌, List, [], ◌∷◌, Option, Some, None, option_map, is_some, length, map, find, slice_get, refl, sym, ap, ap₂, ◌∙◌, subst, eq-or-lt_of_le, arith}
use Rattle.std.proofs.Math.Path.{fun_ext}
use Rattle.std.proofs.lemmas.Bool.Decides.{nat_tests}
use Rattle.dk_base.specs.ByNumber.{at_number}
use Rattle.spec_records.specs.declared.leaving.Leaver.{Leaver}
use Rattle.spec_records.specs.declared.leaving.Leaver.TheVariants.{Interrupted, Ended, EndedProcess, Revoked, Forked}
use Rattle.spec_records.specs.declared.record.CallStage.TheVariants as stage
use Rattle.spec_records.specs.Words.{CallTree, Leaving, NoticeList, ProcessTable, bound_at, cancelled_thread, change_thread, deserted_at, deserted_in, ended_thread, interrupted_where, is_left, is_owned_by, is_served_by, leaving_of, left_thread_of, left_threads, parked_at, parked_thread, process_in, thread_at, tid}
use Rattle.spec_kernel.specs.Types.{Call, CallStage, Door, Parked, Pool, Thread}
use Rattle.spec_records.proofs.Lists.{at_number-map, at_number-suc, numbered_past, numbered_there}
use Rattle.spec_kernel.proofs.Places.{place_of}
use Rattle.spec_kernel.proofs.Threads.{processes-change_thread}
use Rattle.server_pool.specs.Words.{AllParkedBefore, ParkedBefore, PoolsValue, stack_in, thread_room_in}
use Rattle.law_pools.specs.Words.{Agrees, IsParkedIn, pool_by}
use Rattle.law_pools.proofs.Parked.{all_in}
use Rattle.law_pools.proofs.Readers.{same_number}
use Rattle.law_pools.proofs.Stacks.{length-change_thread, thread_elsewhere, thread_there}
use Rattle.exit_paths.specs.Words.{own_pool_in, with_interrupted}

-- each thread keeps its process

left_process : (who : Leaving) (now : ℕ) (calls : List Call) (x : Thread) → (left_thread_of who now calls x).process.0 ≡ x.process.0
left_process who now calls x = ended (who.ends x.number)
  where
    interrupted : (b : Bool) → (interrupted_where b x).process.0 ≡ x.process.0
    interrupted true = refl
    interrupted false = refl

    cancelled : (b : Bool) (y : Thread) → (if b then y else cancelled_thread y).process.0 ≡ y.process.0
    cancelled true y = refl
    cancelled false y = refl

    at_stage : (b : Bool) (s : CallStage) (y : Thread) → (deserted_at now b s y).process.0 ≡ y.process.0
    at_stage b (stage.Given u) y = refl
    at_stage b (stage.Entered u) y = cancelled b y
    at_stage b _ y = refl

    left : (b : Bool) (r : Call) (y : Thread) → (if b then deserted_at now r.no_cancel r.stage y else y).process.0 ≡ y.process.0
    left true r y = at_stage r.no_cancel r.stage y
    left false r y = refl

    served : (o : Option Call) (y : Thread) → (deserted_in who now o y).process.0 ≡ y.process.0
    served None y = refl
    served (Some r) y = left (is_left who r) r y

    ended :
        (b : Bool) →
        (if b then ended_thread x else deserted_in who now (find (is_served_by x.number) calls) (interrupted_where (who.interrupts x.number) x)).process.0 ≡ x.process.0
    ended true = refl
    ended false =
        served (find (is_served_by x.number) calls) (interrupted_where (who.interrupts x.number) x) ∙ interrupted (who.interrupts x.number)

-- who leaves is the same as long as processes are the same, and those that are interrupted were told apart before
interrupting_same :
    (a b : ProcessTable) (doors : List Door) (who : Leaver) (f : ℕ → Bool) → ((u : ℕ) → process_in (thread_at a u) ≡ process_in (thread_at b u)) →
    with_interrupted f (leaving_of a doors who) ≡ with_interrupted f (leaving_of b doors who)
interrupting_same a b doors (Interrupted t) f h = refl
interrupting_same a b doors (Ended t) f h = refl
interrupting_same a b doors (EndedProcess p) f h =
    ap
    (λ (g : ℕ → Bool). record { ends = g; interrupts = f; loses = λ d. is_owned_by p.0 (at_number doors d) })
    (fun_ext (λ u. ap (λ k. k == p.0) (h u)))
interrupting_same a b doors (Revoked d) f h = refl
interrupting_same a b doors (Forked t) f h = refl

pub interrupting_as : (who : Leaving) (f : ℕ → Bool) → ((u : ℕ) → f u ≡ who.interrupts u) → with_interrupted f who ≡ who
interrupting_as who f same = ap (λ (g : ℕ → Bool). with_interrupted g who) (fun_ext same)

-- the threads 1 to i have met their fates
pub record HasLeft (who : Leaving) (now : ℕ) (calls : List Call) (i : ℕ) (before after : ProcessTable) : Type 0 where
  pub processes : after.processes ≡ before.processes
  pub number : length after.threads ≡ length before.threads
  pub left : (t : ℕ) → t ≤ i → thread_at after t ≡ option_map (left_thread_of who now calls) (thread_at before t)
  pub others : (t : ℕ) → i < t → thread_at after t ≡ thread_at before t

pub or_later : (m n : ℕ) → (m ≤ n) ⊎ (n < m)
or_later m zero = go m
  where
    go : (k : ℕ) → (k ≤ 0) ⊎ (0 < k)
    go zero = inl (omega arith)
    go (suc k) = inr (omega arith)
or_later m (suc n) = ⊎_elim (λ l. inl (omega arith)) (λ l. ⊎_elim (λ e. inl (omega arith)) (λ k. inr (omega arith)) (eq-or-lt_of_le (next l))) (or_later m n)
  where
    next : n < m → suc n ≤ m
    next l = omega arith

module _ {who : Leaving} {now : ℕ} {calls : List Call} {i : ℕ} {before after : ProcessTable} (h : HasLeft who now calls i before after) where
  pub same_process : (u : ℕ) → process_in (thread_at after u) ≡ process_in (thread_at before u)
  same_process u = ⊎_elim (λ l. ap process_in (h.left u l) ∙ go (thread_at before u)) (λ l. ap process_in (h.others u l)) (or_later u i)
    where
      go : (o : Option Thread) → process_in (option_map (left_thread_of who now calls) o) ≡ process_in o
      go None = refl
      go (Some x) = left_process who now calls x

  pub next_left :
      (t : ℕ) (f : Thread → Thread) (later : ProcessTable) → t ≡ i + 1 → later ≡ change_thread after t f →
      ((x : Thread) → x.number ≡ t → left_thread_of who now calls x ≡ f x) →
      ((x : Thread) → thread_at before t ≡ Some x → x.number ≡ t) → HasLeft who now calls (i + 1) before later
  next_left t f later next is fate numbered =
      subst (HasLeft who now calls (i + 1) before) (sym is)
      (record {
        processes = processes-change_thread after t f ∙ h.processes;
        number = length-change_thread after t f ∙ h.number;
        left = λ u l. left u (u == t) refl l;
        others = λ u l. thread_elsewhere after t u f (grind (arith, nat_tests)) ∙ h.others u (omega arith);
      })
    where
      fates : (o : Option Thread) → thread_at before t ≡ o → option_map f o ≡ option_map (left_thread_of who now calls) o
      fates None e = refl
      fates (Some x) e = ap Some (sym (fate x (numbered x e)))

      here : thread_at (change_thread after t f) t ≡ option_map (left_thread_of who now calls) (thread_at before t)
      here =
          thread_there after t f ∙ ap (option_map f) (h.others t (omega arith)) ∙ fates (thread_at before t) refl

      left :
          (u : ℕ) (b : Bool) → (u == t) ≡ b → u ≤ i + 1 →
          thread_at (change_thread after t f) u ≡ option_map (left_thread_of who now calls) (thread_at before u)
      left u true e l =
          subst (λ k. thread_at (change_thread after t f) k ≡ option_map (left_thread_of who now calls) (thread_at before k)) (sym (same_number u t e)) here
      left u false e l =
          let low : u ≤ i = grind (arith, nat_tests) in thread_elsewhere after t u f e ∙ h.left u low

  pub all_left : length before.threads ≤ i → after ≡ left_threads who now calls before
  all_left whole =
      ap₂ (λ ps ts. record { processes = ps; threads = ts }) h.processes (same_list after.threads (map (left_thread_of who now calls) before.threads) places)
    where
      same_list : {X : Type 0} (xs ys : List X) → ((k : ℕ) → slice_get xs k ≡ slice_get ys k) → xs ≡ ys
      same_list [] [] e = refl
      same_list [] (y ∷ ys) e = let f = e 0 in cc
      same_list (x ∷ xs) [] e = let f = e 0 in cc
      same_list (x ∷ xs) (y ∷ ys) e =
          let f : Some x ≡ Some y = e 0 in
          let same : x ≡ y = cc in
          ap₂ (λ z zs. z ∷ zs) same (same_list xs ys (λ k. e (suc k)))

      numbers : (t : ℕ) → thread_at after t ≡ at_number (map (left_thread_of who now calls) before.threads) t
      numbers t =
          ⊎_elim (λ l. h.left t l)
          (λ l. h.others t l ∙ numbered_past before.threads t (omega arith) ∙ sym (ap (option_map (left_thread_of who now calls)) (numbered_past before.threads t (omega arith))))
          (or_later t i)
          ∙ sym (at_number-map (left_thread_of who now calls) before.threads t)

      places : (k : ℕ) → slice_get after.threads k ≡ slice_get (map (left_thread_of who now calls) before.threads) k
      places k = sym (at_number-suc after.threads k) ∙ numbers (suc k) ∙ at_number-suc (map (left_thread_of who now calls) before.threads) k

-- the next thread: it is there, its pool has room, and it parks after all that are parked there

module _
    {who : Leaving} {now : ℕ} {calls : List Call} {i : ℕ} {before after : ProcessTable} (v w : PoolsValue)
    (h : HasLeft who now calls i before after) (bindings : w.bindings ≡ v.bindings) where
  pub next_there : (t : ℕ) → t ≡ i + 1 → i < length before.threads → is_some (thread_at after t) ≡ true
  next_there t next l = ap is_some (h.others t (omega arith)) ∙ numbered_there before.threads t (omega arith) (omega arith)

  pub same_own_pool : (t : ℕ) → own_pool_in after w.bindings t ≡ own_pool_in before v.bindings t
  same_own_pool t = ap₂ (λ p bs. pool_by p (bound_at bs t)) (same_process h t) bindings

  pub next_room :
      (t : ℕ) → t ≡ i + 1 → i < length before.threads →
      length before.threads ≤ thread_room_in v (own_pool_in before v.bindings t) →
      ((pool : Pool) → thread_room_in v pool ≤ thread_room_in w pool + i) → 0 < thread_room_in w (own_pool_in after w.bindings t)
  next_room t next l room kept =
      let a : length before.threads ≤ thread_room_in v (own_pool_in before v.bindings t) = room in
      let b : thread_room_in v (own_pool_in before v.bindings t) ≤ thread_room_in w (own_pool_in before v.bindings t) + i = kept (own_pool_in before v.bindings t) in
      subst (λ p. 0 < thread_room_in w p) (sym (same_own_pool t)) (omega arith)

  pub next_later :
      (t : ℕ) → t ≡ i + 1 → (doors : List Door) (tree : CallTree) (list : NoticeList) → Agrees now after doors tree list w →
      ((u : ℕ) (x : Parked) → parked_at before v.bindings u ≡ Some x → x.since < now) → (pool q : Pool) →
      AllParkedBefore (stack_in w pool) (record { thread = tid t; pool = q; since = now })
  next_later t next doors tree list agreed earlier pool q =
      all_in (λ x. ParkedBefore x y) (stack_in w pool)
      (λ x m. let p : (k : ℕ) × (slice_get (stack_in w pool) k ≡ Some x) = place_of x (stack_in w pool) m in below x ((agreed.stacks pool).parked p.0 x p.1))
    where
      y : Parked
      y = record { thread = tid t; pool = q; since = now }

      below : (x : Parked) → IsParkedIn after w.bindings now pool x → ParkedBefore x y
      below x k = ⊎_elim early late (or_later x.thread.0 i)
        where
          early : x.thread.0 ≤ i → ParkedBefore x y
          early l = ⊎_elim (λ e. inr (e, omega arith)) inl (eq-or-lt_of_le k.since)

          late : i < x.thread.0 → ParkedBefore x y
          late l =
              inl (earlier x.thread.0 x
              (ap₂ (λ o bs. parked_thread bs x.thread.0 o) (sym (h.others x.thread.0 l)) (sym bindings) ∙ k.parked))

-- the fate of the next thread, by the processes as they are now
pub fate_now :
    {now : ℕ} {calls : List Call} {i : ℕ} {before after : ProcessTable} (doors : List Door) (who : Leaver) (interrupted : ℕ → Bool) →
    HasLeft (leaving_of before doors who) now calls i before after → with_interrupted interrupted (leaving_of before doors who) ≡ leaving_of before doors who →
    (f : Thread → Thread) (t : ℕ) → ((x : Thread) → x.number ≡ t → left_thread_of (with_interrupted interrupted (leaving_of after doors who)) now calls x ≡ f x) →
    (x : Thread) → x.number ≡ t → left_thread_of (leaving_of before doors who) now calls x ≡ f x
fate_now {now} {calls} {i} {before} {after} doors who interrupted h as_told f t fate x e =
    ap (λ l. left_thread_of l now calls x) (sym as_told ∙ sym (interrupting_same after before doors who interrupted (same_process h))) ∙ fate x e

-- and after all of them

pub process_kept :
    (l : Leaving) (now : ℕ) (calls : List Call) (table : ProcessTable) (t : ℕ) → process_in (thread_at (left_threads l now calls table) t) ≡ process_in (thread_at table t)
process_kept l now calls table t = ap process_in (at_number-map (left_thread_of l now calls) table.threads t) ∙ go (thread_at table t)
  where
    go : (o : Option Thread) → process_in (option_map (left_thread_of l now calls) o) ≡ process_in o
    go None = refl
    go (Some x) = left_process l now calls x
