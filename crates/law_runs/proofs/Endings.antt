-- Which acts end threads and processes.
use Rattle.std.specs.Prelude.{ℕ, ◌≡◌, ◌==◌, ◌&&◌, ◌⊎◌, Option, Bool, true, false, if◌then◌else◌, Some, None, zero, suc, find, is_some, not, slice_get}
use Rattle.std.specs.List.{list_any}
use Rattle.std.specs.Option.{option_map}
use Rattle.std.proofs.Common.{refl, sym, ap, subst, ◌∙◌, inl, inr}
use native.Mathlib.Omega.{arith}
use Rattle.std.proofs.lemmas.Bool.Decides.{nat_tests}
use Rattle.spec_kernel.specs.Types.{Item, Pid, Process, Request, Thread, ThreadState}
use Rattle.dk_base.specs.ByNumber.{at_number}
use Rattle.dk_base.specs.declared.object.Item.TheVariants as item
use Rattle.dk_base.specs.declared.request.Request.TheVariants as request
use Rattle.spec_records.specs.declared.record.ThreadState.TheVariants as is
use Rattle.spec_records.specs.Words.{Leaving, change_thread, deserted_in, ended_process, ended_thread, first_refusal, idle_thread, interrupted_where, interruption, is_active, is_last, is_live_in, is_served_by, is_unborn_in, keeps_alive, left_thread_of, process_end, process_in, revocation, state_in, thread_at_state, thread_end, thread_in_invocation, thread_outside}
use Rattle.spec_kernel.specs.Words.{ActResult, State, act, door_at, exit, fork, forking_tests, give_one, is_live_process, is_unborn_process, kill, leave, leave_process, leave_thread, now, process_of, settle, state_of, step, thread_of, unless_refused, with_event_counted}
use Rattle.spec_records.proofs.Lists.{at_number-map, at_number-suc}
use Rattle.spec_kernel.proofs.Settling.{settle-all}
use Rattle.spec_kernel.proofs.Threads.{at_number-end_process, processes-change_thread, thread_at-end_process}
use Rattle.spec_kernel.proofs.Moves.{Moves, act_moves}
use Rattle.spec_kernel.proofs.Moves.IsLeaving.{interrupts as interrupts_one, exits as exits_one}
use Rattle.spec_kernel.proofs.Moves.IsEnding.{kills as kills_one, exits_last}
use Rattle.law_states.specs.Arrows.{EndsNow, Interrupts}
use Rattle.law_states.specs.Arrows.Interrupts.{asked, forked}
use Rattle.law_states.specs.Core.{ended_in, number_in}
use Rattle.law_states.specs.Invariant.{Invariant}
use Rattle.law_runs.specs.Ends.{IsLast, is_ended}
use Rattle.law_places.proofs.Done.{move_none, settle_none}
use Rattle.law_runs.proofs.Forking.{fork_ends, was_unborn}
use Rattle.law_runs.proofs.Left.{fork_ends_none, leave_ends}
use Rattle.law_runs.proofs.Parked.{IsThread, is_thread}
use Rattle.law_places.proofs.Passed.{Found, any_found, found_any}
use Rattle.law_places.proofs.ReturnRefusals.{not_both}

-- the processes after an act

abbrev SameProcesses : State → State → Type 0
SameProcesses m n = n.process_table.processes ≡ m.process_table.processes

changed : (m : State) (t : ℕ) (change : Thread → Thread) → (change_thread m.process_table t change).processes ≡ m.process_table.processes
changed m t change = processes-change_thread m.process_table t change

give_same : (m : State) (i : Item) (u : ℕ) → SameProcesses m (give_one m i u)
give_same m (item.Call c) u = changed m u _
give_same m (item.Notice n) u = changed m u _

pub settle_same : (before m : State) → (settle before m).process_table.processes ≡ m.process_table.processes
settle_same before m =
    settle-all (λ n. n.process_table.processes ≡ m.process_table.processes) before
    (record {
      makes = λ n d l e. e;
      fails = λ n t l e. changed n t (thread_at_state is.FailedReturn) ∙ e;
      gives = λ n w x p e. give_same n w.item x.thread.0 ∙ e;
      starts = λ n t r e. changed n t (thread_at_state is.Running) ∙ e;
    }) (λ n h. h)
    m refl

-- a process that ends

abbrev IsEnded : State → ℕ → Type 0
IsEnded m p = is_ended m p ≡ true

pub process_ended : (m : State) (p : ℕ) → is_some (at_number m.process_table.processes p) ≡ true → IsEnded (leave_process m p) p
process_ended m p e =
    ap ended_in (at_number-end_process (leave m (process_end m.process_table m.doors p)).process_table p p)
    ∙ ap (λ (b : Bool). ended_in (if b then option_map ended_process (at_number m.process_table.processes p) else at_number m.process_table.processes p)) here
    ∙ go (at_number m.process_table.processes p) e
  where
    here : (p == p) ≡ true
    here = grind (arith, nat_tests)

    go : (o : Option Process) → is_some o ≡ true → ended_in (option_map ended_process o) ≡ true
    go None f = absurd (cc f)
    go (Some x) f = refl

other_stays : (m : State) (e p : ℕ) → (p == e) ≡ false → is_ended (leave_process m e) p ≡ is_ended m p
other_stays m e p f =
    ap ended_in (at_number-end_process (leave m (process_end m.process_table m.doors e)).process_table e p)
    ∙ ap (λ (b : Bool). ended_in (if b then option_map ended_process (at_number m.process_table.processes e) else at_number m.process_table.processes p)) f

pub live_begun : (o : Option Process) → is_live_in o ≡ true → is_unborn_in o ≡ false
live_begun o e = grind arith

-- which entry of thread t ends process p
pub data EndsOne (m : State) (t p : ℕ) : Option Request → Type 0 where
  kills : (process : Pid) → process.0 ≡ p → is_unborn_process m p ≡ false → EndsOne m t p (Some (request.Kill process))
  exits : process_of m t ≡ p → is_last m.process_table t p ≡ true → EndsOne m t p (Some request.Exit)

module _ (m : State) (t p : ℕ) (lives : is_ended m p ≡ false) where
  same_ends : (n : State) → n.process_table.processes ≡ m.process_table.processes → IsEnded n p → ⊥
  same_ends n e f = not_both (is_ended n p) f (ap (λ ps. ended_in (at_number ps p)) e ∙ lives)

  ends_it : (e : ℕ) → IsEnded (leave_process m e) p → e ≡ p
  ends_it e f = go (p == e) refl
    where
      go : (b : Bool) → (p == e) ≡ b → e ≡ p
      go true g = grind (arith, nat_tests)
      go false g = absurd (not_both (is_ended (leave_process m e) p) f (other_stays m e p g ∙ lives))

  move_ends_one : (q : Option Request) (a : ActResult) → Moves m t q a → IsEnded a.state p → EndsOne m t p q
  move_ends_one q a (Moves.turns s x _ _) f = absurd (same_ends a.state (changed m t _) f)
  move_ends_one q a (Moves.calls fd bytes pass rsize _) f = absurd (same_ends a.state (changed m t _) f)
  move_ends_one q a (Moves.returns bytes pass _ _) f = absurd (same_ends a.state (changed m t (idle_thread (now m))) f)
  move_ends_one q a (Moves.returns_unbound bytes pass _ _) f = absurd (same_ends a.state (changed m t thread_outside) f)
  move_ends_one q a (Moves.enters r _ _) f = absurd (same_ends a.state (changed m t (thread_in_invocation (item.Call r.number))) f)
  move_ends_one q a (Moves.fails r _ _) f = absurd (same_ends a.state (changed m t (idle_thread (now m))) f)
  move_ends_one q a (Moves.enters_notice n _) f = absurd (same_ends a.state (changed m t (thread_in_invocation (item.Notice n.number))) f)
  move_ends_one q a (Moves.collects c _) f = absurd (same_ends a.state (changed m t (thread_at_state is.Running)) f)
  move_ends_one q a (Moves.retrieves port max nget one _) f = absurd (same_ends a.state (changed m t (thread_at_state is.Running)) f)
  move_ends_one q a (Moves.ends r e (kills_one process l)) f =
      let same : process.0 ≡ p = ends_it process.0 f in
      kills process same (subst (λ n. is_unborn_process m n ≡ false) same (live_begun (at_number m.process_table.processes process.0) l))
  move_ends_one q a (Moves.forks child n) f =
      absurd (not_both (is_ended a.state p) f (fork_ends m t (process_of m t) child.0 p (was_unborn m child.0 n) ∙ lives))
  move_ends_one q a (Moves.ends r e (exits_last l)) f =
      let same : process_of m t ≡ p = ends_it (process_of m t) f in
      exits same (ap (is_last m.process_table t) (sym same) ∙ l)
  move_ends_one q a _ f = absurd (same_ends a.state refl f)

  pub step_ends_one : (q : Option Request) → IsEnded (step m t q).state p → EndsOne m t p q
  unfolding step
  step_ends_one q f =
      move_ends_one q _ (act_moves m t q) (sym (ap (λ ps. ended_in (at_number ps p)) (settle_same m (act m t q).state)) ∙ f)

-- and each of them does

pub step_kills :
    (m : State) (t : ℕ) (process : Pid) → is_some (at_number m.process_table.processes process.0) ≡ true →
    is_unborn_process m process.0 ≡ false → IsEnded (step m t (Some (request.Kill process))).state process.0
unfolding step
step_kills m t process e begun =
    ap (λ ps. ended_in (at_number ps process.0)) (settle_same m (kill m process.0).state)
    ∙ go (is_live_process m process.0) refl
  where
    not_live : (o : Option Process) → is_some o ≡ true → is_unborn_in o ≡ false → is_live_in o ≡ false → ended_in o ≡ true
    not_live o f b g = grind arith

    go : (b : Bool) → is_live_process m process.0 ≡ b → IsEnded (if b then leave_process m process.0 else m) process.0
    go true f = process_ended m process.0 e
    go false f = not_live (at_number m.process_table.processes process.0) e begun f

pub step_exits :
    (m : State) (t : ℕ) → is_some (at_number m.process_table.processes (process_of m t)) ≡ true →
    is_last m.process_table t (process_of m t) ≡ true → IsEnded (step m t (Some request.Exit)).state (process_of m t)
unfolding step
step_exits m t e l =
    ap (λ ps. ended_in (at_number ps (process_of m t))) (settle_same m (exit m t (process_of m t)).state)
    ∙ ap (λ (b : Bool). is_ended (if b then leave_process m (process_of m t) else leave_thread m t) (process_of m t)) l
    ∙ process_ended m (process_of m t) e

-- the last thread of a process

inactive : (s : ThreadState) → is_active s ≡ false → (s ≡ is.Done) ⊎ (s ≡ is.Dormant)
inactive is.Done e = inl refl
inactive is.Dormant e = inr refl
inactive s e = absurd (grind arith)

active_not : (s : ThreadState) → is_active s ≡ true → (s ≡ is.Done) ⊎ (s ≡ is.Dormant) → ⊥
active_not s e (inl f) = cc
active_not s e (inr f) = cc

module _ (m : State) (h : Invariant m) (t p : ℕ) where
  number_is : (u : ℕ) (x : Thread) → thread_of m u ≡ Some x → x.number ≡ u
  number_is u x e = h.consistent.coherent.threads.thread_number u x.number (ap number_in e)

  keeps : (u : ℕ) (x : Thread) → thread_of m u ≡ Some x → process_of m u ≡ p → (u ≡ t → ⊥) → is_active x.state ≡ true → keeps_alive t p x ≡ true
  keeps u x e f g a = by (x.process.0 == p) (x.number == t) refl refl
    where
      of_p : x.process.0 ≡ p
      of_p = ap process_in (sym e) ∙ f

      by : (b d : Bool) → (x.process.0 == p) ≡ b → (x.number == t) ≡ d → ((b && not d) && is_active x.state) ≡ true
      by true false i j = a
      by true true i j =
          let same : x.number ≡ t = grind (arith, nat_tests) in
          absurd (g (sym (number_is u x e) ∙ same))
      by false d i j = absurd (grind (arith, nat_tests, of_p))

  -- a thread that is there stands at its place
  at_place : (k : ℕ) (x : Thread) → thread_of m (suc k) ≡ Some x → slice_get m.process_table.threads k ≡ Some x
  at_place k x e = sym (at_number-suc m.process_table.threads k) ∙ e

  pub last_is : is_last m.process_table t p ≡ true → IsLast m t p
  last_is l u f g = go u (thread_of m u) refl f g
    where
      none_keeps : list_any (keeps_alive t p) m.process_table.threads ≡ false
      none_keeps = not_true (list_any (keeps_alive t p) m.process_table.threads) l
        where
          not_true : (b : Bool) → not b ≡ true → b ≡ false
          not_true b e = grind arith

      go : (v : ℕ) (o : Option Thread) → thread_of m v ≡ o → process_of m v ≡ p → (v ≡ t → ⊥) → (state_of m v ≡ is.Done) ⊎ (state_of m v ≡ is.Dormant)
      go v None e i j = inl (ap state_in e)
      go zero (Some x) e i j = absurd (cc e)
      go (suc k) (Some x) e i j =
          subst (λ s. (s ≡ is.Done) ⊎ (s ≡ is.Dormant)) (sym (ap state_in e)) (inactive x.state (idle (is_active x.state) refl))
        where
          idle : (b : Bool) → is_active x.state ≡ b → b ≡ false
          idle false a = refl
          idle true a =
              absurd
              (not_both _
              (any_found (keeps_alive t p) m.process_table.threads k x (at_place k x e) (keeps (suc k) x e i j a))
              none_keeps)

  pub is_last_thread : IsLast m t p → is_last m.process_table t p ≡ true
  is_last_thread l = go (list_any (keeps_alive t p) m.process_table.threads) refl
    where
      parts : (a b d : Bool) → ((a && not b) && d) ≡ true → (a ≡ true) × ((b ≡ false) × (d ≡ true))
      parts true false true e = (refl, (refl, refl))
      parts true false false e = absurd (cc e)
      parts true true d e = absurd (cc e)
      parts false b d e = absurd (cc e)

      none : Found (keeps_alive t p) m.process_table.threads → ⊥
      none f =
          let it = parts (f.item.process.0 == p) (f.item.number == t) (is_active f.item.state) f.passes in
          let there : thread_of m (suc f.at) ≡ Some f.item = at_number-suc m.process_table.threads f.at ∙ f.there in
          let of_p : f.item.process.0 ≡ p = grind (arith, nat_tests, it.0) in
          active_not f.item.state it.1.1
          (subst (λ s. (s ≡ is.Done) ⊎ (s ≡ is.Dormant)) (ap state_in there)
          (l (suc f.at) (ap process_in there ∙ of_p)
          (λ same. grind (arith, nat_tests, number_is (suc f.at) f.item there, same, it.1.0))))

      go : (b : Bool) → list_any (keeps_alive t p) m.process_table.threads ≡ b → not b ≡ true
      go false e = refl
      go true e = absurd (none (found_any (keeps_alive t p) m.process_table.threads e))

-- the process of a thread that is not Done is there
pub process_there : (m : State) → Invariant m → (t : ℕ) → (state_of m t ≡ is.Done → ⊥) → is_some (at_number m.process_table.processes (process_of m t)) ≡ true
process_there m h t d = go (is_thread m t d)
  where
    go : IsThread m t → is_some (at_number m.process_table.processes (process_of m t)) ≡ true
    go x = h.consistent.coherent.threads.process_there t x.thread.number (ap number_in x.there)

-- threads

pub leave_done : (m : State) (who : Leaving) (t : ℕ) → Invariant m → who.ends t ≡ true → state_of (leave m who) t ≡ is.Done
leave_done m who t h e =
    ap state_in (at_number-map (left_thread_of who (now m) m.call_tree.calls) m.process_table.threads t) ∙ go (thread_of m t) refl
  where
    go : (o : Option Thread) → thread_of m t ≡ o → state_in (option_map (left_thread_of who (now m) m.call_tree.calls) o) ≡ is.Done
    go None f = refl
    go (Some x) f =
        ap (λ (b : Bool). (if b then ended_thread x else deserted_in who (now m) (find (is_served_by x.number) m.call_tree.calls) (interrupted_where (who.interrupts x.number) x)).state)
        (ap who.ends (h.consistent.coherent.threads.thread_number t x.number (ap number_in f)) ∙ e)

-- why thread u ends by an entry of thread t
pub data EndsThread (m : State) (t u : ℕ) (n : State) : Option Request → Type 0 where
  exits : t ≡ u → EndsThread m t u n (Some request.Exit)
  with_process : {q : Option Request} → is_ended n (process_of m u) ≡ true → EndsThread m t u n q

module _ (m : State) (h : Invariant m) (t u : ℕ) (before : state_of m u ≡ is.Done → ⊥) where
  state_left : (p : ℕ) → state_of (leave_process m p) u ≡ state_of (leave m (process_end m.process_table m.doors p)) u
  state_left p = ap state_in (thread_at-end_process (leave m (process_end m.process_table m.doors p)).process_table p u)

  process_ends : (p : ℕ) (q : Option Request) → state_of (leave_process m p) u ≡ is.Done → EndsThread m t u (leave_process m p) q
  process_ends p q d =
      let its : process_of m u ≡ p = grind (arith, nat_tests, leave_ends m (process_end m.process_table m.doors p) u h (sym (state_left p) ∙ d) before) in
      with_process (subst (λ j. is_ended (leave_process m p) j ≡ true) (sym its) (process_ended m p (subst (λ j. is_some (at_number m.process_table.processes j) ≡ true) its (process_there m h u before))))

  move_ends_thread : (q : Option Request) (a : ActResult) → Moves m t q a → state_of a.state u ≡ is.Done → EndsThread m t u a.state q
  move_ends_thread q a (Moves.leaves r who (interrupts_one v)) d = absurd (cc (leave_ends m (interruption v.0) u h d before))
  move_ends_thread q a (Moves.leaves r who (exits_one l)) d = exits (grind (arith, nat_tests, leave_ends m (thread_end t) u h d before))
  move_ends_thread q a (Moves.revokes fd f) d = absurd (cc (leave_ends m (revocation (door_at m (process_of m t) fd)) u h d before))
  move_ends_thread q a (Moves.ends r p _) d = process_ends p q d
  move_ends_thread q a (Moves.forks child f) d = absurd (fork_ends_none m t child.0 u h f d before)
  move_ends_thread q a x d = absurd (before ((move_none m t q a x refl).done u d))

  settled : (q : Option Request) (n : State) → EndsThread m t u n q → EndsThread m t u (settle m n) q
  settled q n (exits e) = exits e
  settled q n (with_process e) = with_process (ap (λ ps. ended_in (at_number ps (process_of m u))) (settle_same m n) ∙ e)

pub step_ends_thread : (m : State) → Invariant m → (t u : ℕ) (q : Option Request) → EndsNow m (step m t q).state u → EndsThread m t u (step m t q).state q
unfolding step
step_ends_thread m h t u q e = counted (settled m h t u e.before q (act m t q).state (move_ends_thread m h t u e.before q _ (act_moves m t q) (settle_none m (act m t q).state u e.after)))
  where
    counted : {p : Option Request} {n : State} → EndsThread m t u n p → EndsThread m t u (with_event_counted n) p
    counted (exits f) = exits f
    counted (with_process f) = with_process f

-- what interrupts a thread ends none
pub interrupt_ends_none :
    (m : State) → Invariant m → (t u v : ℕ) (q : Option Request) → Interrupts m t q v → EndsNow m (step m t q).state u → ⊥
unfolding step
interrupt_ends_none m h t u v q i e = go i (settle_none m (act m t q).state u e.after)
  where
    forks : (child : Pid) → first_refusal (forking_tests m child.0) ≡ None → state_of (act m t (Some (request.Fork child))).state u ≡ is.Done → ⊥
    forks child f d =
        fork_ends_none m t child.0 u h f
        (sym (ap (λ o. state_of (unless_refused m o (fork m t (process_of m t) child.0)).state u) f) ∙ d)
        e.before

    go : Interrupts m t q v → state_of (act m t q).state u ≡ is.Done → ⊥
    go (asked f) d =
        absurd (cc (leave_ends m (interruption v) u h (subst (λ p. state_of (act m t p).state u ≡ is.Done) f d) e.before))
    go (forked child f free own other) d = forks child free (subst (λ p. state_of (act m t p).state u ≡ is.Done) f d)
