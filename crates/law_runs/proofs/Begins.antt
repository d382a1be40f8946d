-- A process that has not begun begins at a Fork of it by a thread of its parent, and but once.
use Rattle.std.specs.Prelude.{ℕ, ◌≡◌, ◌+◌, ◌==◌, ◌≤◌, List, Option, Bool, true, false, if◌then◌else◌, Some, None, length, slice_get}
use Rattle.std.specs.Option.{option_map}
use Rattle.std.proofs.Common.{refl, sym, ap, subst, ◌∙◌}
use native.Mathlib.Omega.{arith}
use Rattle.std.proofs.lemmas.Bool.Decides.{nat_tests}
use Rattle.std.proofs.lemmas.Option.{slice_get_within}
use Rattle.spec_kernel.specs.Types.{Pid, Process, Request, Thread}
use Rattle.dk_base.specs.ByNumber.{at_number}
use Rattle.dk_base.specs.declared.object.Item.TheVariants as item
use Rattle.dk_base.specs.declared.request.Request.TheVariants as request
use Rattle.spec_records.specs.declared.record.ThreadState.TheVariants as is
use Rattle.spec_records.specs.Words.{change_thread, ended_process, idle_thread, is_first_of, is_live_in, is_spare_in, is_unborn_in, live_process, pid, process_end, process_in, thread_at_state, thread_in_invocation, thread_outside}
use Rattle.spec_kernel.specs.Words.{ActResult, MayEnter, MayTurn, State, Turn, act, fork, is_live_process, is_unborn_process, leave, leave_process, now, parent_of, process_of, state_at, state_of, step, thread_of, unless_refused}
use Rattle.spec_kernel.proofs.Moves.{IsEnding, IsFree, Moves, act_moves}
use Rattle.spec_kernel.proofs.Steps.{ThreadIdentity, thread_identity, thread_identity-step}
use Rattle.spec_kernel.proofs.Threads.{at_number-end_process, processes-change_thread}
use Rattle.law_states.specs.Invariant.{Invariant}
use Rattle.law_states.proofs.Steps.{running_is}
use Rattle.law_places.specs.Places.{process_at}
use Rattle.law_places.proofs.Known.{Known, invariant_before, next, stays}
use Rattle.law_runs.specs.Forks.{Begins, BeginsAt, IsUnborn}
use Rattle.law_runs.specs.Rows.{Forks}
use Rattle.law_runs.proofs.Endings.{live_begun, settle_same}
use Rattle.law_runs.proofs.Forking.{fork_is_free, fork_process, fork_runs, forks_there, was_unborn}
use Rattle.law_runs.proofs.OneThread.{settled_same, state-step}
use Rattle.law_runs.proofs.Parked.{IsThread, is_thread}
use Rattle.law_runs.proofs.Spares.{spare_rests}

-- at which acts process p begins, and that none makes a process one that has not begun

data BeginsOne (m : State) (t p : ℕ) : Option Request → Type 0 where
  forks : (child : Pid) → child.0 ≡ p → IsFree m t (request.Fork child) → BeginsOne m t p (Some (request.Fork child))

data StaysOrBegins (m : State) (t p : ℕ) (q : Option Request) (n : State) : Type 0 where
  same : is_unborn_process n p ≡ is_unborn_process m p → StaysOrBegins m t p q n
  begins : BeginsOne m t p q → is_unborn_process n p ≡ false → StaysOrBegins m t p q n

ended_begun : (o : Option Process) → is_unborn_in (option_map ended_process o) ≡ false
ended_begun None = refl
ended_begun (Some x) = refl

live_is_begun : (o : Option Process) → is_unborn_in (option_map live_process o) ≡ false
live_is_begun None = refl
live_is_begun (Some x) = refl

begins_live : (o : Option Process) → is_unborn_in o ≡ true → is_live_in (option_map live_process o) ≡ true
begins_live None e = absurd (cc e)
begins_live (Some x) e = refl

module _ (m : State) (h : Invariant m) (t p : ℕ) where
  dormant : (u e : ℕ) → process_of m u ≡ e → is_unborn_process m e ≡ true → state_of m u ≡ is.Dormant
  dormant u e f unborn = h.consistent.coherent.processes.unborn_dormant u (ap (is_unborn_process m) f ∙ unborn)

  changed : (q : Option Request) (n : State) → n.process_table.processes ≡ m.process_table.processes → StaysOrBegins m t p q n
  changed q n e = same (ap (λ ps. is_unborn_in (at_number ps p)) e)

  turned : (q : Option Request) (n : State) (change : Thread → Thread) → n.process_table ≡ change_thread m.process_table t change → StaysOrBegins m t p q n
  turned q n change e = changed q n (ap (λ (table : _). table.processes) e ∙ processes-change_thread m.process_table t change)

  -- what ends has begun
  ending_begun : (r : Request) (e : ℕ) → IsEnding m t r e → state_of m t ≡ is.Running → is_unborn_process m e ≡ false
  ending_begun r e (IsEnding.kills process l) running = live_begun (at_number m.process_table.processes process.0) l
  ending_begun r e (IsEnding.exits_last l) running = go (is_unborn_process m (process_of m t)) refl
    where
      go : (b : Bool) → is_unborn_process m (process_of m t) ≡ b → is_unborn_process m (process_of m t) ≡ false
      go false f = f
      go true f = absurd (cc (sym running ∙ dormant t (process_of m t) refl f))

  ends_same : (e : ℕ) → is_unborn_process m e ≡ false → is_unborn_process (leave_process m e) p ≡ is_unborn_process m p
  ends_same e f =
      ap is_unborn_in (at_number-end_process (leave m (process_end m.process_table m.doors e)).process_table e p) ∙ go (p == e) refl
    where
      go :
          (b : Bool) → (p == e) ≡ b →
          is_unborn_in
          (if b then option_map ended_process (at_number m.process_table.processes e) else at_number m.process_table.processes p)
          ≡ is_unborn_process m p
      go true g =
          let here : p ≡ e = grind (arith, nat_tests) in
          ended_begun (at_number m.process_table.processes e) ∙ sym (ap (is_unborn_process m) here ∙ f)
      go false g = refl

  fork_begins : (child : Pid) → IsFree m t (request.Fork child) → StaysOrBegins m t p (Some (request.Fork child)) (fork m t (process_of m t) child.0).state
  fork_begins child f = go (p == child.0) refl
    where
      by :
          (b : Bool) → (p == child.0) ≡ b →
          is_unborn_process (fork m t (process_of m t) child.0).state p
          ≡ is_unborn_in
          (if b then option_map live_process (at_number m.process_table.processes child.0) else at_number m.process_table.processes p)
      by b g =
          ap is_unborn_in (fork_process m t (process_of m t) child.0 p)
          ∙ ap
          (λ (c : Bool). is_unborn_in (if c then option_map live_process (at_number m.process_table.processes child.0) else at_number m.process_table.processes p))
          g

      go : (b : Bool) → (p == child.0) ≡ b → StaysOrBegins m t p (Some (request.Fork child)) (fork m t (process_of m t) child.0).state
      go true g =
          begins (BeginsOne.forks child (grind (arith, nat_tests)) f)
          (by true g ∙ live_is_begun (at_number m.process_table.processes child.0))
      go false g = same (by false g)

  move_begins : (q : Option Request) (a : ActResult) → Moves m t q a → MayTurn m t q → StaysOrBegins m t p q a.state
  move_begins q a (Moves.turns s x _ _) may = turned q a.state (thread_at_state s) refl
  move_begins q a (Moves.calls fd bytes pass rsize _) may = turned q a.state _ refl
  move_begins q a (Moves.returns bytes pass _ _) may = turned q a.state (idle_thread (now m)) refl
  move_begins q a (Moves.returns_unbound bytes pass _ _) may = turned q a.state thread_outside refl
  move_begins q a (Moves.enters r _ _) may = turned q a.state (thread_in_invocation (item.Call r.number)) refl
  move_begins q a (Moves.fails r _ _) may = turned q a.state (idle_thread (now m)) refl
  move_begins q a (Moves.enters_notice n _) may = turned q a.state (thread_in_invocation (item.Notice n.number)) refl
  move_begins q a (Moves.collects c _) may = turned q a.state (thread_at_state is.Running) refl
  move_begins q a (Moves.retrieves port max nget one _) may = turned q a.state (thread_at_state is.Running) refl
  move_begins q a (Moves.ends r e f) may = same (ends_same e (ending_begun r e f (running_is m t may.running)))
  move_begins q a (Moves.forks child f) may = fork_begins child f
  move_begins q a _ may = same refl

  step_begins : (q : Option Request) → MayTurn m t q → StaysOrBegins m t p q (step m t q).state
  unfolding step
  step_begins q may = go (move_begins q _ (act_moves m t q) may)
    where
      settled : is_unborn_process (step m t q).state p ≡ is_unborn_process (act m t q).state p
      settled = ap (λ ps. is_unborn_in (at_number ps p)) (settle_same m (act m t q).state)

      go : StaysOrBegins m t p q (act m t q).state → StaysOrBegins m t p q (step m t q).state
      go (same e) = same (settled ∙ e)
      go (begins b e) = begins b (settled ∙ e)

-- the process of a fork, and its threads

fork_lives : (m : State) (t : ℕ) (child : Pid) → IsFree m t (request.Fork child) → is_live_process (step m t (Some (request.Fork child))).state child.0 ≡ true
unfolding step
fork_lives m t child f =
    ap (λ ps. is_live_in (at_number ps child.0)) (settle_same m (act m t (Some (request.Fork child))).state)
    ∙ ap (λ o. is_live_process (unless_refused m o (fork m t (process_of m t) child.0)).state child.0) f
    ∙ ap is_live_in (fork_process m t (process_of m t) child.0 child.0)
    ∙ ap
    (λ (b : Bool). is_live_in (if b then option_map live_process (at_number m.process_table.processes child.0) else at_number m.process_table.processes child.0))
    itself
    ∙ begins_live (at_number m.process_table.processes child.0) (was_unborn m child.0 f)
  where
    itself : (child.0 == child.0) ≡ true
    itself = grind (arith, nat_tests)

fork_starts :
    (m : State) (t u : ℕ) (child : Pid) (x : Thread) → IsFree m t (request.Fork child) → thread_of m u ≡ Some x → is_first_of child.0 x ≡ true →
    state_of (step m t (Some (request.Fork child))).state u ≡ is.Running
fork_starts m t u child x f e first =
    state-step m t u (Some (request.Fork child))
    ∙ settled_same m (act m t (Some (request.Fork child))).state u is.Running
    (ap (λ o. state_of (unless_refused m o (fork m t (process_of m t) child.0)).state u) f
    ∙ fork_runs m t (process_of m t) child.0 u x e first)
    refl

abbrev spare_in_identity : Option ThreadIdentity → Bool
spare_in_identity None = false
spare_in_identity (Some x) = x.spare

spare-step : (m : State) (t u : ℕ) (q : Option Request) → is_spare_in (thread_of (step m t q).state u) ≡ is_spare_in (thread_of m u)
spare-step m t u q =
    from_identity (thread_of (step m t q).state u)
    ∙ ap spare_in_identity (thread_identity-step m t u q)
    ∙ sym (from_identity (thread_of m u))
  where
    from_identity : (o : Option Thread) → is_spare_in o ≡ spare_in_identity (option_map thread_identity o)
    from_identity None = refl
    from_identity (Some x) = refl

module _ (m : State) (xs : List Turn) (k : Known m xs) where
  unborn : (i p : ℕ) → i ≤ length xs → is_unborn_process (state_at m xs i) p ≡ true → IsUnborn (state_at m xs i) p
  unborn i p l f =
      record {
        no_row = λ fd. (k.invariant i l).consistent.no_rows p fd (not_live (at_number (state_at m xs i).process_table.processes p) f);
        dormant = λ t g. dormant (state_at m xs i) (k.invariant i l) 0 0 t p g f;
      }
    where
      not_live : (o : Option Process) → is_unborn_in o ≡ true → is_live_in o ≡ false
      not_live o e = grind arith

  here : (i p : ℕ) (x : Turn) → slice_get xs i ≡ Some x → StaysOrBegins (state_at m xs i) x.thread p x.request (state_at m xs (i + 1))
  here i p x e =
      subst (StaysOrBegins (state_at m xs i) x.thread p x.request) (sym (next m xs k i x e))
      (step_begins (state_at m xs i) (invariant_before m xs k i x e) x.thread p x.request (k.may i x e))

  -- a fit Fork names a child of its thread's process
  its_parent :
      (i : ℕ) (x : Turn) (child : Pid) → slice_get xs i ≡ Some x → x.request ≡ Some (request.Fork child) →
      parent_of (state_at m xs i) child.0 ≡ Some (pid (process_at m xs i x.thread))
  its_parent i x child e f = go (subst (MayTurn (state_at m xs i) x.thread) f (k.may i x e))
    where
      go :
          MayEnter (state_at m xs i) x.thread (request.Fork child) →
          parent_of (state_at m xs i) child.0 ≡ Some (pid (process_at m xs i x.thread))
      go may = may.fit

  only_by :
      (i p : ℕ) (x : Turn) → slice_get xs i ≡ Some x → is_unborn_process (state_at m xs i) p ≡ true →
      is_unborn_process (state_at m xs (i + 1)) p ≡ false → BeginsAt m xs i x p
  only_by i p x e before after = go (here i p x e)
    where
      by : (q : Option Request) → x.request ≡ q → BeginsOne (state_at m xs i) x.thread p q → BeginsAt m xs i x p
      by q f (BeginsOne.forks child its free) =
          record {
            child = child;
            forks = forks_there m xs i x child f free;
            number = its;
            parent = ap (parent_of (state_at m xs i)) (sym its) ∙ its_parent i x child e f;
          }

      go : StaysOrBegins (state_at m xs i) x.thread p x.request (state_at m xs (i + 1)) → BeginsAt m xs i x p
      go (same f) = absurd (cc (sym after ∙ f ∙ before))
      go (begins b f) = by x.request refl b

  by_each :
      (i : ℕ) (x : Turn) (child : Pid) → slice_get xs i ≡ Some x → Forks m xs i x child →
      is_live_process (state_at m xs (i + 1)) child.0 ≡ true
  by_each i x child e f =
      ap (λ n. is_live_process n child.0) (next m xs k i x e ∙ ap (λ q. (step (state_at m xs i) x.thread q).state) f.asked)
      ∙ fork_lives (state_at m xs i) x.thread child (fork_is_free m xs i x child f)

  begins_unborn :
      (i : ℕ) (x : Turn) (child : Pid) → slice_get xs i ≡ Some x → Forks m xs i x child →
      is_unborn_process (state_at m xs i) child.0 ≡ true
  begins_unborn i x child e f = was_unborn (state_at m xs i) child.0 (fork_is_free m xs i x child f)

  pub spare_at : (i t : ℕ) → i ≤ length xs → is_spare_in (thread_of (state_at m xs i) t) ≡ is_spare_in (thread_of m t)
  spare_at i t l =
      stays m xs (λ n. is_spare_in (thread_of n t) ≡ is_spare_in (thread_of m t)) 0
      (λ a x b e f.
      ap (λ n. is_spare_in (thread_of n t)) (next m xs k a x e) ∙ spare-step (state_at m xs a) x.thread t x.request ∙ f)
      i (omega arith) l refl

  runs :
      (i t : ℕ) (x : Turn) (child : Pid) → slice_get xs i ≡ Some x → Forks m xs i x child → process_at m xs i t ≡ child.0 →
      is_spare_in (thread_of m t) ≡ false → state_of (state_at m xs (i + 1)) t ≡ is.Running
  runs i t x child e f own spare =
      ap (λ n. state_of n t) (next m xs k i x e ∙ ap (λ q. (step (state_at m xs i) x.thread q).state) f.asked)
      ∙ fork_starts (state_at m xs i) x.thread t child there.thread free there.there first
    where
      free : IsFree (state_at m xs i) x.thread (request.Fork child)
      free = fork_is_free m xs i x child f

      there : IsThread (state_at m xs i) t
      there =
          is_thread (state_at m xs i) t
          (λ d. absurd
          (cc
          (sym
          (dormant (state_at m xs i) (invariant_before m xs k i x e) 0 0 t child.0 own (was_unborn (state_at m xs i) child.0 free))
          ∙ d)))

      first : is_first_of child.0 there.thread ≡ true
      first =
          let its : there.thread.process.0 ≡ child.0 = sym (ap process_in there.there) ∙ own in
          let no_spare : there.thread.spare ≡ false =
          sym (ap is_spare_in there.there) ∙ spare_at i t (omega (arith, slice_get_within xs i x e)) ∙ spare in
          grind (arith, nat_tests, its, no_spare)

  rests :
      (i t : ℕ) (x : Turn) (child : Pid) → slice_get xs i ≡ Some x → Forks m xs i x child → process_at m xs i t ≡ child.0 →
      is_spare_in (thread_of m t) ≡ true → state_of (state_at m xs (i + 1)) t ≡ is.Dormant
  rests i t x child e f own spare =
      ap (λ n. state_of n t) (next m xs k i x e ∙ ap (λ q. (step (state_at m xs i) x.thread q).state) f.asked)
      ∙ spare_rests (state_at m xs i) x.thread child (invariant_before m xs k i x e) (fork_is_free m xs i x child f) t own
      (spare_at i t (omega (arith, slice_get_within xs i x e)) ∙ spare)

  once :
      (i j p : ℕ) → i ≤ j → j ≤ length xs → is_unborn_process (state_at m xs i) p ≡ false → is_unborn_process (state_at m xs j) p ≡ false
  once i j p = stays m xs (λ n. is_unborn_process n p ≡ false) i (λ a x l e f. go a x f (here a p x e)) j
    where
      go :
          (a : ℕ) (x : Turn) → is_unborn_process (state_at m xs a) p ≡ false →
          StaysOrBegins (state_at m xs a) x.thread p x.request (state_at m xs (a + 1)) → is_unborn_process (state_at m xs (a + 1)) p ≡ false
      go a x f (same g) = g ∙ f
      go a x f (begins b g) = g

pub begins_hold : (m : State) (xs : List Turn) → Known m xs → Begins m xs
begins_hold m xs k =
    record {
      unborn = unborn m xs k;
      only_by = only_by m xs k;
      by_each = by_each m xs k;
      was_unborn = begins_unborn m xs k;
      runs = runs m xs k;
      rests = rests m xs k;
      once = once m xs k;
    }
