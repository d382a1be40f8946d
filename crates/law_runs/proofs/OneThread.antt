-- What becomes of the state of one thread by a change of one thread, where callers and threads leave, and by what follows an act.
use Rattle.std.specs.Prelude.{ℕ, ◌≡◌, ◌==◌, ◌⊎◌, Option, Bool, true, false, if◌then◌else◌, Some, None, find}
use Rattle.std.specs.Option.{option_map}
use Rattle.std.proofs.Common.{refl, sym, ap, subst, ◌∙◌, inl, inr}
use native.Mathlib.Omega.{arith}
use Rattle.std.proofs.lemmas.Bool.Decides.{nat_tests}
use Rattle.spec_kernel.specs.Types.{Call, CallStage, Item, Request, Thread, ThreadState}
use Rattle.dk_base.specs.declared.object.Item.TheVariants as item
use Rattle.spec_records.specs.declared.record.CallStage.TheVariants as stage
use Rattle.spec_records.specs.declared.record.ThreadState.TheVariants as is
use Rattle.spec_records.specs.Words.{Leaving, ProcessTable, cancelled_thread, change_thread, deserted_at, deserted_in, ended_thread, interrupted_state, interrupted_where, is_left, is_served_by, left_thread, left_thread_of, state_in, thread_at, thread_at_state, tid}
use Rattle.spec_records.proofs.Lists.{at_number-map}
use Rattle.spec_kernel.specs.Words.{State, act, give_one, leave, now, served_by, settle, state_of, step, thread_of}
use Rattle.spec_kernel.proofs.Settling.{settle-all}
use Rattle.spec_kernel.proofs.Threads.{left_thread_of-case, thread_at-change_thread}
use Rattle.law_states.specs.Core.{number_in}
use Rattle.law_states.specs.Invariant.{Invariant}
use Rattle.law_states.specs.Records.{stage_in}
use Rattle.law_states.proofs.Settling.{is_at_rest}
use Rattle.law_runs.proofs.Held.{IsWith, ServesCall, serves_of}
use Rattle.law_runs.proofs.Parked.{loses_idle, picked_idle, state_elsewhere}

-- a thread changes, this one or another

pub one_changes :
    (P : ℕ → ThreadState → ThreadState → Type 0) (table : ProcessTable) (u t : ℕ) (change : Thread → Thread) →
    ((v : ℕ) (s : ThreadState) → P v s s) → ((y : Thread) → y.state ≡ state_in (thread_at table u) → P u y.state (change y).state) →
    P t (state_in (thread_at table t)) (state_in (thread_at (change_thread table u change) t))
one_changes P table u t change same h = go (t == u) refl
  where
    here : (o : Option Thread) → thread_at table u ≡ o → P u (state_in o) (state_in (option_map change o))
    here None f = same u _
    here (Some y) f = h y (ap state_in (sym f))

    go : (b : Bool) → (t == u) ≡ b → P t (state_in (thread_at table t)) (state_in (thread_at (change_thread table u change) t))
    go false g = subst (P t (state_in (thread_at table t))) (sym (state_elsewhere table u t change g)) (same t _)
    go true g =
        let it : u ≡ t = grind (arith, nat_tests, g) in
        subst (P t (state_in (thread_at table t)))
        (sym
        (ap state_in (thread_at-change_thread table u t change)
        ∙ ap (λ (b : Bool). state_in (if b then option_map change (thread_at table u) else thread_at table t)) g))
        (subst (λ v. P v (state_in (thread_at table v)) (state_in (option_map change (thread_at table u)))) it
        (here (thread_at table u) refl))

-- what the kernel does after an act leaves a thread as it is, or takes it from rest to another state than its waits

-- a thread that was at rest and is not any more
abbrev pub is_stirred : ThreadState → Bool
is_stirred is.Running = true
is_stirred (is.Given item) = true
is_stirred is.FailedReturn = true
is_stirred _ = false

abbrev pub Settled : ThreadState → ThreadState → Type 0
Settled r s = (s ≡ r) ⊎ ((is_at_rest r ≡ true) × (is_stirred s ≡ true))

turned :
    (table : ProcessTable) (u t : ℕ) (s r : ThreadState) → is_stirred s ≡ true → is_at_rest (state_in (thread_at table u)) ≡ true →
    Settled r (state_in (thread_at table t)) → Settled r (state_in (thread_at (change_thread table u (thread_at_state s)) t))
turned table u t s r p a h = go (t == u) refl
  where
    rest : is_at_rest (state_in (thread_at table t)) ≡ true → Settled r (state_in (thread_at table t)) → is_at_rest r ≡ true
    rest b (inl e) = ap is_at_rest (sym e) ∙ b
    rest b (inr e) = e.0

    turns : (o : Option Thread) → is_at_rest (state_in o) ≡ true → is_stirred (state_in (option_map (thread_at_state s) o)) ≡ true
    turns None e = absurd (cc e)
    turns (Some x) e = p

    go : (b : Bool) → (t == u) ≡ b → Settled r (state_in (thread_at (change_thread table u (thread_at_state s)) t))
    go false k = subst (Settled r) (sym (state_elsewhere table u t (thread_at_state s) k)) h
    go true k =
        let same : u ≡ t = grind (arith, nat_tests, k) in
        inr (
          rest (ap (λ v. is_at_rest (state_in (thread_at table v))) (sym same) ∙ a) h,
          ap is_stirred
              (ap state_in (thread_at-change_thread table u t (thread_at_state s))
              ∙ ap (λ (b : Bool). state_in (if b then option_map (thread_at_state s) (thread_at table u) else thread_at table t)) k)
              ∙ turns (thread_at table u) a,
        )

given : (m : State) (i : Item) (u t since : ℕ) (r : ThreadState) → state_of m u ≡ is.Idle since → Settled r (state_of m t) → Settled r (state_of (give_one m i u) t)
given m (item.Call c) u t since r e h = turned m.process_table u t (is.Given (item.Call c)) r refl (ap is_at_rest e) h
given m (item.Notice c) u t since r e h = turned m.process_table u t (is.Given (item.Notice c)) r refl (ap is_at_rest e) h

pub settled : (before m : State) (t : ℕ) → Settled (state_of m t) (state_of (settle before m) t)
settled before m t =
    settle-all (λ n. Settled (state_of m t) (state_of n t)) before
    (record {
      makes = λ n d l e. e;
      fails = λ n u l e. turned n.process_table u t is.FailedReturn (state_of m t) refl (ap is_at_rest (loses_idle n u l).1) e;
      gives = λ n w x p e. given n w.item x.thread.0 t x.since (state_of m t) (picked_idle n _ x p) e;
      starts = λ n u r e. turned n.process_table u t is.Running (state_of m t) refl (ap is_at_rest r) e;
    }) (λ n h. h)
    m (inl refl)

-- so one that is not at rest stays so
pub settled_same : (before m : State) (t : ℕ) (s : ThreadState) → state_of m t ≡ s → is_at_rest s ≡ false → state_of (settle before m) t ≡ s
settled_same before m t s e f = go (settled before m t)
  where
    go : Settled (state_of m t) (state_of (settle before m) t) → state_of (settle before m) t ≡ s
    go (inl g) = g ∙ e
    go (inr g) = absurd (cc (sym f ∙ ap is_at_rest (sym e) ∙ g.0))

pub state-step : (m : State) (t u : ℕ) (q : Option Request) → state_of (step m t q).state u ≡ state_of (settle m (act m t q).state) u
unfolding step
state-step m t u q = refl

-- where callers and threads leave

abbrev pub state_where : Bool → ThreadState → ThreadState
state_where b s = if b then interrupted_state s else s

left_state :
    (who : Leaving) (n : ℕ) (o : Option Call) (x : Thread) → ((r : Call) (u : ℕ) → o ≡ Some r → r.stage ≡ stage.Given (tid u) → ⊥) →
    (left_thread who n o x).state ≡ (if who.ends x.number then is.Done else state_where (who.interrupts x.number) x.state)
left_state who n o x none = by_end (who.ends x.number)
  where
    marked : (d : Bool) → (interrupted_where d x).state ≡ state_where d x.state
    marked true = refl
    marked false = refl

    at_stage :
        (r : Call) (d : Bool) (s : CallStage) → ((u : ℕ) → s ≡ stage.Given (tid u) → ⊥) →
        (deserted_at n r.no_cancel s (interrupted_where d x)).state ≡ state_where d x.state
    at_stage r d (stage.Given u) g = absurd (g u.0 refl)
    at_stage r d (stage.Entered u) g = by_flag r.no_cancel
      where
        by_flag :
            (c : Bool) → (if c then interrupted_where d x else cancelled_thread (interrupted_where d x)).state ≡ state_where d x.state
        by_flag true = marked d
        by_flag false = marked d
    at_stage r d s g = marked d

    deserted :
        (d : Bool) (z : Option Call) → ((r : Call) (u : ℕ) → z ≡ Some r → r.stage ≡ stage.Given (tid u) → ⊥) →
        (deserted_in who n z (interrupted_where d x)).state ≡ state_where d x.state
    deserted d None g = marked d
    deserted d (Some r) g = by_left (is_left who r)
      where
        by_left :
            (c : Bool) →
            (if c then deserted_at n r.no_cancel r.stage (interrupted_where d x) else interrupted_where d x).state ≡ state_where d x.state
        by_left true = at_stage r d r.stage (λ u l. g r u refl l)
        by_left false = marked d

    by_end :
        (c : Bool) →
        (if c then ended_thread x else deserted_in who n o (interrupted_where (who.interrupts x.number) x)).state
        ≡ (if c then is.Done else state_where (who.interrupts x.number) x.state)
    by_end true = refl
    by_end false = deserted (who.interrupts x.number) o none

module _ (m : State) (h : Invariant m) (t : ℕ) where
  -- a call that a thread was given has it waiting for that call
  none_given :
      (s : ThreadState) → state_of m t ≡ s → ((c : ℕ) → s ≡ is.Given (item.Call c) → ⊥) → (r : Call) (u : ℕ) → served_by m t ≡ Some r →
      r.stage ≡ stage.Given (tid u) → ⊥
  none_given s e not_given r u f g = by (serves_of m h t r f) (serves_of m h t r f).with_it
    where
      by : ServesCall m t r → IsWith t r.stage → ⊥
      by z (inl l) = not_given r.number (sym e ∙ h.consistent.coherent.waits.given r.number t (ap stage_in z.found ∙ ap (λ y. Some y) l))
      by z (inr l) = absurd (cc (sym g ∙ l))

  -- a thread that was given no call ends, is marked as interrupted, or stays as it is
  pub leave_state :
      (who : Leaving) (s : ThreadState) → state_of m t ≡ s → (s ≡ is.Done → ⊥) → ((c : ℕ) → s ≡ is.Given (item.Call c) → ⊥) →
      state_of (leave m who) t ≡ (if who.ends t then is.Done else state_where (who.interrupts t) s)
  leave_state who s e there not_given =
      ap state_in (at_number-map (left_thread_of who (now m) m.call_tree.calls) m.process_table.threads t) ∙ go (thread_of m t) refl e
    where
      go :
          (o : Option Thread) → thread_of m t ≡ o → state_in o ≡ s →
          state_in (option_map (left_thread_of who (now m) m.call_tree.calls) o)
          ≡ (if who.ends t then is.Done else state_where (who.interrupts t) s)
      go None f g = absurd (there (sym g))
      go (Some x) f g =
          let number : x.number ≡ t = h.consistent.coherent.threads.thread_number t x.number (ap number_in f) in
          left_state who (now m) (find (is_served_by x.number) m.call_tree.calls) x
          (λ r u l. none_given s e not_given r u (ap (λ n. served_by m n) (sym number) ∙ l))
          ∙ ap (λ n. if who.ends n then is.Done else state_where (who.interrupts n) x.state) number
          ∙ ap (λ r. if who.ends t then is.Done else state_where (who.interrupts t) r) g

  -- what does not hold of a thread, and comes of none of these, does not hold of it then
  pub leave_none :
      (f : ThreadState → Bool) → f is.Done ≡ false → ((since : ℕ) → f (is.Idle since) ≡ false) →
      ((s : ThreadState) → f s ≡ false → f (interrupted_state s) ≡ false) → (who : Leaving) → f (state_of m t) ≡ false →
      f (state_of (leave m who) t) ≡ false
  leave_none f done idle interrupted who e =
      ap (λ o. f (state_in o)) (at_number-map (left_thread_of who (now m) m.call_tree.calls) m.process_table.threads t) ∙ go (thread_of m t) e
    where
      go :
          (o : Option Thread) → f (state_in o) ≡ false →
          f (state_in (option_map (left_thread_of who (now m) m.call_tree.calls) o)) ≡ false
      go None g = g
      go (Some x) g =
          left_thread_of-case (λ (y : Thread). f y.state ≡ false) who (now m) m.call_tree.calls x g done (interrupted x.state g)
          (λ y l. idle (now m))
          (λ y l. l)
